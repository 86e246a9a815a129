use Rattle.std.proofs.Common.{◌≡◌, ℕ, ◌∷◌, None}
use Rattle.std.specs.List.{AllByRecursion}
use Rattle.link_signals.specs.Spread.{falls_by, dies_by}
use Rattle.link_signals.proofs.fall.next_to_fall.Given as goal

abbrev pub invariant-loop-pair : goal.invariant-loop-pair
invariant-loop-pair l =
    AllByRecursion (λ (e : (ℕ × ℕ) × ℕ). falls_by (l.first ∷ l.others) (dies_by l.processes) e.0 ≡ None) l.pair-iterator
    → AllByRecursion (λ (e : (ℕ × ℕ) × ℕ). falls_by (l.first ∷ l.others) (dies_by l.processes) e.0 ≡ None) l.tags.entries
