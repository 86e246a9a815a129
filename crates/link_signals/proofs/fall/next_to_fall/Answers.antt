use Rattle.std.proofs.Common.{◌≡◌, ℕ, ◌∷◌, None, length, sym, subst}
use Rattle.std.specs.List.{AllByRecursion}
use Rattle.std.specs.Map.Iter.{deref_pair}
use Rattle.std.proofs.lemmas.Map.Iter.{iter_turn}
use Rattle.link_signals.specs.Spread.{falls_by, dies_by}
use Rattle.link_signals.proofs.Next.{found_next, none_next}
use Rattle.link_signals.proofs.fall.next_to_fall.Goals as goal

pub returns-in-Some-falls_by : goal.returns-in-Some-falls_by
returns-in-Some-falls_by c =
    let turn = iter_turn deref_pair c.args.tags.now.entries c.loop-pair.yielded c.into_iter-pair-iterator.result c.loop-pair.pair-iterator c.next.new.self c.next.result
    c.into_iter-pair-iterator.ensures.into_iter_gives.0 c.loop-pair.yielded_by (c.in-Some.pair, c.in-Some.field-0-1) c.in-Some.is c.next.ensures.steps in
    found_next c.args.processes.now c.args.tags.now (c.args.first ∷ c.args.others.now) (length c.loop-pair.yielded)
    c.in-Some.pair.now.0 c.in-Some.pair.now.1 c.in-Some.field-0-1.now c.in-Some-falls_by.pid
    c.into_iter-pair-iterator.ensures.into_iter_gives.5 turn.1 (sym c.in-Some-falls_by.ensures)

pub returns : goal.returns
returns c =
    let rest = c.in-None.ensures.steps.0 in
    none_next c.args.processes.now c.args.tags.now (c.args.first ∷ c.args.others.now)
    (c.loop-pair.invariant (subst (AllByRecursion (λ (e : (ℕ × ℕ) × ℕ). falls_by (c.args.first ∷ c.args.others.now) (dies_by c.args.processes.now) e.0 ≡ None)) (sym rest) tt))
