use Rattle.std.proofs.Common.{◌≡◌, ℕ, ◌↔◌, Option, Some, None, IsSome, IsTrue, Bool, false, refl, sym, subst}
use Rattle.std.specs.FinMap.{FinMap, get}
use Rattle.std.specs.Ordering.{nat_cmp}

-- Whether anybody has a deadline.

pub dated_none : (deadlines : FinMap nat_cmp ℕ) (timed : Bool) → timed ≡ false → IsTrue timed ↔ ((pid : ℕ) × IsSome (get deadlines pid)) → (pid : ℕ) → get deadlines pid ≡ None
dated_none deadlines timed untimed tells pid = by (get deadlines pid) refl
  where
    by : (o : Option ℕ) → get deadlines pid ≡ o → get deadlines pid ≡ None
    by None e = e
    by (Some deadline) e = let h : IsTrue false = subst (λ b. IsTrue b) untimed (tells.1 (pid, subst (λ (o : Option ℕ). IsSome o) (sym e) refl)) in let none : ⊥ = cc in absurd none
