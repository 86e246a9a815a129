use Rattle.std.proofs.Common.{◌≡◌, ℕ, zero, suc, ◌+◌, ◌<◌, ◌⊎◌, inl, inr, [], ◌∷◌, length, Bool, true, refl, ap, subst, ◌∙◌, arith, length-append}
use Rattle.std.specs.List.{filter}
use Rattle.std.proofs.Math.Nat.{eq-or-lt_of_le}
use Rattle.std.proofs.lemmas.List.Elements.{filter-append}
use Rattle.world_rules.specs.World.{up_to}

-- one that passes is kept
kept : (test : ℕ → Bool) (n : ℕ) → test n ≡ true → filter test (n ∷ []) ≡ n ∷ []
kept test n passes = rw passes refl

-- one number more
one_more : (test : ℕ → Bool) (n : ℕ) → length (filter test (up_to (suc n))) ≡ length (filter test (up_to n)) + length (filter test (suc n ∷ []))
one_more test n =
    ap length (filter-append test (up_to n) (suc n ∷ [])) ∙ length-append (filter test (up_to n)) (filter test (suc n ∷ []))

-- a number that passes is among those that pass
pub one_passes : (test : ℕ → Bool) (n k : ℕ) → k < n → test (k + 1) ≡ true → 0 < length (filter test (up_to n))
one_passes test zero k below passes = absurd (omega arith)
one_passes test (suc n) k below passes = by (λ less. one_passes test n k less passes) (eq-or-lt_of_le {n = k} {m = n} (omega arith))
  where
    by : (k < n → 0 < length (filter test (up_to n))) → (k ≡ n) ⊎ (k < n) → 0 < length (filter test (up_to (suc n)))
    by earlier (inl same) =
        let last : k + 1 ≡ suc n = omega arith in
        let there : length (filter test (suc n ∷ [])) ≡ 1 = ap length (kept test (suc n) (subst (λ (m : ℕ). test m ≡ true) last passes)) in
        omega (arith, one_more test n)
    by earlier (inr less) = omega (arith, one_more test n, earlier less)
