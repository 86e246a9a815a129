-- What holds of each item by its place, where a list has one more item.
use Rattle.std.proofs.Common.{◌≡◌, ℕ, zero, suc, ◌+◌, ◌⊎◌, inl, inr, List, [], ◌∷◌, ◌++◌, length, Some, refl, sym, ap, subst, ◌∙◌, arith, length-append}
use Rattle.std.specs.Prelude.{slice_get}

-- an item is one of those before, or the last
last_or_before : {A : Type 0} (xs : List A) (y : A) (k : ℕ) (x : A) → slice_get (xs ++ y ∷ []) k ≡ Some x → (slice_get xs k ≡ Some x) ⊎ ((k ≡ length xs) × (y ≡ x))
last_or_before [] y zero x h = let e : y ≡ x = cc in inr (refl, e)
last_or_before [] y (suc k) x h = absurd (cc h)
last_or_before (z ∷ xs) y zero x h = inl h
last_or_before (z ∷ xs) y (suc k) x h = at (last_or_before xs y k x h)
  where
    at : (slice_get xs k ≡ Some x) ⊎ ((k ≡ length xs) × (y ≡ x)) → (slice_get xs k ≡ Some x) ⊎ ((suc k ≡ suc (length xs)) × (y ≡ x))
    at (inl p) = inl p
    at (inr p) = inr (ap suc p.0, p.1)

pub pushed : {A : Type 0} (P : ℕ → A → Type 0) (xs new : List A) (y : A) (n : ℕ) → length xs ≡ n → ((k : ℕ) (x : A) → slice_get xs k ≡ Some x → P k x) → P n y → new ≡ xs ++ y ∷ []
    → (k : ℕ) (x : A) → slice_get new k ≡ Some x → P k x
pushed P xs new y n e all last s k x h = at (last_or_before xs y k x (ap (λ l. slice_get l k) (sym s) ∙ h))
  where
    at : (slice_get xs k ≡ Some x) ⊎ ((k ≡ length xs) × (y ≡ x)) → P k x
    at (inl p) = all k x p
    at (inr p) = subst (λ z. P k z) p.1 (subst (λ j. P j y) (sym (p.0 ∙ e)) last)

pub pushed_count : {A : Type 0} (xs new : List A) (y : A) (n : ℕ) → length xs ≡ n → new ≡ xs ++ y ∷ [] → length new ≡ n + 1
pushed_count xs new y n e s = omega (arith, ap length s, length-append xs (y ∷ []))
