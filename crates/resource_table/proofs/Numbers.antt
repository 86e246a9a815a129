-- The numbers of a table after a put and after a taking out.
use Rattle.std.proofs.Common.{◌≡◌, ℕ, Bool, true, false, cond, not, List, [], ◌∷◌, ◌++◌, eqb, ltb, refl, ap, ◌∙◌}
use Rattle.std.specs.List.{filter}
use Rattle.resource_table.specs.Handles.{Handle, numbers_of, with_handle, without_handle}

module _ {S : Type 0} where
  -- a test of numbers keeps the numbers of the handles that pass it
  pub numbers_of-filter : (p : ℕ → Bool) (xs : List (Handle S))
      → numbers_of (filter (λ h. p h.number) xs) ≡ filter p (numbers_of xs)
  numbers_of-filter p [] = refl
  numbers_of-filter p (x ∷ xs) =
      elim (p x.number) as (λ b. numbers_of (cond b (x ∷ filter (λ h. p h.number) xs) (filter (λ h. p h.number) xs))
      ≡ cond b (x.number ∷ filter p (numbers_of xs)) (filter p (numbers_of xs))) [
        | true ↦ ap (λ ns. x.number ∷ ns) (numbers_of-filter p xs)
        | false ↦ numbers_of-filter p xs
      ]

  numbers_of-append : (xs ys : List (Handle S)) → numbers_of (xs ++ ys) ≡ numbers_of xs ++ numbers_of ys
  numbers_of-append [] ys = refl
  numbers_of-append (x ∷ xs) ys = ap (λ ns. x.number ∷ ns) (numbers_of-append xs ys)

  -- the numbers without one
  pub numbers_of-without_handle : (number : ℕ) (xs : List (Handle S))
      → numbers_of (without_handle number xs) ≡ filter (λ n. not (eqb n number)) (numbers_of xs)
  numbers_of-without_handle number xs = numbers_of-filter (λ n. not (eqb n number)) xs

  -- the numbers with one more, in its place
  pub numbers_of-with_handle : (h : Handle S) (xs : List (Handle S))
      → numbers_of (with_handle h xs)
      ≡ filter (λ n. ltb n h.number) (numbers_of xs) ++ h.number ∷ filter (λ n. ltb h.number n) (numbers_of xs)
  numbers_of-with_handle h xs =
      numbers_of-append (filter (λ k. ltb k.number h.number) xs) (h ∷ filter (λ k. ltb h.number k.number) xs)
      ∙ ap (λ ns. ns ++ h.number ∷ numbers_of (filter (λ k. ltb h.number k.number) xs))
      (numbers_of-filter (λ n. ltb n h.number) xs)
      ∙ ap (λ ns. filter (λ n. ltb n h.number) (numbers_of xs) ++ h.number ∷ ns)
      (numbers_of-filter (λ n. ltb h.number n) xs)
