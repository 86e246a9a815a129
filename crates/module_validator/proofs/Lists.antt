-- What holds of each element of a list that is made of others, and what a filter leaves.
use Rattle.std.proofs.Common.{◌≡◌, ℕ, zero, suc, ◌+◌, ◌<◌, ◌≤◌, arith, List, [], ◌∷◌, ◌++◌, map, length, Option, Some, None, refl, sym, ap, ◌∙◌, zero-add}
use Rattle.std.proofs.Math.Nat.{suc-add}
use Rattle.std.specs.Prelude.{◌↔◌, All, MatchOption, ⊤, filter_map, slice_get, option_and_then}
use Rattle.std.specs.Borrow.{Bor}
use Rattle.std.specs.Option.{option_copied}
use Rattle.std.specs.List.{AllByRecursion, cons_option, HoldsAt}
use Rattle.std.proofs.lemmas.Option.{slice_get_past, slice_get_read}
use Rattle.std.proofs.lemmas.List.Elements.{All-from_recursion, recursion_from_All}

module _ {X : Type 0} (P : X → Type 0) where
  left : (xs ys : List X) → AllByRecursion P (xs ++ ys) → AllByRecursion P xs
  left [] ys h = tt
  left (x ∷ xs) ys h = (h.0, left xs ys h.1)

  right : (xs ys : List X) → AllByRecursion P (xs ++ ys) → AllByRecursion P ys
  right [] ys h = h
  right (x ∷ xs) ys h = right xs ys h.1

  both : (xs ys : List X) → AllByRecursion P xs → AllByRecursion P ys → AllByRecursion P (xs ++ ys)
  both [] ys h k = k
  both (x ∷ xs) ys h k = (h.0, both xs ys h.1 k)

  -- each element of two lists, one after the other
  pub all_append : (xs ys : List X) → All P (xs ++ ys) ↔ (All P xs × All P ys)
  all_append xs ys = (
    λ h. let r = recursion_from_All P (xs ++ ys) h in
        (All-from_recursion P xs (left xs ys r), All-from_recursion P ys (right xs ys r)),
    λ h. All-from_recursion P (xs ++ ys) (both xs ys (recursion_from_All P xs h.0) (recursion_from_All P ys h.1)),
  )

module _ {X Y : Type 0} (P : Y → Type 0) (f : X → Y) where
  mapped : (xs : List X) → AllByRecursion (λ x. P (f x)) xs → AllByRecursion P (map f xs)
  mapped [] h = tt
  mapped (x ∷ xs) h = (h.0, mapped xs h.1)

  unmapped : (xs : List X) → AllByRecursion P (map f xs) → AllByRecursion (λ x. P (f x)) xs
  unmapped [] h = tt
  unmapped (x ∷ xs) h = (h.0, unmapped xs h.1)

  -- each element of a list through a function
  pub all_map : (xs : List X) → All P (map f xs) ↔ All (λ x. P (f x)) xs
  all_map xs = (
    λ h. All-from_recursion (λ x. P (f x)) xs (unmapped xs (recursion_from_All P (map f xs) h)),
    λ h. All-from_recursion P (map f xs) (mapped xs (recursion_from_All (λ x. P (f x)) xs h)),
  )

module _ {X Y : Type 0} (P : Y → Type 0) (h : X → Option Y) where
  one_kept : (o : Option Y) (ys : List Y) → MatchOption o ⊤ P → AllByRecursion P ys → AllByRecursion P (cons_option o ys)
  one_kept None ys p r = r
  one_kept (Some y) ys p r = (p, r)

  one_was : (o : Option Y) (ys : List Y) → AllByRecursion P (cons_option o ys) → MatchOption o ⊤ P × AllByRecursion P ys
  one_was None ys r = (tt, r)
  one_was (Some y) ys r = (r.0, r.1)

  kept : (xs : List X) → AllByRecursion (λ x. MatchOption (h x) ⊤ P) xs → AllByRecursion P (filter_map h xs)
  kept [] r = tt
  kept (x ∷ xs) r = one_kept (h x) (filter_map h xs) r.0 (kept xs r.1)

  was : (xs : List X) → AllByRecursion P (filter_map h xs) → AllByRecursion (λ x. MatchOption (h x) ⊤ P) xs
  was [] r = tt
  was (x ∷ xs) r = let p = one_was (h x) (filter_map h xs) r in (p.0, was xs p.1)

  -- each element that is kept
  pub all_filter_map : (xs : List X) → All P (filter_map h xs) ↔ All (λ x. MatchOption (h x) ⊤ P) xs
  all_filter_map xs = (
    λ r. All-from_recursion (λ x. MatchOption (h x) ⊤ P) xs (was xs (recursion_from_All P (filter_map h xs) r)),
    λ r. All-from_recursion P (filter_map h xs) (kept xs (recursion_from_All (λ x. MatchOption (h x) ⊤ P) xs r)),
  )

module _ {X Y : Type 0} (h : X → Option Y) where
  none_rec : (xs : List X) → AllByRecursion (λ x. h x ≡ None) xs → filter_map h xs ≡ []
  none_rec [] r = refl
  none_rec (x ∷ xs) r = ap (λ o. cons_option o (filter_map h xs)) r.0 ∙ none_rec xs r.1

  -- where nothing is kept, nothing is left
  pub none_kept : (xs : List X) → All (λ x. h x ≡ None) xs → filter_map h xs ≡ []
  none_kept xs r = none_rec xs (recursion_from_All (λ x. h x ≡ None) xs r)

  abbrev IsKept : X → Type 0
  IsKept x = (y : Y) × (h x ≡ Some y)

  length_rec : (xs : List X) → AllByRecursion IsKept xs → length (filter_map h xs) ≡ length xs
  length_rec [] r = refl
  length_rec (x ∷ xs) r = ap (λ o. length (cons_option o (filter_map h xs))) r.0.1 ∙ ap suc (length_rec xs r.1)

  -- where each is kept, there are as many
  pub all_kept : (xs : List X) → All IsKept xs → length (filter_map h xs) ≡ length xs
  all_kept xs r = length_rec xs (recursion_from_All IsKept xs r)

  get_rec : (xs : List X) (k : ℕ) → AllByRecursion IsKept xs → slice_get (filter_map h xs) k ≡ option_and_then h (slice_get xs k)
  get_rec [] k r = refl
  get_rec (x ∷ xs) zero r = ap (λ o. slice_get (cons_option o (filter_map h xs)) 0) r.0.1 ∙ sym r.0.1
  get_rec (x ∷ xs) (suc k) r = ap (λ o. slice_get (cons_option o (filter_map h xs)) (suc k)) r.0.1 ∙ get_rec xs k r.1

  -- where each is kept, each stands at its place
  pub kept_at : (xs : List X) (k : ℕ) → All IsKept xs → slice_get (filter_map h xs) k ≡ option_and_then h (slice_get xs k)
  kept_at xs k r = get_rec xs k (recursion_from_All IsKept xs r)

-- an element of two lists, one after the other
pub at_left : {X : Type 0} (xs ys : List X) (k : ℕ) → k < length xs → slice_get (xs ++ ys) k ≡ slice_get xs k
at_left [] ys k less = absurd (omega arith)
at_left (x ∷ xs) ys zero less = refl
at_left (x ∷ xs) ys (suc k) less = at_left xs ys k (omega arith)

pub at_right : {X : Type 0} (xs ys : List X) (k : ℕ) → slice_get (xs ++ ys) (length xs + k) ≡ slice_get ys k
at_right [] ys k = ap (slice_get ys) (zero-add k)
at_right (x ∷ xs) ys k = ap (slice_get (x ∷ (xs ++ ys))) (suc-add (length xs) k) ∙ at_right xs ys k

-- what `get` gives
pub got : {X : Type 0} (xs : List X) (k : ℕ) (r : Option (Bor X)) → MatchOption r (length xs ≤ k) (λ x. (k < length xs) × HoldsAt (λ y. x.now ≡ y) xs k) → option_copied r ≡ slice_get xs k
got xs k None h = sym (slice_get_past xs k h)
got xs k (Some x) h = sym (slice_get_read xs (length xs) k x.now refl h.0 (h.1 x.now))
