-- Totals over lists, a function changed at one number, and what is known of each seat after a step of one.
use Rattle.std.proofs.Common.{◌≡◌, ◌≢◌, ℕ, zero, suc, ◌+◌, ◌<◌, ◌≤◌, List, [], ◌∷◌, ◌++◌, length, get_or, drop, set, sym, refl, ap, ◌∙◌, subst, ◌⊎◌, inl, inr, ⊎_elim, arith}
use Rattle.std.proofs.lemmas.List.FromFn.{get_or-range_with_len, length-range_with_len}
use Rattle.std.proofs.lemmas.List.Sums.{sum_by-append, sum_by-cons}
use Rattle.std.proofs.lemmas.List.Elements.{All-nil, All-cons, All-head, All-tail, Contains-push_cases}
use Rattle.log_lock.specs.Knowledge.{numbers_below}
use Rattle.std.specs.List.{sum_by, All, Contains}
use mathlib.Core.Option.{some, some-injective, some-ne-none}
use native.Mathlib.Decide.{ℕ_discrete}
use lib.ListN.{get_elem?}
use Rattle.atomic_table.proofs.Lists.{at_set}

module _ {X : Type 0} where
  pub sum_by_set : (f : X → ℕ) (xs : List X) (i : ℕ) (v w : X) → get_elem? xs i ≡ some v → sum_by f (set xs i w) + f v ≡ sum_by f xs + f w
  sum_by_set f [] i v w e = absurd (some-ne-none v (sym e))
  sum_by_set f (x ∷ xs) zero v w e = let h : f x ≡ f v = ap f (some-injective x v e) in omega (arith, h, sum_by-cons f x xs, sum_by-cons f w xs)
  sum_by_set f (x ∷ xs) (suc i) v w e = let h = sum_by_set f xs i v w e in omega (arith, h, sum_by-cons f x xs, sum_by-cons f x (set xs i w))

  pub sum_by_le : (f g : X → ℕ) (xs : List X) → ((j : ℕ) (v : X) → get_elem? xs j ≡ some v → f v ≤ g v) → sum_by f xs ≤ sum_by g xs
  sum_by_le f g [] h = omega arith
  sum_by_le f g (x ∷ xs) h = let a = h 0 x refl in let b = sum_by_le f g xs (λ j v e. h (suc j) v e) in omega (arith, a, b, sum_by-cons f x xs, sum_by-cons g x xs)

  pub sum_by_snoc : (f : X → ℕ) (xs : List X) (w : X) → sum_by f (xs ++ w ∷ []) ≡ sum_by f xs + f w
  sum_by_snoc f xs w = let h = sum_by-append f xs (w ∷ []) in omega (arith, h)

  pub seats_stay : (K : ℕ → X → Type 0) (vs : List X) (me : ℕ) (w : X) → K me w → ((j : ℕ) (d : X) → j ≢ me → get_elem? vs j ≡ some d → K j d)
      → (j : ℕ) (d : X) → get_elem? (set vs me w) j ≡ some d → K j d
  seats_stay K vs me w mine others j d e = ⊎_elim (λ (t : (j ≡ me) × (w ≡ d)). subst (λ (x : ℕ × X). K x.0 x.1) (λ i. (sym t.0 i, t.1 i)) mine)
      (λ (t : (j ≢ me) × (get_elem? vs j ≡ some d)). others j d t.0 t.1) (at_set vs me j w d e)

  pub set_there : (xs : List X) (i : ℕ) (v w : X) → get_elem? xs i ≡ some v → get_elem? (set xs i w) i ≡ some w
  set_there [] i v w e = absurd (some-ne-none v (sym e))
  set_there (x ∷ xs) zero v w e = refl
  set_there (x ∷ xs) (suc i) v w e = set_there xs i v w e

  pub snoc_at : (xs : List X) (a b : X) (j : ℕ) → get_elem? (xs ++ a ∷ []) j ≡ some b → (get_elem? xs j ≡ some b) ⊎ ((j ≡ length xs) × (a ≡ b))
  snoc_at [] a b zero e = inr (refl, some-injective a b e)
  snoc_at [] a b (suc j) e = absurd (some-ne-none b (sym e))
  snoc_at (x ∷ xs) a b zero e = inl e
  snoc_at (x ∷ xs) a b (suc j) e = ⊎_elim (λ t. inl t) (λ t. inr (ap suc t.0, t.1)) (snoc_at xs a b j e)

  -- two ways to cut one list
  pub cut_twice : (a b c d : List X) → a ++ b ≡ c ++ d → length a ≤ length c → (x : List X) × (c ≡ a ++ x) × (b ≡ x ++ d)
  cut_twice [] b c d e le = (c, refl, e)
  cut_twice (y ∷ a) b [] d e le = absurd (omega arith)
  cut_twice (y ∷ a) b (z ∷ c) d e le =
      let head : y ≡ z = ap (λ l. get_or l 0 y) e in
      let tail : a ++ b ≡ c ++ d = ap (drop 1) e in
      let r = cut_twice a b c d tail (omega arith) in
      (r.0, (λ i. sym head i ∷ r.1 i), r.2)

  pub all_right : (P : X → Type 0) (xs ys : List X) → All P (xs ++ ys) → All P ys
  all_right P [] ys h = h
  all_right P (x ∷ xs) ys h = all_right P xs ys (All-tail P x (xs ++ ys) h)

  pub all_left : (P : X → Type 0) (xs ys : List X) → All P (xs ++ ys) → All P xs
  all_left P [] ys h = All-nil P
  all_left P (x ∷ xs) ys h = All-cons P x xs (All-head P x (xs ++ ys) h) (all_left P xs ys (All-tail P x (xs ++ ys) h))

  pub contains_one : (x y : X) → Contains (x ∷ []) y → x ≡ y
  contains_one x y h = ⊎_elim (λ (t : Contains [] y). let l = t.1 in absurd (omega (arith, l))) (λ e. e) (Contains-push_cases [] x y h)

  -- the two are at one place
  pub same_at : (xs : List X) (i j : ℕ) (a b : X) → i ≡ j → get_elem? xs i ≡ some a → get_elem? xs j ≡ some b → a ≡ b
  same_at xs i j a b e p q = some-injective a b (sym p ∙ (ap (get_elem? xs) e ∙ q))

abbrev pub pick : {P : Type 0} → Dec P → ℕ → ℕ → ℕ
pick (yes _) a b = a
pick (no _) a b = b

pub put : (ℕ → ℕ) → ℕ → ℕ → ℕ → ℕ
put f i c j = pick (ℕ_discrete j i) c (f j)

pub put_here : (f : ℕ → ℕ) (i c : ℕ) → put f i c i ≡ c
unfolding put
put_here f i c = go (ℕ_discrete i i)
  where
    go : (d : Dec (i ≡ i)) → pick d c (f i) ≡ c
    go (yes _) = refl
    go (no n) = absurd (n refl)

pub put_else : (f : ℕ → ℕ) (i c j : ℕ) → j ≢ i → put f i c j ≡ f j
unfolding put
put_else f i c j other = go (ℕ_discrete j i)
  where
    go : (d : Dec (j ≡ i)) → pick d c (f j) ≡ f j
    go (yes e) = absurd (other e)
    go (no _) = refl

pub length_numbers_below : (n : ℕ) → length (numbers_below n) ≡ n
length_numbers_below n = length-range_with_len 0 n

pub contains_numbers_below : (n k : ℕ) → k < n → Contains (numbers_below n) k
contains_numbers_below n k lt = let e = length_numbers_below n in let is = get_or-range_with_len 0 n k k lt in (k, omega (arith, e, lt), omega (arith, is))

pub numbers_below_contains : (n k : ℕ) → Contains (numbers_below n) k → k < n
numbers_below_contains n k h =
    let e = length_numbers_below n in
    let place = h.1 in
    let lt : h.0 < n = omega (arith, e, place) in
    let is = get_or-range_with_len 0 n h.0 k lt in
    let here = h.2 in
    omega (arith, lt, is, here)
