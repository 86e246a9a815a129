-- What a filter keeps, and the parts of a list.
use Rattle.std.proofs.Common.{◌≡◌, ℕ, zero, suc, ◌<◌, ◌≤◌, Bool, true, false, cond, List, [], ◌∷◌, ◌++◌, length, take, drop, get_or, set, ltb, Some, None, refl, ap, sym, ◌∙◌, arith}
use Rattle.std.specs.List.{All, AllWithin, filter, slice_get}
use Rattle.std.proofs.lemmas.Bool.{ltb-true, ltb-false}
use Rattle.std.proofs.lemmas.List.Elements.{All-nil, All-cons, All-head, All-tail}

-- what holds of a whole list holds of both its parts
pub All-parts : {X : Type 0} (P : X → Type 0) (xs ys : List X) → All P (xs ++ ys) → All P xs × All P ys
All-parts P [] ys all = (All-nil P, all)
All-parts P (x ∷ xs) ys all =
    let rest = All-parts P xs ys (All-tail P x (xs ++ ys) all) in
    (All-cons P x xs (All-head P x (xs ++ ys) all) rest.0, rest.1)

module _ {X : Type 0} (p : X → Bool) where
  -- a filter keeps a list whose elements all pass
  pub filter-all : (xs : List X) → All (λ x. p x ≡ true) xs → filter p xs ≡ xs
  filter-all [] all = refl
  filter-all (x ∷ xs) all =
      ap (λ b. cond b (x ∷ filter p xs) (filter p xs)) (All-head (λ y. p y ≡ true) x xs all)
      ∙ ap (λ ys. x ∷ ys) (filter-all xs (All-tail (λ y. p y ≡ true) x xs all))

  -- and nothing of one whose elements all fail
  pub filter-none : (xs : List X) → All (λ x. p x ≡ false) xs → filter p xs ≡ []
  filter-none [] all = refl
  filter-none (x ∷ xs) all =
      ap (λ b. cond b (x ∷ filter p xs) (filter p xs)) (All-head (λ y. p y ≡ false) x xs all)
      ∙ filter-none xs (All-tail (λ y. p y ≡ false) x xs all)

-- a list around one of its elements
pub split_at : {X : Type 0} (xs : List X) (i : ℕ) (x : X) → slice_get xs i ≡ Some x
    → (xs ≡ take i xs ++ x ∷ drop (suc i) xs) × (i ≡ length (take i xs))
split_at [] i x e = absurd cc
split_at (y ∷ xs) zero x e = let same : y ≡ x = cc in (ap (λ z. z ∷ xs) same, refl)
split_at (y ∷ xs) (suc i) x e =
    let rest = split_at xs i x e in (ap (λ zs. y ∷ zs) rest.0, ap suc rest.1)

-- where nothing stands the list is over
pub past_end : {X : Type 0} (xs : List X) (i : ℕ) → slice_get xs i ≡ None → take i xs ≡ xs
past_end [] zero e = refl
past_end [] (suc i) e = refl
past_end (y ∷ xs) zero e = absurd cc
past_end (y ∷ xs) (suc i) e = ap (λ zs. y ∷ zs) (past_end xs i e)

-- the element that was read at a place stands there
pub get_read : {X : Type 0} (xs : List X) (i : ℕ) (x : X) → i < length xs → x ≡ get_or xs i x → slice_get xs i ≡ Some x
get_read [] i x lt e = absurd (omega arith)
get_read (y ∷ xs) zero x lt e = ap Some (sym e)
get_read (y ∷ xs) (suc i) x lt e = get_read xs i x (omega arith) e

-- a write at a place
pub set_at : {X : Type 0} (xs : List X) (i : ℕ) (x : X) → i < length xs → set xs i x ≡ take i xs ++ x ∷ drop (suc i) xs
set_at [] i x lt = absurd (omega arith)
set_at (y ∷ xs) zero x lt = refl
set_at (y ∷ xs) (suc i) x lt = ap (λ zs. y ∷ zs) (set_at xs i x (omega arith))

-- both parts of a list at a point
pub All-take_within : {X : Type 0} (P : X → Type 0) (xs : List X) (i : ℕ) → AllWithin P xs 0 i → All P (take i xs)
All-take_within P [] zero within = All-nil P
All-take_within P [] (suc i) within = All-nil P
All-take_within P (x ∷ xs) zero within = All-nil P
All-take_within P (x ∷ xs) (suc i) within =
    All-cons P x (take i xs) (within 0 x (omega arith) (omega arith))
    (All-take_within P xs i (λ k d low high. within (suc k) d (omega arith) (omega arith)))

pub All-drop_within : {X : Type 0} (P : X → Type 0) (xs : List X) (i : ℕ) → AllWithin P xs i (length xs) → All P (drop i xs)
All-drop_within P [] zero within = All-nil P
All-drop_within P [] (suc i) within = All-nil P
All-drop_within P (x ∷ xs) zero within = λ k d lt. within k d (omega arith) lt
All-drop_within P (x ∷ xs) (suc i) within =
    All-drop_within P xs i (λ k d low high. within (suc k) d (omega arith) (omega arith))

-- what a look-up by place says of the list
pub none_read : {X : Type 0} (xs : List X) (i : ℕ) → false ≡ ltb i (length xs) → slice_get xs i ≡ None
none_read xs i e = go xs i (ltb-false i (length xs) (sym e))
  where
    go : {X : Type 0} (ys : List X) (k : ℕ) → length ys ≤ k → slice_get ys k ≡ None
    go [] k le = refl
    go (y ∷ ys) zero le = absurd (omega arith)
    go (y ∷ ys) (suc k) le = go ys k (omega arith)

pub some_read : {X : Type 0} (xs : List X) (i : ℕ) (x : X) → true ≡ ltb i (length xs) → x ≡ get_or xs i x
    → slice_get xs i ≡ Some x
some_read xs i x e read = get_read xs i x (ltb-true i (length xs) (sym e)) read
