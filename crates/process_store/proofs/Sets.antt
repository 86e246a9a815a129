use Rattle.std.proofs.Common.{◌≡◌, ◌≢◌, ◌<◌, ◌≤◌, ℕ, zero, suc, ◌+◌, List, [], ◌∷◌, length, All, sum_by, Option, Some, None, Bool, true, false, nat_eq, if◌then◌else◌, slice_get, slice_set, get_or}
use Rattle.std.proofs.Common.{length-set, refl, arith, sym, ◌∙◌, ap, subst, ◌⊎◌, inl, inr}
use Rattle.std.proofs.lemmas.List.{get_or-set_other, get_or-set_same}
use Rattle.std.proofs.lemmas.List.Elements.{All-set}
use Rattle.std.proofs.lemmas.List.Sums.{sum_by-set, get_or-le-sum_by}
use Rattle.std.proofs.lemmas.Option.{slice_get_read, slice_get_cases, slice_get_past, get_or_from_slice_get}
use Rattle.std.proofs.lemmas.Bool.Decides.{eqb_tells}

-- Lists of which one item was replaced.

-- the item at i was one, and is another; all others stay
pub record IsSet {X : Type 0} (old new : List X) (i : ℕ) (was is : X) : Type 0 where
  pub within : i < length old
  pub there : slice_get old i ≡ Some was
  pub set : new ≡ slice_set old i is

pub get_set_same : {X : Type 0} (xs : List X) (i : ℕ) (x : X) → i < length xs → slice_get (slice_set xs i x) i ≡ Some x
get_set_same xs i x h = slice_get_read (slice_set xs i x) (length xs) i x (sym (length-set xs i x)) h (sym (get_or-set_same xs i x x h))

other : {X : Type 0} (xs : List X) (i j : ℕ) (x : X) → j ≢ i → ((y : X) × (j < length xs) × (slice_get xs j ≡ Some y) × (get_or xs j y ≡ y)) ⊎ ((length xs ≤ j) × (slice_get xs j ≡ None))
    → slice_get (slice_set xs i x) j ≡ slice_get xs j
other xs i j x h (inl found) = slice_get_read (slice_set xs i x) (length xs) j found.0 (sym (length-set xs i x)) found.1 (sym (get_or-set_other xs i j x found.0 h ∙ found.3)) ∙ sym found.2
other xs i j x h (inr past) = slice_get_past (slice_set xs i x) j (rw length-set past.0) ∙ sym past.1

get_set_other : {X : Type 0} (xs : List X) (i j : ℕ) (x : X) → j ≢ i → slice_get (slice_set xs i x) j ≡ slice_get xs j
get_set_other xs i j x h = other xs i j x h (slice_get_cases xs j).1

-- written twice is written once
pub set_twice : {X : Type 0} (xs : List X) (i : ℕ) (x y : X) → slice_set (slice_set xs i x) i y ≡ slice_set xs i y
set_twice [] i x y = refl
set_twice (z ∷ xs) zero x y = refl
set_twice (z ∷ xs) (suc i) x y = ap (λ ys. z ∷ ys) (set_twice xs i x y)

pub read_through : {X : Type 0} (xs : List X) (i : ℕ) (x y z : X) → x ≡ y → y ≡ get_or xs i y → x ≡ z → z ≡ get_or xs i z
read_through xs i x y z xy is xz = subst (λ w. w ≡ get_or xs i w) (sym xy ∙ xz) is

-- an item that was read in two steps and is known, and others were written in its place one after the other
pub is_set : {X : Type 0} (old new : List X) (i : ℕ) (x y was between is : X) → i < length old → x ≡ y → y ≡ get_or old i y → x ≡ was → new ≡ slice_set (slice_set old i between) i is
    → IsSet old new i was is
is_set old new i x y was between is within read at known set = record {
  within = within;
  there = slice_get_read old (length old) i was refl within (read_through old i x y was read at known);
  set = set ∙ set_twice old i between is;
}

-- and another was written once
pub is_set_once : {X : Type 0} (old new : List X) (i : ℕ) (x y was is : X) → i < length old → x ≡ y → y ≡ get_or old i y → x ≡ was → new ≡ slice_set old i is → IsSet old new i was is
is_set_once old new i x y was is within read at known set = record {
  within = within;
  there = slice_get_read old (length old) i was refl within (read_through old i x y was read at known);
  set = set;
}

module _ {X : Type 0} {old new : List X} {i : ℕ} {was is : X} (s : IsSet old new i was is) where
  pub read_here : slice_get new i ≡ Some is
  read_here = ap (λ xs. slice_get xs i) s.set ∙ get_set_same old i is s.within

  pub read_other : (j : ℕ) → j ≢ i → slice_get new j ≡ slice_get old j
  read_other j differs = ap (λ xs. slice_get xs j) s.set ∙ get_set_other old i j is differs

  -- what is told of the item at j
  pub read_set : {Y : Type 0} (f : Option X → Y) (j : ℕ) → f (slice_get new j) ≡ (if nat_eq j i then f (Some is) else f (slice_get old j))
  read_set {Y = Y} f j = by (eqb_tells j i)
    where
      yes : (b : Bool) (x y : Y) → b ≡ true → x ≡ (if b then x else y)
      yes true x y e = refl
      yes false x y e = let h : ⊥ = cc in absurd h

      no : (b : Bool) (x y : Y) → b ≡ false → y ≡ (if b then x else y)
      no false x y e = refl
      no true x y e = let h : ⊥ = cc in absurd h

      by : ((nat_eq j i ≡ true) × (j ≡ i)) ⊎ ((nat_eq j i ≡ false) × (j ≢ i)) → f (slice_get new j) ≡ (if nat_eq j i then f (Some is) else f (slice_get old j))
      by (inl same) = ap (λ (n : ℕ). f (slice_get new n)) same.1 ∙ ap f read_here ∙ yes (nat_eq j i) (f (Some is)) (f (slice_get old j)) same.0
      by (inr differs) = ap f (read_other j differs.1) ∙ no (nat_eq j i) (f (Some is)) (f (slice_get old j)) differs.0

  -- a fact of each item
  pub each_set : (F : ℕ → Option X → Type 0) → ((j : ℕ) → j ≢ i → F j (slice_get old j)) → F i (Some is) → (j : ℕ) → F j (slice_get new j)
  each_set F others here j = by (eqb_tells j i)
    where
      by : ((nat_eq j i ≡ true) × (j ≡ i)) ⊎ ((nat_eq j i ≡ false) × (j ≢ i)) → F j (slice_get new j)
      by (inl same) = subst (λ (n : ℕ). F n (slice_get new n)) (sym same.1) (subst (λ (o : Option X). F i o) (sym read_here) here)
      by (inr differs) = subst (λ (o : Option X). F j o) (sym (read_other j differs.1)) (others j differs.1)

  pub length_set : length new ≡ length old
  length_set = ap length s.set ∙ length-set old i is

  pub all_set : (F : X → Type 0) → All F old → F is → All F new
  all_set F all here = subst (λ (xs : List X). All F xs) (sym s.set) (All-set F old i is here all)

  -- a sum over the items
  pub sum_set : (f : X → ℕ) → sum_by f new + f was ≡ sum_by f old + f is
  sum_set f =
      ap (λ (xs : List X). sum_by f xs + f was) s.set
      ∙ ap (λ (x : X). sum_by f (slice_set old i is) + f x) (sym (get_or_from_slice_get old i was was s.there))
      ∙ sum_by-set f old i is was s.within

  pub sum_has : (f : X → ℕ) → f was ≤ sum_by f old
  sum_has f = subst (λ (x : X). f x ≤ sum_by f old) (get_or_from_slice_get old i was was s.there) (get_or-le-sum_by f old i was s.within)

  pub is_at : (F : X → Type 0) → All F old → F was
  is_at F all = subst (λ (x : X). F x) (get_or_from_slice_get old i was was s.there) (all i was s.within)

-- a number at which something is true that isn't of no item
pub is_within : {X : Type 0} (F : Option X → Type 0) (xs : List X) (i : ℕ) → F (slice_get xs i) → (F None → ⊥) → i < length xs
is_within {X = X} F xs i holds never = by (slice_get_cases xs i).1
  where
    by : ((x : X) × (i < length xs) × (slice_get xs i ≡ Some x) × (get_or xs i x ≡ x)) ⊎ ((length xs ≤ i) × (slice_get xs i ≡ None)) → i < length xs
    by (inl found) = found.1
    by (inr past) = absurd (never (subst F past.1 holds))

-- a number at which something stands
pub within_of : {X : Type 0} (xs : List X) (i : ℕ) (x : X) → slice_get xs i ≡ Some x → i < length xs
within_of {X = X} xs i x there = is_within (λ (o : Option X). o ≡ Some x) xs i there (λ none. let h : ⊥ = cc in h)
