-- What becomes of a list of outsides where the first of them is used.
use Rattle.std.proofs.Common.{◌≡◌, ◌<◌, ◌≤◌, ◌+◌, ◌-◌, ◌^◌, ℕ, List, [], ◌∷◌, length, map, sum, get_or, slice_set, All, Any, IsSome, IsSomeAnd, Option, Some, None, refl, subst, arith, inl, inr}
use Rattle.std.proofs.lemmas.Bool.{cases_lt}
use Rattle.std.proofs.lemmas.List.Sums.{sum_by-cons}
use Rattle.outside.specs.Makes.{GoesNotBack}
use Rattle.lunatic_cli.specs.Causes.{HaveGrown}
use Rattle.lunatic_cli.specs.Quiet.{HasRested, HaveRested}
use Rattle.lunatic_cli.specs.Times.{AreBetween, IsWithin, AllAreWithin, NoneFalls, NoneGoesBack}
use Rattle.lunatic_cli.proofs.Clocks.{not-back-refl}

pub falls-refl : (xs : List ℕ) → NoneFalls xs xs
falls-refl [] = tt
falls-refl (x ∷ xs) = (omega arith, falls-refl xs)

pub goes-refl : (xs : List (Option ℕ)) → NoneGoesBack xs xs
goes-refl [] = tt
goes-refl (x ∷ xs) = (not-back-refl x, goes-refl xs)

pub none-falls : {X : Type 0} (count : X → ℕ) (items : List X) (before after : X) → 0 < length items → before ≡ get_or items 0 before → count before ≤ count after →
    NoneFalls (map count items) (map count (slice_set items 0 after))
none-falls count [] before after some is later = absurd (omega arith)
none-falls count (x ∷ xs) before after some is later = (subst (λ y. count y ≤ count after) is later, falls-refl (map count xs))

pub none-goes-back : {X : Type 0} (clock : X → Option ℕ) (items : List X) (before after : X) → 0 < length items → before ≡ get_or items 0 before → GoesNotBack (clock before) (clock after) →
    NoneGoesBack (map clock items) (map clock (slice_set items 0 after))
none-goes-back clock [] before after some is later = absurd (omega arith)
none-goes-back clock (x ∷ xs) before after some is later = (subst (λ y. GoesNotBack (clock y) (clock after)) is later, goes-refl (map clock xs))

-- the first of some that holds
any-first : {X : Type 0} (Q : X → Type 0) (x : X) (xs : List X) → Q x → Any Q (x ∷ xs)
any-first Q x xs h = (0, x, omega arith, refl, h)

within : (before after : Option ℕ) (earlier later : List (Option ℕ)) (times : List ℕ) → IsSome before → IsSome after → AreBetween before after times →
    All (IsWithin (before ∷ earlier) (after ∷ later)) times
within None after earlier later times told then between = absurd (cc)
within (Some from) None earlier later times told then between = absurd (cc)
within (Some from) (Some to) earlier later times told then between = λ k d below.
    let h = between k d below in
    record {
      from = any-first (λ clock. IsSomeAnd clock (λ at. at ≤ get_or times k d)) (Some from) earlier h.0;
      to = any-first (λ clock. IsSomeAnd clock (λ at. get_or times k d ≤ at)) (Some to) later h.1;
    }

pub all-within-first : {X : Type 0} (clock : X → Option ℕ) (items : List X) (before after : X) (times : List ℕ) → 0 < length items → before ≡ get_or items 0 before →
    AreBetween (clock before) (clock after) times →
    AllAreWithin (map clock items) (map clock (slice_set items 0 after)) times
all-within-first clock [] before after times some is between told then = absurd (omega arith)
all-within-first clock (x ∷ xs) before after times some is between told then =
    within (clock x) (clock after) (map clock xs) (map clock xs) times (told 0 None (omega arith)) (then 0 None (omega arith))
    (subst (λ y. AreBetween (clock y) (clock after) times) is between)

-- the rests of all, where the first has rested
pub have-rested-first : {X : Type 0} (rests : X → ℕ) (items : List X) (before after : X) (quiet : ℕ) → 0 < length items → before ≡ get_or items 0 before →
    HasRested (rests before) (rests after) quiet →
    HaveRested (map rests items) (map rests (slice_set items 0 after)) quiet
have-rested-first rests [] before after quiet some is rested = absurd (omega arith)
have-rested-first rests (x ∷ xs) before after quiet some is rested =
    let here : HasRested (rests x) (rests after) quiet = subst (λ y. HasRested (rests y) (rests after) quiet) is rested in
    elim (cases_lt (rests after) (2 ^ 64 - 1)) as (λ _. HaveRested (map rests (x ∷ xs)) (map rests (after ∷ xs)) quiet) [
      | inl below ↦ inr (
          let first : rests x + (quiet - 1) ≤ rests after = omega (arith, here, below) in
          let old : sum (map rests (x ∷ xs)) ≡ rests x + sum (map rests xs) = sum_by-cons (λ n. n) (rests x) (map rests xs) in
          let new : sum (map rests (after ∷ xs)) ≡ rests after + sum (map rests xs) = sum_by-cons (λ n. n) (rests after) (map rests xs) in
          omega (arith, first, old, new))
      | inr full ↦ inl (any-first (λ n. 2 ^ 64 - 1 ≤ n) (rests after) (map rests xs) full)
    ]

-- the counts of all, where the first has grown
pub have-grown-first : {X : Type 0} (count : X → ℕ) (items : List X) (before after : X) (by : ℕ) → 0 < length items → before ≡ get_or items 0 before → count before + by ≤ count after →
    HaveGrown (map count items) (map count (slice_set items 0 after)) by
have-grown-first count [] before after by some is grown = absurd (omega arith)
have-grown-first count (x ∷ xs) before after by some is grown =
    let here : count x + by ≤ count after = subst (λ y. count y + by ≤ count after) is grown in
    let old : sum (map count (x ∷ xs)) ≡ count x + sum (map count xs) = sum_by-cons (λ n. n) (count x) (map count xs) in
    let new : sum (map count (after ∷ xs)) ≡ count after + sum (map count xs) = sum_by-cons (λ n. n) (count after) (map count xs) in
    omega (arith, here, old, new)
