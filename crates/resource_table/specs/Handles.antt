-- Streams with their numbers, and a table of them.
use Rattle.std.specs.Prelude.{◌≡◌, ℕ, ◌<◌, List, [], ◌∷◌, ◌++◌, Option, All, map, filter, find, not, nat_eq, nat_lt}

-- a stream with its number
pub record Handle (S : Type 0) : Type 0 where
  pub number : ℕ
  pub stream : S

-- the numbers of these handles
abbrev pub numbers_of : {S : Type 0} → List (Handle S) → List ℕ
numbers_of handles = map (λ h. h.number) handles

-- each number is below all that stand behind it
abbrev pub IsRising : {S : Type 0} → List (Handle S) → Type 0
IsRising [] = Unit {0}
IsRising (h ∷ hs) = All (λ k. h.number < k.number) hs × IsRising hs

-- the handle of a number, if it is there
abbrev pub handle_of : {S : Type 0} → ℕ → List (Handle S) → Option (Handle S)
handle_of number handles = find (λ h. nat_eq h.number number) handles

-- the handles by rising number, with one more in its place
abbrev pub with_handle : {S : Type 0} → Handle S → List (Handle S) → List (Handle S)
with_handle handle handles =
    filter (λ h. nat_lt h.number handle.number) handles ++ handle ∷ filter (λ h. nat_lt handle.number h.number) handles

-- the handles without the one of a number
abbrev pub without_handle : {S : Type 0} → ℕ → List (Handle S) → List (Handle S)
without_handle number handles = filter (λ h. not (nat_eq h.number number)) handles

-- one handle of a table has another stream now; it and every other stay where they are
pub record Changes {S : Type 0} (number : ℕ) (change : S → S → Type 0) (old new : List (Handle S)) : Type 0 where
  pub lower : List (Handle S)
  pub higher : List (Handle S)
  pub before : S
  pub now : S
  pub was : old ≡ lower ++ record { number = number; stream = before } ∷ higher
  pub is : new ≡ lower ++ record { number = number; stream = now } ∷ higher
  pub changed : change before now
