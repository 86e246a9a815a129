-- The place of a number in a table.
use Rattle.std.specs.Prelude.{◌≡◌, ℕ, ◌<◌, ◌≤◌, List, ◌∷◌, ◌++◌, length, take, drop, All}
use Rattle.resource_table.specs.Handles.{Handle}

-- the handles below this place have lesser numbers, and the others do not
pub record IsPlace {S : Type 0} (number : ℕ) (handles : List (Handle S)) (place : ℕ) : Type 0 where
  pub bound : place ≤ length handles
  pub lower : All (λ h. h.number < number) (take place handles)
  pub higher : All (λ h. number ≤ h.number) (drop place handles)

-- the handle at this place has the number
pub record StandsAt {S : Type 0} (number : ℕ) (handles : List (Handle S)) (place : ℕ) : Type 0 where
  pub lower : List (Handle S)
  pub found : Handle S
  pub higher : List (Handle S)
  pub place_is : place ≡ length lower
  pub handles_is : handles ≡ lower ++ found ∷ higher
  pub number_is : found.number ≡ number

-- the handle at this place has another stream now
pub record ChangesAt {S : Type 0} (place : ℕ) (change : S → S → Type 0) (old new : List (Handle S)) : Type 0 where
  pub lower : List (Handle S)
  pub before : Handle S
  pub now : Handle S
  pub higher : List (Handle S)
  pub place_is : place ≡ length lower
  pub was : old ≡ lower ++ before ∷ higher
  pub is : new ≡ lower ++ now ∷ higher
  pub number_is : now.number ≡ before.number
  pub changed : change before.stream now.stream
