-- What a cursor is: a place in bytes, and the bytes from there on.
use Rattle.std.specs.Prelude.{◌≡◌, ℕ, ◌+◌, List, ◌++◌, length}

pub record Place : Type 0 where
  pub at : ℕ
  pub left : List ℕ

-- from the old place to the new one these bytes were passed over
pub record Passes (old new : Place) (passed : List ℕ) : Type 0 where
  pub left : old.left ≡ passed ++ new.left
  pub at : new.at ≡ old.at + length passed

-- the bytes passed over from the old place to the new one are a spelling
abbrev pub Reads : (Spells : List ℕ → Type 0) → (old new : Place) → Type 0
Reads Spells old new = (passed : List ℕ) × Spells passed × Passes old new passed
