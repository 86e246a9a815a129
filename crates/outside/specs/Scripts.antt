-- The script that a stream in memory is read along.
use Rattle.std.specs.Prelude.{◌≡◌, ℕ, ◌+◌, min, List, [], ◌∷◌, length, take, drop}
use Rattle.outside.specs.declared.script.Piece.{Piece}
use Rattle.outside.specs.declared.script.Piece.TheVariants as piece
use Rattle.outside.specs.declared.script.Next.{Next}
use Rattle.outside.specs.declared.script.Next.TheVariants as next

-- what comes next to a reader: bytes, of which a read takes as many as it has room for, a wait, or a fault
pub data Cue : Type 0 where
  Bytes : (bytes : List ℕ) → Cue
  Wait : Cue
  Fail : Cue

-- what a piece of a script is to a reader
abbrev pub cue_of : Piece → Cue
cue_of (piece.Bytes bytes) = Bytes bytes.items
cue_of piece.Wait = Wait
cue_of piece.Fail = Fail

-- a script behind what is left of its first bytes; bytes that were read to their end are gone
abbrev pub behind : List ℕ → List Cue → List Cue
behind [] cues = cues
behind (byte ∷ left) cues = Bytes (byte ∷ left) ∷ cues

-- how many bytes a script has
abbrev pub bytes_in : List Cue → ℕ
bytes_in [] = 0
bytes_in (Bytes bytes ∷ cues) = length bytes + bytes_in cues
bytes_in (Wait ∷ cues) = bytes_in cues
bytes_in (Fail ∷ cues) = bytes_in cues

-- how many bytes were given
abbrev pub bytes_given : Next → ℕ
bytes_given (next.Bytes n) = n
bytes_given next.Wait = 0
bytes_given next.Fail = 0
bytes_given next.End = 0

-- the buffer begins with the first n of the bytes, and the others are left
pub record GivesBytes (n : ℕ) (bytes : List ℕ) (cues : List Cue) (buffer : List ℕ) (given : Next) (left : List Cue)
    : Type 0 where
  pub given_is : given ≡ next.Bytes n
  pub buffer_is : take n buffer ≡ take n bytes
  pub left_is : left ≡ behind (drop n bytes) cues

-- what a script gives to a buffer of this size, and what is left of it
abbrev pub Gives : (script : List Cue) (size : ℕ) (buffer : List ℕ) → Next → (left : List Cue) → Type 0
Gives [] size buffer given left = (given ≡ next.End) × (left ≡ [])
Gives (Wait ∷ cues) size buffer given left = (given ≡ next.Wait) × (left ≡ cues)
Gives (Fail ∷ cues) size buffer given left = (given ≡ next.Fail) × (left ≡ cues)
Gives (Bytes bytes ∷ cues) size buffer given left = GivesBytes (min size (length bytes)) bytes cues buffer given left
