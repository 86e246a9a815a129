-- What reading a number answers, in words that both signs and all widths share.
use Rattle.std.specs.Prelude.{◌≡◌, ◌↔◌, ℕ, ◌-◌, ◌^◌, ◌<◌, ◌≤◌, ◌⊎◌, List, ◌++◌}
use Rattle.std.specs.Prelude.{Result, Ok, Err, IfOk, OnErr}
use Rattle.leb_read.specs.Place.{Place, Reads}
use Rattle.leb_read.specs.declared.fault.LebFault.{LebFault}
use Rattle.leb_read.specs.declared.fault.LebFault.TheVariants.{Short, TooLong}
use Rattle.leb_read.specs.Numbers.{EndsInside, IsTooLong}

-- a spelling stands at the front of the bytes, and these bytes come after it
abbrev pub IsRead : (Spells : List ℕ → Type 0) → (bytes rest : List ℕ) → Type 0
IsRead Spells bytes rest = (spelling : List ℕ) × Spells spelling × (bytes ≡ spelling ++ rest)

-- why no number of at most this many bytes stands at the front, where these bytes may stand last of the most
abbrev pub Cause : (MayBeLast : ℕ → Type 0) → (most : ℕ) → List ℕ → LebFault → Type 0
Cause MayBeLast most bytes Short = EndsInside most bytes
Cause MayBeLast most bytes TooLong = IsTooLong most MayBeLast bytes

-- the last byte of an unsigned number that has this many bits of it: the other bits are 0
abbrev pub MayEndUnsigned : (bits : ℕ) → ℕ → Type 0
MayEndUnsigned bits n = n < 2 ^ bits

-- the last byte of a signed number that has this many bits of it: bit 7 is 0, and the other bits repeat the sign
abbrev pub MayEndSigned : (bits : ℕ) → ℕ → Type 0
MayEndSigned bits n = (n < 2 ^ (bits - 1)) ⊎ ((2 ^ 7 - 2 ^ (bits - 1) ≤ n) × (n < 2 ^ 7))

-- What a cursor answers that was to read a number of at most this many bytes. The number is spelled by the bytes
-- passed over; whatever is spelled at the cursor is answered; each refusal has its one cause and leaves the place.
pub record AnswersNumber {V : Type 0} (Spells : List ℕ → V → Type 0) (most : ℕ) (MayBeLast : ℕ → Type 0)
    (old new : Place) (result : Result V LebFault) : Type 0 where
  pub ok : IfOk result (λ v. Reads (λ spelling. Spells spelling v) old new)
  pub only : (v : V) (spelling rest : List ℕ) → Spells spelling v → old.left ≡ spelling ++ rest → result ≡ Ok v
  pub short : (result ≡ Err Short) ↔ EndsInside most old.left
  pub long : (result ≡ Err TooLong) ↔ IsTooLong most MayBeLast old.left
  pub err : OnErr result (new ≡ old)
