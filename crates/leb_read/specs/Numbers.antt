-- The spellings of numbers (Core 1.0, 5.2.2), low bits first, seven to a byte.
use Rattle.std.specs.Prelude.{◌≡◌, ℕ, ◌+◌, ◌-◌, ◌*◌, ◌^◌, ◌<◌, ◌≤◌, ◌⊎◌, ℤ, pos, ◌+ℤ◌, ◌-ℤ◌, ◌*ℤ◌}
use Rattle.std.specs.Prelude.{List, [], ◌∷◌, ◌++◌, length, All}

-- Core 1.0, 5.2.2, unsigned integers: these bytes spell v as a number of N bits. A byte below 2 ^ 7 and 2 ^ N
-- stands for itself; one from 2 ^ 7 on has the low seven bits, and the bytes after it spell the others.
abbrev pub SpellsUnsigned : (N : ℕ) → List ℕ → (v : ℕ) → Type 0
SpellsUnsigned N [] v = ⊥
SpellsUnsigned N (n ∷ []) v = (n < 2 ^ 7) × (n < 2 ^ N) × (v ≡ n)
SpellsUnsigned N (n ∷ next ∷ rest) v =
    (2 ^ 7 ≤ n) × (n < 2 ^ 8) × (7 < N)
    × (m : ℕ) × SpellsUnsigned (N - 7) (next ∷ rest) m × (v ≡ 2 ^ 7 * m + (n - 2 ^ 7))

-- Core 1.0, 5.2.2, signed integers: these bytes spell v as a number of N bits. The last byte's bit 6 is the sign.
abbrev pub SpellsSigned : (N : ℕ) → List ℕ → (v : ℤ) → Type 0
SpellsSigned N [] v = ⊥
SpellsSigned N (n ∷ []) v =
    ((n < 2 ^ 6) × (n < 2 ^ (N - 1)) × (v ≡ pos n))
    ⊎ ((2 ^ 6 ≤ n) × (n < 2 ^ 7) × (2 ^ 7 ≤ n + 2 ^ (N - 1)) × (v ≡ pos n -ℤ pos (2 ^ 7)))
SpellsSigned N (n ∷ next ∷ rest) v =
    (2 ^ 7 ≤ n) × (n < 2 ^ 8) × (7 < N)
    × (m : ℤ) × SpellsSigned (N - 7) (next ∷ rest) m × (v ≡ pos (2 ^ 7) *ℤ m +ℤ pos (n - 2 ^ 7))

-- a byte that says that another byte of the number follows
abbrev pub Continues : ℕ → Type 0
Continues n = 2 ^ 7 ≤ n

-- the input ends inside the number: every byte left continues, and they are fewer than it may have
pub record EndsInside (most : ℕ) (left : List ℕ) : Type 0 where
  pub continues : All Continues left
  pub fewer : length left < most

-- the last byte that the number may have is there, and it is none of those that may stand last
pub record IsTooLong (most : ℕ) (MayBeLast : ℕ → Type 0) (left : List ℕ) : Type 0 where
  pub before : List ℕ
  pub last : ℕ
  pub after : List ℕ
  pub here : left ≡ before ++ last ∷ after
  pub continues : All Continues before
  pub at_most : length before + 1 ≡ most
  pub wrong : ¬ MayBeLast last

-- the last of a u32's five bytes: the bits that the number doesn't have are 0
abbrev pub MayEndU32 : ℕ → Type 0
MayEndU32 n = n < 0x10

-- the last of an s32's five bytes: bit 7 is 0, and the other bits that the number doesn't have repeat its sign, bit 3
abbrev pub MayEndS32 : ℕ → Type 0
MayEndS32 n = (n < 0x08) ⊎ ((0x78 ≤ n) × (n < 0x80))

-- the last of an s64's ten bytes: it is 00 or 7F
abbrev pub MayEndS64 : ℕ → Type 0
MayEndS64 n = (n < 0x01) ⊎ ((0x7F ≤ n) × (n < 0x80))
