-- The spellings of numbers, vectors and names.
use Rattle.std.specs.Prelude.{◌≡◌, ℕ, List, [], ◌∷◌, ◌++◌, length}
use Rattle.std.specs.Str.{IsUtf8}
use Rattle.leb_read.specs.Numbers.{SpellsUnsigned}

-- Core 1.0, 5.2.2, integers: these bytes spell an unsigned number of 32 bits
abbrev pub SpellsU32 : List ℕ → ℕ → Type 0
SpellsU32 bytes n = SpellsUnsigned 32 bytes n

-- these bytes spell the items, one after another, where S says what spells one
abbrev pub SpellsItems : {A : Type 0} → (S : List ℕ → A → Type 0) → List ℕ → List A → Type 0
SpellsItems S bytes [] = bytes ≡ []
SpellsItems S bytes (x ∷ xs) =
    (first : List ℕ) × (rest : List ℕ) × S first x × SpellsItems S rest xs × (bytes ≡ first ++ rest)

-- Core 1.0, 5.1.3, vectors: the number of the items, and the items
abbrev pub SpellsVector : {A : Type 0} → (S : List ℕ → A → Type 0) → List ℕ → List A → Type 0
SpellsVector S bytes xs =
    (count : List ℕ) × (items : List ℕ) × SpellsU32 count (length xs) × SpellsItems S items xs × (bytes ≡ count ++ items)

-- Core 1.0, 5.1.3 and 5.2.1, vectors of bytes: their number, and the bytes themselves
abbrev pub SpellsBytes : List ℕ → List ℕ → Type 0
SpellsBytes bytes content = (count : List ℕ) × SpellsU32 count (length content) × (bytes ≡ count ++ content)

-- Core 1.0, 5.2.4, names: a vector of bytes that are valid UTF-8
abbrev pub SpellsName : List ℕ → List ℕ → Type 0
SpellsName bytes name = SpellsBytes bytes name × IsUtf8 name

-- a size, and exactly that many bytes, which spell the value
abbrev pub SpellsSized : {A : Type 0} → (S : List ℕ → A → Type 0) → List ℕ → A → Type 0
SpellsSized S bytes x =
    (size : List ℕ) × (contents : List ℕ) × SpellsU32 size (length contents) × S contents x × (bytes ≡ size ++ contents)
