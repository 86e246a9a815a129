-- The instructions of a flat list one by one, each else and end among them; contracts of callers speak of
-- trees alone.
use Rattle.std.specs.Prelude.{◌≡◌, ℕ, ◌+◌, ◌≤◌, ℤ, Option, Some}
use Rattle.std.specs.Prelude.{List, [], ◌∷◌, ◌++◌, length, take, drop, sum_by}
use Rattle.std.specs.Int.{cast_unsigned, from_le_bytes, w32, w64}
use Rattle.leb_read.specs.Numbers.{SpellsSigned}
use Rattle.wasm_form.specs.Values.{SpellsU32, SpellsVector}
use Rattle.wasm_form.specs.Types.{SpellsBlockType}
use Rattle.wasm_form.specs.Instructions.{immediates_of}
use Rattle.wasm_form.specs.Least.{least_unsigned, least_imm, least_instr}
use Rattle.wasm_form.specs.declared.instr.Instr.{Instr}
use Rattle.wasm_form.specs.declared.instr.Imm.{Imm}
use Rattle.wasm_form.specs.declared.instr.Imm.TheVariants as imm
use Rattle.wasm_form.specs.declared.immediates.Immediates.{Immediates}
use Rattle.wasm_form.specs.declared.immediates.Immediates.TheVariants as kind

-- so many labels of the expression's from a place on
abbrev pub labels_at : (labels : List ℕ) → (first count : ℕ) → List ℕ
labels_at labels first count = take count (drop first labels)

-- Core 1.0, 5.4.1, br_table: those labels, which are there, and the default label
pub record SpellsTableOf (labels : List ℕ) (first count : ℕ) (bytes : List ℕ) (last : ℕ) : Type 0 where
  pub vector : List ℕ
  pub number : List ℕ
  pub table : SpellsVector SpellsU32 vector (labels_at labels first count)
  pub default : SpellsU32 number last
  pub there : first + count ≤ length labels
  pub whole : bytes ≡ vector ++ number

-- the least number of bytes of these
abbrev pub least_table : (labels : List ℕ) → (first count last : ℕ) → ℕ
least_table labels first count last =
    least_unsigned count + (sum_by least_unsigned (labels_at labels first count) + least_unsigned last)

-- Core 1.0, 5.4: the numbers that follow a code, where the expression has these labels
abbrev pub SpellsNumbers : (labels : List ℕ) → List ℕ → Imm → Type 0
SpellsNumbers labels bytes imm.None = bytes ≡ []
SpellsNumbers labels bytes (imm.Block result) = SpellsBlockType bytes result
SpellsNumbers labels bytes (imm.Index n) = SpellsU32 bytes n
SpellsNumbers labels bytes (imm.Table first count last) = SpellsTableOf labels first count bytes last
SpellsNumbers labels bytes (imm.Mem align offset) =
    (a : List ℕ) × (o : List ℕ) × SpellsU32 a align × SpellsU32 o offset × (bytes ≡ a ++ o)
SpellsNumbers labels bytes (imm.I32 bits) = (n : ℤ) × SpellsSigned 32 bytes n × (bits ≡ cast_unsigned w32 n)
SpellsNumbers labels bytes (imm.I64 bits) = (n : ℤ) × SpellsSigned 64 bytes n × (bits ≡ cast_unsigned w64 n)
SpellsNumbers labels bytes (imm.F32 bits) = (length bytes ≡ 4) × (bits ≡ from_le_bytes w32 bytes)
SpellsNumbers labels bytes (imm.F64 bits) = (length bytes ≡ 8) × (bits ≡ from_le_bytes w64 bytes)

-- Core 1.0, 5.4.1 and 5.4.4: the byte 00 of call_indirect, memory.size and memory.grow
abbrev pub zero_of : Option Immediates → List ℕ
zero_of (Some kind.TypeAndZero) = 0x00 ∷ []
zero_of (Some kind.Zero) = 0x00 ∷ []
zero_of k = []

-- one instruction of the list: its code, its numbers, and a byte 00 where it has one
abbrev pub SpellsLine : (labels : List ℕ) → List ℕ → Instr → Type 0
SpellsLine labels bytes i =
    (numbers : List ℕ) × SpellsNumbers labels numbers i.imm
    × (bytes ≡ i.code ∷ (numbers ++ zero_of (immediates_of i.code)))

-- the least numbers of bytes of both; the labels of br_table are counted with it
abbrev pub least_labels : (labels : List ℕ) → Imm → ℕ
least_labels labels (imm.Table first count last) = sum_by least_unsigned (labels_at labels first count)
least_labels labels i = 0

abbrev pub least_numbers : (labels : List ℕ) → Imm → ℕ
least_numbers labels i = least_imm i + least_labels labels i

abbrev pub least_line : (labels : List ℕ) → Instr → ℕ
least_line labels i = least_instr i + least_labels labels i.imm
