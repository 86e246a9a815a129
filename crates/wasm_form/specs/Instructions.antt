-- The spellings of the instructions that open and close no block, each a code and its immediates.
use Rattle.std.specs.Prelude.{◌≡◌, ℕ, ℤ, List, [], ◌∷◌, ◌++◌, length, Option, Some, None, if◌then◌else◌, nat_le, Bool, true, false}
use Rattle.std.specs.Int.{cast_unsigned, from_le_bytes, w32, w64}
use Rattle.leb_read.specs.Numbers.{SpellsSigned}
use Rattle.wasm_form.specs.Values.{SpellsU32}
use Rattle.wasm_form.specs.declared.instr.Instr.{Instr}
use Rattle.wasm_form.specs.declared.instr.Imm.{Imm}
use Rattle.wasm_form.specs.declared.instr.Imm.TheVariants as imm
use Rattle.wasm_form.specs.declared.immediates.Immediates.{Immediates}
use Rattle.wasm_form.specs.declared.immediates.Immediates.TheVariants as kind

-- Core 1.0, 5.4.1 to 5.4.5: what follows a code, by rising codes; none for the codes that begin no instruction, and for
-- those of block, loop, if, else, end and br_table, whose forms are the tree's
unfoldable pub immediates_of : ℕ → Option Immediates
immediates_of code =
    if nat_le code 0x01 then Some kind.Bare  -- unreachable, nop
    else if nat_le code 0x0B then None  -- block, loop, if, else, end
    else if nat_le code 0x0D then Some kind.Index  -- br, br_if
    else if nat_le code 0x0E then None  -- br_table
    else if nat_le code 0x0F then Some kind.Bare  -- return
    else if nat_le code 0x10 then Some kind.Index  -- call
    else if nat_le code 0x11 then Some kind.TypeAndZero  -- call_indirect
    else if nat_le code 0x19 then None
    else if nat_le code 0x1B then Some kind.Bare  -- drop, select
    else if nat_le code 0x1F then None
    else if nat_le code 0x24 then Some kind.Index  -- local.get, set, tee, global.get, set
    else if nat_le code 0x27 then None
    else if nat_le code 0x3E then Some kind.Memory  -- loads and stores
    else if nat_le code 0x40 then Some kind.Zero  -- memory.size, memory.grow
    else if nat_le code 0x41 then Some kind.S32  -- i32.const
    else if nat_le code 0x42 then Some kind.S64  -- i64.const
    else if nat_le code 0x43 then Some kind.F32  -- f32.const
    else if nat_le code 0x44 then Some kind.F64  -- f64.const
    else if nat_le code 0xBF then Some kind.Bare  -- numeric instructions
    else None

-- these bytes spell the immediates; a signed number and a float are kept as their bits
abbrev pub SpellsImmediates : Immediates → List ℕ → Imm → Type 0
SpellsImmediates kind.Bare bytes i = (bytes ≡ []) × (i ≡ imm.None)
SpellsImmediates kind.Index bytes i = (n : ℕ) × SpellsU32 bytes n × (i ≡ imm.Index n)
SpellsImmediates kind.TypeAndZero bytes i = (number : List ℕ) × (n : ℕ) × SpellsU32 number n × (bytes ≡ number ++ 0x00 ∷ []) × (i ≡ imm.Index n)
SpellsImmediates kind.Zero bytes i = (bytes ≡ 0x00 ∷ []) × (i ≡ imm.None)
SpellsImmediates kind.Memory bytes i =
    (align : List ℕ) × (offset : List ℕ) × (a : ℕ) × (o : ℕ) × SpellsU32 align a × SpellsU32 offset o × (bytes ≡ align ++ offset) × (i ≡ imm.Mem a o)
SpellsImmediates kind.S32 bytes i = (n : ℤ) × SpellsSigned 32 bytes n × (i ≡ imm.I32 (cast_unsigned w32 n))
SpellsImmediates kind.S64 bytes i = (n : ℤ) × SpellsSigned 64 bytes n × (i ≡ imm.I64 (cast_unsigned w64 n))
SpellsImmediates kind.F32 bytes i = (length bytes ≡ 4) × (i ≡ imm.F32 (from_le_bytes w32 bytes))
SpellsImmediates kind.F64 bytes i = (length bytes ≡ 8) × (i ≡ imm.F64 (from_le_bytes w64 bytes))

-- Core 1.0, 5.4, instructions: a code, and the immediates that follow it
abbrev pub SpellsPlain : List ℕ → Instr → Type 0
SpellsPlain bytes i =
    (k : Immediates) × (immediates : List ℕ) × (immediates_of i.code ≡ Some k) × SpellsImmediates k immediates i.imm × (bytes ≡ i.code ∷ immediates)

-- whether these are immediates of that kind
abbrev pub fits : Immediates → Imm → Bool
fits kind.Bare imm.None = true
fits kind.Index (imm.Index n) = true
fits kind.TypeAndZero (imm.Index n) = true
fits kind.Zero imm.None = true
fits kind.Memory (imm.Mem align offset) = true
fits kind.S32 (imm.I32 n) = true
fits kind.S64 (imm.I64 n) = true
fits kind.F32 (imm.F32 n) = true
fits kind.F64 (imm.F64 n) = true
fits k i = false
