-- The instructions that open no block, each with its immediates (Core 1.0, 2.4); numeric ones by their codes.
use Rattle.std.specs.Prelude.{ℕ, ◌==◌, if◌then◌else◌, nat_le, Option, Some, None, option_map}
use Rattle.wasm_ops.specs.Table.{kind_of, takes_one}
use Rattle.wasm_ops.specs.declared.instruction.Kind.{Kind}
use Rattle.wasm_ops.specs.declared.instruction.Kind.TheVariants as kinds
use Rattle.wasm_form.specs.declared.instr.Instr.{Instr}
use Rattle.wasm_form.specs.declared.instr.Imm.{Imm}
use Rattle.wasm_form.specs.declared.instr.Imm.TheVariants as imm

pub data Plain : Type 0 where
  Unreachable : Plain
  Nop : Plain
  Br : (label : ℕ) → Plain
  BrIf : (label : ℕ) → Plain
  Return : Plain
  Call : (function : ℕ) → Plain
  CallIndirect : (ty : ℕ) → Plain
  Drop : Plain
  Select : Plain
  LocalGet : (x : ℕ) → Plain
  LocalSet : (x : ℕ) → Plain
  LocalTee : (x : ℕ) → Plain
  GlobalGet : (x : ℕ) → Plain
  GlobalSet : (x : ℕ) → Plain
  Load : (code offset : ℕ) → Plain
  Store : (code offset : ℕ) → Plain
  MemorySize : Plain
  MemoryGrow : Plain
  Const : (value : ℕ) → Plain
  Unary : (code : ℕ) → Plain
  Binary : (code : ℕ) → Plain

-- the label or index in these immediates
abbrev pub index_in : Imm → Option ℕ
index_in (imm.Index n) = Some n
index_in i = None

-- the offset in these immediates; the alignment is a hint, and changes nothing
abbrev pub offset_in : Imm → Option ℕ
offset_in (imm.Mem align offset) = Some offset
offset_in i = None

-- the i32 in these immediates, and the i64
abbrev pub i32_in : Imm → Option ℕ
i32_in (imm.I32 n) = Some n
i32_in i = None

abbrev pub i64_in : Imm → Option ℕ
i64_in (imm.I64 n) = Some n
i64_in i = None

-- the numeric instruction of this kind
abbrev pub numeric_of : Kind → (code : ℕ) → Option Plain
numeric_of kinds.Plain code = Some (if takes_one code then Unary code else Binary code)
numeric_of kinds.Control code = None
numeric_of kinds.Load code = None
numeric_of kinds.Store code = None
numeric_of kinds.Float code = None

-- the load or store of this kind
abbrev pub access_of : Kind → (code : ℕ) → Imm → Option Plain
access_of kinds.Load code i = option_map (λ offset. Load code offset) (offset_in i)
access_of kinds.Store code i = option_map (λ offset. Store code offset) (offset_in i)
access_of kinds.Plain code i = None
access_of kinds.Control code i = None
access_of kinds.Float code i = None

-- what an instruction is, by its code; none where no such instruction is executed, as a float one
unfoldable pub plain_of : Instr → Option Plain
plain_of i =
    if i.code == 0x00 then Some Unreachable
    else if i.code == 0x01 then Some Nop
    else if i.code == 0x0C then option_map (λ label. Br label) (index_in i.imm)
    else if i.code == 0x0D then option_map (λ label. BrIf label) (index_in i.imm)
    else if i.code == 0x0F then Some Return
    else if i.code == 0x10 then option_map (λ function. Call function) (index_in i.imm)
    else if i.code == 0x11 then option_map (λ ty. CallIndirect ty) (index_in i.imm)
    else if i.code == 0x1A then Some Drop
    else if i.code == 0x1B then Some Select
    else if i.code == 0x20 then option_map (λ x. LocalGet x) (index_in i.imm)
    else if i.code == 0x21 then option_map (λ x. LocalSet x) (index_in i.imm)
    else if i.code == 0x22 then option_map (λ x. LocalTee x) (index_in i.imm)
    else if i.code == 0x23 then option_map (λ x. GlobalGet x) (index_in i.imm)
    else if i.code == 0x24 then option_map (λ x. GlobalSet x) (index_in i.imm)
    else if nat_le i.code 0x3E then access_of (kind_of i.code) i.code i.imm
    else if i.code == 0x3F then Some MemorySize
    else if i.code == 0x40 then Some MemoryGrow
    else if i.code == 0x41 then option_map (λ n. Const n) (i32_in i.imm)
    else if i.code == 0x42 then option_map (λ n. Const n) (i64_in i.imm)
    else numeric_of (kind_of i.code) i.code
