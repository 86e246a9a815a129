-- The least number of bytes that spell a thing, by the grammar. The matching places of an expression are not spelled.
use Rattle.std.specs.Prelude.{ℕ, ◌+◌, ◌-◌, ◌*◌, ◌^◌, List, [], ◌∷◌, length, sum_by, Option, Some, None, nat_lt, if◌then◌else◌}
use Rattle.wasm_form.specs.declared.value_type.ValType.{ValType}
use Rattle.wasm_form.specs.declared.types.FuncType.{FuncType}
use Rattle.wasm_form.specs.declared.types.Bounds.{Bounds}
use Rattle.wasm_form.specs.declared.instr.Instr.{Instr}
use Rattle.wasm_form.specs.declared.instr.Imm.{Imm}
use Rattle.wasm_form.specs.declared.instr.Imm.TheVariants as imm
use Rattle.wasm_form.specs.declared.immediates.Immediates.{Immediates}
use Rattle.wasm_form.specs.declared.immediates.Immediates.TheVariants as kind
use Rattle.wasm_form.specs.Instructions.{immediates_of}
use Rattle.wasm_form.specs.declared.expr.Expr.{Expr}
use Rattle.wasm_form.specs.declared.body.Body.{Body}
use Rattle.wasm_form.specs.declared.body.LocalRun.{LocalRun}
use Rattle.wasm_form.specs.declared.parts.Imported.{Imported}
use Rattle.wasm_form.specs.declared.parts.Imported.TheVariants as imported
use Rattle.wasm_form.specs.declared.parts.Import.{Import}
use Rattle.wasm_form.specs.declared.parts.GlobalDef.{GlobalDef}
use Rattle.wasm_form.specs.declared.parts.Export.{Export}
use Rattle.wasm_form.specs.declared.parts.Element.{Element}
use Rattle.wasm_form.specs.declared.parts.Segment.{Segment}
use Rattle.wasm_form.specs.declared.parts.Parts.{Parts}

-- Core 1.0, 5.2.2, integers: of an unsigned number of 32 bits; a byte has seven of its bits
unfoldable pub least_unsigned : ℕ → ℕ
least_unsigned n =
    if nat_lt n (2 ^ 7) then 1 else if nat_lt n (2 ^ 14) then 2 else if nat_lt n (2 ^ 21) then 3 else if nat_lt n (2 ^ 28) then 4 else 5

-- Core 1.0, 5.2.2, integers: of the signed numbers n and -1 - n; the last byte has the sign, too
unfoldable pub least_signed : ℕ → ℕ
least_signed n =
    if nat_lt n (2 ^ 6) then 1 else if nat_lt n (2 ^ 13) then 2 else if nat_lt n (2 ^ 20) then 3 else if nat_lt n (2 ^ 27) then 4
    else if nat_lt n (2 ^ 34) then 5 else if nat_lt n (2 ^ 41) then 6 else if nat_lt n (2 ^ 48) then 7
    else if nat_lt n (2 ^ 55) then 8 else if nat_lt n (2 ^ 62) then 9 else 10

-- the n of which these bits are n or -1 - n, where half of the bits are those of negative numbers
abbrev pub magnitude : (half bits : ℕ) → ℕ
magnitude half bits = if nat_lt bits half then bits else 2 * half - 1 - bits

-- of a signed number of 32 bits, and of one of 64, which are kept as their bits
abbrev pub least_s32 : (bits : ℕ) → ℕ
least_s32 bits = least_signed (magnitude (2 ^ 31) bits)

abbrev pub least_s64 : (bits : ℕ) → ℕ
least_s64 bits = least_signed (magnitude (2 ^ 63) bits)

-- Core 1.0, 5.1.3, vectors: of the number of the items, and of the items
abbrev pub least_vector : {A : Type 0} → (least : A → ℕ) → List A → ℕ
least_vector least xs = least_unsigned (length xs) + sum_by least xs

-- Core 1.0, 5.1.3 and 5.2.4, vectors of bytes and names
abbrev pub least_bytes : List ℕ → ℕ
least_bytes bytes = least_unsigned (length bytes) + length bytes

-- a size, and so many bytes
abbrev pub least_sized : (contents : ℕ) → ℕ
least_sized contents = least_unsigned contents + contents

-- Core 1.0, 5.3.1, value types: one byte each
abbrev pub least_val_type : ValType → ℕ
least_val_type ty = 1

-- Core 1.0, 5.3.3, function types
abbrev pub least_func_type : FuncType → ℕ
least_func_type ty = 1 + (least_vector least_val_type ty.params + least_vector least_val_type ty.results)

-- Core 1.0, 5.3.4, limits
abbrev pub least_max : Option ℕ → ℕ
least_max None = 0
least_max (Some max) = least_unsigned max

abbrev pub least_limits : Bounds → ℕ
least_limits bounds = 1 + (least_unsigned bounds.min + least_max bounds.max)

-- Core 1.0, 5.3.6, table types
abbrev pub least_table_type : Bounds → ℕ
least_table_type bounds = 1 + least_limits bounds

-- Core 1.0, 5.4: of the numbers of an instruction; the labels of br_table are counted with the expression
abbrev pub least_imm : Imm → ℕ
least_imm imm.None = 0
least_imm (imm.Block result) = 1
least_imm (imm.Index n) = least_unsigned n
least_imm (imm.Table first count last) = least_unsigned count + least_unsigned last
least_imm (imm.Mem align offset) = least_unsigned align + least_unsigned offset
least_imm (imm.I32 bits) = least_s32 bits
least_imm (imm.I64 bits) = least_s64 bits
least_imm (imm.F32 bits) = 4
least_imm (imm.F64 bits) = 8

-- Core 1.0, 5.4.1 and 5.4.4: the byte 00 of call_indirect, memory.size and memory.grow
abbrev pub zero_byte : Option Immediates → ℕ
zero_byte (Some kind.TypeAndZero) = 1
zero_byte (Some kind.Zero) = 1
zero_byte k = 0

-- Core 1.0, 5.4, instructions: a code, and what follows it
abbrev pub least_instr : Instr → ℕ
least_instr i = 1 + (least_imm i.imm + zero_byte (immediates_of i.code))

-- Core 1.0, 5.4.6, expressions: the instructions, each else and end among them, and the labels
abbrev pub least_expr : Expr → ℕ
least_expr e = sum_by least_instr e.code + sum_by least_unsigned e.labels

-- Core 1.0, 5.5.5, imports
abbrev pub least_imported : Imported → ℕ
least_imported (imported.Function ty) = 1 + least_unsigned ty
least_imported (imported.Table bounds) = 1 + least_table_type bounds
least_imported (imported.Memory bounds) = 1 + least_limits bounds
least_imported (imported.Global global) = 3

abbrev pub least_import : Import → ℕ
least_import i = least_bytes i.«module» + (least_bytes i.name + least_imported i.what)

-- Core 1.0, 5.5.9, globals: the type takes two bytes
abbrev pub least_global : GlobalDef → ℕ
least_global global = 2 + least_expr global.init

-- Core 1.0, 5.5.10, exports
abbrev pub least_export : Export → ℕ
least_export e = least_bytes e.name + (1 + least_unsigned e.index)

-- Core 1.0, 5.5.12, element segments
abbrev pub least_element : Element → ℕ
least_element e = least_unsigned e.table + (least_expr e.offset + least_vector least_unsigned e.functions)

-- Core 1.0, 5.5.13, bodies: locals and an expression, with their size before them
abbrev pub least_run : LocalRun → ℕ
least_run run = least_unsigned run.count + 1

abbrev pub least_function : Body → ℕ
least_function body = least_vector least_run body.locals + least_expr body.expr

abbrev pub least_body : Body → ℕ
least_body body = least_sized (least_function body)

-- Core 1.0, 5.5.14, data segments
abbrev pub least_segment : Segment → ℕ
least_segment s = least_unsigned s.memory + (least_expr s.offset + least_bytes s.bytes)

-- Core 1.0, 5.5.2, sections: none where the part is empty; else the id, and the vector with its size before it
abbrev pub least_section : {A : Type 0} → (least : A → ℕ) → List A → ℕ
least_section least [] = 0
least_section least (x ∷ xs) = 1 + least_sized (least_vector least (x ∷ xs))

-- Core 1.0, 5.5.11, start section
abbrev pub least_start : Option ℕ → ℕ
least_start None = 0
least_start (Some function) = 1 + least_sized (least_unsigned function)

-- Core 1.0, 5.5.15, modules: eight bytes, and the sections
abbrev pub least_module : Parts → ℕ
least_module m =
    8 + (least_section least_func_type m.types + (least_section least_import m.imports + (least_section least_unsigned m.functions
    + (least_section least_table_type m.tables + (least_section least_limits m.memories + (least_section least_global m.globals
    + (least_section least_export m.exports + (least_start m.start + (least_section least_element m.elements
    + (least_section least_body m.bodies + least_section least_segment m.segments))))))))))
