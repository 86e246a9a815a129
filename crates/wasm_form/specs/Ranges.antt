-- The numbers, names and bytes of parts as the types of the code keep them.
use Rattle.std.specs.Prelude.{ℕ, ◌^◌, ◌<◌, ⊤, List, Option, Some, None, All}
use Rattle.std.specs.Str.{IsUtf8}
use Rattle.wasm_form.specs.declared.types.Bounds.{Bounds}
use Rattle.wasm_form.specs.declared.instr.Instr.{Instr}
use Rattle.wasm_form.specs.declared.instr.Imm.{Imm}
use Rattle.wasm_form.specs.declared.instr.Imm.TheVariants as imm
use Rattle.wasm_form.specs.declared.expr.Expr.{Expr}
use Rattle.wasm_form.specs.declared.body.Body.{Body}
use Rattle.wasm_form.specs.declared.body.LocalRun.{LocalRun}
use Rattle.wasm_form.specs.declared.parts.Imported.{Imported}
use Rattle.wasm_form.specs.declared.parts.Imported.TheVariants as imported
use Rattle.wasm_form.specs.declared.parts.Import.{Import}
use Rattle.wasm_form.specs.declared.parts.GlobalDef.{GlobalDef}
use Rattle.wasm_form.specs.declared.parts.Export.{Export}
use Rattle.wasm_form.specs.declared.parts.Element.{Element}
use Rattle.wasm_form.specs.declared.parts.Segment.{Segment}
use Rattle.wasm_form.specs.declared.parts.Parts.{Parts}

-- a number of 32 bits, and a byte
abbrev pub IsU32 : ℕ → Type 0
IsU32 n = n < 2 ^ 32

abbrev pub IsOctet : ℕ → Type 0
IsOctet b = b < 2 ^ 8

-- the numbers of an instruction
abbrev pub HasImmRange : Imm → Type 0
HasImmRange imm.None = ⊤
HasImmRange (imm.Block result) = ⊤
HasImmRange (imm.Index n) = IsU32 n
HasImmRange (imm.Table first count last) = IsU32 count × IsU32 last
HasImmRange (imm.Mem align offset) = IsU32 align × IsU32 offset
HasImmRange (imm.I32 bits) = IsU32 bits
HasImmRange (imm.I64 bits) = bits < 2 ^ 64
HasImmRange (imm.F32 bits) = IsU32 bits
HasImmRange (imm.F64 bits) = bits < 2 ^ 64

abbrev pub HasInstrRange : Instr → Type 0
HasInstrRange i = (i.code < 2 ^ 8) × HasImmRange i.imm

abbrev pub HasExprRange : Expr → Type 0
HasExprRange e = All HasInstrRange e.code × All IsU32 e.labels

-- limits
abbrev pub HasMaxRange : Option ℕ → Type 0
HasMaxRange None = ⊤
HasMaxRange (Some max) = IsU32 max

abbrev pub HasBoundsRange : Bounds → Type 0
HasBoundsRange bounds = IsU32 bounds.min × HasMaxRange bounds.max

-- text
abbrev pub IsText : List ℕ → Type 0
IsText name = All IsOctet name × IsUtf8 name

-- what stands in the sections
abbrev pub HasImportedRange : Imported → Type 0
HasImportedRange (imported.Function ty) = IsU32 ty
HasImportedRange (imported.Table bounds) = HasBoundsRange bounds
HasImportedRange (imported.Memory bounds) = HasBoundsRange bounds
HasImportedRange (imported.Global global) = ⊤

abbrev pub HasImportRange : Import → Type 0
HasImportRange i = IsText i.«module» × IsText i.name × HasImportedRange i.what

abbrev pub HasGlobalRange : GlobalDef → Type 0
HasGlobalRange global = HasExprRange global.init

abbrev pub HasExportRange : Export → Type 0
HasExportRange e = IsText e.name × IsU32 e.index

abbrev pub HasElementRange : Element → Type 0
HasElementRange e = IsU32 e.table × HasExprRange e.offset × All IsU32 e.functions

abbrev pub HasRunRange : LocalRun → Type 0
HasRunRange run = IsU32 run.count

abbrev pub HasBodyRange : Body → Type 0
HasBodyRange body = All HasRunRange body.locals × HasExprRange body.expr

abbrev pub HasSegmentRange : Segment → Type 0
HasSegmentRange s = IsU32 s.memory × HasExprRange s.offset × All IsOctet s.bytes

-- all the parts
abbrev pub HasStartRange : Option ℕ → Type 0
HasStartRange None = ⊤
HasStartRange (Some function) = IsU32 function

pub record HasRanges (m : Parts) : Type 0 where
  pub imports : All HasImportRange m.imports
  pub functions : All IsU32 m.functions
  pub tables : All HasBoundsRange m.tables
  pub memories : All HasBoundsRange m.memories
  pub globals : All HasGlobalRange m.globals
  pub exports : All HasExportRange m.exports
  pub start : HasStartRange m.start
  pub elements : All HasElementRange m.elements
  pub bodies : All HasBodyRange m.bodies
  pub segments : All HasSegmentRange m.segments
