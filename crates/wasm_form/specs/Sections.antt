-- The spellings of what stands in the sections.
use Rattle.std.specs.Prelude.{◌≡◌, ℕ, ◌^◌, ◌<◌, List, [], ◌∷◌, ◌++◌, sum_by, Option, Some}
use Rattle.wasm_form.specs.Values.{SpellsU32, SpellsVector, SpellsBytes, SpellsName, SpellsSized}
use Rattle.wasm_form.specs.Types.{SpellsValType, SpellsFuncType, SpellsLimits, SpellsTableType, SpellsGlobalType}
use Rattle.wasm_form.specs.Trees.{SpellsExpr}
use Rattle.wasm_form.specs.declared.types.FuncType.{FuncType}
use Rattle.wasm_form.specs.declared.types.Bounds.{Bounds}
use Rattle.wasm_form.specs.declared.body.Body.{Body}
use Rattle.wasm_form.specs.declared.body.LocalRun.{LocalRun}
use Rattle.wasm_form.specs.declared.parts.Imported.{Imported}
use Rattle.wasm_form.specs.declared.parts.Imported.TheVariants as imported
use Rattle.wasm_form.specs.declared.parts.Import.{Import}
use Rattle.wasm_form.specs.declared.parts.GlobalDef.{GlobalDef}
use Rattle.wasm_form.specs.declared.parts.ExportKind.{ExportKind}
use Rattle.wasm_form.specs.declared.parts.ExportKind.TheVariants as kind
use Rattle.wasm_form.specs.declared.parts.Export.{Export}
use Rattle.wasm_form.specs.declared.parts.Element.{Element}
use Rattle.wasm_form.specs.declared.parts.Segment.{Segment}

-- Core 1.0, 5.5.3, custom section: a name, and any bytes
abbrev pub SpellsCustom : List ℕ → Type 0
SpellsCustom bytes = (first : List ℕ) × (name : List ℕ) × (rest : List ℕ) × SpellsName first name × (bytes ≡ first ++ rest)

-- Core 1.0, 5.5.4, type section
abbrev pub SpellsTypes : List ℕ → List FuncType → Type 0
SpellsTypes bytes types = SpellsVector SpellsFuncType bytes types

-- Core 1.0, 5.5.5, import section: what is imported
abbrev pub SpellsImported : List ℕ → Imported → Type 0
SpellsImported bytes (imported.Function ty) = (number : List ℕ) × SpellsU32 number ty × (bytes ≡ 0x00 ∷ number)
SpellsImported bytes (imported.Table bounds) = (ty : List ℕ) × SpellsTableType ty bounds × (bytes ≡ 0x01 ∷ ty)
SpellsImported bytes (imported.Memory bounds) = (ty : List ℕ) × SpellsLimits ty bounds × (bytes ≡ 0x02 ∷ ty)
SpellsImported bytes (imported.Global global) = (ty : List ℕ) × SpellsGlobalType ty global × (bytes ≡ 0x03 ∷ ty)

-- Core 1.0, 5.5.5, import section: one import
abbrev pub SpellsImport : List ℕ → Import → Type 0
SpellsImport bytes i =
    (m : List ℕ) × (name : List ℕ) × (what : List ℕ) × SpellsName m i.«module» × SpellsName name i.name × SpellsImported what i.what
    × (bytes ≡ m ++ (name ++ what))

abbrev pub SpellsImports : List ℕ → List Import → Type 0
SpellsImports bytes imports = SpellsVector SpellsImport bytes imports

-- Core 1.0, 5.5.6, function section: the indexes of the functions' types
abbrev pub SpellsFunctions : List ℕ → List ℕ → Type 0
SpellsFunctions bytes functions = SpellsVector SpellsU32 bytes functions

-- Core 1.0, 5.5.7, table section
abbrev pub SpellsTables : List ℕ → List Bounds → Type 0
SpellsTables bytes tables = SpellsVector SpellsTableType bytes tables

-- Core 1.0, 5.5.8, memory section
abbrev pub SpellsMemories : List ℕ → List Bounds → Type 0
SpellsMemories bytes memories = SpellsVector SpellsLimits bytes memories

-- Core 1.0, 5.5.9, global section
abbrev pub SpellsGlobal : List ℕ → GlobalDef → Type 0
SpellsGlobal bytes global =
    (ty : List ℕ) × (init : List ℕ) × SpellsGlobalType ty global.ty × SpellsExpr init global.init × (bytes ≡ ty ++ init)

abbrev pub SpellsGlobals : List ℕ → List GlobalDef → Type 0
SpellsGlobals bytes globals = SpellsVector SpellsGlobal bytes globals

-- Core 1.0, 5.5.10, export section: what the index counts
abbrev pub SpellsExportKind : List ℕ → ExportKind → Type 0
SpellsExportKind bytes kind.Function = bytes ≡ 0x00 ∷ []
SpellsExportKind bytes kind.Table = bytes ≡ 0x01 ∷ []
SpellsExportKind bytes kind.Memory = bytes ≡ 0x02 ∷ []
SpellsExportKind bytes kind.Global = bytes ≡ 0x03 ∷ []

-- Core 1.0, 5.5.10, export section: one export
abbrev pub SpellsExport : List ℕ → Export → Type 0
SpellsExport bytes e =
    (name : List ℕ) × (sort : List ℕ) × (index : List ℕ) × SpellsName name e.name × SpellsExportKind sort e.kind × SpellsU32 index e.index
    × (bytes ≡ name ++ (sort ++ index))

abbrev pub SpellsExports : List ℕ → List Export → Type 0
SpellsExports bytes exports = SpellsVector SpellsExport bytes exports

-- Core 1.0, 5.5.11, start section: a function, which is there where the section is
abbrev pub SpellsStart : List ℕ → Option ℕ → Type 0
SpellsStart bytes start = (function : ℕ) × SpellsU32 bytes function × (start ≡ Some function)

-- Core 1.0, 5.5.12, element section
abbrev pub SpellsElement : List ℕ → Element → Type 0
SpellsElement bytes e =
    (table : List ℕ) × (offset : List ℕ) × (functions : List ℕ) × SpellsU32 table e.table × SpellsExpr offset e.offset
    × SpellsVector SpellsU32 functions e.functions × (bytes ≡ table ++ (offset ++ functions))

abbrev pub SpellsElements : List ℕ → List Element → Type 0
SpellsElements bytes elements = SpellsVector SpellsElement bytes elements

-- Core 1.0, 5.5.13, code section: so many locals of one type
abbrev pub SpellsRun : List ℕ → LocalRun → Type 0
SpellsRun bytes run = (count : List ℕ) × (ty : List ℕ) × SpellsU32 count run.count × SpellsValType ty run.ty × (bytes ≡ count ++ ty)

-- Core 1.0, 5.5.13, code section: a function's locals, fewer than 2 ^ 32 in all, and its expression
abbrev pub SpellsFunction : List ℕ → Body → Type 0
SpellsFunction bytes body =
    (locals : List ℕ) × (expr : List ℕ) × SpellsVector SpellsRun locals body.locals × SpellsExpr expr body.expr
    × (sum_by (λ run. run.count) body.locals < 2 ^ 32) × (bytes ≡ locals ++ expr)

-- Core 1.0, 5.5.13, code section: a body, with its size before it
abbrev pub SpellsBody : List ℕ → Body → Type 0
SpellsBody bytes body = SpellsSized SpellsFunction bytes body

abbrev pub SpellsBodies : List ℕ → List Body → Type 0
SpellsBodies bytes bodies = SpellsVector SpellsBody bytes bodies

-- Core 1.0, 5.5.14, data section
abbrev pub SpellsSegment : List ℕ → Segment → Type 0
SpellsSegment bytes s =
    (memory : List ℕ) × (offset : List ℕ) × (content : List ℕ) × SpellsU32 memory s.memory × SpellsExpr offset s.offset
    × SpellsBytes content s.bytes × (bytes ≡ memory ++ (offset ++ content))

abbrev pub SpellsSegments : List ℕ → List Segment → Type 0
SpellsSegments bytes segments = SpellsVector SpellsSegment bytes segments
