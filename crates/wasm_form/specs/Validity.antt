-- Which modules are valid: the rules of a module, and of its bodies (Core 1.0, 3.4).
use Rattle.std.specs.Prelude.{◌≡◌, ℕ, ◌<◌, ◌≤◌, ◌≢◌, ◌⊎◌, ⊤, false, List, [], length, map, All, AllPairs, slice_get, Some, MatchOption}
use Rattle.wasm_form.specs.declared.value_type.ValType.{ValType}
use Rattle.wasm_form.specs.declared.value_type.ValType.TheVariants.{I32}
use Rattle.wasm_form.specs.declared.types.FuncType.{FuncType}
use Rattle.wasm_form.specs.declared.types.Bounds.{Bounds}
use Rattle.wasm_form.specs.declared.types.GlobalType.{GlobalType}
use Rattle.wasm_form.specs.declared.instr.Instr.{Instr}
use Rattle.wasm_form.specs.declared.instr.Imm.TheVariants as imm
use Rattle.wasm_form.specs.declared.expr.Expr.{Expr}
use Rattle.wasm_form.specs.declared.body.Body.{Body}
use Rattle.wasm_form.specs.declared.parts.GlobalDef.{GlobalDef}
use Rattle.wasm_form.specs.declared.parts.ExportKind.{ExportKind}
use Rattle.wasm_form.specs.declared.parts.ExportKind.TheVariants as kind
use Rattle.wasm_form.specs.declared.parts.Export.{Export}
use Rattle.wasm_form.specs.declared.parts.Element.{Element}
use Rattle.wasm_form.specs.declared.parts.Segment.{Segment}
use Rattle.wasm_form.specs.declared.parts.Parts.{Parts}
use Rattle.wasm_form.specs.Trees.{Then, Empty, IsFlat}
use Rattle.wasm_form.specs.Context.{functions_of, tables_of, memories_of, imported_globals, globals_of, context_of}
use Rattle.wasm_form.specs.Typing.{IsConstant, IsTyped}

-- Core 1.0, 3.4.1, functions: of the module's own functions the one at this place is typed
pub record IsValidFunction (m : Parts) (place : ℕ) : Type 0 where
  pub index : ℕ
  pub ty : FuncType
  pub body : Body
  pub has_index : slice_get m.functions place ≡ Some index
  pub has_type : slice_get m.types index ≡ Some ty
  pub has_body : slice_get m.bodies place ≡ Some body
  pub typed : IsTyped (context_of m ty body.locals) body.expr ty.results

-- Core 1.0, 3.3.7, and 3.4.10 for globals, constant expressions: one constant, or one global.get of an imported constant global.
-- That the offset of a segment names an imported global alone is this project's own rule
abbrev pub IsConstantInstr : Parts → Instr → ValType → Type 0
IsConstantInstr m i t =
    IsConstant i t
    ⊎ ((x : ℕ) × (g : GlobalType) × (i.code ≡ 0x23) × (i.imm ≡ imm.Index x) × (slice_get (imported_globals m) x ≡ Some g)
    × (g.mutable ≡ false) × (g.ty ≡ t))

-- the expression is one such instruction, of this type
abbrev pub IsConstantExpr : Parts → Expr → ValType → Type 0
IsConstantExpr m e t = (i : Instr) × IsFlat e (Then i Empty) × IsConstantInstr m i t

-- the minimum is not above the maximum
abbrev pub IsLimits : Bounds → Type 0
IsLimits bounds = MatchOption bounds.max ⊤ (λ max. bounds.min ≤ max)

-- neither is above the limit
abbrev pub IsWithin : (limit : ℕ) → Bounds → Type 0
IsWithin limit bounds = (bounds.min ≤ limit) × MatchOption bounds.max ⊤ (λ max. max ≤ limit)

-- how many there are of what an export's index counts
abbrev pub count_of : Parts → ExportKind → ℕ
count_of m kind.Function = length (functions_of m)
count_of m kind.Table = length (tables_of m)
count_of m kind.Memory = length (memories_of m)
count_of m kind.Global = length (globals_of m)

-- 1. Core 1.0, 3.2.2: each function type has at most one result
abbrev pub HasSingleResults : Parts → Type 0
HasSingleResults m = All (λ (ty : FuncType). length ty.results ≤ 1) m.types

-- 2. Core 1.0, 3.4.1 and 3.4.9: each type index of an import or a function names a type
abbrev pub HasFunctionTypes : Parts → Type 0
HasFunctionTypes m = All (λ index. index < length m.types) (functions_of m)

-- 3. Core 1.0, 3.4.10: there is at most one table, imports included
abbrev pub HasOneTable : Parts → Type 0
HasOneTable m = length (tables_of m) ≤ 1

-- 4. Core 1.0, 3.4.10: there is at most one memory, imports included
abbrev pub HasOneMemory : Parts → Type 0
HasOneMemory m = length (memories_of m) ≤ 1

-- 5. Core 1.0, 3.2.1, 3.2.3 and 3.2.4: limits; of a memory at most 65,536 pages
pub record HasLimits (m : Parts) : Type 0 where
  pub tables : All IsLimits (tables_of m)
  pub memories : All IsLimits (memories_of m)
  pub pages : All (IsWithin 65536) (memories_of m)

-- 6. Core 1.0, 3.4.4: each global's expression is constant and of the global's type
abbrev pub HasConstantGlobals : Parts → Type 0
HasConstantGlobals m = All (λ (g : GlobalDef). IsConstantExpr m g.init g.ty.ty) m.globals

-- 7. Core 1.0, 3.4.8: each export's index is in range
abbrev pub HasExported : Parts → Type 0
HasExported m = All (λ (e : Export). e.index < count_of m e.kind) m.exports

-- 8. Core 1.0, 3.4.10: the export names are distinct
abbrev pub HasDistinctNames : Parts → Type 0
HasDistinctNames m = AllPairs (λ (a : List ℕ) b. a ≢ b) (map (λ (e : Export). e.name) m.exports)

-- the function is there, and takes and gives nothing
abbrev pub IsStart : Parts → (function : ℕ) → Type 0
IsStart m function =
    (index : ℕ) × (ty : FuncType) × (slice_get (functions_of m) function ≡ Some index) × (slice_get m.types index ≡ Some ty)
    × (ty.params ≡ []) × (ty.results ≡ [])

-- 9. Core 1.0, 3.4.7: the start function, where there is one, is there, and takes and gives nothing
abbrev pub HasStart : Parts → Type 0
HasStart m = MatchOption m.start ⊤ (λ function. IsStart m function)

-- the segment's table is there, its offset is constant, and its functions are there
pub record IsElement (m : Parts) (e : Element) : Type 0 where
  pub table : e.table < length (tables_of m)
  pub offset : IsConstantExpr m e.offset I32
  pub functions : All (λ function. function < length (functions_of m)) e.functions

-- 10. Core 1.0, 3.4.5: each element segment is valid
abbrev pub HasElements : Parts → Type 0
HasElements m = All (IsElement m) m.elements

-- the segment's memory is there, and its offset is constant
pub record IsSegment (m : Parts) (s : Segment) : Type 0 where
  pub memory : s.memory < length (memories_of m)
  pub offset : IsConstantExpr m s.offset I32

-- 11. Core 1.0, 3.4.6: each data segment is valid
abbrev pub HasSegments : Parts → Type 0
HasSegments m = All (IsSegment m) m.segments

-- the rules of a module, in their order
pub data ModuleRule : Type 0 where
  SingleResults : ModuleRule
  FunctionTypes : ModuleRule
  OneTable : ModuleRule
  OneMemory : ModuleRule
  Limits : ModuleRule
  ConstantGlobals : ModuleRule
  Exported : ModuleRule
  DistinctNames : ModuleRule
  Start : ModuleRule
  Elements : ModuleRule
  Segments : ModuleRule

-- the number of a rule
abbrev pub rule_number : ModuleRule → ℕ
rule_number SingleResults = 1
rule_number FunctionTypes = 2
rule_number OneTable = 3
rule_number OneMemory = 4
rule_number Limits = 5
rule_number ConstantGlobals = 6
rule_number Exported = 7
rule_number DistinctNames = 8
rule_number Start = 9
rule_number Elements = 10
rule_number Segments = 11

-- the module keeps the rule
abbrev pub Keeps : Parts → ModuleRule → Type 0
Keeps m SingleResults = HasSingleResults m
Keeps m FunctionTypes = HasFunctionTypes m
Keeps m OneTable = HasOneTable m
Keeps m OneMemory = HasOneMemory m
Keeps m Limits = HasLimits m
Keeps m ConstantGlobals = HasConstantGlobals m
Keeps m Exported = HasExported m
Keeps m DistinctNames = HasDistinctNames m
Keeps m Start = HasStart m
Keeps m Elements = HasElements m
Keeps m Segments = HasSegments m

-- the module keeps each rule
abbrev pub KeepsRules : Parts → Type 0
KeepsRules m = (rule : ModuleRule) → Keeps m rule

-- Core 1.0, 3.4.10, modules, of those without floats: the module keeps each rule, and each of its functions is typed
pub record IsValid (m : Parts) : Type 0 where
  pub rules : KeepsRules m
  pub functions : (place : ℕ) → place < length m.bodies → IsValidFunction m place
