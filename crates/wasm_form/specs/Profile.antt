-- The rules of the profile, which are this project's own; they are judged before validity.
use Rattle.std.specs.Prelude.{◌≡◌, ℕ, ◌+◌, ◌≤◌, ◌⊎◌, ⊤, false, List, ◌++◌, length, map, sum_by, All, slice_get, Option, Some, IsSome, MatchOption}
use Rattle.wasm_ops.specs.Table.{is_float}
use Rattle.wasm_form.specs.declared.value_type.ValType.{ValType}
use Rattle.wasm_form.specs.declared.value_type.ValType.TheVariants.{I32, I64}
use Rattle.wasm_form.specs.declared.types.FuncType.{FuncType}
use Rattle.wasm_form.specs.declared.types.Bounds.{Bounds}
use Rattle.wasm_form.specs.declared.instr.Instr.{Instr}
use Rattle.wasm_form.specs.declared.instr.Imm.{Imm}
use Rattle.wasm_form.specs.declared.instr.Imm.TheVariants as imm
use Rattle.wasm_form.specs.declared.expr.Expr.{Expr}
use Rattle.wasm_form.specs.declared.body.Body.{Body}
use Rattle.wasm_form.specs.declared.body.LocalRun.{LocalRun}
use Rattle.wasm_form.specs.declared.parts.Imported.{Imported}
use Rattle.wasm_form.specs.declared.parts.Imported.TheVariants as imported
use Rattle.wasm_form.specs.declared.parts.Import.{Import}
use Rattle.wasm_form.specs.declared.parts.GlobalDef.{GlobalDef}
use Rattle.wasm_form.specs.declared.parts.Element.{Element}
use Rattle.wasm_form.specs.declared.parts.Segment.{Segment}
use Rattle.wasm_form.specs.declared.parts.Parts.{Parts}
use Rattle.wasm_form.specs.Context.{tables_of, memories_of, globals_of}

-- what the host offers: the type of the function with this module name and this name, if there is one
abbrev pub Host : Type 0
Host = (module_name name : List ℕ) → Option FuncType

-- an integer type
abbrev pub IsInteger : ValType → Type 0
IsInteger t = (t ≡ I32) ⊎ (t ≡ I64)

-- the value type in these immediates, the result of a block, is an integer one
abbrev pub HasIntegerResult : Imm → Type 0
HasIntegerResult (imm.Block result) = MatchOption result ⊤ IsInteger
HasIntegerResult i = ⊤

-- the value type in what is imported, that of a global, is an integer one
abbrev pub IsIntegerImport : Imported → Type 0
IsIntegerImport (imported.Global global) = IsInteger global.ty
IsIntegerImport what = ⊤

-- it is no float instruction, and no block with a float result
abbrev pub IsFloatless : Instr → Type 0
IsFloatless i = (is_float i.code ≡ false) × HasIntegerResult i.imm

-- the expressions of a module
abbrev pub expressions_of : Parts → List Expr
expressions_of m =
    map (λ (g : GlobalDef). g.init) m.globals ++ map (λ (e : Element). e.offset) m.elements
    ++ map (λ (s : Segment). s.offset) m.segments ++ map (λ (b : Body). b.expr) m.bodies

-- 1. no f32 or f64 stands as a value type anywhere, and no instruction is a float one
pub record HasNoFloat (m : Parts) : Type 0 where
  pub params : All (λ (ty : FuncType). All IsInteger ty.params) m.types
  pub results : All (λ (ty : FuncType). All IsInteger ty.results) m.types
  pub imports : All (λ (i : Import). IsIntegerImport i.what) m.imports
  pub globals : All (λ (g : GlobalDef). IsInteger g.ty.ty) m.globals
  pub locals : All (λ (b : Body). All (λ (run : LocalRun). IsInteger run.ty) b.locals) m.bodies
  pub code : All (λ (e : Expr). All IsFloatless e.code) (expressions_of m)

-- what is imported is a function
abbrev pub IsFunction : Imported → Type 0
IsFunction (imported.Function ty) = ⊤
IsFunction what = ⊥

-- 2. every import is a function
abbrev pub ImportsFunctions : Parts → Type 0
ImportsFunctions m = All (λ (i : Import). IsFunction i.what) m.imports

-- 3. the host offers a function by the names of each import
abbrev pub ImportsOffered : Host → Parts → Type 0
ImportsOffered host m = All (λ (i : Import). IsSome (host i.«module» i.name)) m.imports

-- the type that an imported function names, where it names one, is the one that the host offers
abbrev pub HasHostType : Host → Parts → Import → Type 0
HasHostType host m i =
    (index : ℕ) (ty offered : FuncType) → i.what ≡ imported.Function index → slice_get m.types index ≡ Some ty
    → host i.«module» i.name ≡ Some offered → ty ≡ offered

-- 4. every imported function whose type index names a type has the type that the host offers
abbrev pub ImportsTyped : Host → Parts → Type 0
ImportsTyped host m = All (HasHostType host m) m.imports

-- 5. each memory's minimum is at most 1,024 pages
abbrev pub HasSmallMemories : Parts → Type 0
HasSmallMemories m = All (λ (bounds : Bounds). bounds.min ≤ 1024) (memories_of m)

-- 6. each table's minimum is at most 10,000 elements
abbrev pub HasSmallTables : Parts → Type 0
HasSmallTables m = All (λ (bounds : Bounds). bounds.min ≤ 10000) (tables_of m)

-- 7. each body whose type is there has at most 50,000 parameters and locals together
abbrev pub HasFewLocals : Parts → Type 0
HasFewLocals m =
    (place index : ℕ) (ty : FuncType) (body : Body) → slice_get m.functions place ≡ Some index → slice_get m.types index ≡ Some ty
    → slice_get m.bodies place ≡ Some body → length ty.params + sum_by (λ (run : LocalRun). run.count) body.locals ≤ 50000

-- 8. there are at most 10,000 globals
abbrev pub HasFewGlobals : Parts → Type 0
HasFewGlobals m = length (globals_of m) ≤ 10000

-- 9. each function type has at most 1,000 parameters
abbrev pub HasFewParameters : Parts → Type 0
HasFewParameters m = All (λ (ty : FuncType). length ty.params ≤ 1000) m.types

-- the rules of the profile, in their order
pub data ProfileRule : Type 0 where
  NoFloat : ProfileRule
  FunctionsAlone : ProfileRule
  Offered : ProfileRule
  TypedAsOffered : ProfileRule
  SmallMemories : ProfileRule
  SmallTables : ProfileRule
  FewLocals : ProfileRule
  FewGlobals : ProfileRule
  FewParameters : ProfileRule

-- the number of a rule
abbrev pub profile_number : ProfileRule → ℕ
profile_number NoFloat = 1
profile_number FunctionsAlone = 2
profile_number Offered = 3
profile_number TypedAsOffered = 4
profile_number SmallMemories = 5
profile_number SmallTables = 6
profile_number FewLocals = 7
profile_number FewGlobals = 8
profile_number FewParameters = 9

-- the module is within the rule
abbrev pub IsInside : Host → Parts → ProfileRule → Type 0
IsInside host m NoFloat = HasNoFloat m
IsInside host m FunctionsAlone = ImportsFunctions m
IsInside host m Offered = ImportsOffered host m
IsInside host m TypedAsOffered = ImportsTyped host m
IsInside host m SmallMemories = HasSmallMemories m
IsInside host m SmallTables = HasSmallTables m
IsInside host m FewLocals = HasFewLocals m
IsInside host m FewGlobals = HasFewGlobals m
IsInside host m FewParameters = HasFewParameters m

-- the module is within the profile
abbrev pub IsInProfile : Host → Parts → Type 0
IsInProfile host m = (rule : ProfileRule) → IsInside host m rule
