-- What the laws of the flat machine ask of a module and of the map of its code, and what the map has for each function.
use Rattle.std.specs.Prelude.{◌≡◌, ℕ, ◌+◌, Bool, List, length, filter_map, All, slice_get, Option, Some, option_map, option_and_then}
use Rattle.host_port.specs.HostTable.{Row, row_of, row_of_import}
use Rattle.wasm_form.specs.declared.types.FuncType.{FuncType}
use Rattle.wasm_form.specs.declared.body.Body.{Body}
use Rattle.wasm_form.specs.declared.parts.Import.{Import}
use Rattle.wasm_form.specs.declared.parts.Parts.{Parts}
use Rattle.wasm_form.specs.Context.{function_of}
use Rattle.wasm_form.specs.Matching.{IsTree}
use Rattle.wasm_form.specs.Validity.{HasSingleResults}
use Rattle.code_map.specs.declared.callee.Callee.TheVariants as callee
use Rattle.code_map.specs.declared.map.CodeMap.{CodeMap}
use Rattle.code_map.specs.Callees.{imported_of, IsClass}
use Rattle.code_map.specs.Maps.{IsMapOf}
use Rattle.code_map.specs.Targets.{count_if}
use Rattle.tree_machine.specs.Functions.{Function, Host, callee_of}
use Rattle.tree_machine.specs.Typed.{offered_type}
use Rattle.flat_machine.specs.Calls.{IsMappedFunction}

-- the imported functions are these calls of the host, in order
abbrev pub AreTheCalls : Parts → (calls : List ℕ) → Type 0
AreTheCalls m calls =
    (index : ℕ) (ty : FuncType) (call : ℕ) → callee_of m index ≡ Some (Host ty call) → slice_get calls index ≡ Some call

-- the call of the host that an import is: where it is a function, the number that the host table has under its names
abbrev pub imported_call : Import → Option ℕ
imported_call i =
    option_and_then (λ (ty : ℕ). option_map (λ (row : Row). row.call) (row_of_import i.«module» i.name))
    (function_of i.what)

-- those of a module, in order
abbrev pub imported_calls : Parts → List ℕ
imported_calls m = filter_map imported_call m.imports

-- each imported function has the type that the host table gives its call
abbrev pub AreOffered : Parts → Type 0
AreOffered m =
    (index : ℕ) (ty : FuncType) (call : ℕ) → callee_of m index ≡ Some (Host ty call)
    → (row : Row) × (row_of call ≡ Some row) × (ty ≡ offered_type row)

-- each body of the module is a tree, its types have single results, its calls of the host are those of the host table,
-- and this is the map of its code
pub record IsMappedModule (m : Parts) (map : CodeMap) : Type 0 where
  pub results : HasSingleResults m
  pub counts : length m.functions ≡ length m.bodies
  pub trees : All (λ (b : Body). IsTree b.expr) m.bodies
  pub hosts : AreOffered m
  pub calls : List ℕ
  pub calls_are : AreTheCalls m calls
  pub mapped : IsMapOf m calls map

-- the type is one of the module's, of this class
abbrev pub HasClass : Parts → FuncType → (class : ℕ) → Type 0
HasClass m ty class = (index : ℕ) × (slice_get m.types index ≡ Some ty) × IsClass m.types index class

-- under the index of this function the map has its body, and how many parameters and other locals it has
pub record HasOwnCallee (m : Parts) (map : CodeMap) (index : ℕ) (function : Function) : Type 0 where
  pub body : ℕ
  pub gives : Bool
  pub class : ℕ
  pub there : slice_get map.callees index
      ≡ Some (callee.Own body (length function.ty.params) function.locals gives class)
  pub place : index ≡ length (imported_of m) + body
  pub results : length function.ty.results ≡ count_if gives
  pub classed : HasClass m function.ty class
  pub mapped : IsMappedFunction m map.bodies function body

-- under this index the map has the call of the host, and how many parameters it has
pub record HasHostCallee (m : Parts) (map : CodeMap) (index : ℕ) (ty : FuncType) (call : ℕ) : Type 0 where
  pub gives : Bool
  pub class : ℕ
  pub there : slice_get map.callees index ≡ Some (callee.Host call (length ty.params) gives class)
  pub results : length ty.results ≡ count_if gives
  pub classed : HasClass m ty class
