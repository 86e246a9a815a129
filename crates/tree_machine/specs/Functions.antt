-- The functions of a module, as they are called (Core 1.0, 4.2.6).
use Rattle.std.specs.Prelude.{ℕ, ◌-◌, ◌&&◌, Bool, true, false, if◌then◌else◌, nat_lt, List, length, filter, sum_by, slice_get, Option, Some, None, is_some, option_and_then}
use Rattle.std.specs.Cmp.Lexicographic.{pointwise}
use Rattle.host_port.specs.HostTable.{Row, row_of_import}
use Rattle.wasm_form.specs.declared.value_type.ValType.{ValType}
use Rattle.wasm_form.specs.declared.value_type.ValType.TheVariants.{I32, I64, F32, F64}
use Rattle.wasm_form.specs.declared.types.FuncType.{FuncType}
use Rattle.wasm_form.specs.declared.body.Body.{Body}
use Rattle.wasm_form.specs.declared.body.LocalRun.{LocalRun}
use Rattle.wasm_form.specs.declared.parts.Import.{Import}
use Rattle.wasm_form.specs.declared.parts.Parts.{Parts}
use Rattle.wasm_form.specs.Trees.{Code}
use Rattle.wasm_form.specs.Context.{function_of}
use Rattle.tree_machine.specs.Trees.{tree_of}

-- a function that the module defines: its type, how many locals it has besides its parameters, and its body
pub record Function : Type 0 where
  pub ty : FuncType
  pub locals : ℕ
  pub code : Code

-- what is called: a function of the module, or a call of the host, by its number
pub data Callee : Type 0 where
  Own : (function : Function) → Callee
  Host : (ty : FuncType) (call : ℕ) → Callee

-- the type of what is called
abbrev pub type_of : Callee → FuncType
type_of (Own function) = function.ty
type_of (Host ty call) = ty

-- the imports that are functions
abbrev pub imported_functions : Parts → List Import
imported_functions m = filter (λ (i : Import). is_some (function_of i.what)) m.imports

-- the call of this type in this row of the host table
abbrev pub host_call : Option FuncType → Option Row → Option Callee
host_call (Some ty) (Some row) = Some (Host ty row.call)
host_call (Some ty) None = None
host_call None row = None

-- an imported function is the call that the host table has under the import's names
abbrev pub imported_callee : Parts → Import → Option Callee
imported_callee m i =
    host_call (option_and_then (slice_get m.types) (function_of i.what)) (row_of_import i.«module» i.name)

-- the function of this type with this body
abbrev pub function_with : Option FuncType → Option Body → Option Function
function_with (Some ty) (Some body) =
    Some (record { ty = ty; locals = sum_by (λ (run : LocalRun). run.count) body.locals; code = tree_of body.expr })
function_with (Some ty) None = None
function_with None body = None

-- the function at this place among those that the module defines
abbrev pub defined_function : Parts → (place : ℕ) → Option Function
defined_function m place =
    function_with (option_and_then (slice_get m.types) (slice_get m.functions place)) (slice_get m.bodies place)

-- the function with this index, if the module defines it
unfoldable pub own_function : Parts → (index : ℕ) → Option Function
own_function m index =
    if nat_lt index (length (imported_functions m)) then None
    else defined_function m (index - length (imported_functions m))

abbrev pub owned : Option Function → Option Callee
owned None = None
owned (Some function) = Some (Own function)

-- Core 1.0, 2.5.1, indices: what is called under this index; the imported functions come first
unfoldable pub callee_of : Parts → (index : ℕ) → Option Callee
callee_of m index =
    if nat_lt index (length (imported_functions m))
    then option_and_then (imported_callee m) (slice_get (imported_functions m) index)
    else owned (own_function m index)

-- two value types are the same
abbrev pub same_value_type : ValType → ValType → Bool
same_value_type I32 I32 = true
same_value_type I64 I64 = true
same_value_type F32 F32 = true
same_value_type F64 F64 = true
same_value_type a b = false

-- two function types have the same parameters and the same results
abbrev pub same_type : FuncType → FuncType → Bool
same_type a b = pointwise same_value_type a.params b.params && pointwise same_value_type a.results b.results
