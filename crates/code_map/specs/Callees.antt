-- What a call of each function enters, and the classes of types.
use Rattle.std.specs.Prelude.{◌≡◌, ◌≢◌, ℕ, ◌+◌, ◌<◌, List, length, filter_map, slice_get, sum_by, Some, Bool}
use Rattle.wasm_form.specs.declared.types.FuncType.{FuncType}
use Rattle.wasm_form.specs.declared.body.Body.{Body}
use Rattle.wasm_form.specs.declared.body.LocalRun.{LocalRun}
use Rattle.wasm_form.specs.declared.parts.Import.{Import}
use Rattle.wasm_form.specs.declared.parts.Parts.{Parts}
use Rattle.wasm_form.specs.Context.{function_of, functions_of}
use Rattle.code_map.specs.declared.callee.Callee.{Callee}
use Rattle.code_map.specs.declared.callee.Callee.TheVariants as callee
use Rattle.code_map.specs.Targets.{count_if}

-- the class of the type with this index: the least index of a type that is equal to it
pub record IsClass (types : List FuncType) (index class : ℕ) : Type 0 where
  pub equal : slice_get types class ≡ slice_get types index
  pub least : (lesser : ℕ) → lesser < class → slice_get types lesser ≢ slice_get types index

-- each type has its class
pub record AreClasses (types : List FuncType) (classes : List ℕ) : Type 0 where
  pub count : length classes ≡ length types
  pub each : (index class : ℕ) → slice_get classes index ≡ Some class → IsClass types index class

-- how many locals there are besides the parameters
abbrev pub locals_in : Body → ℕ
locals_in body = sum_by (λ (run : LocalRun). run.count) body.locals

-- the imported functions, by the indexes of their types
abbrev pub imported_of : Parts → List ℕ
imported_of m = filter_map (λ (i : Import). function_of i.what) m.imports

-- a function has so many parameters, gives a value or not, and its type, with this index, has this class
pub record HasShape (m : Parts) (index params : ℕ) (gives : Bool) (class : ℕ) : Type 0 where
  pub ty : FuncType
  pub found : slice_get m.types index ≡ Some ty
  pub parameters : length ty.params ≡ params
  pub results : length ty.results ≡ count_if gives
  pub classified : IsClass m.types index class

-- the function with this index, whose type has the index `index`, is this callee; the imported ones are these calls of
-- the host
abbrev pub IsCalleeOf : Parts → (calls : List ℕ) → (function index : ℕ) → Callee → Type 0
IsCalleeOf m calls function index (callee.Own body params locals gives class) =
    (function ≡ length (imported_of m) + body)
    × ((b : Body) × (slice_get m.bodies body ≡ Some b) × (locals ≡ locals_in b))
    × HasShape m index params gives class
IsCalleeOf m calls function index (callee.Host call params gives class) =
    (function < length (imported_of m)) × (slice_get calls function ≡ Some call) × HasShape m index params gives class

-- each function index has its callee
pub record AreCallees (m : Parts) (calls : List ℕ) (callees : List Callee) : Type 0 where
  pub count : length callees ≡ length (functions_of m)
  pub each : (function index : ℕ) (c : Callee) → slice_get (functions_of m) function ≡ Some index
      → slice_get callees function ≡ Some c → IsCalleeOf m calls function index c
