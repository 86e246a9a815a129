-- When a code map is the map of a module.
use Rattle.std.specs.Prelude.{◌≡◌, ℕ, ◌+◌, List, [], ◌∷◌, length, slice_get, Some, Bool}
use Rattle.wasm_form.specs.declared.types.FuncType.{FuncType}
use Rattle.wasm_form.specs.declared.body.Body.{Body}
use Rattle.wasm_form.specs.declared.expr.Expr.{Expr}
use Rattle.wasm_form.specs.declared.parts.Parts.{Parts}
use Rattle.wasm_form.specs.Trees.{Code, IsFlat, size}
use Rattle.wasm_form.specs.Matching.{HasPlain}
use Rattle.code_map.specs.declared.target.Target.{Target}
use Rattle.code_map.specs.declared.body_map.BodyMap.{BodyMap}
use Rattle.code_map.specs.declared.map.CodeMap.{CodeMap}
use Rattle.code_map.specs.Targets.{target, count_if}
use Rattle.code_map.specs.Mapped.{Mapped}
use Rattle.code_map.specs.Callees.{locals_in, AreClasses, AreCallees}

-- the label of a body of so many instructions: behind its end, over the function's locals
abbrev pub body_label : (size locals : ℕ) → (gives : Bool) → Target
body_label size locals gives = target (size + 1) locals 0 gives

-- the expression of a body over so many locals, which gives a value or not, is mapped: whatever tree it is
abbrev pub IsMapped : Parts → (locals : ℕ) → (gives : Bool) → Expr → BodyMap → Type 0
IsMapped m locals gives e map =
    (tree : Code) → HasPlain tree → IsFlat e tree
    → Mapped m map (body_label (size tree) locals gives ∷ []) 0 locals tree

-- the map is that of the body at this place: of the function's parameters and other locals, and its result
abbrev pub IsBodyMap : Parts → (place : ℕ) → BodyMap → Type 0
IsBodyMap m place map =
    (index : ℕ) (ty : FuncType) (body : Body) (gives : Bool) → slice_get m.functions place ≡ Some index
    → slice_get m.types index ≡ Some ty → slice_get m.bodies place ≡ Some body → length ty.results ≡ count_if gives
    → IsMapped m (length ty.params + locals_in body) gives body.expr map

-- each body has its map
pub record AreBodyMaps (m : Parts) (maps : List BodyMap) : Type 0 where
  pub count : length maps ≡ length m.bodies
  pub each : (place : ℕ) (map : BodyMap) → slice_get maps place ≡ Some map → IsBodyMap m place map

-- the map of the module whose imported functions are these calls of the host
pub record IsMapOf (m : Parts) (calls : List ℕ) (map : CodeMap) : Type 0 where
  pub bodies : AreBodyMaps m map.bodies
  pub callees : AreCallees m calls map.callees
  pub classes : AreClasses m.types map.classes
