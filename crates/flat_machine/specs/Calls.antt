-- Calls of the module's functions: what they make of the flat machine, and what the map has to say of the function.
use Rattle.std.specs.Prelude.{◌≡◌, ℕ, ◌+◌, ◌-◌, Bool, List, [], ◌∷◌, ◌++◌, length, replicate, slice_get, Some}
use Rattle.wasm_form.specs.declared.body.Body.{Body}
use Rattle.wasm_form.specs.declared.parts.Parts.{Parts}
use Rattle.wasm_form.specs.Trees.{IsFlat, size}
use Rattle.code_map.specs.declared.body_map.BodyMap.{BodyMap}
use Rattle.code_map.specs.Targets.{count_if}
use Rattle.code_map.specs.Mapped.{Mapped}
use Rattle.code_map.specs.Maps.{body_label}
use Rattle.tree_machine.specs.Functions.{Function}
use Rattle.flat_machine.specs.Flat.{Place, Flat}
use Rattle.flat_machine.specs.Mapping.{HasResults}

-- the place of the next instruction
abbrev pub behind : Place → Place
behind place = record place { pc = place.pc + 1 }

-- A function with this body is entered: so many arguments lie on top, and are its first locals, and the others are 0.
-- The caller goes on behind the call.
abbrev pub enter_body : (body count locals : ℕ) → Flat → Flat
enter_body body count locals flat = record flat {
  values = replicate locals 0 ++ flat.values;
  place = record { pc = 0; body = body; base = length flat.values - count; opens = flat.place.opens };
  callers = behind flat.place ∷ flat.callers;
}

-- the function has its body at this place, with the text and the map of its code
pub record IsMappedFunction (m : Parts) (maps : List BodyMap) (function : Function) (place : ℕ) : Type 0 where
  pub results : HasResults m place (length function.ty.results)
  pub body : Body
  pub body_is : slice_get m.bodies place ≡ Some body
  pub flat : IsFlat body.expr function.code
  pub map : BodyMap
  pub map_is : slice_get maps place ≡ Some map
  pub gives : Bool
  pub gives_is : length function.ty.results ≡ count_if gives
  pub mapped : Mapped m map (body_label (size function.code) (length function.ty.params + function.locals) gives ∷ []) 0
      (length function.ty.params + function.locals) function.code
