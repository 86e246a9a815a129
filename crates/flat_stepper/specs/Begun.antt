-- Where the execution of a body begins.
use Rattle.std.specs.Prelude.{◌≡◌, ℕ, List, Bool}
use Rattle.linear_memory.specs.Contents.{Contents}
use Rattle.wasm_form.specs.declared.parts.Parts.{Parts}
use Rattle.code_map.specs.declared.map.CodeMap.{CodeMap}
use Rattle.flat_machine.specs.Flat.{Flat}
use Rattle.flat_machine.specs.Tells.{opens_of}
use Rattle.flat_machine.specs.Runs.{IsSafe}
use Rattle.flat_machine.specs.Shown.{IsShown}
use Rattle.flat_stepper.specs.declared.place.Place.{Place}
use Rattle.flat_stepper.specs.Places.{place_of}

-- the machine stands at this place, with so many blocks open in the callers, is shown by these values, and is never
-- stuck
pub record IsBegun (m : Parts) (map : CodeMap) (flat : Flat) (has : Bool) (values : List ℕ) (sp : ℕ) (at : Place)
    (outer : ℕ) (memory : Contents) (globals : List ℕ) : Type 0 where
  pub shown : IsShown flat has values sp at.base memory globals
  pub place_is : flat.place ≡ place_of at
  pub outer_is : opens_of flat.callers ≡ outer
  pub safe : IsSafe m map flat
