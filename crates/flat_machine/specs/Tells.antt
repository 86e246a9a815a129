-- Which configurations the flat machine stands for. Before an end it stands for one whose innermost list is over:
-- passing the end changes that configuration, and not where the run stands.
use Rattle.std.specs.Prelude.{◌≡◌, ℕ, ◌+◌, pred, ⊤, List, [], ◌∷◌, length, slice_get, Some}
use Rattle.wasm_form.specs.declared.body.Body.{Body}
use Rattle.wasm_form.specs.declared.instr.Instr.{Instr}
use Rattle.wasm_form.specs.declared.parts.Parts.{Parts}
use Rattle.tree_machine.specs.Config.{Cont, Frame, Config}
use Rattle.tree_machine.specs.Outcomes.{Effect, Gives, Fails, Outcome, Goes, Traps}
use Rattle.flat_machine.specs.Flat.{Place, Flat}
use Rattle.flat_machine.specs.Text.{IsAt, ListsStand}
use Rattle.flat_machine.specs.Values.{all_values}

-- what is left of these lists stands at this place, in the code of its body
pub record LeftStands (m : Parts) (place : Place) (ks : List Cont) : Type 0 where
  pub body : Body
  pub is : slice_get m.bodies place.body ≡ Some body
  pub afters : List ℕ
  pub lists : ListsStand body.expr place.pc afters ks

-- how many blocks are open in these functions
abbrev pub opens_of : List Place → ℕ
opens_of [] = 0
opens_of (place ∷ callers) = place.opens

-- the function and its callers stand for the frames: its values lie on those of the frames below, and its open blocks
-- are counted on theirs
abbrev pub PlacesStand : Parts → List Place → List Frame → Type 0
PlacesStand m [] [] = ⊤
PlacesStand m [] (f ∷ below) = ⊥
PlacesStand m (place ∷ callers) [] = ⊥
PlacesStand m (place ∷ callers) (f ∷ below) =
    LeftStands m place f.conts × (place.base ≡ length (all_values below))
    × (place.opens ≡ opens_of callers + pred (length f.conts)) × PlacesStand m callers below

-- the flat machine stands for this configuration
pub record Tells (m : Parts) (flat : Flat) (c : Config) : Type 0 where
  pub values : flat.values ≡ all_values c.frames
  pub places : PlacesStand m (flat.place ∷ flat.callers) c.frames
  pub globals : flat.globals ≡ c.globals
  pub table : flat.table ≡ c.table
  pub memory : flat.memory ≡ c.memory
  pub invocations : flat.invocations ≡ c.invocations

-- this instruction stands at this place
abbrev pub IsInstrAt : Parts → Place → Instr → Type 0
IsInstrAt m place i = (body : Body) × (slice_get m.bodies place.body ≡ Some body) × IsAt body.expr place.pc i

-- behind the body's end the code is over
abbrev pub IsOver : Parts → Place → Type 0
IsOver m place = (body : Body) × (slice_get m.bodies place.body ≡ Some body) × (place.pc ≡ length body.expr.code)

-- the flat machine's effect is the trees' outcome: it goes on as R says, or has the same trap
abbrev pub Agrees : (R : Flat → Config → Type 0) → Effect Flat → Outcome → Type 0
Agrees R (Gives flat) (Goes c) = R flat c
Agrees R (Fails trap) (Traps other) = trap ≡ other
Agrees R effect outcome = ⊥
