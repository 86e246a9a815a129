-- How the lists that have begun in a function stand in the map of its body.
use Rattle.std.specs.Prelude.{◌≡◌, ℕ, ◌+◌, ◌<◌, ◌⊎◌, pred, ⊤, false, List, [], ◌∷◌, length, slice_get, Some}
use Rattle.wasm_form.specs.declared.types.FuncType.{FuncType}
use Rattle.wasm_form.specs.declared.expr.Expr.{Expr}
use Rattle.wasm_form.specs.declared.parts.Parts.{Parts}
use Rattle.wasm_form.specs.Trees.{LoopOf, end_instr, size}
use Rattle.code_map.specs.declared.target.Target.{Target}
use Rattle.code_map.specs.declared.body_map.BodyMap.{BodyMap}
use Rattle.code_map.specs.Targets.{count_if, HasTarget}
use Rattle.code_map.specs.Mapped.{Mapped}
use Rattle.tree_machine.specs.Config.{Label, Leave, Again, Cont, Frame, Config}
use Rattle.tree_machine.specs.Control.{result_count}
use Rattle.tree_machine.specs.Point.{settle}
use Rattle.tree_machine.specs.Typed.{IsTyped}
use Rattle.flat_machine.specs.Flat.{Place, Flat}
use Rattle.flat_machine.specs.Text.{IsAt}
use Rattle.flat_machine.specs.Values.{operands_with}
use Rattle.flat_machine.specs.Tells.{LeftStands, Tells}

-- a branch to the label leads here: behind the list, with its results; or to the loop, with nothing
abbrev pub LabelLeads : Target → (after : ℕ) → Label → Type 0
LabelLeads t after (Leave results) = (t.to ≡ after) × (results ≡ count_if t.carries)
LabelLeads t after (Again result inside) = (after ≡ t.to + 1 + size inside + 1) × (t.carries ≡ false)

-- how many results a list under this label leaves at its end
abbrev pub left_by : Label → ℕ
left_by (Leave results) = results
left_by (Again result inside) = result_count result

-- a loop that is executed again is mapped, before the rest of the list around it
abbrev pub LoopMapped : Parts → BodyMap → Target → (labels : List Target) → Label → List Cont → Type 0
LoopMapped m map t labels (Leave results) ks = ⊤
LoopMapped m map t labels (Again result inside) [] = ⊤
LoopMapped m map t labels (Again result inside) (k ∷ ks) =
    Mapped m map labels t.to t.height (LoopOf result inside k.rest)

-- What is left of a list of a function with so many locals is mapped from this place on, where so many values stand in
-- the function. The target of its label, `t`, is as high as what lies below the list. Where no end closes the list but
-- an else, that leads to the target as well.
pub record ListMapped (m : Parts) (map : BodyMap) (e : Expr) (locals : ℕ) (t : Target) (labels : List Target)
    (pc height after : ℕ) (k : Cont) (around : List Cont) : Type 0 where
  pub mapped : Mapped m map (t ∷ labels) pc height k.rest
  pub leads : LabelLeads t after k.label
  pub height_is : t.height ≡ locals + length (operands_with k.under around)
  pub opens_is : t.opens ≡ pred (length around)
  pub closes : IsAt e (pc + size k.rest) end_instr ⊎ (HasTarget map (pc + size k.rest) t × (t.to ≡ after))
  pub loops : LoopMapped m map t labels k.label around
  pub outermost : around ≡ [] → k.under ≡ []

-- what is left of the lists that have begun is mapped, each but the innermost from the place behind the list in it,
-- where that list's results stand
abbrev pub ListsMapped : Parts → BodyMap → Expr → (locals : ℕ) → (labels : List Target) → (pc height : ℕ) →
    (afters : List ℕ) → List Cont → Type 0
ListsMapped m map e locals [] pc height [] [] = ⊤
ListsMapped m map e locals (t ∷ labels) pc height (after ∷ afters) (k ∷ ks) =
    ListMapped m map e locals t labels pc height after k ks
    × ListsMapped m map e locals labels after (t.height + left_by k.label) afters ks
ListsMapped m map e locals labels pc height afters ks = ⊥

-- the function at this place is this frame, and mapped; so many results are to be given to it
pub record FrameMapped (m : Parts) (maps : List BodyMap) (given : ℕ) (place : Place) (f : Frame) : Type 0 where
  pub left : LeftStands m place f.conts
  pub map : BodyMap
  pub map_is : slice_get maps place.body ≡ Some map
  pub labels : List Target
  pub height : ℕ
  pub height_is : height ≡ given + length f.locals + length (operands_with f.operands f.conts)
  pub lists : ListsMapped m map left.body.expr (length f.locals) labels place.pc height left.afters f.conts

-- how many results a function with these lists gives; if they are over, it gives its operands
abbrev pub results_from : (operands : List ℕ) → List Cont → ℕ
results_from operands [] = length operands
results_from operands (k ∷ []) = left_by k.label
results_from operands (k ∷ d ∷ ks) = results_from operands (d ∷ ks)

-- the function with the body at this place gives so many results
abbrev pub HasResults : Parts → (body count : ℕ) → Type 0
HasResults m body count =
    (index : ℕ) × (ty : FuncType) × (slice_get m.functions body ≡ Some index) × (slice_get m.types index ≡ Some ty)
    × (length ty.results ≡ count)

-- a caller has lists that go on
abbrev pub Waits : List Frame → Type 0
Waits [] = ⊤
Waits (f ∷ below) = 0 < length f.conts

-- the function at work is mapped, and each caller, which waits for the results of the function that it called
abbrev pub PlacesMapped : Parts → List BodyMap → (given : ℕ) → List Place → List Frame → Type 0
PlacesMapped m maps given [] frames = ⊤
PlacesMapped m maps given (place ∷ callers) [] = ⊤
PlacesMapped m maps given (place ∷ callers) (f ∷ below) =
    FrameMapped m maps given place f
    × (HasResults m place.body (results_from f.operands f.conts) × Waits below
    × PlacesMapped m maps (results_from f.operands f.conts) callers below)

-- the callers of a function with this body, which gives them so many results
abbrev pub CallersMapped : Parts → List BodyMap → (body count : ℕ) → List Place → List Frame → Type 0
CallersMapped m maps body count callers below =
    HasResults m body count × Waits below × PlacesMapped m maps count callers below

-- the flat machine stands for this configuration, and the maps of the bodies lead it on
pub record Follows (m : Parts) (maps : List BodyMap) (flat : Flat) (c : Config) : Type 0 where
  pub tells : Tells m flat c
  pub mapped : PlacesMapped m maps 0 (flat.place ∷ flat.callers) c.frames

-- at this place the map of the body has this target
abbrev pub HasTargetAt : List BodyMap → Place → Target → Type 0
HasTargetAt maps place t = (map : BodyMap) × (slice_get maps place.body ≡ Some map) × HasTarget map place.pc t

-- the machine stands for a typed configuration at the same point of the run
pub record StandsOn (m : Parts) (maps : List BodyMap) (flat : Flat) (c : Config) : Type 0 where
  pub to : Config
  pub point : settle m to ≡ settle m c
  pub typed : IsTyped m [] to
  pub follows : Follows m maps flat to
