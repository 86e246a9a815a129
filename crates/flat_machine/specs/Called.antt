-- Calls along the map of the module: what a call of any function makes of the flat machine, and one through the table.
use Rattle.std.specs.Prelude.{◌≡◌, ◌≢◌, ℕ, ◌+◌, ◌<◌, ◌≤◌, ◌⊎◌, List, [], ◌∷◌, length, take, drop, reverse, slice_get, Option, Some, None}
use Rattle.wasm_ops.specs.declared.trap.Trap.TheVariants as traps
use Rattle.host_port.specs.declared.stop.Spent.TheVariants as limit
use Rattle.wasm_form.specs.declared.types.FuncType.{FuncType}
use Rattle.wasm_form.specs.declared.parts.Parts.{Parts}
use Rattle.code_map.specs.declared.body_map.BodyMap.{BodyMap}
use Rattle.code_map.specs.declared.callee.Callee.{Callee}
use Rattle.code_map.specs.declared.callee.Callee.TheVariants as callee
use Rattle.code_map.specs.declared.map.CodeMap.{CodeMap}
use Rattle.code_map.specs.Targets.{count_if}
use Rattle.tree_machine.specs.Functions.{Host, callee_of}
use Rattle.tree_machine.specs.Config.{Config}
use Rattle.tree_machine.specs.Calls.{ask_of}
use Rattle.tree_machine.specs.Limits.{most_frames}
use Rattle.tree_machine.specs.Outcomes.{Outcome, Gives, Calls, Traps, Exceeds}
use Rattle.tree_machine.specs.Typed.{IsTyped}
use Rattle.flat_machine.specs.Flat.{Flat, goes_on}
use Rattle.flat_machine.specs.Tells.{Agrees}
use Rattle.flat_machine.specs.Mapping.{Follows}
use Rattle.flat_machine.specs.Calls.{enter_body}
use Rattle.flat_machine.specs.Waiting.{FollowsGiven}
use Rattle.flat_machine.specs.Moves.{class_of}

-- The host is asked for this call, with so many arguments, which lie on top, the last one first: they are taken, and
-- the machine waits behind the call for so many results.
pub record AsksHost (m : Parts) (maps : List BodyMap) (flat : Flat) (outcome : Outcome) (call params results : ℕ) :
    Type 0 where
  pub waits : Config
  pub asks : outcome ≡ Calls (ask_of call (reverse (take params flat.values))) results waits
  pub follows : FollowsGiven m maps results (goes_on (drop params flat.values) flat) waits
  pub index : ℕ
  pub ty : FuncType
  pub callee_is : callee_of m index ≡ Some (Host ty call)
  pub results_are : results ≡ length ty.results
  pub typed : IsTyped m (reverse ty.results) waits

-- a function with this body, so many parameters and so many other locals is entered where a frame is left
abbrev pub EntersOwn : Parts → List BodyMap → Flat → Outcome → (body params locals : ℕ) → Type 0
EntersOwn m maps flat outcome body params locals =
    ((length flat.callers + 2 ≤ most_frames)
    × Agrees (Follows m maps) (Gives (enter_body body params locals flat)) outcome)
    ⊎ ((most_frames < length flat.callers + 2) × (outcome ≡ Exceeds limit.Frames))

-- This callee is called: its arguments are there. A function of the module, whose body and its map are there, is
-- entered; or the host is asked, with no more arguments than an ask has.
abbrev pub Called : Parts → List BodyMap → Flat → Outcome → Callee → Type 0
Called m maps flat outcome (callee.Own body params locals gives class) =
    (params ≤ length flat.values) × (body < length m.bodies) × (body < length maps)
    × EntersOwn m maps flat outcome body params locals
Called m maps flat outcome (callee.Host call params gives class) =
    (params ≤ length flat.values) × (params ≤ 8) × AsksHost m maps flat outcome call params (count_if gives)

-- call
abbrev pub CallsIndex : Parts → CodeMap → Flat → Outcome → (index : ℕ) → Type 0
CallsIndex m map flat outcome index =
    (c : Callee) × (slice_get map.callees index ≡ Some c) × Called m map.bodies flat outcome c

-- A call of this element of the table, whose type is to be the one with the index `ty`: past the table's end it traps,
-- then where the element is unset, then where the classes differ.
abbrev pub CallsElement : Parts → CodeMap → Flat → Outcome → (ty : ℕ) → (element : Option (Option ℕ)) → Type 0
CallsElement m map flat outcome ty None = outcome ≡ Traps traps.TableBounds
CallsElement m map flat outcome ty (Some None) = outcome ≡ Traps traps.NoElement
CallsElement m map flat outcome ty (Some (Some function)) =
    (class : ℕ) × (c : Callee) × (slice_get map.classes ty ≡ Some class) × (slice_get map.callees function ≡ Some c)
    × (((class_of c ≢ class) × (outcome ≡ Traps traps.WrongType))
    ⊎ ((class_of c ≡ class) × Called m map.bodies flat outcome c))

-- call_indirect: the place in the table is taken from the top of the arguments
abbrev pub CallsThrough : Parts → CodeMap → Flat → Outcome → (ty : ℕ) → (values : List ℕ) → Type 0
CallsThrough m map flat outcome ty [] = ⊥
CallsThrough m map flat outcome ty (place ∷ below) =
    CallsElement m map (record flat { values = below }) outcome ty (slice_get flat.table place)
