-- Functions that are entered one after another: what that makes of the flat machine.
use Rattle.std.specs.Prelude.{◌≡◌, ℕ, ◌+◌, ◌<◌, ◌≤◌, List, [], ◌++◌, length, replicate, reverse, slice_get, Option, Some}
use Rattle.host_port.specs.Standing.{State, Exhausted}
use Rattle.host_port.specs.declared.start.Start.{Start}
use Rattle.host_port.specs.declared.stop.Spent.TheVariants as limit
use Rattle.linear_memory.specs.Contents.{Contents}
use Rattle.wasm_form.specs.declared.body.Body.{Body}
use Rattle.wasm_form.specs.declared.parts.Parts.{Parts}
use Rattle.code_map.specs.declared.body_map.BodyMap.{BodyMap}
use Rattle.code_map.specs.declared.map.CodeMap.{CodeMap}
use Rattle.tree_machine.specs.Functions.{Function, own_function}
use Rattle.tree_machine.specs.Config.{Invocation, Config}
use Rattle.tree_machine.specs.Limits.{most_values}
use Rattle.tree_machine.specs.Point.{Point, settle}
use Rattle.tree_machine.specs.Typed.{IsTyped}
use Rattle.tree_machine.specs.Begin.{instance_of}
use Rattle.flat_machine.specs.Flat.{Flat}
use Rattle.flat_machine.specs.Mapping.{HasResults, Follows, StandsOn}
use Rattle.flat_machine.specs.MappedModule.{HasOwnCallee}

-- A function with this body is entered with these arguments, where no function is at work: they are its first locals,
-- the first of them lowest, and the others are 0. These functions are still to be entered.
abbrev pub enter_alone : (body locals : ℕ) → (arguments : List ℕ) → (rest : List Invocation) → Flat → Flat
enter_alone body locals arguments rest flat = record flat {
  values = replicate locals 0 ++ reverse arguments;
  place = record { pc = 0; body = body; base = 0; opens = 0 };
  callers = [];
  invocations = rest;
}

-- the run stands in this state, with this memory
pub record StandsIn (state : State) (memory : Option Contents) (p : Point) : Type 0 where
  pub state_is : p.state ≡ state
  pub memory_is : p.config.memory ≡ memory

-- The next function, which is the module's own, is entered in the machine, and that stands at the same point of the
-- run; where its locals are more than may be the run is exhausted, and the memory is as it was.
pub record EntersNext (m : Parts) (map : CodeMap) (flat : Flat) (c : Config) (i : Invocation) (rest : List Invocation) :
    Type 0 where
  pub function : Function
  pub own : own_function m i.function ≡ Some function
  pub callee : HasOwnCallee m map i.function function
  pub count : length i.arguments ≡ length function.ty.params
  pub enters : length function.ty.params + function.locals ≤ most_values
      → StandsOn m map.bodies (enter_alone callee.body function.locals i.arguments rest flat) c
  pub exceeds : most_values < length function.ty.params + function.locals
      → StandsIn (Exhausted limit.Values) flat.memory (settle m c)

-- The machine of an instance that begins: it stands behind the first body, as if that had been executed and had given
-- zeros, and no function is at work.
pub record Begins (m : Parts) (start : Start) (flat : Flat) : Type 0 where
  pub body : Body
  pub there : slice_get m.bodies 0 ≡ Some body
  pub place : flat.place ≡ record { pc = length body.expr.code; body = 0; base = 0; opens = 0 }
  pub callers : flat.callers ≡ []
  pub count : ℕ
  pub results : HasResults m 0 count
  pub values : flat.values ≡ replicate count 0
  pub globals : flat.globals ≡ (instance_of m start).globals
  pub table : flat.table ≡ (instance_of m start).table
  pub memory : flat.memory ≡ (instance_of m start).memory
  pub invocations : flat.invocations ≡ (instance_of m start).invocations

-- the machine stands for a typed configuration at this point of the run
pub record StandsFor (m : Parts) (maps : List BodyMap) (flat : Flat) (p : Point) : Type 0 where
  pub to : Config
  pub point : settle m to ≡ p
  pub typed : IsTyped m [] to
  pub follows : Follows m maps flat to
