-- What is seen of an instance, and the runs in which it stands.
use Rattle.std.specs.Prelude.{◌≡◌, ℕ, ◌+◌, List}
use Rattle.host_port.specs.Standing.{Ready, Asking}
use Rattle.host_port.specs.declared.call.Call.{Call}
use Rattle.host_port.specs.declared.start.Start.{Start}
use Rattle.wasm_form.specs.declared.parts.Parts.{Parts}
use Rattle.code_map.specs.declared.map.CodeMap.{CodeMap}
use Rattle.module_validator.specs.ValidModule.{ValidModule}
use Rattle.flat_machine.specs.Flat.{Flat}
use Rattle.flat_machine.specs.Stands.{Stands, IsIn, Awaits}
use Rattle.fuel_stepper.specs.declared.stage.Stage.{Stage}
use Rattle.fuel_stepper.specs.declared.stage.Stage.TheVariants as stage
use Rattle.fuel_stepper.specs.Stages.{state_of_end, state_of_stop}

-- the module, the machine, the fuel that is left, and the stage of the life
pub record Life : Type 0 where
  pub program : ValidModule
  pub machine : Flat
  pub fuel_left : ℕ
  pub stage : Stage

-- the machine stands in the run of its module where this stage says; where the run goes on the machine stands for it
abbrev pub StandsAt : Stage → Parts → CodeMap → Start → List Call → (fuel : ℕ) → Flat → Type 0
StandsAt stage.Ready m map start calls fuel flat =
    Stands m map start calls fuel flat × IsIn m start calls fuel Ready flat
StandsAt (stage.Asking ask) m map start calls fuel flat =
    Awaits m map start calls fuel ask flat × IsIn m start calls fuel (Asking ask) flat
StandsAt (stage.Ended end) m map start calls fuel flat = IsIn m start calls fuel (state_of_end end) flat
StandsAt (stage.Over stop) m map start calls fuel flat = IsIn m start calls fuel (state_of_stop stop) flat

-- the instance stands in the run of this module, started so, after these calls and with so much fuel burnt
pub record StandsIn (valid : ValidModule) (start : Start) (calls : List Call) (fuel : ℕ) (life : Life) : Type 0 where
  pub program : life.program ≡ valid
  pub kept : fuel + life.fuel_left ≡ start.limits.fuel
  pub at : StandsAt life.stage valid.parts valid.map start calls fuel life.machine

-- there is a run of its module in which it stands
pub record HasRun (life : Life) : Type 0 where
  pub start : Start
  pub calls : List Call
  pub fuel : ℕ
  pub stands : StandsIn life.program start calls fuel life
