-- The stages of an instance's life, and how they come from what a machine tells.
use Rattle.std.specs.Prelude.{Bool, true, false}
use Rattle.host_port.specs.Standing.{State, Ready, Asking, Finished, Trapped, Exhausted, Phase, Running, Owing, Over}
use Rattle.host_port.specs.declared.stop.Spent.{Spent}
use Rattle.host_port.specs.declared.stop.Spent.TheVariants as limit
use Rattle.host_port.specs.declared.stop.Stop.{Stop}
use Rattle.host_port.specs.declared.stop.Stop.TheVariants as stop
use Rattle.flat_machine.specs.declared.halt.Halt.{Halt}
use Rattle.flat_machine.specs.declared.halt.Halt.TheVariants as halt
use Rattle.fuel_stepper.specs.declared.stage.End.{End}
use Rattle.fuel_stepper.specs.declared.stage.End.TheVariants as end
use Rattle.fuel_stepper.specs.declared.stage.Stage.{Stage}
use Rattle.fuel_stepper.specs.declared.stage.Stage.TheVariants as stage

-- what a step tells of an end
abbrev pub stop_at : End → Stop
stop_at end.Returned = stop.Done
stop_at end.Overfull = stop.Spent limit.Values

-- where a life stands after a step that stopped so
abbrev pub stage_after : Stop → Stage
stage_after stop.Slice = stage.Ready
stage_after (stop.Asks ask) = stage.Asking ask
stage_after stop.Done = stage.Over stop.Done
stage_after (stop.Trap trap) = stage.Over (stop.Trap trap)
stage_after (stop.Spent spent) = stage.Over (stop.Spent spent)

-- where a life stands whose machine has made its exits and halted so
abbrev pub stage_behind : Halt → Stage
stage_behind halt.Slice = stage.Ready
stage_behind (halt.Asks ask) = stage.Asking ask
stage_behind (halt.Trap trap) = stage.Over (stop.Trap trap)
stage_behind (halt.Spent spent) = stage.Over (stop.Spent spent)
stage_behind halt.Overfull = stage.Ended end.Overfull
stage_behind halt.Ends = stage.Ended end.Returned

-- a slice has ended; where the budget reached for the next instruction, for want of fuel
abbrev pub slice_told : (reached : Bool) → Stop
slice_told true = stop.Spent limit.Fuel
slice_told false = stop.Slice

-- why a step stopped, whose machine halted so
abbrev pub told : Halt → (reached : Bool) → Stop
told halt.Slice reached = slice_told reached
told (halt.Asks ask) reached = stop.Asks ask
told (halt.Trap trap) reached = stop.Trap trap
told (halt.Spent spent) reached = stop.Spent spent
told halt.Overfull reached = stop.Spent limit.Values
told halt.Ends reached = stop.Done

-- the state of a run at an end
abbrev pub state_of_end : End → State
state_of_end end.Returned = Finished
state_of_end end.Overfull = Exhausted limit.Values

-- the state of a run that has passed a limit; for want of fuel it is refused its next instruction
abbrev pub state_of_limit : Spent → State
state_of_limit limit.Fuel = Ready
state_of_limit limit.Frames = Exhausted limit.Frames
state_of_limit limit.Values = Exhausted limit.Values
state_of_limit limit.Traffic = Exhausted limit.Traffic

-- the state of a run that stopped so
abbrev pub state_of_stop : Stop → State
state_of_stop stop.Slice = Ready
state_of_stop (stop.Asks ask) = Asking ask
state_of_stop stop.Done = Finished
state_of_stop (stop.Trap trap) = Trapped trap
state_of_stop (stop.Spent spent) = state_of_limit spent

-- what an engine may be told at a stage
abbrev pub phase_of : Stage → Phase
phase_of stage.Ready = Running
phase_of (stage.Asking ask) = Owing ask
phase_of (stage.Ended end) = Running
phase_of (stage.Over stop) = Over

-- values are the limit
abbrev pub is_values : Spent → Bool
is_values limit.Fuel = false
is_values limit.Frames = false
is_values limit.Values = true
is_values limit.Traffic = false

-- a run that stopped so is at its end, with nothing owed and no trap
abbrev pub is_end : Stop → Bool
is_end stop.Slice = false
is_end (stop.Asks ask) = false
is_end stop.Done = true
is_end (stop.Trap trap) = false
is_end (stop.Spent spent) = is_values spent

-- the run is at its end at this stage
abbrev pub is_at_end : Stage → Bool
is_at_end stage.Ready = false
is_at_end (stage.Asking ask) = false
is_at_end (stage.Ended end) = true
is_at_end (stage.Over stop) = is_end stop
