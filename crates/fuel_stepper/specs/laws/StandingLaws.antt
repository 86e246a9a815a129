-- Where an instance stands there is a run.
use Rattle.std.proofs.Common.{◌≡◌, ℕ, List, Option, Some, option_map, refl, sym, ap, ◌∙◌, subst}
use Rattle.host_port.specs.Standing.{State, Ready, Asking, Running, Owing, MayStep, state_of}
use Rattle.host_port.specs.declared.ask.Ask.{Ask}
use Rattle.host_port.specs.declared.call.Call.{Call}
use Rattle.host_port.specs.declared.start.Start.{Start}
use Rattle.wasm_form.specs.declared.parts.Parts.{Parts}
use Rattle.code_map.specs.declared.map.CodeMap.{CodeMap}
use Rattle.linear_memory.specs.Contents.{Contents}
use Rattle.module_validator.specs.ValidModule.{ValidModule}
use Rattle.tree_machine.specs.Config.{Config, bytes_of}
use Rattle.tree_machine.specs.Point.{Point, point, shown}
use Rattle.tree_machine.specs.Run.{point_at, at}
use Rattle.flat_machine.specs.Flat.{Flat}
use Rattle.flat_machine.specs.Stands.{IsIn}
use Rattle.fuel_stepper.specs.declared.stage.End.{End}
use Rattle.fuel_stepper.specs.declared.stage.End.TheVariants as end
use Rattle.fuel_stepper.specs.declared.stage.Stage.{Stage}
use Rattle.fuel_stepper.specs.declared.stage.Stage.TheVariants as stage
use Rattle.fuel_stepper.specs.Stages.{state_of_end, state_of_stop, phase_of}
use Rattle.fuel_stepper.specs.Life.{Life, StandsAt, StandsIn}

-- the state of a run in which an instance is at this stage
abbrev pub state_of_stage : Stage → State
state_of_stage stage.Ready = Ready
state_of_stage (stage.Asking ask) = Asking ask
state_of_stage (stage.Ended end) = state_of_end end
state_of_stage (stage.Over stop) = state_of_stop stop

-- what a host sees of a run in this state with the machine's memory
abbrev Shows : Parts → Start → List Call → (fuel : ℕ) → State → Flat → Type 0
Shows m start calls fuel state flat =
    at m start calls fuel ≡ Some (record { state = state; memory = bytes_of flat.memory })

pub is_in_shows : (m : Parts) (start : Start) (calls : List Call) (fuel : ℕ) (state : State) (flat : Flat) →
    IsIn m start calls fuel state flat → Shows m start calls fuel state flat
unfolding at
is_in_shows m start calls fuel state flat here =
    ap (option_map shown) here.1
    ∙ ap (λ (memory : Option Contents). Some (record { state = state; memory = bytes_of memory })) here.2

-- the run in which an instance stands has the state of its stage, and the machine's memory
pub stage_is_in : (stage : Stage) (m : Parts) (map : CodeMap) (start : Start) (calls : List Call) (fuel : ℕ)
    (flat : Flat) →
    StandsAt stage m map start calls fuel flat → IsIn m start calls fuel (state_of_stage stage) flat
stage_is_in stage.Ready m map start calls fuel flat here = here.1
stage_is_in (stage.Asking ask) m map start calls fuel flat here = here.1
stage_is_in (stage.Ended end) m map start calls fuel flat here = here
stage_is_in (stage.Over stop) m map start calls fuel flat here = here

ended_may_step : (end : End) → MayStep (Some (state_of_end end))
ended_may_step end.Returned = tt
ended_may_step end.Overfull = refl

running_may_step : (stage : Stage) → phase_of stage ≡ Running → MayStep (Some (state_of_stage stage))
running_may_step stage.Ready running = tt
running_may_step (stage.Asking ask) running = absurd (cc)
running_may_step (stage.Ended end) running = ended_may_step end
running_may_step (stage.Over stop) running = absurd (cc)

owing_asks : (stage : Stage) (ask : Ask) → phase_of stage ≡ Owing ask → state_of_stage stage ≡ Asking ask
owing_asks stage.Ready ask owing = absurd (cc)
owing_asks (stage.Asking other) ask owing = let same : other ≡ ask = cc in ap Asking same
owing_asks (stage.Ended end) ask owing = absurd (cc)
owing_asks (stage.Over stop) ask owing = absurd (cc)

module _ (valid : ValidModule) (start : Start) (calls : List Call) (fuel : ℕ) (life : Life)
    (stands : StandsIn valid start calls fuel life) where
  pub shows : Shows valid.parts start calls fuel (state_of_stage life.stage) life.machine
  shows = is_in_shows valid.parts start calls fuel (state_of_stage life.stage) life.machine
      (stage_is_in life.stage valid.parts valid.map start calls fuel life.machine stands.at)

  -- there is a run, with the machine's memory
  pub shows_memory : (s : State)
      × (at valid.parts start calls fuel ≡ Some (record { state = s; memory = bytes_of life.machine.memory }))
  shows_memory = (state_of_stage life.stage, shows)

  -- it has the state of the stage
  pub state_is : state_of (at valid.parts start calls fuel) ≡ Some (state_of_stage life.stage)
  state_is = ap state_of shows

  -- an ask that is owed is the run's
  pub owes_its_ask : (ask : Ask) → phase_of life.stage ≡ Owing ask →
      state_of (at valid.parts start calls fuel) ≡ Some (Asking ask)
  owes_its_ask ask owing = state_is ∙ ap (λ (s : State). Some s) (owing_asks life.stage ask owing)

  -- where it may be told to step, the run may
  pub may_step : phase_of life.stage ≡ Running → MayStep (state_of (at valid.parts start calls fuel))
  may_step running = rw state_is (running_may_step life.stage running)
