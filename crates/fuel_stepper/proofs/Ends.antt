-- Where a stage is one at which the run is at its end.
use Rattle.std.proofs.Common.{◌≡◌, ◌↔◌, ℕ, ◌+◌, ◌≤◌, ap, ◌∙◌, arith, add-zero, Bool, true, false, List, Option, Some, IsTrue, refl, sym, subst}
use Rattle.host_port.specs.Standing.{State, IsAtEnd, state_of}
use Rattle.host_port.specs.Steps.{IsStep, StopsSo}
use Rattle.host_port.specs.declared.call.Call.{Call}
use Rattle.host_port.specs.declared.start.Start.{Start}
use Rattle.host_port.specs.declared.stop.Spent.{Spent}
use Rattle.host_port.specs.declared.stop.Spent.TheVariants as limit
use Rattle.host_port.specs.declared.stop.Stop.{Stop}
use Rattle.host_port.specs.declared.stop.Stop.TheVariants as stop
use Rattle.module_validator.specs.ValidModule.{ValidModule}
use Rattle.tree_machine.specs.Run.{at}
use Rattle.fuel_stepper.specs.declared.stage.End.{End}
use Rattle.fuel_stepper.specs.declared.stage.End.TheVariants as end
use Rattle.fuel_stepper.specs.declared.stage.Stage.{Stage}
use Rattle.fuel_stepper.specs.declared.stage.Stage.TheVariants as stage
use Rattle.fuel_stepper.specs.Stages.{stop_at, is_values, is_end, is_at_end, state_of_end, state_of_limit, state_of_stop}
use Rattle.fuel_stepper.specs.Life.{Life, StandsIn}
use Rattle.fuel_stepper.specs.laws.StandingLaws.{state_of_stage, state_is}

spent_at_end : (spent : Spent) → IsTrue (is_values spent) ↔ IsAtEnd (Some (state_of_limit spent))
spent_at_end limit.Fuel = (λ h. absurd (cc), λ h. absurd h)
spent_at_end limit.Frames = (λ h. absurd (cc), λ h. absurd (cc))
spent_at_end limit.Values = (λ h. refl, λ h. refl)
spent_at_end limit.Traffic = (λ h. absurd (cc), λ h. absurd (cc))

stop_at_end : (s : Stop) → IsTrue (is_end s) ↔ IsAtEnd (Some (state_of_stop s))
stop_at_end stop.Slice = (λ h. absurd (cc), λ h. absurd h)
stop_at_end (stop.Asks ask) = (λ h. absurd (cc), λ h. absurd h)
stop_at_end stop.Done = (λ h. tt, λ h. refl)
stop_at_end (stop.Trap trap) = (λ h. absurd (cc), λ h. absurd h)
stop_at_end (stop.Spent spent) = spent_at_end spent

end_at_end : (e : End) → IsTrue true ↔ IsAtEnd (Some (state_of_end e))
end_at_end end.Returned = (λ h. tt, λ h. refl)
end_at_end end.Overfull = (λ h. refl, λ h. refl)

stage_at_end : (s : Stage) → IsTrue (is_at_end s) ↔ IsAtEnd (Some (state_of_stage s))
stage_at_end stage.Ready = (λ h. absurd (cc), λ h. absurd h)
stage_at_end (stage.Asking ask) = (λ h. absurd (cc), λ h. absurd h)
stage_at_end (stage.Ended e) = end_at_end e
stage_at_end (stage.Over s) = stop_at_end s

-- the run in which an instance stands is at its end exactly where its stage says so
pub at_end : (valid : ValidModule) (start : Start) (calls : List Call) (fuel : ℕ) (life : Life) → StandsIn valid start calls fuel life →
    (result : Bool) → result ≡ is_at_end life.stage → IsTrue result ↔ IsAtEnd (state_of (at valid.parts start calls fuel))
at_end valid start calls fuel life stands result is =
    rw (state_is valid start calls fuel life stands, is) (stage_at_end life.stage)

end_stops : (e : End) (state : Option State) (now most budget : ℕ) → state ≡ Some (state_of_end e) → StopsSo (stop_at e) state now most 0 budget
end_stops end.Returned state now most budget is = is
end_stops end.Overfull state now most budget is = is

-- the next step tells the end, and executes nothing
pub tells_end : (valid : ValidModule) (start : Start) (calls : List Call) (fuel : ℕ) (life : Life) → StandsIn valid start calls fuel life →
    (e : End) → life.stage ≡ stage.Ended e → (budget : ℕ) (stopped : Stop) → stopped ≡ stop_at e →
    IsStep (at valid.parts start calls) start.limits.fuel fuel budget stopped 0
tells_end valid start calls fuel life stands e is budget stopped stopped_is =
    let kept : fuel + life.fuel_left ≡ start.limits.fuel = stands.kept in
    let state : state_of (at valid.parts start calls fuel) ≡ Some (state_of_end e) =
    state_is valid start calls fuel life stands ∙ ap (λ (x : Stage). Some (state_of_stage x)) is in
    record {
      within = omega arith;
      ready = λ k less some. absurd (omega (arith, less));
      fueled = omega arith;
      stops = rw (add-zero, stopped_is) (end_stops e _ fuel start.limits.fuel budget state);
    }
