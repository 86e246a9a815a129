-- What a halt of the machine makes of an instance.
use Rattle.std.proofs.Common.{◌≡◌, inl, inr, ℕ, ◌+◌, ◌<◌, ◌≤◌, Bool, true, false, nat_lt, min, List, Option, Some, refl, sym, ap, ◌∙◌, subst, arith}
use Rattle.std.proofs.lemmas.Bool.Decides.{nat_tests}
use Rattle.host_port.specs.Standing.{State, Standing, Ready, Exhausted, Running, state_of}
use Rattle.host_port.specs.Steps.{StopsSo}
use Rattle.host_port.specs.declared.call.Call.{Call}
use Rattle.host_port.specs.declared.start.Start.{Start}
use Rattle.host_port.specs.declared.stop.Spent.{Spent}
use Rattle.host_port.specs.declared.stop.Spent.TheVariants as limit
use Rattle.host_port.specs.declared.stop.Stop.TheVariants as stop
use Rattle.wasm_form.specs.declared.parts.Parts.{Parts}
use Rattle.code_map.specs.declared.map.CodeMap.{CodeMap}
use Rattle.tree_machine.specs.Run.{at}
use Rattle.flat_machine.specs.declared.halt.Halt.{Halt}
use Rattle.flat_machine.specs.declared.halt.Halt.TheVariants as halt
use Rattle.flat_machine.specs.Flat.{Flat}
use Rattle.flat_machine.specs.Halts.{HaltsSo}
use Rattle.flat_machine.specs.Stands.{IsIn, HaltStands}
use Rattle.fuel_stepper.specs.declared.stage.Stage.TheVariants as stage
use Rattle.fuel_stepper.specs.Stages.{stage_after, stage_behind, slice_told, told, state_of_limit, phase_of}
use Rattle.fuel_stepper.specs.Life.{StandsAt}
use Rattle.fuel_stepper.specs.laws.StandingLaws.{is_in_shows}
use Rattle.fuel_stepper.proofs.Passed.{IsCounted, exceeds_counted}

module _ (m : Parts) (map : CodeMap) (start : Start) (calls : List Call) where
  -- where no instruction was to be executed, an instruction is to come, or the run has ended
  pub behind_stands : (reason : Halt) (fuel executed : ℕ) (from to : Flat) → HaltsSo m map reason 0 executed from to → executed ≤ 0 →
      HaltStands m map start calls fuel reason to →
      StandsAt (stage_behind reason) m map start calls fuel to × (phase_of (stage_behind reason) ≡ Running)
  behind_stands halt.Slice fuel executed from to halts none stands = (stands, refl)
  behind_stands (halt.Asks ask) fuel executed from to halts none stands = let one = halts.2.count_is in absurd (omega arith)
  behind_stands (halt.Trap trap) fuel executed from to halts none stands = let one = halts.1.count_is in absurd (omega arith)
  behind_stands (halt.Spent spent) fuel executed from to halts none stands = let one = halts.1.count_is in absurd (omega arith)
  behind_stands halt.Overfull fuel executed from to halts none stands = (stands, refl)
  behind_stands halt.Ends fuel executed from to halts none stands = (stands, refl)

  spent_stands : (spent : Spent) (fuel : ℕ) (to : Flat) → IsCounted spent → IsIn m start calls fuel (Exhausted spent) to →
      IsIn m start calls fuel (state_of_limit spent) to
  spent_stands limit.Frames fuel to counted here = here
  spent_stands limit.Values fuel to counted here = here
  spent_stands limit.Fuel fuel to (inl e) here = absurd (cc)
  spent_stands limit.Fuel fuel to (inr e) here = absurd (cc)
  spent_stands limit.Traffic fuel to (inl e) here = absurd (cc)
  spent_stands limit.Traffic fuel to (inr e) here = absurd (cc)

  -- the stage after a step
  pub told_stands : (reason : Halt) (reached : Bool) (fuel budget executed : ℕ) (from to : Flat) →
      HaltsSo m map reason budget executed from to → HaltStands m map start calls fuel reason to →
      StandsAt (stage_after (told reason reached)) m map start calls fuel to
  told_stands halt.Slice true fuel budget executed from to halts stands = stands.1
  told_stands halt.Slice false fuel budget executed from to halts stands = stands
  told_stands (halt.Asks ask) reached fuel budget executed from to halts stands = stands
  told_stands (halt.Trap trap) reached fuel budget executed from to halts stands = stands
  told_stands (halt.Spent spent) reached fuel budget executed from to halts stands =
      spent_stands spent fuel to (exceeds_counted m map halts.0 spent halts.1.last_is) stands
  told_stands halt.Overfull reached fuel budget executed from to halts stands = stands
  told_stands halt.Ends reached fuel budget executed from to halts stands = stands

  shown_state : (fuel : ℕ) (state : State) (to : Flat) → IsIn m start calls fuel state to → state_of (at m start calls fuel) ≡ Some state
  shown_state fuel state to here = ap state_of (is_in_shows m start calls fuel state to here)

  spent_stops : (spent : Spent) (now most used budget : ℕ) → IsCounted spent → state_of (at m start calls now) ≡ Some (Exhausted spent) →
      StopsSo (stop.Spent spent) (state_of (at m start calls now)) now most used budget
  spent_stops limit.Frames now most used budget counted is = is
  spent_stops limit.Values now most used budget counted is = is
  spent_stops limit.Fuel now most used budget (inl e) is = absurd (cc)
  spent_stops limit.Fuel now most used budget (inr e) is = absurd (cc)
  spent_stops limit.Traffic now most used budget (inl e) is = absurd (cc)
  spent_stops limit.Traffic now most used budget (inr e) is = absurd (cc)

  slice_stops : (reached : Bool) (state : Option State) (fuel left most used budget : ℕ) → reached ≡ nat_lt used budget →
      used ≡ min budget left → fuel + left ≡ most → state ≡ Some Ready → StopsSo (slice_told reached) state (fuel + used) most used budget
  slice_stops true state fuel left most used budget reached count kept is =
      let less : used < budget = grind (arith, nat_tests) in
      (is, omega arith, omega arith)
  slice_stops false state fuel left most used budget reached count kept is =
      let more : budget ≤ used = grind (arith, nat_tests) in
      (is, omega arith)

  -- what a step tells
  pub told_stops : (reason : Halt) (reached : Bool) (fuel left most used budget : ℕ) (from to : Flat) → reached ≡ nat_lt used budget →
      fuel + left ≡ most → HaltsSo m map reason (min budget left) used from to → HaltStands m map start calls (fuel + used) reason to →
      StopsSo (told reason reached) (state_of (at m start calls (fuel + used))) (fuel + used) most used budget
  told_stops halt.Slice reached fuel left most used budget from to is kept halts stands =
      slice_stops reached _ fuel left most used budget is halts.0 kept (shown_state (fuel + used) Ready to stands.1)
  told_stops (halt.Asks ask) reached fuel left most used budget from to is kept halts stands = shown_state (fuel + used) _ to stands.1
  told_stops (halt.Trap trap) reached fuel left most used budget from to is kept halts stands = shown_state (fuel + used) _ to stands
  told_stops (halt.Spent spent) reached fuel left most used budget from to is kept halts stands =
      spent_stops spent (fuel + used) most used budget (exceeds_counted m map halts.0 spent halts.1.last_is) (shown_state (fuel + used) _ to stands)
  told_stops halt.Overfull reached fuel left most used budget from to is kept halts stands = shown_state (fuel + used) _ to stands
  told_stops halt.Ends reached fuel left most used budget from to is kept halts stands = shown_state (fuel + used) _ to stands
