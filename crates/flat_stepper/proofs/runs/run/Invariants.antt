use Rattle.std.proofs.Common.{◌≤◌, ◌-◌}
use Rattle.flat_machine.specs.Runs.{Runs}
use Rattle.flat_stepper.specs.States.{flat_of, IsSound}
use Rattle.flat_stepper.specs.Outcomes.{weight}
use Rattle.flat_stepper.proofs.runs.run.Given as goal

abbrev pub invariant-loop-halt : goal.invariant-loop-halt
invariant-loop-halt l = IsSound l.state × (l.executed ≤ l.budget) × Runs l.parts l.map l.executed (flat_of l.initial.state) (flat_of l.state)

abbrev pub decreases-loop-halt : goal.decreases-loop-halt
decreases-loop-halt l = weight (l.budget - l.executed) l.state
