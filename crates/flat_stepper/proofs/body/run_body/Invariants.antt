use Rattle.std.proofs.Common.{◌≤◌, ◌+◌, ◌-◌, ◌*◌, Bool, length}
use Rattle.flat_machine.specs.Flat.{Flat}
use Rattle.flat_machine.specs.Runs.{Runs}
use Rattle.flat_machine.specs.Shown.{moved}
use Rattle.flat_stepper.specs.Begun.{IsBegun}
use Rattle.flat_stepper.proofs.body.run_body.Given as goal

abbrev pub invariant-loop-instr : goal.invariant-loop-instr
invariant-loop-instr l = record {
  room : l.spot.sp + l.spot.opens ≤ length l.values;
  low : l.left ≤ l.fn.budget;
  runs : (flat : Flat) (has : Bool) → IsBegun l.fn.parts l.fn.map flat has l.fn.values l.fn.sp l.fn.at l.fn.outer l.fn.memory l.fn.globals →
      Runs l.fn.parts l.fn.map (l.fn.budget - l.left) flat (moved flat has l.values l.spot.sp l.memory l.globals l.spot.pc l.spot.opens);
}

abbrev pub decreases-loop-instr : goal.decreases-loop-instr
decreases-loop-instr l = l.left * (length l.within.code.now + 1) + (length l.within.code.now - l.spot.pc)
