use Rattle.std.proofs.Common.{◌≡◌, reverse, take}
use Rattle.flat_machine.specs.Shown.{stack_of}
use Rattle.flat_stepper.proofs.stacks.begin_with.Given as goal

abbrev pub invariant-loop-i : goal.invariant-loop-i
invariant-loop-i l = stack_of l.values l.i ≡ reverse (take l.i l.arguments)
