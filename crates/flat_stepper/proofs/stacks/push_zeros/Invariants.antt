use Rattle.std.proofs.Common.{◌≡◌, ◌+◌, ◌++◌, replicate}
use Rattle.flat_machine.specs.Shown.{stack_of}
use Rattle.flat_stepper.proofs.stacks.push_zeros.Given as goal

abbrev pub invariant-loop-i : goal.invariant-loop-i
invariant-loop-i l = stack_of l.values (l.sp + l.i) ≡ replicate l.i 0 ++ stack_of l.initial.values l.sp
