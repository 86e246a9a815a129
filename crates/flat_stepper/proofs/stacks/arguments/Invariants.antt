use Rattle.std.proofs.Common.{◌≡◌, ◌+◌, ◌-◌, ◌++◌, length, reverse, take, replicate}
use Rattle.flat_machine.specs.Shown.{stack_of}
use Rattle.flat_stepper.proofs.stacks.arguments.Given as goal

abbrev pub invariant-loop-i : goal.invariant-loop-i
invariant-loop-i l =
    (length l.arguments ≡ 8) × (l.arguments ≡ reverse (take l.i (stack_of l.values (l.sp + l.i))) ++ replicate (8 - l.i) 0)
