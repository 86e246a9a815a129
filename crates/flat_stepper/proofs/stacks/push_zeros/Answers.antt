use Rattle.std.proofs.Common.{ℕ, ◌+◌, ◌≡◌, ap, arith}
use Rattle.flat_machine.specs.Shown.{stack_of}
use Rattle.flat_stepper.proofs.StackFacts.{zeros_more}
use Rattle.flat_stepper.proofs.stacks.push_zeros.Goals as goal

pub loop-i-init : goal.loop-i-init
loop-i-init c =
    let none : c.args.sp + 0 ≡ c.args.sp = omega arith in
    ap (λ (n : ℕ). stack_of c.args.values.now n) none

pub loop-i-preserved : goal.loop-i-preserved
loop-i-preserved c = zeros_more c.loop-i.values c.args.values.now c.args.sp c.loop-i.i (omega arith) c.loop-i.invariant
