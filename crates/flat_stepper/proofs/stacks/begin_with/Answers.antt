use Rattle.std.proofs.Common.{arith}
use Rattle.flat_stepper.proofs.StackFacts.{begun_more}
use Rattle.flat_stepper.proofs.stacks.begin_with.Goals as goal

pub loop-i-preserved : goal.loop-i-preserved
loop-i-preserved c = begun_more c.loop-i.values c.args.arguments.now c.loop-i.i (omega arith) (omega arith) c.loop-i.invariant
