use Rattle.std.proofs.Common.{arith, ◌∙◌}
use Rattle.std.proofs.lemmas.List.{length-set}
use Rattle.flat_stepper.proofs.StackFacts.{arguments_more}
use Rattle.flat_stepper.proofs.stacks.arguments.Goals as goal

pub loop-i-preserved : goal.loop-i-preserved
loop-i-preserved c =
    (length-set c.loop-i.arguments c.loop-i.i _ ∙ c.loop-i.invariant.0, arguments_more c.args.values.now c.loop-i.arguments c.args.sp c.loop-i.i (omega arith) c.loop-i.invariant.1)
