use Rattle.flat_stepper.proofs.StackFacts.{stack_push}
use Rattle.flat_stepper.proofs.stacks.push.Goals as goal

pub returns : goal.returns
returns c = stack_push c.args.values.now c.args.value c.args.sp c.requires
