use Rattle.flat_stepper.proofs.StackFacts.{carried_down}
use Rattle.flat_stepper.proofs.stacks.carry_down.Goals as goal

pub returns-then-carries-clause-values : goal.returns-then-carries-clause-values
returns-then-carries-clause-values c =
    let above = rw c.if-carries.true at c.requires.above in
    rw c.if-carries.true (carried_down c.args.values.now c.args.base c.args.sp above c.requires.there)
