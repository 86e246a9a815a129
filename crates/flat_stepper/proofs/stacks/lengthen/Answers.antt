use Rattle.std.proofs.Common.{ℕ, ◌<◌, arith}
use Rattle.flat_stepper.proofs.StackFacts.{stack_same}
use Rattle.flat_stepper.proofs.stacks.lengthen.Goals as goal

pub returns-in-Ok-clause-kept : goal.returns-in-Ok-clause-kept
returns-in-Ok-clause-kept c = λ count within. stack_same _ _ count
    (λ k less. c.resize.ensures.by_index.0 k 0
    (omega (arith, c.min-longer.ensures, c.max.ensures, c.len-len.ensures, c.args.values.now.ok.0, c.requires.within, c.if-need-len.true))
    (omega (arith, c.args.values.now.ok.0)))
