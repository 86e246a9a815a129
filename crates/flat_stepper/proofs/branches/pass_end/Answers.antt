use Rattle.std.proofs.Common.{◌+◌, ◌-◌, refl}
use Rattle.flat_stepper.proofs.Passing.{end_opens, end_passes, body_passes}
use Rattle.flat_stepper.proofs.branches.pass_end.Goals as goal

pub overflow_sub-opens : goal.overflow_sub-opens
overflow_sub-opens c = end_opens c.args.within.now c.args.instr.now c.args.at c.requires.stands c.requires.code c.if-pc-within.true

pub returns-then-pc-within-clause-passes : goal.returns-then-pc-within-clause-passes
returns-then-pc-within-clause-passes c m map flat has values memory globals s =
    end_passes m map flat has c.args.within.now c.args.instr.now values memory globals c.args.at s c.requires.code c.if-pc-within.true (record { pc = c.args.at.pc + 1; sp = c.args.at.sp; opens = c.args.at.opens - 1 }) refl refl refl

pub returns-else-pc-within-clause-passes : goal.returns-else-pc-within-clause-passes
returns-else-pc-within-clause-passes c m map flat has values memory globals s =
    body_passes m map flat has c.args.within.now c.args.instr.now values memory globals c.args.at s c.requires.code c.if-pc-within.false (record { pc = c.args.at.pc + 1; sp = c.args.at.sp; opens = c.args.at.opens }) refl refl refl
