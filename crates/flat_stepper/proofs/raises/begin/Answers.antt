use Rattle.std.proofs.Common.{◌+◌, refl, rules, arith}
use Rattle.flat_stepper.proofs.Places.{branch_within}
use Rattle.flat_stepper.proofs.Raising.{begins, begin_full, shows}
use Rattle.flat_stepper.proofs.raises.begin.Goals as goal

pub returns-then-is_full-clause-steps : goal.returns-then-is_full-clause-steps
returns-then-is_full-clause-steps c memory globals m map flat has s = (begin_full m map flat has c.args.within.now c.args.instr.now c.args.values.now memory globals c.args.at s c.requires.code _ (c.is_full.ensures.full c.if-is_full.true), shows m map flat has c.args.within.now c.args.instr.now c.args.values.now memory globals c.args.at s)

pub overflow_add-result : goal.overflow_add-result
overflow_add-result c = let below = branch_within c.args.within.now c.args.instr.now c.args.values.now c.args.at c.requires.stands in search rules

pub returns-clause-steps : goal.returns-clause-steps
returns-clause-steps c memory globals m map flat has s =
    let room = c.is_full.ensures.room c.if-is_full.false in
    begins m map flat has c.args.within.now c.args.instr.now c.args.values.now memory globals c.args.at s c.requires.code (record { pc = c.args.at.pc + 1; sp = c.args.at.sp; opens = c.args.at.opens + 1 }) refl refl refl (omega arith)
