use Rattle.std.proofs.Common.{◌+◌, ◌-◌, refl, rules, arith}
use Rattle.flat_stepper.proofs.Branching.{can_choose, choose_finds, choose_low, choose_skips, choose_begins}
use Rattle.flat_stepper.proofs.Places.{branch_within}
use Rattle.flat_stepper.proofs.branches.choose.Goals as goal

pub overflow_sub-sp : goal.overflow_sub-sp
overflow_sub-sp c = let one = can_choose c.args.within.now c.args.instr.now c.args.values.now c.args.at c.requires.stands c.requires.code in omega arith

pub bounds-values-sp : goal.bounds-values-sp
bounds-values-sp c = let one = can_choose c.args.within.now c.args.instr.now c.args.values.now c.args.at c.requires.stands c.requires.code in omega arith

pub target-to-requires : goal.target-to-requires
target-to-requires c = choose_finds c.args.within.now c.args.instr.now c.args.values.now c.args.at c.requires.stands c.requires.code

pub overflow_add-result : goal.overflow_add-result
overflow_add-result c = let low = choose_low c.args.within.now c.args.instr.now c.args.values.now c.args.at c.requires.stands c.requires.code c.target-to.result c.target-to.ensures in omega arith

pub returns-then-values-sp-eq0-clause-room : goal.returns-then-values-sp-eq0-clause-room
returns-then-values-sp-eq0-clause-room c =
    let one = can_choose c.args.within.now c.args.instr.now c.args.values.now c.args.at c.requires.stands c.requires.code in
    let low = choose_low c.args.within.now c.args.instr.now c.args.values.now c.args.at c.requires.stands c.requires.code c.target-to.result c.target-to.ensures in
    omega arith

pub returns-then-values-sp-eq0-clause-steps : goal.returns-then-values-sp-eq0-clause-steps
returns-then-values-sp-eq0-clause-steps c memory globals m map flat has s =
    let one = can_choose c.args.within.now c.args.instr.now c.args.values.now c.args.at c.requires.stands c.requires.code in
    let low = choose_low c.args.within.now c.args.instr.now c.args.values.now c.args.at c.requires.stands c.requires.code c.target-to.result c.target-to.ensures in
    choose_skips m map flat has c.args.within.now c.args.instr.now c.args.values.now memory globals c.args.at s c.requires.code (c.args.at.sp - 1) (omega arith) c.if-values-sp-eq0.true c.target-to.result c.target-to.ensures
    (record { pc = c.target-to.result.to; sp = c.args.at.sp - 1; opens = c.args.within.now.outer + c.target-to.result.opens }) refl refl refl (omega arith)

pub overflow_add-result-2 : goal.overflow_add-result-2
overflow_add-result-2 c = let below = branch_within c.args.within.now c.args.instr.now c.args.values.now c.args.at c.requires.stands in search rules

pub returns-clause-room : goal.returns-clause-room
returns-clause-room c = let one = can_choose c.args.within.now c.args.instr.now c.args.values.now c.args.at c.requires.stands c.requires.code in omega arith

pub returns-clause-steps : goal.returns-clause-steps
returns-clause-steps c memory globals m map flat has s =
    let one = can_choose c.args.within.now c.args.instr.now c.args.values.now c.args.at c.requires.stands c.requires.code in
    choose_begins m map flat has c.args.within.now c.args.instr.now c.args.values.now memory globals c.args.at s c.requires.code (c.args.at.sp - 1) (omega arith) c.if-values-sp-eq0.false (record { pc = c.args.at.pc + 1; sp = c.args.at.sp - 1; opens = c.args.at.opens + 1 }) refl refl refl (omega arith)
