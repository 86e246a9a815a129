use Rattle.std.proofs.Common.{◌∙◌, ◌+◌, ◌-◌, refl, rules, arith}
use Rattle.flat_stepper.specs.Targets.{target_of}
use Rattle.flat_stepper.proofs.Branching.{reached, can_if, if_reaches, if_jumps, if_arrives, if_goes_on, jump_arrives}
use Rattle.flat_stepper.proofs.Places.{branch_within}
use Rattle.flat_stepper.proofs.branches.branch_if.Goals as goal

pub overflow_sub-sp : goal.overflow_sub-sp
overflow_sub-sp c = let one = can_if c.args.within.now c.args.instr.now c.args.values.now c.args.at c.requires.stands c.requires.code in omega arith

pub bounds-values-sp : goal.bounds-values-sp
bounds-values-sp c = let one = can_if c.args.within.now c.args.instr.now c.args.values.now c.args.at c.requires.stands c.requires.code in omega arith

pub overflow_add-result : goal.overflow_add-result
overflow_add-result c = let below = branch_within c.args.within.now c.args.instr.now c.args.values.now c.args.at c.requires.stands in search rules

pub returns-then-values-sp-eq0-clause-steps : goal.returns-then-values-sp-eq0-clause-steps
returns-then-values-sp-eq0-clause-steps c memory globals m map flat has s =
    let one = can_if c.args.within.now c.args.instr.now c.args.values.now c.args.at c.requires.stands c.requires.code in
    if_goes_on m map flat has c.args.within.now c.args.instr.now c.args.values.now memory globals c.args.at s c.requires.code (c.args.at.sp - 1) (omega arith) c.if-values-sp-eq0.true (record { pc = c.args.at.pc + 1; sp = c.args.at.sp - 1; opens = c.args.at.opens }) refl refl refl (omega arith)

pub target-requires : goal.target-requires
target-requires c = let r = if_reaches c.args.within.now c.args.instr.now c.args.values.now c.args.at c.requires.stands c.requires.code c.if-values-sp-eq0.false in (r.target, r.is)

pub jump-requires-clause-height : goal.jump-requires-clause-height
jump-requires-clause-height c = (reached c.args.within.now _ _ _ c.target.result (if_reaches c.args.within.now c.args.instr.now c.args.values.now c.args.at c.requires.stands c.requires.code c.if-values-sp-eq0.false) c.target.ensures).2

pub jump-requires-clause-opens : goal.jump-requires-clause-opens
jump-requires-clause-opens c = let low = (reached c.args.within.now _ _ _ c.target.result (if_reaches c.args.within.now c.args.instr.now c.args.values.now c.args.at c.requires.stands c.requires.code c.if-values-sp-eq0.false) c.target.ensures).1 in omega arith

pub returns-clause-room : goal.returns-clause-room
returns-clause-room c =
    let r = reached c.args.within.now _ _ _ c.target.result (if_reaches c.args.within.now c.args.instr.now c.args.values.now c.args.at c.requires.stands c.requires.code c.if-values-sp-eq0.false) c.target.ensures in
    omega (arith, r.1, r.2)

pub returns-clause-steps : goal.returns-clause-steps
returns-clause-steps c memory globals m map flat has s =
    let one = can_if c.args.within.now c.args.instr.now c.args.values.now c.args.at c.requires.stands c.requires.code in
    let r = reached c.args.within.now _ _ _ c.target.result (if_reaches c.args.within.now c.args.instr.now c.args.values.now c.args.at c.requires.stands c.requires.code c.if-values-sp-eq0.false) c.target.ensures in
    if_arrives m map flat has c.args.within.now c.args.instr.now c.args.values.now memory globals c.args.at s c.requires.code (c.args.at.sp - 1) (omega arith) c.if-values-sp-eq0.false
    ∙ jump_arrives m map flat has c.args.within.now c.args.instr.now c.args.values.now memory globals c.args.at s (target_of c.args.within.now c.args.at.pc) _ (c.args.at.sp - 1) c.jump.new.values c.target.result c.jump.result
    (if_jumps m map flat has c.args.within.now c.args.instr.now c.args.values.now memory globals c.args.at s c.requires.code (c.args.at.sp - 1) (omega arith) c.if-values-sp-eq0.false) c.target.ensures c.jump.ensures.pc c.jump.ensures.opens c.jump.ensures.values (omega (arith, r.1, r.2))
