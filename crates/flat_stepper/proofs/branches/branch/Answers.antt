use Rattle.std.proofs.Common.{◌∙◌, arith}
use Rattle.flat_stepper.specs.Targets.{target_of}
use Rattle.flat_stepper.proofs.Branching.{reached, branch_reaches, branch_moves, branch_jumps, jump_arrives}
use Rattle.flat_stepper.proofs.branches.branch.Goals as goal

pub target-requires : goal.target-requires
target-requires c = let r = branch_reaches c.args.within.now c.args.instr.now c.args.values.now c.args.at c.requires.stands c.requires.code in (r.target, r.is)

pub jump-requires-clause-height : goal.jump-requires-clause-height
jump-requires-clause-height c = (reached c.args.within.now _ _ _ c.target.result (branch_reaches c.args.within.now c.args.instr.now c.args.values.now c.args.at c.requires.stands c.requires.code) c.target.ensures).2

pub jump-requires-clause-opens : goal.jump-requires-clause-opens
jump-requires-clause-opens c = let low = (reached c.args.within.now _ _ _ c.target.result (branch_reaches c.args.within.now c.args.instr.now c.args.values.now c.args.at c.requires.stands c.requires.code) c.target.ensures).1 in omega arith

pub returns-clause-room : goal.returns-clause-room
returns-clause-room c =
    let r = reached c.args.within.now _ _ _ c.target.result (branch_reaches c.args.within.now c.args.instr.now c.args.values.now c.args.at c.requires.stands c.requires.code) c.target.ensures in
    omega (arith, r.1, r.2)

pub returns-clause-steps : goal.returns-clause-steps
returns-clause-steps c memory globals m map flat has s =
    let r = reached c.args.within.now _ _ _ c.target.result (branch_reaches c.args.within.now c.args.instr.now c.args.values.now c.args.at c.requires.stands c.requires.code) c.target.ensures in
    branch_moves m map flat has c.args.within.now c.args.instr.now c.args.values.now memory globals c.args.at s c.requires.code
    ∙ jump_arrives m map flat has c.args.within.now c.args.instr.now c.args.values.now memory globals c.args.at s (target_of c.args.within.now c.args.at.pc) _ c.args.at.sp c.jump.new.values c.target.result c.jump.result
    (branch_jumps m map flat has c.args.within.now c.args.instr.now c.args.values.now memory globals c.args.at s c.requires.code) c.target.ensures c.jump.ensures.pc c.jump.ensures.opens c.jump.ensures.values (omega (arith, r.1, r.2))
