use Rattle.std.proofs.Common.{◌∙◌, ap, ℕ, arith}
use Rattle.flat_machine.specs.Shown.{stack_of}
use Rattle.flat_stepper.proofs.Places.{branch_within}
use Rattle.flat_stepper.proofs.Raising.{constant_64_full, constant_64_there, constant_64_is, pushed, shows}
use Rattle.flat_stepper.proofs.raises.constant_64.Goals as goal

pub returns-then-is_full-clause-steps : goal.returns-then-is_full-clause-steps
returns-then-is_full-clause-steps c memory globals m map flat has s = (constant_64_full m map flat has c.args.within.now c.args.instr.now c.args.values.now memory globals c.args.at s c.requires.code _ (c.is_full.ensures.full c.if-is_full.true), shows m map flat has c.args.within.now c.args.instr.now c.args.values.now memory globals c.args.at s)

pub i64_of-requires : goal.i64_of-requires
i64_of-requires c = constant_64_there c.requires.stands.2.0 c.requires.stands.2.1 c.requires.stands.2.2 c.requires.stands.2.3 c.args.within.now c.args.instr.now c.args.values.now c.requires.stands.0 c.requires.stands.1 c.args.at c.requires.stands.2.4 c.requires.code

pub behind-requires : goal.behind-requires
behind-requires c = let below = branch_within c.args.within.now c.args.instr.now c.args.values.now c.args.at c.requires.stands in omega arith

pub returns-clause-steps : goal.returns-clause-steps
returns-clause-steps c memory globals m map flat has s =
    let room = c.is_full.ensures.room c.if-is_full.false in
    pushed m map flat has c.args.within.now c.args.instr.now c.args.values.now memory globals c.args.at s c.i64_of.result c.push-sp.result c.push-sp.new.values c.behind.result (constant_64_is m map flat has c.args.within.now c.args.instr.now c.args.values.now memory globals c.args.at s c.requires.code c.i64_of.result c.i64_of.ensures) (ap (λ (n : ℕ). stack_of c.push-sp.new.values n) c.behind.ensures.sp ∙ c.push-sp.ensures.pushed) c.behind.ensures.pc c.behind.ensures.opens (omega arith)
