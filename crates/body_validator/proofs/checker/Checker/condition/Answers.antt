use Rattle.body_validator.proofs.Advancing.{if_advances, if_refuses, if_never}
use Rattle.body_validator.proofs.checker.Checker.condition.Goals as goal

pub returns-in_default-clause-no : goal.returns-in_default-clause-no
returns-in_default-clause-no c e function pool = if_never function pool c.args.self.now c.args.self.now c.args.instr c.requires c.in_default.not-Block

pub returns-then-not-pop_expect-clause-no : goal.returns-then-not-pop_expect-clause-no
returns-then-not-pop_expect-clause-no c e function pool = if_refuses function pool c.args.self.now c.args.self.now c.args.instr c.requires (c.pop_expect.ensures.no c.if-not-pop_expect.true)

pub returns-clause-yes : goal.returns-clause-yes
returns-clause-yes c e function pool =
    if_advances function pool c.args.self.now c.enter.new.self c.args.instr c.in-Block.gives c.pop_expect.new.self c.requires c.in-Block.is (c.pop_expect.ensures.yes c.if-not-pop_expect.false)
    c.in_ok-enter.ensures.frames c.in_ok-enter.ensures.operands
