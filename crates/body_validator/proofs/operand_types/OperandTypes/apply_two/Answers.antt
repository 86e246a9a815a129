use Rattle.body_validator.proofs.Covering.{applied_two, not_applied_above, not_applied_below}
use Rattle.body_validator.proofs.operand_types.OperandTypes.apply_two.Goals as goal

pub returns-then-not-above-clause-no : goal.returns-then-not-above-clause-no
returns-then-not-above-clause-no c e = not_applied_above c.args.first.now c.args.second.now c.args.given.now c.args.self.now (c.pops-above.ensures.no c.if-not-above.true)

pub returns-then-not-below-clause-no : goal.returns-then-not-below-clause-no
returns-then-not-below-clause-no c e =
    not_applied_below c.args.first.now c.args.second.now c.args.given.now c.args.self.now c.pops-above.new.self (c.pops-above.ensures.yes c.if-not-above.false) (c.pops-below.ensures.no c.if-not-below.true)

pub returns-clause-yes : goal.returns-clause-yes
returns-clause-yes c e =
    applied_two c.args.first.now c.args.second.now c.args.given.now c.args.self.now c.pops-above.new.self c.pops-below.new.self c.pushes.new.self
    (c.pops-above.ensures.yes c.if-not-above.false) (c.pops-below.ensures.yes c.if-not-below.false) c.in_ok-pushes.ensures.ok
