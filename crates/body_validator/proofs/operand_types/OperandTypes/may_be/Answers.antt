use Rattle.body_validator.proofs.Covering.{taken_may_be, not_taken}
use Rattle.body_validator.proofs.operand_types.OperandTypes.may_be.Goals as goal

pub returns-then-not-pops : goal.returns-then-not-pops
returns-then-not-pops c = (λ e. absurd (cc e), λ h. absurd (not_taken c.args.operands.now c.args.self.now (c.pops.ensures.no c.if-not-pops.true) h))

pub returns : goal.returns
returns c =
    let p = taken_may_be c.args.operands.now c.args.self.now c.pops.new.self (c.pops.ensures.yes c.if-not-pops.false) in
    (λ e. p.0 (c.may_be_empty.ensures.0 e), λ h. c.may_be_empty.ensures.1 (p.1 h))
