use Rattle.body_validator.proofs.Advancing.{block_advances, block_never}
use Rattle.body_validator.proofs.checker.Checker.block.Goals as goal
use Rattle.body_validator.proofs.checker.Checker.block.Goals.{then-instr-eq3, else-instr-eq3}

pub returns-in_default-clause-no : goal.returns-in_default-clause-no
returns-in_default-clause-no c e function pool = block_never function pool c.args.self.now c.args.self.now c.args.instr c.requires c.in_default.not-Block

pub returns-clause-yes : goal.returns-clause-yes
returns-clause-yes c e function pool =
    block_advances function pool c.args.self.now c.enter.new.self c.args.instr c.in-Block.gives _ c.requires c.in-Block.is
    (λ e. elim c.if-instr-eq3.branch [ then-instr-eq3 w ↦ w.carries-is | else-instr-eq3 w ↦ absurd (w.if-instr-eq3.false e) ])
    (λ n. elim c.if-instr-eq3.branch [ then-instr-eq3 w ↦ absurd (n w.if-instr-eq3.true) | else-instr-eq3 w ↦ w.carries-is ])
    c.in_ok-enter.ensures.frames c.in_ok-enter.ensures.operands
