use Rattle.std.proofs.Common.{inl, inr, refl, arith}
use Rattle.body_validator.proofs.Rules.{only_image, only_stuck, none_stuck}
use Rattle.body_validator.proofs.Types.{size_only, size_no_memory, size_other, not_both}
use Rattle.body_validator.proofs.operand_types.OperandTypes.memory_size.Goals as goal

pub returns-then-not-has_memory-clause-no : goal.returns-then-not-has_memory-clause-no
returns-then-not-has_memory-clause-no c e context is =
    none_stuck context c.args.instr _ (size_no_memory context c.args.instr c.requires (λ m. not_both _ (is.1 m) c.if-not-has_memory.true))

pub returns-in-63-clause-yes : goal.returns-in-63-clause-yes
returns-in-63-clause-yes c e context is = only_image context c.args.instr _ _ _ (size_only context c.args.instr _ c.requires (is.0 c.if-not-has_memory.false) (inl (c.in-63.is, refl))) (c.apply.ensures.yes e)

pub returns-in-63-clause-no : goal.returns-in-63-clause-no
returns-in-63-clause-no c e context is = only_stuck context c.args.instr _ _ (size_only context c.args.instr _ c.requires (is.0 c.if-not-has_memory.false) (inl (c.in-63.is, refl))) (c.apply.ensures.no e)

pub returns-in-64-clause-yes : goal.returns-in-64-clause-yes
returns-in-64-clause-yes c e context is = only_image context c.args.instr _ _ _ (size_only context c.args.instr _ c.requires (is.0 c.if-not-has_memory.false) (inr (c.in-64.is, refl))) (c.apply-in-64.ensures.yes e)

pub returns-in-64-clause-no : goal.returns-in-64-clause-no
returns-in-64-clause-no c e context is = only_stuck context c.args.instr _ _ (size_only context c.args.instr _ c.requires (is.0 c.if-not-has_memory.false) (inr (c.in-64.is, refl))) (c.apply-in-64.ensures.no e)

pub returns-in_default-clause-no : goal.returns-in_default-clause-no
returns-in_default-clause-no c e context is = none_stuck context c.args.instr _ (size_other context c.args.instr c.requires (λ q. absurd (omega arith)) (λ q. absurd (omega arith)))
