use Rattle.std.proofs.Common.{inl, inr, refl, arith}
use Rattle.body_validator.proofs.Rules.{only_image, only_stuck, none_stuck}
use Rattle.body_validator.proofs.Types.{constant_only, constant_none}
use Rattle.body_validator.proofs.operand_types.OperandTypes.constant.Goals as goal

pub returns-in-65-clause-yes : goal.returns-in-65-clause-yes
returns-in-65-clause-yes c e context =
    only_image context c.args.instr _ _ _ (constant_only context c.args.instr _ c.requires (inl (c.in-65.is, refl))) (c.apply.ensures.yes e)

pub returns-in-65-clause-no : goal.returns-in-65-clause-no
returns-in-65-clause-no c e context =
    only_stuck context c.args.instr _ _ (constant_only context c.args.instr _ c.requires (inl (c.in-65.is, refl))) (c.apply.ensures.no e)

pub returns-in-66-clause-yes : goal.returns-in-66-clause-yes
returns-in-66-clause-yes c e context =
    only_image context c.args.instr _ _ _ (constant_only context c.args.instr _ c.requires (inr (c.in-66.is, refl))) (c.apply-in-66.ensures.yes e)

pub returns-in-66-clause-no : goal.returns-in-66-clause-no
returns-in-66-clause-no c e context =
    only_stuck context c.args.instr _ _ (constant_only context c.args.instr _ c.requires (inr (c.in-66.is, refl))) (c.apply-in-66.ensures.no e)

pub returns-in_default-clause-no : goal.returns-in_default-clause-no
returns-in_default-clause-no c e context =
    none_stuck context c.args.instr _ (constant_none context c.args.instr c.requires (λ q. absurd (omega arith)) (λ q. absurd (omega arith)))
