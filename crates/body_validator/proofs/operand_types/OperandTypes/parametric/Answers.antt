use Rattle.std.proofs.Common.{arith}
use Rattle.body_validator.proofs.Rules.{none_stuck}
use Rattle.body_validator.proofs.Selecting.{drop_image, drop_stuck, select_image, select_stuck, parametric_none}
use Rattle.body_validator.proofs.operand_types.OperandTypes.parametric.Goals as goal

pub returns-in-26-clause-yes : goal.returns-in-26-clause-yes
returns-in-26-clause-yes c e context = drop_image context c.args.instr c.requires _ _ c.in-26.is (c.pop.ensures.yes (cc))

pub returns-in-26-clause-no : goal.returns-in-26-clause-no
returns-in-26-clause-no c e context = drop_stuck context c.args.instr c.requires _ c.in-26.is (c.pop.ensures.no (cc))

pub returns-in-27-clause-yes : goal.returns-in-27-clause-yes
returns-in-27-clause-yes c e context = select_image context c.args.instr c.requires _ _ c.in-27.is (c.select.ensures.yes e)

pub returns-in-27-clause-no : goal.returns-in-27-clause-no
returns-in-27-clause-no c e context = select_stuck context c.args.instr c.requires _ c.in-27.is (c.select.ensures.no e)

pub returns-in_default-clause-no : goal.returns-in_default-clause-no
returns-in_default-clause-no c e context =
    none_stuck context c.args.instr _ (parametric_none context c.args.instr c.requires (λ q. absurd (omega arith)) (λ q. absurd (omega arith)))
