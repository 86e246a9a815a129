use Rattle.body_validator.proofs.Rules.{only_image, only_stuck, none_stuck}
use Rattle.body_validator.proofs.Codes.{branch_if_code}
use Rattle.body_validator.proofs.Types.{label_is, label_none, branch_if_is, only_as, branch_if_only, branch_if_no_index, branch_if_missing}
use Rattle.body_validator.proofs.operand_types.OperandTypes.branch_if.Goals as goal

pub returns-in_default-clause-no : goal.returns-in_default-clause-no
returns-in_default-clause-no c e context labels = none_stuck context c.args.instr _ (branch_if_no_index context c.args.instr c.requires c.in_default.not-Index)

pub returns-in_default-carried-clause-no : goal.returns-in_default-carried-clause-no
returns-in_default-carried-clause-no c e context labels =
    none_stuck context c.args.instr _
    (branch_if_missing context c.args.instr c.in-Index.label c.requires c.in-Index.is
    (label_none c.args.frames.now context.labels c.in-Index.label c.carried.result labels c.carried.ensures c.in_default-carried.is))

pub returns-clause-yes : goal.returns-clause-yes
returns-clause-yes c e context labels =
    only_image context c.args.instr _ _ _
    (only_as context c.args.instr _ _ (branch_if_is _ _ _ c.listed.ensures c.listed-2.ensures)
    (branch_if_only context c.args.instr c.in-Index.label _ c.requires (branch_if_code c.args.instr.code c.requires) c.in-Index.is
    (label_is c.args.frames.now context.labels c.in-Index.label c.carried.result c.in-Some.carried labels c.carried.ensures c.in-Some.is)))
    (c.apply_two.ensures.yes e)

pub returns-clause-no : goal.returns-clause-no
returns-clause-no c e context labels =
    only_stuck context c.args.instr _ _
    (only_as context c.args.instr _ _ (branch_if_is _ _ _ c.listed.ensures c.listed-2.ensures)
    (branch_if_only context c.args.instr c.in-Index.label _ c.requires (branch_if_code c.args.instr.code c.requires) c.in-Index.is
    (label_is c.args.frames.now context.labels c.in-Index.label c.carried.result c.in-Some.carried labels c.carried.ensures c.in-Some.is)))
    (c.apply_two.ensures.no e)
