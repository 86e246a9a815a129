use Rattle.std.proofs.Common.{refl}
use Rattle.body_validator.proofs.Rules.{only_image, only_stuck, none_stuck}
use Rattle.body_validator.proofs.Codes.{call_code}
use Rattle.body_validator.proofs.Types.{found, missing, copied_some, copied_none, type_is, only_as, call_only, call_no_index, call_missing, call_no_type}
use Rattle.body_validator.proofs.operand_types.OperandTypes.call.Goals as goal

pub returns-in_default-clause-no : goal.returns-in_default-clause-no
returns-in_default-clause-no c e context ty fs = none_stuck context c.args.instr _ (call_no_index context c.args.instr c.requires c.in_default.not-Index)

pub returns-in_default-function_at-clause-no : goal.returns-in_default-function_at-clause-no
returns-in_default-function_at-clause-no c e context ty fs =
    none_stuck context c.args.instr _
    (call_missing context c.args.instr c.in-Index.function c.requires c.in-Index.is (missing context.functions c.args.functions.now c.in-Index.function c.function_at.result fs c.function_at.ensures c.in_default-function_at.is))

pub returns-in_default-type_at-clause-no : goal.returns-in_default-type_at-clause-no
returns-in_default-type_at-clause-no c e context ty fs =
    none_stuck context c.args.instr _
    (call_no_type context c.args.instr c.in-Index.function c.in-Some.index c.requires c.in-Index.is
    (found context.functions c.args.functions.now c.in-Index.function c.function_at.result c.in-Some.index fs c.function_at.ensures c.in-Some.is)
    (missing context.types c.args.types.now c.in-Some.index _ ty refl (copied_none c.type_at.result _ c.in_default-type_at.is c.type_at.ensures)))

pub returns-clause-yes : goal.returns-clause-yes
returns-clause-yes c e context ty fs =
    only_image context c.args.instr _ _ _
    (only_as context c.args.instr _ c.in-Some-type_at.callee.now (type_is _ _ c.in-Some-type_at.callee.now c.as_slice.ensures c.as_slice-2.ensures)
    (call_only context c.args.instr c.in-Index.function c.in-Some.index c.in-Some-type_at.callee.now c.requires (call_code c.args.instr.code c.requires) c.in-Index.is (found context.functions c.args.functions.now c.in-Index.function c.function_at.result c.in-Some.index fs c.function_at.ensures c.in-Some.is)
    (found context.types c.args.types.now c.in-Some.index _ _ ty refl (copied_some c.type_at.result _ c.in-Some-type_at.callee c.in-Some-type_at.is c.type_at.ensures))))
    (c.apply.ensures.yes e)

pub returns-clause-no : goal.returns-clause-no
returns-clause-no c e context ty fs =
    only_stuck context c.args.instr _ _
    (only_as context c.args.instr _ c.in-Some-type_at.callee.now (type_is _ _ c.in-Some-type_at.callee.now c.as_slice.ensures c.as_slice-2.ensures)
    (call_only context c.args.instr c.in-Index.function c.in-Some.index c.in-Some-type_at.callee.now c.requires (call_code c.args.instr.code c.requires) c.in-Index.is (found context.functions c.args.functions.now c.in-Index.function c.function_at.result c.in-Some.index fs c.function_at.ensures c.in-Some.is)
    (found context.types c.args.types.now c.in-Some.index _ _ ty refl (copied_some c.type_at.result _ c.in-Some-type_at.callee c.in-Some-type_at.is c.type_at.ensures))))
    (c.apply.ensures.no e)
