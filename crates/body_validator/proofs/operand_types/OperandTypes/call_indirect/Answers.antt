use Rattle.std.proofs.Common.{refl}
use Rattle.body_validator.proofs.Rules.{only_image, only_stuck, none_stuck}
use Rattle.body_validator.proofs.Codes.{indirect_code}
use Rattle.body_validator.proofs.Types.{found, missing, copied_some, copied_none, indirect_is, only_as, not_both, indirect_only, indirect_no_index, indirect_missing, indirect_no_table}
use Rattle.body_validator.proofs.operand_types.OperandTypes.call_indirect.Goals as goal

pub returns-in_default-clause-no : goal.returns-in_default-clause-no
returns-in_default-clause-no c e context ty is = none_stuck context c.args.instr _ (indirect_no_index context c.args.instr c.requires c.in_default.not-Index)

pub returns-in_default-type_at-clause-no : goal.returns-in_default-type_at-clause-no
returns-in_default-type_at-clause-no c e context ty is =
    none_stuck context c.args.instr _
    (indirect_missing context c.args.instr c.in-Index.place c.requires c.in-Index.is
    (missing context.types c.args.types.now c.in-Index.place _ ty refl (copied_none c.type_at.result _ c.in_default-type_at.is c.type_at.ensures)))

pub returns-then-not-has_table-clause-no : goal.returns-then-not-has_table-clause-no
returns-then-not-has_table-clause-no c e context ty is =
    none_stuck context c.args.instr _ (indirect_no_table context c.args.instr c.requires (λ m. not_both _ (is.1 m) c.if-not-has_table.true))

pub returns-clause-yes : goal.returns-clause-yes
returns-clause-yes c e context ty is =
    only_image context c.args.instr _ _ _
    (only_as context c.args.instr _ _ (indirect_is _ _ c.in-Some.callee.now c.as_slice.ensures c.as_slice-2.ensures)
    (indirect_only context c.args.instr c.in-Index.place c.in-Some.callee.now c.requires (indirect_code c.args.instr.code c.requires) c.in-Index.is (is.0 c.if-not-has_table.false)
    (found context.types c.args.types.now c.in-Index.place _ _ ty refl (copied_some c.type_at.result _ c.in-Some.callee c.in-Some.is c.type_at.ensures))))
    (c.apply_two.ensures.yes e)

pub returns-clause-no : goal.returns-clause-no
returns-clause-no c e context ty is =
    only_stuck context c.args.instr _ _
    (only_as context c.args.instr _ _ (indirect_is _ _ c.in-Some.callee.now c.as_slice.ensures c.as_slice-2.ensures)
    (indirect_only context c.args.instr c.in-Index.place c.in-Some.callee.now c.requires (indirect_code c.args.instr.code c.requires) c.in-Index.is (is.0 c.if-not-has_table.false)
    (found context.types c.args.types.now c.in-Index.place _ _ ty refl (copied_some c.type_at.result _ c.in-Some.callee c.in-Some.is c.type_at.ensures))))
    (c.apply_two.ensures.no e)
