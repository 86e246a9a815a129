use Rattle.std.proofs.Common.{inl, inr, refl, arith}
use Rattle.body_validator.proofs.Rules.{only_image, only_stuck, none_stuck}
use Rattle.body_validator.proofs.Types.{found, missing, global_only, global_no_index, global_missing, global_other, not_both}
use Rattle.body_validator.proofs.operand_types.OperandTypes.global.Goals as goal

pub returns-in_default-clause-no : goal.returns-in_default-clause-no
returns-in_default-clause-no c e context same = none_stuck context c.args.instr _ (global_no_index context c.args.instr c.requires c.in_default.not-Index)

pub returns-in_default-global_at-clause-no : goal.returns-in_default-global_at-clause-no
returns-in_default-global_at-clause-no c e context same =
    none_stuck context c.args.instr _
    (global_missing context c.args.instr c.in-Index.place c.requires c.in-Index.is (missing context.globals c.args.globals.now c.in-Index.place c.global_at.result same c.global_at.ensures c.in_default-global_at.is))

pub returns-in-35-clause-yes : goal.returns-in-35-clause-yes
returns-in-35-clause-yes c e context same =
    only_image context c.args.instr _ _ _
    (global_only context c.args.instr c.in-Index.place c.in-Some.global _ c.requires c.in-Index.is (found context.globals c.args.globals.now c.in-Index.place c.global_at.result c.in-Some.global same c.global_at.ensures c.in-Some.is) (inl (c.in-35.is, refl)))
    (c.apply.ensures.yes e)

pub returns-in-35-clause-no : goal.returns-in-35-clause-no
returns-in-35-clause-no c e context same =
    only_stuck context c.args.instr _ _
    (global_only context c.args.instr c.in-Index.place c.in-Some.global _ c.requires c.in-Index.is (found context.globals c.args.globals.now c.in-Index.place c.global_at.result c.in-Some.global same c.global_at.ensures c.in-Some.is) (inl (c.in-35.is, refl)))
    (c.apply.ensures.no e)

pub returns-in-36-clause-yes : goal.returns-in-36-clause-yes
returns-in-36-clause-yes c e context same =
    only_image context c.args.instr _ _ _
    (global_only context c.args.instr c.in-Index.place c.in-Some.global _ c.requires c.in-Index.is (found context.globals c.args.globals.now c.in-Index.place c.global_at.result c.in-Some.global same c.global_at.ensures c.in-Some.is) (inr (c.in-36.is, c.if-global.true, refl)))
    (c.apply-in-36.ensures.yes e)

pub returns-in-36-clause-no : goal.returns-in-36-clause-no
returns-in-36-clause-no c e context same =
    only_stuck context c.args.instr _ _
    (global_only context c.args.instr c.in-Index.place c.in-Some.global _ c.requires c.in-Index.is (found context.globals c.args.globals.now c.in-Index.place c.global_at.result c.in-Some.global same c.global_at.ensures c.in-Some.is) (inr (c.in-36.is, c.if-global.true, refl)))
    (c.apply-in-36.ensures.no e)

pub returns-in_default-code-clause-no : goal.returns-in_default-code-clause-no
returns-in_default-code-clause-no c e context same =
    none_stuck context c.args.instr _
    (global_other context c.args.instr c.in-Index.place c.in-Some.global c.requires c.in-Index.is (found context.globals c.args.globals.now c.in-Index.place c.global_at.result c.in-Some.global same c.global_at.ensures c.in-Some.is)
    (λ q. absurd (omega arith)) (λ q t. not_both _ t c.if-global.false))

pub returns-in_default-code-2-clause-no : goal.returns-in_default-code-2-clause-no
returns-in_default-code-2-clause-no c e context same =
    none_stuck context c.args.instr _
    (global_other context c.args.instr c.in-Index.place c.in-Some.global c.requires c.in-Index.is (found context.globals c.args.globals.now c.in-Index.place c.global_at.result c.in-Some.global same c.global_at.ensures c.in-Some.is)
    (λ q. absurd (omega arith)) (λ q t. absurd (omega arith)))
