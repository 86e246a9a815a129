use Rattle.std.proofs.Common.{inl, inr, refl, arith}
use Rattle.body_validator.proofs.Rules.{only_image, only_stuck, none_stuck}
use Rattle.body_validator.proofs.Types.{found, missing, local_only, local_no_index, local_missing, local_other}
use Rattle.body_validator.proofs.operand_types.OperandTypes.local.Goals as goal

pub returns-in_default-clause-no : goal.returns-in_default-clause-no
returns-in_default-clause-no c e context same = none_stuck context c.args.instr _ (local_no_index context c.args.instr c.requires c.in_default.not-Index)

pub returns-in_default-get-clause-no : goal.returns-in_default-get-clause-no
returns-in_default-get-clause-no c e context same =
    none_stuck context c.args.instr _
    (local_missing context c.args.instr c.in-Index.place c.requires c.in-Index.is (missing context.locals c.args.locals.now c.in-Index.place c.get.result same c.get.ensures c.in_default-get.is))

pub returns-in-32-clause-yes : goal.returns-in-32-clause-yes
returns-in-32-clause-yes c e context same =
    only_image context c.args.instr _ _ _
    (local_only context c.args.instr c.in-Index.place c.in-Some.ty _ c.requires c.in-Index.is (found context.locals c.args.locals.now c.in-Index.place c.get.result c.in-Some.ty same c.get.ensures c.in-Some.is) (inl (c.in-32.is, refl)))
    (c.apply.ensures.yes e)

pub returns-in-32-clause-no : goal.returns-in-32-clause-no
returns-in-32-clause-no c e context same =
    only_stuck context c.args.instr _ _
    (local_only context c.args.instr c.in-Index.place c.in-Some.ty _ c.requires c.in-Index.is (found context.locals c.args.locals.now c.in-Index.place c.get.result c.in-Some.ty same c.get.ensures c.in-Some.is) (inl (c.in-32.is, refl)))
    (c.apply.ensures.no e)

pub returns-in-33-clause-yes : goal.returns-in-33-clause-yes
returns-in-33-clause-yes c e context same =
    only_image context c.args.instr _ _ _
    (local_only context c.args.instr c.in-Index.place c.in-Some.ty _ c.requires c.in-Index.is (found context.locals c.args.locals.now c.in-Index.place c.get.result c.in-Some.ty same c.get.ensures c.in-Some.is) (inr (inl (c.in-33.is, refl))))
    (c.apply-in-33.ensures.yes e)

pub returns-in-33-clause-no : goal.returns-in-33-clause-no
returns-in-33-clause-no c e context same =
    only_stuck context c.args.instr _ _
    (local_only context c.args.instr c.in-Index.place c.in-Some.ty _ c.requires c.in-Index.is (found context.locals c.args.locals.now c.in-Index.place c.get.result c.in-Some.ty same c.get.ensures c.in-Some.is) (inr (inl (c.in-33.is, refl))))
    (c.apply-in-33.ensures.no e)

pub returns-in-34-clause-yes : goal.returns-in-34-clause-yes
returns-in-34-clause-yes c e context same =
    only_image context c.args.instr _ _ _
    (local_only context c.args.instr c.in-Index.place c.in-Some.ty _ c.requires c.in-Index.is (found context.locals c.args.locals.now c.in-Index.place c.get.result c.in-Some.ty same c.get.ensures c.in-Some.is) (inr (inr (c.in-34.is, refl))))
    (c.apply-in-34.ensures.yes e)

pub returns-in-34-clause-no : goal.returns-in-34-clause-no
returns-in-34-clause-no c e context same =
    only_stuck context c.args.instr _ _
    (local_only context c.args.instr c.in-Index.place c.in-Some.ty _ c.requires c.in-Index.is (found context.locals c.args.locals.now c.in-Index.place c.get.result c.in-Some.ty same c.get.ensures c.in-Some.is) (inr (inr (c.in-34.is, refl))))
    (c.apply-in-34.ensures.no e)

pub returns-in_default-code-clause-no : goal.returns-in_default-code-clause-no
returns-in_default-code-clause-no c e context same =
    none_stuck context c.args.instr _ (local_other context c.args.instr c.requires (λ q. absurd (omega arith)) (λ q. absurd (omega arith)) (λ q. absurd (omega arith)))
