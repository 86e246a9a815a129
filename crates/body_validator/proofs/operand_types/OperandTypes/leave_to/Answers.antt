use Rattle.std.proofs.Common.{arith, subst}
use Rattle.wasm_form.specs.Typing.{EndsIn}
use Rattle.body_validator.specs.Covering.{IsImage, IsStuck}
use Rattle.body_validator.proofs.Types.{label_is, label_none}
use Rattle.body_validator.proofs.Leaving.{leaves_image, leaves_stuck, leaves_never, branch_needs, branch_missing, leaves_other}
use Rattle.body_validator.proofs.operand_types.OperandTypes.leave_to.Goals as goal

pub returns-in_default-clause-no : goal.returns-in_default-clause-no
returns-in_default-clause-no c e context labels =
    leaves_never context c.args.instr c.requires.rule _ (leaves_other context c.args.instr c.requires.rule (λ q. absurd (omega arith)) (λ x q a. c.in_default.not-Index x a) (λ q. absurd (omega arith)))

pub returns-in_default-carried-clause-no : goal.returns-in_default-carried-clause-no
returns-in_default-carried-clause-no c e context labels =
    leaves_never context c.args.instr c.requires.rule _
    (branch_missing context c.args.instr c.requires.rule c.in-Index.label c.requires.code c.in-Index.is
    (label_none c.args.frames.now context.labels c.in-Index.label c.carried.result labels c.carried.ensures c.in_default-carried.is))

pub returns-clause-yes : goal.returns-clause-yes
returns-clause-yes c e context labels =
    leaves_image context c.args.instr c.requires.rule _ _ _
    (branch_needs context c.args.instr c.requires.rule c.in-Index.label _ c.requires.code c.in-Index.is
    (label_is c.args.frames.now context.labels c.in-Index.label c.carried.result c.in-Some.carried labels c.carried.ensures c.in-Some.is))
    (subst (λ n. IsImage (λ x y. EndsIn n x) c.args.self.now c.leave_with.new.self) c.listed.ensures (c.leave_with.ensures.yes e))

pub returns-clause-no : goal.returns-clause-no
returns-clause-no c e context labels =
    leaves_stuck context c.args.instr c.requires.rule _ _
    (branch_needs context c.args.instr c.requires.rule c.in-Index.label _ c.requires.code c.in-Index.is
    (label_is c.args.frames.now context.labels c.in-Index.label c.carried.result c.in-Some.carried labels c.carried.ensures c.in-Some.is))
    (subst (λ n. IsStuck (λ x y. EndsIn n x) c.args.self.now) c.listed.ensures (c.leave_with.ensures.no e))
