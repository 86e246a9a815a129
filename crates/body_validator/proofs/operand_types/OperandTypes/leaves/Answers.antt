use Rattle.std.proofs.Common.{sym, subst, arith, ◌∙◌}
use Rattle.wasm_form.specs.Typing.{EndsIn}
use Rattle.body_validator.specs.Covering.{IsImage, IsStuck}
use Rattle.body_validator.proofs.Leaving.{leaves_image, leaves_stuck, leaves_never, unreachable_needs, return_needs, leaves_other}
use Rattle.body_validator.proofs.operand_types.OperandTypes.leaves.Goals as goal

pub returns-in-0-clause-yes : goal.returns-in-0-clause-yes
returns-in-0-clause-yes c e context labels results = leaves_image context c.args.instr c.requires _ _ _ (unreachable_needs context c.args.instr c.requires c.in-0.is) (c.leave_with.ensures.yes e)

pub returns-in-0-clause-no : goal.returns-in-0-clause-no
returns-in-0-clause-no c e context labels results = leaves_stuck context c.args.instr c.requires _ _ (unreachable_needs context c.args.instr c.requires c.in-0.is) (c.leave_with.ensures.no e)

pub returns-in-12-clause-yes : goal.returns-in-12-clause-yes
returns-in-12-clause-yes c e context labels results = c.leave_to.ensures.yes e context labels

pub returns-in-12-clause-no : goal.returns-in-12-clause-no
returns-in-12-clause-no c e context labels results = c.leave_to.ensures.no e context labels

pub returns-in-15-clause-yes : goal.returns-in-15-clause-yes
returns-in-15-clause-yes c e context labels results =
    leaves_image context c.args.instr c.requires context.results _ _ (return_needs context c.args.instr c.requires c.in-15.is)
    (subst (λ n. IsImage (λ x y. EndsIn n x) c.args.self.now c.leave_with-in-15.new.self) (c.listed.ensures ∙ sym results) (c.leave_with-in-15.ensures.yes e))

pub returns-in-15-clause-no : goal.returns-in-15-clause-no
returns-in-15-clause-no c e context labels results =
    leaves_stuck context c.args.instr c.requires context.results _ (return_needs context c.args.instr c.requires c.in-15.is)
    (subst (λ n. IsStuck (λ x y. EndsIn n x) c.args.self.now) (c.listed.ensures ∙ sym results) (c.leave_with-in-15.ensures.no e))

pub returns-in_default-clause-no : goal.returns-in_default-clause-no
returns-in_default-clause-no c e context labels results =
    leaves_never context c.args.instr c.requires _ (leaves_other context c.args.instr c.requires (λ q. absurd (omega arith)) (λ x q a. absurd (omega arith)) (λ q. absurd (omega arith)))
