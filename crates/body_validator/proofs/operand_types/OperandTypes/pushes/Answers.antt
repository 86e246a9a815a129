use Rattle.std.proofs.Common.{◌∷◌, ◌++◌, append_assoc, sym, ap, ◌∙◌, []}
use Rattle.body_validator.proofs.Covering.{one_more_given}
use Rattle.body_validator.proofs.operand_types.OperandTypes.pushes.Goals as goal

pub loop-first-preserved : goal.loop-first-preserved
loop-first-preserved c = record {
  given_so_far =
      let h = c.loop-first.invariant.given_so_far in
      (h.0 ++ c.in-Some.first.now ∷ [], h.1 ∙ ap (λ x. h.0 ++ x) c.in-Some.ensures.cases.0 ∙ sym (append_assoc h.0 (c.in-Some.first.now ∷ []) c.in-Some.rest.now), one_more_given h.0 c.in-Some.first.now c.args.self.now c.loop-first.self c.push.new.self h.2 c.in_ok-push.ensures.ok);
}
