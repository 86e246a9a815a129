use Rattle.std.proofs.Common.{◌∷◌, ◌++◌, append_assoc, ap, ◌∙◌, [], refl}
use Rattle.body_validator.proofs.Covering.{one_more_taken, one_missing}
use Rattle.body_validator.proofs.operand_types.OperandTypes.pops.Goals as goal

pub returns-then-not-pop_expect-clause-no : goal.returns-then-not-pop_expect-clause-no
returns-then-not-pop_expect-clause-no c e =
    let h = c.loop-top.invariant.taken_so_far in
    one_missing c.args.taken.now c.loop-top.left.now c.in-Some.rest.now h.0 c.in-Some.top.now c.args.self.now c.loop-top.self h.1 c.in-Some.ensures.cases.0 h.2 (c.if-not-pop_expect.ensures.no refl)

pub loop-top-preserved : goal.loop-top-preserved
loop-top-preserved c = record {
  taken_so_far =
      let h = c.loop-top.invariant.taken_so_far in
      (c.in-Some.top.now ∷ h.0, h.1 ∙ ap (λ x. x ++ h.0) c.in-Some.ensures.cases.0 ∙ append_assoc c.in-Some.rest.now (c.in-Some.top.now ∷ []) h.0, one_more_taken h.0 c.in-Some.top.now c.args.self.now c.loop-top.self c.pop_expect.new.self h.2 (c.if-not-pop_expect.ensures.yes refl));
}
