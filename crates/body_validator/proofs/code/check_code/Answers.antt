use Rattle.std.proofs.Common.{◌∙◌, ap, Ok}
use Rattle.std.proofs.lemmas.List.{nil_from_length}
use Rattle.body_validator.proofs.Bodies.{begins, one_step, refused, finished}
use Rattle.body_validator.proofs.code.check_code.Goals as goal

pub loop-instr-init : goal.loop-instr-init
loop-instr-init c = record {
  as_much = λ context tree is plain f.
      begins c.args.function.now context c.args.expr.now tree c.as_slice-left.result.now c.in_ok-checker.checker is plain f c.as_slice-left.ensures c.in_ok-checker.ensures.frames
      c.in_ok-checker.ensures.operands;
}

pub loop-instr-preserved : goal.loop-instr-preserved
loop-instr-preserved c = record {
  as_much = λ context tree is plain f.
      one_step c.args.function.now context _ c.as_slice.result.now c.args.expr.now.labels c.loop-instr.checker c.loop-instr.left.now c.step.new.self c.in-Some.instr.now c.in-Some.rest.now
      is.inside c.as_slice.ensures c.in-Some.ensures.cases.0 (c.step.ensures.yes (c.in_ok-goes_on.was ∙ ap Ok c.if-not-goes_on.false))
      (c.loop-instr.invariant.as_much context tree is plain f);
}

pub returns-then-not-goes_on-clause-no : goal.returns-then-not-goes_on-clause-no
returns-then-not-goes_on-clause-no c e context tree is plain f =
    refused c.args.function.now context _ c.as_slice.result.now c.args.expr.now.labels c.loop-instr.checker c.loop-instr.left.now c.in-Some.instr.now c.in-Some.rest.now
    is.inside c.as_slice.ensures c.in-Some.ensures.cases.0 (c.step.ensures.no (c.in_ok-goes_on.was ∙ ap Ok c.if-not-goes_on.true))
    (c.loop-instr.invariant.as_much context tree is plain f)

pub returns-clause-yes : goal.returns-clause-yes
returns-clause-yes c e context tree is plain f =
    finished c.args.function.now context _ c.args.expr.now.labels c.args.expr.now.labels c.loop-instr.checker c.loop-instr.left.now (nil_from_length _ c.in_default.ensures.cases)
    (c.loop-instr.invariant.as_much context tree is plain f)
