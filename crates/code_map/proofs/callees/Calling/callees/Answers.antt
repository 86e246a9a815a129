use Rattle.std.proofs.Common.{ℕ, ◌≡◌, Some, length, ap, ◌∙◌, arith}
use Rattle.std.specs.Prelude.{slice_get}
use Rattle.code_map.specs.declared.callee.Callee.{Callee}
use Rattle.code_map.specs.Callees.{IsCalleeOf}
use Rattle.code_map.proofs.Pushed.{pushed, pushed_count}
use Rattle.code_map.proofs.callees.Calling.callees.Goals as goal

pub loop-function-preserved : goal.loop-function-preserved
loop-function-preserved c = record {
  count = pushed_count c.loop-function.callees c.push.new.self c.callee.result c.loop-function.function c.loop-function.invariant.count c.in_ok-push.ensures.ok;
  each = pushed
      (λ (k : ℕ) (x : Callee). (index : ℕ) → slice_get c.args.self.now.functions.now k ≡ Some index → IsCalleeOf c.args.self.now.parts.now c.args.self.now.calls.now k index x)
      c.loop-function.callees c.push.new.self c.callee.result c.loop-function.function c.loop-function.invariant.count c.loop-function.invariant.each c.callee.ensures c.in_ok-push.ensures.ok;
}

pub returns : goal.returns
returns c = record {
  count = omega (arith, c.loop-function.invariant.count, ap length c.requires.functions, c.loop-function-test.false, c.loop-function.auto.function-end);
  each = λ function index callee f g. c.loop-function.invariant.each function callee g index (ap (λ l. slice_get l function) c.requires.functions ∙ f);
}
