use Rattle.std.proofs.Common.{rules, IsTrue, ◌<◌, ◌^◌, sum_by, List, refl, subst, arith}
use Rattle.std.proofs.lemmas.List.{take_all}
use Rattle.std.proofs.lemmas.List.Elements.{All-more}
use Rattle.wasm_form.specs.Spellable.{HasFewLocals}
use Rattle.wasm_form.specs.declared.body.LocalRun.{LocalRun}
use Rattle.wasm_form.proofs.sizes.have_few_locals.Goals as goal

pub loop-body-preserved : goal.loop-body-preserved
loop-body-preserved c =
    let yes : IsTrue c.are_few.result = search rules in
    let few : HasFewLocals c.body-item.result =
    subst (λ (l : List LocalRun). sum_by (λ (run : LocalRun). run.count) l < 2 ^ 32) c.as_slice.ensures (c.are_few.ensures.0 yes) in
    All-more HasFewLocals c.args.bodies.now c.loop-body.body-index c.body-item.result (omega arith) c.loop-body.invariant (subst HasFewLocals c.body-item.is few)

pub returns : goal.returns
returns c = let all = rw (take_all c.loop-body.body-index c.args.bodies.now (omega arith)) at c.loop-body.invariant in (λ _. all, λ _. refl)
