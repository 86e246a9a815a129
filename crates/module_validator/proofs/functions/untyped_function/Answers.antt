use Rattle.std.proofs.Common.{length, ap, arith}
use Rattle.wasm_form.specs.declared.parts.Parts.{Parts}
use Rattle.module_validator.proofs.Counts.{few_bodies}
use Rattle.module_validator.proofs.functions.untyped_function.Goals as goal

pub overflow_cast-result : goal.overflow_cast-result
overflow_cast-result c =
    let few = few_bodies c.args.module.now c.parts-parts.ensures.spelled in
    let same = ap (λ (m : Parts). length m.bodies) c.parts-parts.ensures.is in
    omega (arith, few, same, c.loop-place-test.true, c.len-place-end.ensures)
