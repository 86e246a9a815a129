use Rattle.std.proofs.Common.{map, sym, ap, refl, ◌∙◌, arith}
use Rattle.std.proofs.lemmas.List.{take_all}
use Rattle.wasm_form.specs.Typing.{value_type}
use Rattle.module_validator.proofs.imports.are_value_types.Goals as goal

pub returns : goal.returns
returns c =
    let n = c.loop-place.place in
    (λ _. sym (take_all n c.args.types.now (omega arith)) ∙ c.loop-place.invariant ∙ ap (map value_type) (take_all n c.args.nums.now (omega arith)), λ _. refl)
