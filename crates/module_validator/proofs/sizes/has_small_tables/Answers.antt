use Rattle.std.proofs.Common.{List, ◌≤◌, sym, ◌∙◌, subst}
use Rattle.std.specs.Prelude.{◌↔◌, IsTrue, All}
use Rattle.wasm_form.specs.declared.types.Bounds.{Bounds}
use Rattle.module_validator.proofs.FunctionsAlone.{tables_are}
use Rattle.module_validator.proofs.sizes.has_small_tables.Goals as goal

pub returns : goal.returns
returns c =
    subst (λ (xs : List Bounds). IsTrue c.are_small.result ↔ All (λ (b : Bounds). b.min ≤ 10000) xs)
    (c.tables.ensures ∙ sym (tables_are c.args.module.now c.requires)) c.are_small.ensures
