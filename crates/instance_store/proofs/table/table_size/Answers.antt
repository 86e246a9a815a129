use Rattle.std.proofs.Common.{ℕ, List, length, Option, None, sym, ap, ◌∙◌}
use Rattle.std.specs.Prelude.{slice_get}
use Rattle.std.proofs.lemmas.List.{length-replicate}
use Rattle.wasm_form.specs.declared.types.Bounds.{Bounds}
use Rattle.tree_machine.specs.Instantiation.{table_with}
use Rattle.module_validator.proofs.FunctionsAlone.{tables_are}
use Rattle.instance_store.proofs.table.table_size.Goals as goal

pub returns-in-Some : goal.returns-in-Some
returns-in-Some c =
    let unset : Option ℕ = None in
    sym (length-replicate c.in-Some.bounds.now.min unset)
    ∙ ap (λ (o : Option Bounds). length (table_with o)) (c.in-Some.ensures.value
    ∙ ap (λ (xs : List Bounds). slice_get xs 0) (c.tables.ensures ∙ sym (tables_are c.args.module.now c.requires)))

pub returns-in-None : goal.returns-in-None
returns-in-None c =
    ap (λ (o : Option Bounds). length (table_with o)) (c.in-None.ensures.value
    ∙ ap (λ (xs : List Bounds). slice_get xs 0) (c.tables.ensures ∙ sym (tables_are c.args.module.now c.requires)))
