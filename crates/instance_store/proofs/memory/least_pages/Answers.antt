use Rattle.std.proofs.Common.{List, sym, ap, ◌∙◌}
use Rattle.std.specs.Prelude.{slice_get}
use Rattle.wasm_form.specs.declared.types.Bounds.{Bounds}
use Rattle.tree_machine.specs.Begin.{least_pages}
use Rattle.module_validator.proofs.FunctionsAlone.{memories_are}
use Rattle.instance_store.proofs.memory.least_pages.Goals as goal

pub returns-in-Some : goal.returns-in-Some
returns-in-Some c =
    ap least_pages (c.in-Some.ensures.value
    ∙ ap (λ (xs : List Bounds). slice_get xs 0) (c.memories.ensures ∙ sym (memories_are c.args.module.now c.requires)))

pub returns-in-None : goal.returns-in-None
returns-in-None c =
    ap least_pages (c.in-None.ensures.value
    ∙ ap (λ (xs : List Bounds). slice_get xs 0) (c.memories.ensures ∙ sym (memories_are c.args.module.now c.requires)))
