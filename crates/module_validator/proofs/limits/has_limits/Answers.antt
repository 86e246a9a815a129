use Rattle.std.proofs.Common.{List, sym, ◌∙◌, subst}
use Rattle.std.specs.Prelude.{All}
use Rattle.wasm_form.specs.declared.types.Bounds.{Bounds}
use Rattle.wasm_form.specs.Context.{tables_of, memories_of}
use Rattle.wasm_form.specs.Validity.{IsLimits, IsWithin}
use Rattle.module_validator.proofs.FunctionsAlone.{tables_are, memories_are}
use Rattle.module_validator.proofs.limits.has_limits.Goals as goal

pub returns : goal.returns
returns c =
    let m = c.args.module.now in
    let tables = c.tables.ensures ∙ sym (tables_are m c.requires) in
    let memories = c.memories.ensures ∙ sym (memories_are m c.requires) in
    let same = rw (tables, memories) at c.are_all_limits.ensures in (
      λ t. let h = same.0 t in record { tables = h.0; memories = h.1; pages = h.2 },
      λ h. same.1 (h.tables, h.memories, h.pages),
    )
