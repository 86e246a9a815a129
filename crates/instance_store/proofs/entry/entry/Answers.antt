use Rattle.std.proofs.Common.{ap, ◌∙◌}
use Rattle.std.specs.Prelude.{find, option_map}
use Rattle.wasm_form.specs.declared.parts.Export.{Export}
use Rattle.tree_machine.specs.Begin.{is_entry, entry_of}
use Rattle.instance_store.proofs.entry.entry.Goals as goal

pub returns-in-Some : goal.returns-in-Some
unfolding entry_of
returns-in-Some c =
    ap (option_map (λ (e : Export). e.index)) (c.in-Some.ensures
    ∙ ap (find (is_entry c.args.module.now c.args.name.now)) c.exports.ensures)

pub returns-in-None : goal.returns-in-None
unfolding entry_of
returns-in-None c =
    ap (option_map (λ (e : Export). e.index)) (c.in-None.ensures
    ∙ ap (find (is_entry c.args.module.now c.args.name.now)) c.exports.ensures)
