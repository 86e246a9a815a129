use Rattle.std.proofs.Common.{Some, sym, ap, ◌∙◌}
use Rattle.host_port.specs.declared.start.StartRefusal.{StartRefusal}
use Rattle.wasm_form.specs.declared.parts.Parts.{Parts}
use Rattle.tree_machine.specs.Begin.{begin}
use Rattle.tree_machine.specs.RunLaws.{begin_wants_no_memory}
use Rattle.instance_store.proofs.instantiation.instantiate.Goals as goal

pub returns-in-Some-clause-wants : goal.returns-in-Some-clause-wants
returns-in-Some-clause-wants c = λ e.
    let start = c.args.start.now in
    absurd (begin_wants_no_memory c.args.valid.now.parts start
    (sym (ap (λ (why : StartRefusal). Some why) (sym e) ∙ c.in-Some.ensures ∙ ap (λ (m : Parts). begin m start) c.module-module.ensures.is)))
