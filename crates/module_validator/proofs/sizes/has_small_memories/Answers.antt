use Rattle.std.proofs.Common.{List, ◌≤◌, sym, ◌∙◌, subst}
use Rattle.std.specs.Prelude.{◌↔◌, IsTrue, All}
use Rattle.wasm_form.specs.declared.types.Bounds.{Bounds}
use Rattle.module_validator.proofs.FunctionsAlone.{memories_are}
use Rattle.module_validator.proofs.sizes.has_small_memories.Goals as goal

pub returns : goal.returns
returns c =
    subst (λ (xs : List Bounds). IsTrue c.are_small.result ↔ All (λ (b : Bounds). b.min ≤ 1024) xs)
    (c.memories.ensures ∙ sym (memories_are c.args.module.now c.requires)) c.are_small.ensures
