use Rattle.std.proofs.Common.{length, ap, sym, ◌∙◌}
use Rattle.wasm_form.specs.Context.{memories_of}
use Rattle.module_validator.proofs.FunctionsAlone.{memories_are, at_most}
use Rattle.module_validator.proofs.limits.has_one_memory.Goals as goal

pub returns : goal.returns
returns c =
    at_most (length c.memories.result.now) (length (memories_of c.args.module.now)) 1
    (ap length (c.memories.ensures ∙ sym (memories_are c.args.module.now c.requires)))
