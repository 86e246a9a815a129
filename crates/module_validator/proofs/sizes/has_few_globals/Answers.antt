use Rattle.std.proofs.Common.{length, ap, sym, ◌∙◌}
use Rattle.wasm_form.specs.Context.{globals_of}
use Rattle.module_validator.proofs.FunctionsAlone.{global_count, at_most}
use Rattle.module_validator.proofs.sizes.has_few_globals.Goals as goal

pub returns : goal.returns
returns c =
    at_most (length c.globals.result.now) (length (globals_of c.args.module.now)) 10000
    (ap length c.globals.ensures ∙ sym (global_count c.args.module.now c.requires))
