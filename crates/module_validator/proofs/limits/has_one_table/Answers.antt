use Rattle.std.proofs.Common.{length, ap, sym, ◌∙◌}
use Rattle.wasm_form.specs.Context.{tables_of}
use Rattle.module_validator.proofs.FunctionsAlone.{tables_are, at_most}
use Rattle.module_validator.proofs.limits.has_one_table.Goals as goal

pub returns : goal.returns
returns c =
    at_most (length c.tables.result.now) (length (tables_of c.args.module.now)) 1
    (ap length (c.tables.ensures ∙ sym (tables_are c.args.module.now c.requires)))
