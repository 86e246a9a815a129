use Rattle.std.proofs.Common.{length, ap, sym, ◌∙◌}
use Rattle.wasm_form.specs.Context.{tables_of, memories_of, globals_of}
use Rattle.module_validator.proofs.FunctionsAlone.{tables_are, memories_are, global_count, below}
use Rattle.module_validator.proofs.exports.is_exported.Goals as goal

pub returns-in-Table : goal.returns-in-Table
returns-in-Table c =
    rw c.in-Table.is (below c.args.export.now.index (length c.tables.result.now) (length (tables_of c.args.module.now))
    (ap length (c.tables.ensures ∙ sym (tables_are c.args.module.now c.requires))))

pub returns-in-Memory : goal.returns-in-Memory
returns-in-Memory c =
    rw c.in-Memory.is (below c.args.export.now.index (length c.memories.result.now) (length (memories_of c.args.module.now))
    (ap length (c.memories.ensures ∙ sym (memories_are c.args.module.now c.requires))))

pub returns-in-Global : goal.returns-in-Global
returns-in-Global c =
    rw c.in-Global.is (below c.args.export.now.index (length c.globals.result.now) (length (globals_of c.args.module.now))
    (ap length c.globals.ensures ∙ sym (global_count c.args.module.now c.requires)))
