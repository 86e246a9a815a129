-- Each rule is judged where those before it are kept.
use Rattle.std.proofs.lemmas.Bool.{iff_false}
use Rattle.module_validator.specs.Host.{host}
use Rattle.module_validator.proofs.Order.{outside_1, outside_2, outside_3, outside_4, outside_5, outside_6, outside_7, outside_8, outside_9, inside_all}
use Rattle.module_validator.proofs.profile.broken_profile_rule.Goals as goal

pub returns-then-not-has_no_float : goal.returns-then-not-has_no_float
returns-then-not-has_no_float c =
    outside_1 host c.args.module.now (iff_false c.has_no_float.ensures c.if-not-has_no_float.true)

pub returns-then-not-imports_functions : goal.returns-then-not-imports_functions
returns-then-not-imports_functions c =
    outside_2 host c.args.module.now (c.has_no_float.ensures.0 c.if-not-has_no_float.false) (iff_false c.imports_functions.ensures c.if-not-imports_functions.true)

pub returns-then-not-imports_offered : goal.returns-then-not-imports_offered
returns-then-not-imports_offered c =
    outside_3 host c.args.module.now (c.has_no_float.ensures.0 c.if-not-has_no_float.false) (c.imports_functions.ensures.0 c.if-not-imports_functions.false) (iff_false c.imports_offered.ensures c.if-not-imports_offered.true)

pub returns-then-not-imports_typed : goal.returns-then-not-imports_typed
returns-then-not-imports_typed c =
    outside_4 host c.args.module.now (c.has_no_float.ensures.0 c.if-not-has_no_float.false) (c.imports_functions.ensures.0 c.if-not-imports_functions.false) (c.imports_offered.ensures.0 c.if-not-imports_offered.false) (iff_false c.imports_typed.ensures c.if-not-imports_typed.true)

pub returns-then-not-has_small_memories : goal.returns-then-not-has_small_memories
returns-then-not-has_small_memories c =
    outside_5 host c.args.module.now (c.has_no_float.ensures.0 c.if-not-has_no_float.false) (c.imports_functions.ensures.0 c.if-not-imports_functions.false) (c.imports_offered.ensures.0 c.if-not-imports_offered.false) (c.imports_typed.ensures.0 c.if-not-imports_typed.false) (iff_false c.has_small_memories.ensures c.if-not-has_small_memories.true)

pub returns-then-not-has_small_tables : goal.returns-then-not-has_small_tables
returns-then-not-has_small_tables c =
    outside_6 host c.args.module.now (c.has_no_float.ensures.0 c.if-not-has_no_float.false) (c.imports_functions.ensures.0 c.if-not-imports_functions.false) (c.imports_offered.ensures.0 c.if-not-imports_offered.false) (c.imports_typed.ensures.0 c.if-not-imports_typed.false) (c.has_small_memories.ensures.0 c.if-not-has_small_memories.false) (iff_false c.has_small_tables.ensures c.if-not-has_small_tables.true)

pub returns-then-not-has_few_locals : goal.returns-then-not-has_few_locals
returns-then-not-has_few_locals c =
    outside_7 host c.args.module.now (c.has_no_float.ensures.0 c.if-not-has_no_float.false) (c.imports_functions.ensures.0 c.if-not-imports_functions.false) (c.imports_offered.ensures.0 c.if-not-imports_offered.false) (c.imports_typed.ensures.0 c.if-not-imports_typed.false) (c.has_small_memories.ensures.0 c.if-not-has_small_memories.false) (c.has_small_tables.ensures.0 c.if-not-has_small_tables.false) (iff_false c.has_few_locals.ensures c.if-not-has_few_locals.true)

pub returns-then-not-has_few_globals : goal.returns-then-not-has_few_globals
returns-then-not-has_few_globals c =
    outside_8 host c.args.module.now (c.has_no_float.ensures.0 c.if-not-has_no_float.false) (c.imports_functions.ensures.0 c.if-not-imports_functions.false) (c.imports_offered.ensures.0 c.if-not-imports_offered.false) (c.imports_typed.ensures.0 c.if-not-imports_typed.false) (c.has_small_memories.ensures.0 c.if-not-has_small_memories.false) (c.has_small_tables.ensures.0 c.if-not-has_small_tables.false) (c.has_few_locals.ensures.0 c.if-not-has_few_locals.false) (iff_false c.has_few_globals.ensures c.if-not-has_few_globals.true)

pub returns-then-not-has_few_parameters : goal.returns-then-not-has_few_parameters
returns-then-not-has_few_parameters c =
    outside_9 host c.args.module.now (c.has_no_float.ensures.0 c.if-not-has_no_float.false) (c.imports_functions.ensures.0 c.if-not-imports_functions.false) (c.imports_offered.ensures.0 c.if-not-imports_offered.false) (c.imports_typed.ensures.0 c.if-not-imports_typed.false) (c.has_small_memories.ensures.0 c.if-not-has_small_memories.false) (c.has_small_tables.ensures.0 c.if-not-has_small_tables.false) (c.has_few_locals.ensures.0 c.if-not-has_few_locals.false) (c.has_few_globals.ensures.0 c.if-not-has_few_globals.false) (iff_false c.has_few_parameters.ensures c.if-not-has_few_parameters.true)

pub returns-else-not-has_few_parameters : goal.returns-else-not-has_few_parameters
returns-else-not-has_few_parameters c =
    inside_all host c.args.module.now (c.has_no_float.ensures.0 c.if-not-has_no_float.false) (c.imports_functions.ensures.0 c.if-not-imports_functions.false) (c.imports_offered.ensures.0 c.if-not-imports_offered.false) (c.imports_typed.ensures.0 c.if-not-imports_typed.false) (c.has_small_memories.ensures.0 c.if-not-has_small_memories.false) (c.has_small_tables.ensures.0 c.if-not-has_small_tables.false) (c.has_few_locals.ensures.0 c.if-not-has_few_locals.false) (c.has_few_globals.ensures.0 c.if-not-has_few_globals.false) (c.has_few_parameters.ensures.0 c.if-not-has_few_parameters.false)
