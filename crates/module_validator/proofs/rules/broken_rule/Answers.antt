-- Each rule is judged where those before it are kept.
use Rattle.std.proofs.lemmas.Bool.{iff_false}
use Rattle.module_validator.proofs.Order.{breaks_1, breaks_2, breaks_3, breaks_4, breaks_5, breaks_6, breaks_7, breaks_8, breaks_9, breaks_10, breaks_11, keeps_all}
use Rattle.module_validator.proofs.rules.broken_rule.Goals as goal

pub returns-then-not-has_single_results : goal.returns-then-not-has_single_results
returns-then-not-has_single_results c =
    breaks_1 c.args.module.now (iff_false c.has_single_results.ensures c.if-not-has_single_results.true)

pub returns-then-not-has_function_types : goal.returns-then-not-has_function_types
returns-then-not-has_function_types c =
    breaks_2 c.args.module.now (c.has_single_results.ensures.0 c.if-not-has_single_results.false) (iff_false c.has_function_types.ensures c.if-not-has_function_types.true)

pub returns-then-not-has_one_table : goal.returns-then-not-has_one_table
returns-then-not-has_one_table c =
    breaks_3 c.args.module.now (c.has_single_results.ensures.0 c.if-not-has_single_results.false) (c.has_function_types.ensures.0 c.if-not-has_function_types.false) (iff_false c.has_one_table.ensures c.if-not-has_one_table.true)

pub returns-then-not-has_one_memory : goal.returns-then-not-has_one_memory
returns-then-not-has_one_memory c =
    breaks_4 c.args.module.now (c.has_single_results.ensures.0 c.if-not-has_single_results.false) (c.has_function_types.ensures.0 c.if-not-has_function_types.false) (c.has_one_table.ensures.0 c.if-not-has_one_table.false) (iff_false c.has_one_memory.ensures c.if-not-has_one_memory.true)

pub returns-then-not-has_limits : goal.returns-then-not-has_limits
returns-then-not-has_limits c =
    breaks_5 c.args.module.now (c.has_single_results.ensures.0 c.if-not-has_single_results.false) (c.has_function_types.ensures.0 c.if-not-has_function_types.false) (c.has_one_table.ensures.0 c.if-not-has_one_table.false) (c.has_one_memory.ensures.0 c.if-not-has_one_memory.false) (iff_false c.has_limits.ensures c.if-not-has_limits.true)

pub returns-then-not-has_constant_globals : goal.returns-then-not-has_constant_globals
returns-then-not-has_constant_globals c =
    breaks_6 c.args.module.now (c.has_single_results.ensures.0 c.if-not-has_single_results.false) (c.has_function_types.ensures.0 c.if-not-has_function_types.false) (c.has_one_table.ensures.0 c.if-not-has_one_table.false) (c.has_one_memory.ensures.0 c.if-not-has_one_memory.false) (c.has_limits.ensures.0 c.if-not-has_limits.false) (iff_false c.has_constant_globals.ensures c.if-not-has_constant_globals.true)

pub returns-then-not-has_exported : goal.returns-then-not-has_exported
returns-then-not-has_exported c =
    breaks_7 c.args.module.now (c.has_single_results.ensures.0 c.if-not-has_single_results.false) (c.has_function_types.ensures.0 c.if-not-has_function_types.false) (c.has_one_table.ensures.0 c.if-not-has_one_table.false) (c.has_one_memory.ensures.0 c.if-not-has_one_memory.false) (c.has_limits.ensures.0 c.if-not-has_limits.false) (c.has_constant_globals.ensures.0 c.if-not-has_constant_globals.false) (iff_false c.has_exported.ensures c.if-not-has_exported.true)

pub returns-then-not-branch : goal.returns-then-not-branch
returns-then-not-branch c =
    breaks_8 c.args.module.now (c.has_single_results.ensures.0 c.if-not-has_single_results.false) (c.has_function_types.ensures.0 c.if-not-has_function_types.false) (c.has_one_table.ensures.0 c.if-not-has_one_table.false) (c.has_one_memory.ensures.0 c.if-not-has_one_memory.false) (c.has_limits.ensures.0 c.if-not-has_limits.false) (c.has_constant_globals.ensures.0 c.if-not-has_constant_globals.false) (c.has_exported.ensures.0 c.if-not-has_exported.false) (c.in_ok-has_distinct_names.ensures.no (cc))

pub returns-then-not-has_start : goal.returns-then-not-has_start
returns-then-not-has_start c =
    breaks_9 c.args.module.now (c.has_single_results.ensures.0 c.if-not-has_single_results.false) (c.has_function_types.ensures.0 c.if-not-has_function_types.false) (c.has_one_table.ensures.0 c.if-not-has_one_table.false) (c.has_one_memory.ensures.0 c.if-not-has_one_memory.false) (c.has_limits.ensures.0 c.if-not-has_limits.false) (c.has_constant_globals.ensures.0 c.if-not-has_constant_globals.false) (c.has_exported.ensures.0 c.if-not-has_exported.false) (c.in_ok-has_distinct_names.ensures.yes (cc)) (iff_false c.has_start.ensures c.if-not-has_start.true)

pub returns-then-not-has_elements : goal.returns-then-not-has_elements
returns-then-not-has_elements c =
    breaks_10 c.args.module.now (c.has_single_results.ensures.0 c.if-not-has_single_results.false) (c.has_function_types.ensures.0 c.if-not-has_function_types.false) (c.has_one_table.ensures.0 c.if-not-has_one_table.false) (c.has_one_memory.ensures.0 c.if-not-has_one_memory.false) (c.has_limits.ensures.0 c.if-not-has_limits.false) (c.has_constant_globals.ensures.0 c.if-not-has_constant_globals.false) (c.has_exported.ensures.0 c.if-not-has_exported.false) (c.in_ok-has_distinct_names.ensures.yes (cc)) (c.has_start.ensures.0 c.if-not-has_start.false) (iff_false c.has_elements.ensures c.if-not-has_elements.true)

pub returns-then-not-has_segments : goal.returns-then-not-has_segments
returns-then-not-has_segments c =
    breaks_11 c.args.module.now (c.has_single_results.ensures.0 c.if-not-has_single_results.false) (c.has_function_types.ensures.0 c.if-not-has_function_types.false) (c.has_one_table.ensures.0 c.if-not-has_one_table.false) (c.has_one_memory.ensures.0 c.if-not-has_one_memory.false) (c.has_limits.ensures.0 c.if-not-has_limits.false) (c.has_constant_globals.ensures.0 c.if-not-has_constant_globals.false) (c.has_exported.ensures.0 c.if-not-has_exported.false) (c.in_ok-has_distinct_names.ensures.yes (cc)) (c.has_start.ensures.0 c.if-not-has_start.false) (c.has_elements.ensures.0 c.if-not-has_elements.false) (iff_false c.has_segments.ensures c.if-not-has_segments.true)

pub returns-else-not-has_segments : goal.returns-else-not-has_segments
returns-else-not-has_segments c =
    keeps_all c.args.module.now (c.has_single_results.ensures.0 c.if-not-has_single_results.false) (c.has_function_types.ensures.0 c.if-not-has_function_types.false) (c.has_one_table.ensures.0 c.if-not-has_one_table.false) (c.has_one_memory.ensures.0 c.if-not-has_one_memory.false) (c.has_limits.ensures.0 c.if-not-has_limits.false) (c.has_constant_globals.ensures.0 c.if-not-has_constant_globals.false) (c.has_exported.ensures.0 c.if-not-has_exported.false) (c.in_ok-has_distinct_names.ensures.yes (cc)) (c.has_start.ensures.0 c.if-not-has_start.false) (c.has_elements.ensures.0 c.if-not-has_elements.false) (c.has_segments.ensures.0 c.if-not-has_segments.false)
