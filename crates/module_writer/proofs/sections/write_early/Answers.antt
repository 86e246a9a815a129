use Rattle.module_writer.proofs.Written.{early_written}
use Rattle.module_writer.proofs.sections.write_early.Goals as goal

pub write_part-requires : goal.write_part-requires
write_part-requires c = record { small = c.requires.sizes.types; spelled = record { bytes = c.requires.spelled.spells.types; spells = c.requires.spelled.spells.types_are } }

pub write_part-requires-2 : goal.write_part-requires-2
write_part-requires-2 c = record { small = c.requires.sizes.imports; spelled = record { bytes = c.requires.spelled.spells.imports; spells = c.requires.spelled.spells.imports_are } }

pub write_part-requires-3 : goal.write_part-requires-3
write_part-requires-3 c = record { small = c.requires.sizes.functions; spelled = record { bytes = c.requires.spelled.spells.functions; spells = c.requires.spelled.spells.functions_are } }

pub write_tables-requires : goal.write_tables-requires
write_tables-requires c = record { small = c.requires.sizes.tables; spelled = record { bytes = c.requires.spelled.spells.tables; spells = c.requires.spelled.spells.tables_are } }

pub write_part-requires-4 : goal.write_part-requires-4
write_part-requires-4 c = record { small = c.requires.sizes.memories; spelled = record { bytes = c.requires.spelled.spells.memories; spells = c.requires.spelled.spells.memories_are } }

pub write_part-requires-5 : goal.write_part-requires-5
write_part-requires-5 c = record { small = c.requires.sizes.globals; spelled = record { bytes = c.requires.spelled.spells.globals; spells = c.requires.spelled.spells.globals_are } }

pub returns : goal.returns
returns c =
    early_written _ _ _ _ _ _ _ _ c.in_ok-write_part.ensures c.in_ok-write_part-2.ensures c.in_ok-write_part-3.ensures c.in_ok-write_tables.ensures
    c.in_ok-write_part-4.ensures c.in_ok-write_part-5.ensures
