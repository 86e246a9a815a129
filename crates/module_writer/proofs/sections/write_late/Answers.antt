use Rattle.module_writer.proofs.Written.{late_written}
use Rattle.module_writer.proofs.sections.write_late.Goals as goal

pub write_part-requires : goal.write_part-requires
write_part-requires c = record { small = c.requires.sizes.exports; spelled = record { bytes = c.requires.spelled.spells.exports; spells = c.requires.spelled.spells.exports_are } }

pub write_part-requires-2 : goal.write_part-requires-2
write_part-requires-2 c = record { small = c.requires.sizes.elements; spelled = record { bytes = c.requires.spelled.spells.elements; spells = c.requires.spelled.spells.elements_are } }

pub write_part-requires-3 : goal.write_part-requires-3
write_part-requires-3 c = record { small = c.requires.sizes.bodies; spelled = record { bytes = c.requires.spelled.spells.bodies; spells = c.requires.spelled.spells.bodies_are } }

pub write_part-requires-4 : goal.write_part-requires-4
write_part-requires-4 c = record { small = c.requires.sizes.segments; spelled = record { bytes = c.requires.spelled.spells.segments; spells = c.requires.spelled.spells.segments_are } }

pub returns : goal.returns
returns c =
    late_written _ _ _ _ _ _ _ c.in_ok-write_part.ensures c.in_ok-write_start.ensures c.in_ok-write_part-2.ensures
    c.in_ok-write_part-3.ensures c.in_ok-write_part-4.ensures
