use Rattle.std.proofs.Common.{length}
use Rattle.module_reader.proofs.SectionsSeen.{SectionsSeen}
use Rattle.module_reader.proofs.sections.read_sections.Given as goal

abbrev pub invariant-loop-cursor : goal.invariant-loop-cursor
invariant-loop-cursor l = SectionsSeen l.bytes l.cursor.left l.last l.parts

abbrev pub decreases-loop-cursor : goal.decreases-loop-cursor
decreases-loop-cursor l = length l.cursor.left
