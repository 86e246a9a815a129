use Rattle.module_writer.proofs.LineBytes.{line_numbers, appends_line}
use Rattle.module_writer.proofs.code.write_instr.Goals as goal

pub write_numbers-requires : goal.write_numbers-requires
write_numbers-requires c = line_numbers _ _ c.requires

pub returns : goal.returns
returns c =
    appends_line _ _ _ _ _ _ c.in_ok-push.ensures.items c.in_ok-write_numbers.ensures (rw c.after.ensures at c.in_ok-write_zero.ensures)
