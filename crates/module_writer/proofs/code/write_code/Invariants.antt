use Rattle.std.proofs.Common.{take, sum_by}
use Rattle.wasm_form.specs.Values.{SpellsItems}
use Rattle.module_writer.specs.Writing.{Appends}
use Rattle.module_writer.specs.Lines.{SpellsLine, least_line}
use Rattle.module_writer.proofs.code.write_code.Given as goal

abbrev pub invariant-loop-instr : goal.invariant-loop-instr
invariant-loop-instr l =
    Appends (SpellsItems (SpellsLine l.labels)) (sum_by (least_line l.labels)) (take l.instr-index l.code) l.fn.out.items l.out.items
