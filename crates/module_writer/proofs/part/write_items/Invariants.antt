use Rattle.std.proofs.Common.{take, sum_by}
use Rattle.wasm_form.specs.Values.{SpellsItems}
use Rattle.module_writer.specs.Writing.{Appends}
use Rattle.module_writer.proofs.part.write_items.Given as goal

abbrev pub invariant-loop-item : goal.invariant-loop-item
invariant-loop-item g l =
    Appends (SpellsItems g.T.Part.spells) (sum_by g.T.LeastLength.least) (take l.item-index l.items) l.fn.out.items l.out.items
