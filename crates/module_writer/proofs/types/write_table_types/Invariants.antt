use Rattle.std.proofs.Common.{take, sum_by}
use Rattle.wasm_form.specs.Values.{SpellsItems}
use Rattle.wasm_form.specs.Types.{SpellsTableType}
use Rattle.wasm_form.specs.Least.{least_table_type}
use Rattle.module_writer.specs.Writing.{Appends}
use Rattle.module_writer.proofs.types.write_table_types.Given as goal

abbrev pub invariant-loop-bounds : goal.invariant-loop-bounds
invariant-loop-bounds l = Appends (SpellsItems SpellsTableType) (sum_by least_table_type) (take l.bounds-index l.tables) l.fn.out.items l.out.items
