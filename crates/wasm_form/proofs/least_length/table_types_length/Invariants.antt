use Rattle.std.proofs.Common.{◌≡◌, All, sum_by, take}
use Rattle.wasm_form.specs.Least.{least_table_type}
use Rattle.wasm_form.specs.Ranges.{HasBoundsRange}
use Rattle.wasm_form.proofs.least_length.table_types_length.Given as goal

abbrev pub invariant-loop-bounds : goal.invariant-loop-bounds
invariant-loop-bounds l = record {
  sum : l.total ≡ sum_by least_table_type (take l.bounds-index l.tables);
  all : All HasBoundsRange (take l.bounds-index l.tables);
}
