use Rattle.std.proofs.Common.{◌≡◌, All, sum_by, take}
use Rattle.wasm_form.proofs.least_length.items_length.Given as goal

abbrev pub invariant-loop-item : goal.invariant-loop-item
invariant-loop-item g l = record {
  sum : l.total ≡ sum_by g.T.LeastLength.least (take l.item-index l.items);
  all : All g.T.LeastLength.in_range (take l.item-index l.items);
}
