use Rattle.std.proofs.Common.{◌≡◌, ◌<◌, ◌^◌, take, sum_by}
use Rattle.wasm_form.proofs.sizes.are_few.Given as goal

abbrev pub invariant-loop-run : goal.invariant-loop-run
invariant-loop-run l = record {
  sum : l.total ≡ sum_by (λ run. run.count) (take l.run-index l.runs);
  few : l.total < 2 ^ 32;
}
