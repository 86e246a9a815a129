use Rattle.std.proofs.Common.{◌≡◌, ◌+◌, ◌≤◌, length}
use Rattle.std.specs.Prelude.{sum_by}
use Rattle.wasm_form.specs.declared.body.LocalRun.{LocalRun}
use Rattle.module_validator.proofs.sizes.has_few.Given as goal

abbrev pub invariant-loop-run : goal.invariant-loop-run
invariant-loop-run l = record {
  same : l.total + sum_by (λ (run : LocalRun). run.count) l.left ≡ l.fn.params + sum_by (λ (run : LocalRun). run.count) l.fn.runs;
  few : l.total ≤ 50000;
}

abbrev pub decreases-loop-run : goal.decreases-loop-run
decreases-loop-run l = length l.left
