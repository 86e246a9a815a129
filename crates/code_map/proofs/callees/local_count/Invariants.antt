use Rattle.std.proofs.Common.{◌≡◌, take}
use Rattle.std.specs.Prelude.{sum_by}
use Rattle.wasm_form.specs.declared.body.LocalRun.{LocalRun}
use Rattle.code_map.proofs.callees.local_count.Given as goal

abbrev pub invariant-loop-run : goal.invariant-loop-run
invariant-loop-run l = l.count ≡ sum_by (λ (run : LocalRun). run.count) (take l.run-index l.runs)
