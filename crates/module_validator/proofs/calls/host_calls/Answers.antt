use Rattle.std.proofs.Common.{sym, ap, ◌∙◌}
use Rattle.body_validator.proofs.Lists.{found_more, other_more}
use Rattle.module_validator.specs.Calls.{call_of}
use Rattle.module_validator.proofs.calls.host_calls.Goals as goal
use Rattle.module_validator.proofs.calls.host_calls.Goals.{in-Some+in_ok-push, in_default}

pub loop-import-preserved : goal.loop-import-preserved
loop-import-preserved c =
    elim c.match-host_call.branch [
      | in-Some+in_ok-push w ↦ found_more call_of c.imports-import-items.result.now c.loop-import.import-index c.import-item.result w.in-Some.call _ _
          c.loop-import-test.true c.import-item.is (sym c.host_call.ensures ∙ w.in-Some.is) c.loop-import.invariant
          (ap (λ v. v.items) w.calls-is ∙ w.in_ok-push.ensures.items)
      | in_default w ↦ ap (λ v. v.items) w.calls-is
          ∙ other_more call_of c.imports-import-items.result.now c.loop-import.import-index c.import-item.result _ c.loop-import-test.true c.import-item.is
          (sym c.host_call.ensures ∙ w.in_default.is) c.loop-import.invariant
    ]
