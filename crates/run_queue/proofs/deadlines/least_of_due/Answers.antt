use Rattle.std.proofs.Common.{ℕ, ◌+◌, Option, Some, take, ap, sym, ◌∙◌, subst}
use Rattle.run_queue.specs.Schedule.{IsLeastOf, due_numbers}
use Rattle.run_queue.proofs.Dues.{least_more, least_same}
use Rattle.run_queue.proofs.deadlines.least_of_due.Goals as goal
use Rattle.run_queue.proofs.deadlines.least_of_due.Goals.{then-at-now, else-at-now}

pub loop-pid-preserved : goal.loop-pid-preserved
loop-pid-preserved c =
    elim c.if-at-now.branch [
      | then-at-now w ↦
          subst (λ (o : Option ℕ). IsLeastOf o (due_numbers c.args.now
          (take (c.loop-pid.pid-index + 1) c.args.entries.now))) (sym (w.least-is ∙ ap Some w.lesser.ensures))
          (least_more c.args.entries.now c.args.now c.loop-pid.pid-index (0, 0) c.loop-pid.least c.loop-pid-test.true
          w.if-at-now.true c.loop-pid.invariant)
      | else-at-now w ↦
          subst (λ (o : Option ℕ). IsLeastOf o (due_numbers c.args.now
          (take (c.loop-pid.pid-index + 1) c.args.entries.now))) (sym w.least-is)
          (least_same c.args.entries.now c.args.now c.loop-pid.pid-index (0, 0) c.loop-pid.least c.loop-pid-test.true
          w.if-at-now.false c.loop-pid.invariant)
    ]
