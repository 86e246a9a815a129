use Rattle.std.proofs.Common.{sym, ◌∙◌}
use Rattle.log_lock.specs.Words.{knowledge}
use Rattle.log_lock.proofs.QueueSteps.{false-true}
use Rattle.tally_log.proofs.Amounts.{both_worked}
use Rattle.tally_log.proofs.workers.+fn-work_from-join+arg3+work_from.Goals as goal
use Rattle.tally_log.proofs.workers.+fn-work_from-join+arg3+work_from.Goals.{then-one_added, else-one_added}

pub returns-clause-worked : goal.returns-clause-worked
returns-clause-worked g t c =
    both_worked _ _ _ _ _ c.join-one.result.0.1 c.join-one.result.1.1 _ (knowledge c.join-one.result.0.0)
    (knowledge c.join-one.result.1.0) (knowledge c.join.result) c.join-one.ensures.first.1
    c.join-one.ensures.second.1 c.join.ensures.knows c.join.ensures.this c.join.ensures.that
    (λ r. elim c.if-one_added.branch [
      | then-one_added w ↦ (w.if-one_added.true, sym w.result-is ∙ r)
      | else-one_added w ↦
          absurd (false-true (sym w.if-one_added.false ∙ (sym w.result-is ∙ r)))
    ])
