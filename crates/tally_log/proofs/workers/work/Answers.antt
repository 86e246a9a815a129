use Rattle.std.proofs.Common.{ℕ, List, subst}
use Rattle.log_lock.specs.Words.{knowledge}
use Rattle.tally_log.specs.Tally.{AddsAll}
use Rattle.tally_log.proofs.Amounts.{one_worked}
use Rattle.tally_log.proofs.workers.work.Goals as goal

pub returns-clause-worked : goal.returns-clause-worked
returns-clause-worked g c =
    one_worked c.args.plan.now.start c.args.plan.now.workers c.args.number c.args.plan.now.amounts.items
    c.add_all.result.1 (knowledge c.args.pass) (knowledge c.add_all.result.0) c.requires.1 c.add_all.ensures.knows
    (subst (λ (l : List ℕ). AddsAll c.add_all.result.1 l (knowledge c.args.pass) (knowledge c.add_all.result.0))
    c.deref.ensures.value c.add_all.ensures.adds)
