use Rattle.std.proofs.Common.{ℕ, ap, subst}
use Rattle.run_queue.specs.Schedule.{Places, IsDue}
use Rattle.run_queue.proofs.Dues.{due_seen, none_early}
use Rattle.run_queue.proofs.deadlines.Deadlines.least_due.Goals as goal

pub returns-then-now-self-clause-least : goal.returns-then-now-self-clause-least
returns-then-now-self-clause-least c =
    subst (λ (places : Places). (pid : ℕ) → ¬ IsDue places.deadlines c.args.now pid) c.self.view_is
    (none_early c.self.inside.entries.items c.self.inside.earliest c.args.now c.if-now-self.true c.self.invariant.1)

pub returns-then-is_none-clause-least : goal.returns-then-is_none-clause-least
returns-then-is_none-clause-least c =
    due_seen c.args.self.now.deadlines c.self.inside.entries.items c.deref.result.now c.args.now c.least_of_due-least.result
    (ap (λ (places : Places). places.deadlines) c.self.view_is) c.deref.ensures.value c.self.invariant.0
    c.least_of_due-least.ensures

pub returns-else-is_none-clause-least : goal.returns-else-is_none-clause-least
returns-else-is_none-clause-least c =
    due_seen c.args.self.now.deadlines c.self.inside.entries.items c.deref.result.now c.args.now c.least_of_due-least.result
    (ap (λ (places : Places). places.deadlines) c.self.view_is) c.deref.ensures.value c.self.invariant.0
    c.least_of_due-least.ensures
