use Rattle.std.proofs.Common.{ℕ, ◌↔◌, not, IsTrue, subst}
use Rattle.std.specs.Option.{IsSome}
use Rattle.std.specs.FinMap.{get}
use Rattle.run_queue.specs.Schedule.{Schedule}
use Rattle.run_queue.proofs.Dues.{has_deadlines}
use Rattle.run_queue.proofs.queue.Queue.timed.Goals as goal

pub returns : goal.returns
returns c =
    subst (λ (s : Schedule). IsTrue (not c.is_empty.result) ↔ ((pid : ℕ) × IsSome (get s.deadlines pid))) c.self.view_is
    (has_deadlines c.self.inside.deadlines.deadlines c.is_empty.result c.is_empty.ensures)
