use Rattle.std.proofs.Common.{rules, ap, ◌∙◌, subst, ◌%◌, ◌^◌}
use Rattle.log_lock.specs.Rule.{ticket_of}
use Rattle.log_lock.specs.Steps.{TakesValue}
use Rattle.log_lock.proofs.QueueSteps.{serves}
use Rattle.log_lock.proofs.pass.LogLock.wait_for_turn.Goals as goal

pub load-requires : goal.load-requires
load-requires g c = (search rules, search rules, serves _ _ _ _ _ _ _ (ticket_of c.loop.seat.me.0.turn) _ (search rules) (search rules) (search rules))

pub returns-then-load-ticket-clause-taken : goal.returns-then-load-ticket-clause-taken
returns-then-load-ticket-clause-taken g c =
    let same = c.loop.invariant.2 in
    subst (λ m. TakesValue g.V.Logged.entries g.V.Logged.maker g.V.Logged.base m c.load.new.seat.me) same
    (c.load.ensures.2.0 (ap (λ m. ticket_of m.0.turn % 2 ^ 64) same ∙ (c.requires.waits.2 ∙ search rules)))
