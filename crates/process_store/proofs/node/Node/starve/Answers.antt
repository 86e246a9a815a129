use Rattle.process_store.proofs.NodeStanding.{keeps_streams}
use Rattle.process_store.proofs.node.Node.starve.Goals as goal

pub returns-else-not-is_over-clause-streams : goal.returns-else-not-is_over-clause-streams
returns-else-not-is_over-clause-streams g c =
    let i = c.self.inside in
    rw (← c.self.view_is) (keeps_streams _ _ i.journal i.live i.idle i.spare i.store c.self.invariant.stands c.self.invariant.streams)

pub returns-else-not-is_over-clause-run : goal.returns-else-not-is_over-clause-run
returns-else-not-is_over-clause-run g c = rw (← c.self.view_is) c.self.invariant.stands.run
