use Rattle.process_table.proofs.Owning.{keeps-streams}
use Rattle.process_table.proofs.node.Node.starve.Goals as goal

pub returns-else-not-self-clause-streams : goal.returns-else-not-self-clause-streams
returns-else-not-self-clause-streams g c = rw (← c.self.view_is) (keeps-streams _ c.self.inside.journal _ _ _ _ c.self.invariant)

pub returns-else-not-self-clause-run : goal.returns-else-not-self-clause-run
returns-else-not-self-clause-run g c = rw (← c.self.view_is) c.self.invariant.stands.run
