use Rattle.process_table.proofs.Ticking.{timed-is}
use Rattle.process_table.proofs.node.Node.timed.Goals as goal

pub returns : goal.returns
returns g c = rw (← c.self.view_is) (timed-is c.sound.ensures.all_told c.self.inside.journal _ c.timed.result c.self.invariant c.timed.ensures)
