use Rattle.std.proofs.Common.{map}
use Rattle.std.specs.Arc.{arc_value}
use Rattle.node_laws.proofs.Programs.{keeps-sound}
use Rattle.process_store.proofs.NodeClosing.{over_vacant, over_emptied}
use Rattle.process_store.proofs.NodeStanding.{keeps_streams}
use Rattle.process_store.proofs.node.Node.close.Goals as goal

pub close-requires-clause-vacant : goal.close-requires-clause-vacant
close-requires-clause-vacant g c κs within = over_vacant c.self.inside.journal c.self.inside.store c.self.invariant.stands (rw (← c.self.view_is) at c.requires.over)

pub close-requires-clause-empty : goal.close-requires-clause-empty
close-requires-clause-empty g c κs within =
    over_emptied (keeps-sound c.sound.ensures.first c.sound.ensures.kept c.touches.ensures.stays c.touches.ensures.counts) c.touches.ensures.touched c.sound.ensures.all_told
    c.self.inside.journal c.self.inside.store c.self.invariant.stands (rw (← c.self.view_is) at c.requires.over)

pub returns-clause-streams : goal.returns-clause-streams
returns-clause-streams g c =
    let i = c.self.inside in
    rw (← c.self.view_is) (keeps_streams _ (map arc_value i.programs.items) i.journal i.live i.idle i.spare i.store c.self.invariant.stands c.self.invariant.streams)

pub returns-clause-run : goal.returns-clause-run
returns-clause-run g c = rw (← c.self.view_is) c.self.invariant.stands.run
