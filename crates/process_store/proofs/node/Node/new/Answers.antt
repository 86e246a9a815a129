use Rattle.std.proofs.Common.{map}
use Rattle.std.specs.Arc.{arc_value}
use Rattle.process_store.proofs.NodeBeginning.{node_first, program_at}
use Rattle.process_store.proofs.NodeStanding.{keeps_streams}
use Rattle.process_store.proofs.node.Node.new.Goals as goal

pub invariant_of-result : goal.invariant_of-result
invariant_of-result g c =
    node_first c.first_node_stands.ensures g.E.Engine.begin g.E.Engine.at (map arc_value c.args.programs.items) c.in-Ok.journal c.args.live c.args.idle c.in-Ok-new.store
    (arc_value c.index.result.now) c.in_ok-engine.engine c.args.start c.in-Ok-new.ensures.begins c.requires.first
    (program_at arc_value c.args.programs.items c.args.start.«module» c.index.result.now c.requires.program c.index.ensures) c.in_ok-engine.ensures.begins
    c.in-Ok.ensures.begins c.in-Ok.ensures.place c.in_ok-engine.ensures.stands c.in_ok-engine.ensures.running c.requires.rows

pub returns-clause-streams : goal.returns-clause-streams
returns-clause-streams g c =
    let keeps = invariant_of-result g c in
    keeps_streams _ (map arc_value c.args.programs.items) c.in-Ok.journal c.args.live c.args.idle 0 c.in-Ok-new.store keeps.stands keeps.streams

pub returns-clause-run : goal.returns-clause-run
returns-clause-run g c = (invariant_of-result g c).stands.run
