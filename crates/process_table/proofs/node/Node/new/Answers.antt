use Rattle.std.proofs.Common.{map, refl}
use Rattle.std.specs.Arc.{arc_value}
use Rattle.process_table.proofs.Beginning.{node-born, program-at, begins-same}
use Rattle.process_table.proofs.Owning.{keeps-streams}
use Rattle.process_table.proofs.node.Node.new.Goals as goal

pub invariant_of-result : goal.invariant_of-result
invariant_of-result g c =
    let h = c.in-Ok-first_holdings.ensures in
    node-born g.E.Engine.begin g.E.Engine.at (map arc_value c.args.programs.items) c.in-Ok.journal c.args.live c.args.idle _ h.proc (arc_value c.index.result.now) c.in_ok-engine.engine
    c.args.start h.engine_is h.start_is
    c.requires.first (program-at arc_value c.args.programs.items c.args.start.«module» c.index.result.now c.requires.program c.index.ensures) c.in_ok-engine.ensures.begins
    c.in-Ok.ensures.begins c.in-Ok.ensures.place c.in_ok-engine.ensures.stands c.in_ok-engine.ensures.running
    h.has
    (record {
      places = h.places;
      mail = h.mail;
      ready = c.in-Ok-first_queue.ensures.ready;
      deadlines = c.in-Ok-first_queue.ensures.deadlines;
      wide = c.in-Ok-first_queue.ensures.room;
      sends = refl;
      time = refl;
      row = refl;
      out = refl;
      over = refl;
      streams = refl;
      closed = c.new.ensures.items;
      shed = h.shed;
      spare = refl;
    }) c.requires.rows

pub returns-in-Err-clause-wants : goal.returns-in-Err-clause-wants
returns-in-Err-clause-wants g c = λ why program found.
    begins-same arc_value g.E.Engine.begin c.args.programs.items c.args.start c.index.result.now program c.requires.program c.index.ensures c.in_ok-engine.ensures.begins found

pub returns-clause-streams : goal.returns-clause-streams
returns-clause-streams g c = keeps-streams _ c.in-Ok.journal _ _ _ _ (invariant_of-result g c)

pub returns-clause-run : goal.returns-clause-run
returns-clause-run g c = (invariant_of-result g c).stands.run
