use Rattle.std.proofs.Common.{arith, refl}
use Rattle.resource_table.specs.Handles.{numbers_of}
use Rattle.resource_table.specs.Steps.{told}
use Rattle.host_calls.specs.Shown.{seat_of}
use Rattle.node_state.specs.Seats.{meaning}
use Rattle.host_calls.proofs.Keeping.{keeps_fields}
use Rattle.host_calls.proofs.Turns.{goes_by_step, ends_by_step, asks_nothing}
use Rattle.host_calls.proofs.whole_turn.go_on.Goals as goal

pub returns-in-Asks-clause-goes : goal.returns-in-Asks-clause-goes
returns-in-Asks-clause-goes g c program p rows left to =
    let engines = meaning g.E.Engine.stands g.E.Engine.phase g.E.Engine.memory in
    let step = c.step-stop.ensures in
    let seat = seat_of c.args.proc.now in
    c.meet.ensures.goes.goes program p rows c.requires.few
    (rw c.fuel_after-proc.ensures
    (goes_by_step engines g.E.Engine.at program p seat (numbers_of c.args.proc.now.shed) c.step-stop.new.self c.args.calls.now.items c.args.budget c.step-stop.result.1 c.step-stop.result.0 to
    c.requires.few left (step.stops program p.start _ _ to.gone.stands) (step.stands program p.start _ _ to.gone.stands)))

pub returns-in_default : goal.returns-in_default
returns-in_default g c =
    let engines = meaning g.E.Engine.stands g.E.Engine.phase g.E.Engine.memory in
    let step = c.step-stop.ensures in
    let a = c.fuel_after-proc.ensures in
    let w = step.within in
    let proc = c.args.proc.now in
    let seat = seat_of proc in
    record {
      same = refl;
      owed = refl;
      from = omega arith;
      within = omega arith;
      way = λ none. absurd (cc);
      count = λ none. absurd (cc);
      goes = λ program p rows left to. rw (c.fuel_after-proc.ensures, c.halt_of.ensures)
          (ends_by_step engines g.E.Engine.at program p seat (numbers_of proc.shed) c.step-stop.new.self c.args.calls.now.items c.args.budget c.step-stop.result.1 c.step-stop.result.0 to
          c.requires.few left (step.stops program p.start _ _ to.gone.stands) (step.stands program p.start _ _ to.gone.stands) step.phase c.in_default.not-Asks);
      streams = keeps_fields (told g.O.Stream.Stream.taken g.O.Stream.Stream.put g.O.Stream.Stream.faults g.O.Stream.Stream.waits g.O.Stream.Stream.empties g.O.Stream.Stream.down) proc (record
          proc { engine = c.step-stop.new.self; fuel = c.fuel_after-proc.result }) c.requires.order refl refl refl;
      asks = rw c.halt_of.ensures (asks_nothing _ _ _ c.step-stop.result.0);
    }
