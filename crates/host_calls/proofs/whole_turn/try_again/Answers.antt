use Rattle.std.proofs.Common.{◌≡◌, None, Some, refl}
use Rattle.host_port.specs.Areas.{request_of}
use Rattle.resource_table.specs.Handles.{numbers_of}
use Rattle.resource_table.specs.Steps.{told}
use Rattle.world_rules.specs.declared.entry.Side.TheVariants.{Opened}
use Rattle.world_rules.specs.declared.halt.Halt.TheVariants.{NoMemory}
use Rattle.host_calls.specs.Shown.{seat_of, shown_part}
use Rattle.node_state.specs.Seats.{meaning}
use Rattle.host_calls.proofs.Comes.{owed_side, owed_outside, owed_there, kept_again}
use Rattle.host_calls.proofs.Keeping.{keeps_none}
use Rattle.host_calls.proofs.Comings.{tries_after, pending_after, streams_asked, streams_plain, back_asked, back_plain}
use Rattle.host_calls.proofs.Given.{given_again, given_again_short}
use Rattle.host_calls.proofs.whole_turn.try_again.Goals as goal

pub ask_outside-requires-clause-kind : goal.ask_outside-requires-clause-kind
ask_outside-requires-clause-kind g c κs within = owed_outside (g.E.Engine.memory c.args.proc.engine) (shown_part c.args.proc) c.args.ask c.requires.tries

pub returns-in-Side-clause-given : goal.returns-in-Side-clause-given
returns-in-Side-clause-given g c =
    let engines = meaning g.E.Engine.stands g.E.Engine.phase g.E.Engine.memory in
    let proc = c.args.proc in
    let new = c.ask_outside.new.proc in
    let memory = g.E.Engine.memory proc.engine in
    let came = c.in-Side.ensures.came in
    let row = owed_there memory (shown_part proc) c.args.ask c.requires.tries in
    rw (c.ask_outside.ensures.engine, c.ask_outside.ensures.start, c.ask_outside.ensures.fuel, c.ask_outside.ensures.shed, c.requires.shed, c.new-calls.ensures)
    (given_again engines g.E.Engine.begin g.E.Engine.at g.E.Engine.may_ask (seat_of proc) c.args.ask c.in-Side.side (shown_part new) new.owed c.requires.owed c.requires.way.phase c.requires.tries
    (came.beside row) came.part (kept_again memory c.args.ask new.owed (owed_outside memory (shown_part proc) c.args.ask c.requires.tries) (came.owed row))
    (tries_after (told g.O.Stream.Stream.taken g.O.Stream.Stream.put g.O.Stream.Stream.faults g.O.Stream.Stream.waits g.O.Stream.Stream.empties g.O.Stream.Stream.down) memory c.args.ask proc new
    c.in-Side.side None c.requires.tries.asked came row)
    (pending_after (told g.O.Stream.Stream.taken g.O.Stream.Stream.put g.O.Stream.Stream.faults g.O.Stream.Stream.waits g.O.Stream.Stream.empties g.O.Stream.Stream.down) memory c.args.ask proc
    new c.in-Side.side None c.requires.tries.asked came row)
    (owed_side memory (shown_part proc) c.args.ask c.in-Side.side c.requires.tries (came.beside row)) came.unrefused)

pub returns-in-Side-clause-streams : goal.returns-in-Side-clause-streams
returns-in-Side-clause-streams g c =
    rw c.requires.owed
    (streams_asked (told g.O.Stream.Stream.taken g.O.Stream.Stream.put g.O.Stream.Stream.faults g.O.Stream.Stream.waits g.O.Stream.Stream.empties g.O.Stream.Stream.down) c.args.proc c.args.proc
    c.ask_outside.new.proc (g.E.Engine.memory c.args.proc.engine) c.args.ask c.in-Side.side None c.requires.shed c.requires.order
    (keeps_none (told g.O.Stream.Stream.taken g.O.Stream.Stream.put g.O.Stream.Stream.faults g.O.Stream.Stream.waits g.O.Stream.Stream.empties g.O.Stream.Stream.down) c.args.proc
    c.requires.order) c.ask_outside.ensures.shed c.requires.tries.asked c.in-Side.ensures.came)

pub returns-in-Opened-clause-given : goal.returns-in-Opened-clause-given
returns-in-Opened-clause-given g c =
    let engines = meaning g.E.Engine.stands g.E.Engine.phase g.E.Engine.memory in
    let proc = c.args.proc in
    let new = c.ask_outside.new.proc in
    let memory = g.E.Engine.memory proc.engine in
    let came = c.in-Opened.ensures.came in
    let row = owed_there memory (shown_part proc) c.args.ask c.requires.tries in
    rw (c.ask_outside.ensures.engine, c.ask_outside.ensures.start, c.ask_outside.ensures.fuel, c.ask_outside.ensures.shed, c.requires.shed, c.new-calls.ensures)
    (given_again engines g.E.Engine.begin g.E.Engine.at g.E.Engine.may_ask (seat_of proc) c.args.ask Opened (shown_part new) new.owed c.requires.owed c.requires.way.phase c.requires.tries
    (came.beside row) came.part (kept_again memory c.args.ask new.owed (owed_outside memory (shown_part proc) c.args.ask c.requires.tries) (came.owed row))
    (tries_after (told g.O.Stream.Stream.taken g.O.Stream.Stream.put g.O.Stream.Stream.faults g.O.Stream.Stream.waits g.O.Stream.Stream.empties g.O.Stream.Stream.down) memory c.args.ask proc new
    Opened (Some c.in-Opened.stream) c.requires.tries.asked came row)
    (pending_after (told g.O.Stream.Stream.taken g.O.Stream.Stream.put g.O.Stream.Stream.faults g.O.Stream.Stream.waits g.O.Stream.Stream.empties g.O.Stream.Stream.down) memory c.args.ask proc
    new Opened (Some c.in-Opened.stream) c.requires.tries.asked came row)
    (owed_side memory (shown_part proc) c.args.ask Opened c.requires.tries (came.beside row)) came.unrefused)

pub returns-in-Opened-clause-streams : goal.returns-in-Opened-clause-streams
returns-in-Opened-clause-streams g c =
    rw c.requires.owed
    (streams_asked (told g.O.Stream.Stream.taken g.O.Stream.Stream.put g.O.Stream.Stream.faults g.O.Stream.Stream.waits g.O.Stream.Stream.empties g.O.Stream.Stream.down) c.args.proc c.args.proc
    c.ask_outside.new.proc (g.E.Engine.memory c.args.proc.engine) c.args.ask Opened (Some c.in-Opened.stream) c.requires.shed c.requires.order
    (keeps_none (told g.O.Stream.Stream.taken g.O.Stream.Stream.put g.O.Stream.Stream.faults g.O.Stream.Stream.waits g.O.Stream.Stream.empties g.O.Stream.Stream.down) c.args.proc
    c.requires.order) c.ask_outside.ensures.shed c.requires.tries.asked c.in-Opened.ensures.came)

pub returns-in-NoMemory-clause-given : goal.returns-in-NoMemory-clause-given
returns-in-NoMemory-clause-given g c =
    let engines = meaning g.E.Engine.stands g.E.Engine.phase g.E.Engine.memory in
    rw (c.in-NoMemory.ensures.memory refl, c.requires.shed, c.new-calls.ensures)
    (given_again_short engines g.E.Engine.begin g.E.Engine.at g.E.Engine.may_ask (seat_of c.args.proc) c.args.ask c.requires.owed c.requires.tries)

pub returns-in-NoMemory-clause-streams : goal.returns-in-NoMemory-clause-streams
returns-in-NoMemory-clause-streams g c =
    rw (c.in-NoMemory.ensures.memory refl)
    (streams_plain (told g.O.Stream.Stream.taken g.O.Stream.Stream.put g.O.Stream.Stream.faults g.O.Stream.Stream.waits g.O.Stream.Stream.empties g.O.Stream.Stream.down) c.args.proc c.args.proc
    NoMemory None c.requires.shed (keeps_none (told g.O.Stream.Stream.taken g.O.Stream.Stream.put g.O.Stream.Stream.faults g.O.Stream.Stream.waits g.O.Stream.Stream.empties
    g.O.Stream.Stream.down) c.args.proc c.requires.order) (λ request e. cc) refl)

pub returns-in-Side-clause-handed : goal.returns-in-Side-clause-handed
returns-in-Side-clause-handed g c =
    rw c.requires.owed
    (back_asked (told g.O.Stream.Stream.taken g.O.Stream.Stream.put g.O.Stream.Stream.faults g.O.Stream.Stream.waits g.O.Stream.Stream.empties g.O.Stream.Stream.down)
    c.args.proc c.args.proc c.ask_outside.new.proc (request_of (g.E.Engine.memory c.args.proc.engine) c.args.ask) c.in-Side.side None c.requires.shed
    (keeps_none (told g.O.Stream.Stream.taken g.O.Stream.Stream.put g.O.Stream.Stream.faults g.O.Stream.Stream.waits g.O.Stream.Stream.empties g.O.Stream.Stream.down)
    c.args.proc c.requires.order) c.ask_outside.ensures.shed c.in-Side.ensures.came)

pub returns-in-Opened-clause-handed : goal.returns-in-Opened-clause-handed
returns-in-Opened-clause-handed g c =
    rw c.requires.owed
    (back_asked (told g.O.Stream.Stream.taken g.O.Stream.Stream.put g.O.Stream.Stream.faults g.O.Stream.Stream.waits g.O.Stream.Stream.empties g.O.Stream.Stream.down)
    c.args.proc c.args.proc c.ask_outside.new.proc (request_of (g.E.Engine.memory c.args.proc.engine) c.args.ask) Opened (Some c.in-Opened.stream) c.requires.shed
    (keeps_none (told g.O.Stream.Stream.taken g.O.Stream.Stream.put g.O.Stream.Stream.faults g.O.Stream.Stream.waits g.O.Stream.Stream.empties g.O.Stream.Stream.down)
    c.args.proc c.requires.order) c.ask_outside.ensures.shed c.in-Opened.ensures.came)

pub returns-in-NoMemory-clause-handed : goal.returns-in-NoMemory-clause-handed
returns-in-NoMemory-clause-handed g c =
    rw (c.in-NoMemory.ensures.memory refl)
    (back_plain (told g.O.Stream.Stream.taken g.O.Stream.Stream.put g.O.Stream.Stream.faults g.O.Stream.Stream.waits g.O.Stream.Stream.empties g.O.Stream.Stream.down)
    c.args.proc c.args.proc None c.requires.shed
    (keeps_none (told g.O.Stream.Stream.taken g.O.Stream.Stream.put g.O.Stream.Stream.faults g.O.Stream.Stream.waits g.O.Stream.Stream.empties g.O.Stream.Stream.down)
    c.args.proc c.requires.order))
