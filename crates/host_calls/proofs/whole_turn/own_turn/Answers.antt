use Rattle.std.proofs.Common.{◌≡◌, None, Some, List, ℕ, Option, option_map, refl, sym, ap, subst, ◌∙◌}
use Rattle.host_port.specs.declared.ask.Ask.{Ask}
use Rattle.host_port.specs.declared.request.Request.{Request}
use Rattle.host_port.specs.Areas.{request_of}
use Rattle.resource_table.specs.Handles.{numbers_of}
use Rattle.resource_table.specs.Steps.{told}
use Rattle.world_rules.specs.declared.entry.Side.TheVariants.{Opened, Nothing}
use Rattle.world_rules.specs.declared.halt.Halt.TheVariants as HaltIs
use Rattle.world_rules.specs.Views.{want_of, wanted_in}
use Rattle.host_calls.specs.Shown.{seat_of, shown_part, hands_of, streams_by}
use Rattle.host_calls.specs.Outsides.{telling}
use Rattle.host_calls.specs.Brings.{StreamsMayCome, HandsBack}
use Rattle.node_state.specs.Seats.{meaning}
use Rattle.host_calls.proofs.Comes.{gives_plain}
use Rattle.host_calls.proofs.Comings.{came_beside, streams_asked, streams_plain, none_wanted, back_asked, back_plain}
use Rattle.host_calls.proofs.Given.{CameBeside, given_plain, given_short, given_asked}
use Rattle.host_calls.proofs.whole_turn.own_turn.Goals as goal

pub returns-in-Side-clause-given : goal.returns-in-Side-clause-given
returns-in-Side-clause-given g c =
    let engines = meaning g.E.Engine.stands g.E.Engine.phase g.E.Engine.memory in
    let laws = g.met.E.Engine g.world.𝓛 g.world.𝓜 g.world.𝓡 ((λ s x. x), (λ x. x), (λ x. x), λ x. x) in
    let request = c.in-Asks.request in
    let mid = c.run-halt.new.proc in
    let new = c.beside.new.proc in
    let well = c.in-Asks.ensures.asks in
    let came = came_beside (told g.O.Stream.Stream.taken g.O.Stream.Stream.put g.O.Stream.Stream.faults g.O.Stream.Stream.waits g.O.Stream.Stream.empties g.O.Stream.Stream.down)
    (g.E.Engine.memory mid.engine) request.ask mid new c.in-Side.side None well.asked c.in-Side.ensures.came in
    let came_so = subst (λ (r : Request). CameBeside (shown_part mid) r c.in-Side.side (g.E.Engine.memory mid.engine) (shown_part new) new.owed) (sym well.bytes) came in
    rw (c.beside.ensures.engine, c.beside.ensures.start, c.beside.ensures.fuel, c.beside.ensures.shed, c.from_vec-calls.ensures)
    (given_asked engines g.E.Engine.begin g.E.Engine.at g.E.Engine.may_ask laws.asks_what_it_may (seat_of c.args.proc) (seat_of mid) (numbers_of mid.shed) c.run-halt.new.calls.items request
    c.in-Side.side
    (shown_part new) new.owed c.requires.unowed c.in-Asks.ensures.ends came_so)

pub returns-in-Side-clause-streams : goal.returns-in-Side-clause-streams
returns-in-Side-clause-streams g c =
    let request = c.in-Asks.request in
    let mid = c.run-halt.new.proc in
    let new = c.beside.new.proc in
    let well = c.in-Asks.ensures.asks in
    subst (λ (r : Request). StreamsMayCome (told g.O.Stream.Stream.taken g.O.Stream.Stream.put g.O.Stream.Stream.faults g.O.Stream.Stream.waits g.O.Stream.Stream.empties g.O.Stream.Stream.down)
    (Some r) c.in-Side.side (hands_of c.args.proc) (streams_by new None)) (sym well.bytes)
    (streams_asked (told g.O.Stream.Stream.taken g.O.Stream.Stream.put g.O.Stream.Stream.faults g.O.Stream.Stream.waits g.O.Stream.Stream.empties g.O.Stream.Stream.down) c.args.proc mid new
    (g.E.Engine.memory mid.engine) request.ask c.in-Side.side None c.requires.shed c.requires.order c.run-halt.ensures.streams c.beside.ensures.shed well.asked
    c.in-Side.ensures.came)

pub returns-in-Opened-clause-given : goal.returns-in-Opened-clause-given
returns-in-Opened-clause-given g c =
    let engines = meaning g.E.Engine.stands g.E.Engine.phase g.E.Engine.memory in
    let laws = g.met.E.Engine g.world.𝓛 g.world.𝓜 g.world.𝓡 ((λ s x. x), (λ x. x), (λ x. x), λ x. x) in
    let request = c.in-Asks.request in
    let mid = c.run-halt.new.proc in
    let new = c.beside.new.proc in
    let well = c.in-Asks.ensures.asks in
    let came = came_beside (told g.O.Stream.Stream.taken g.O.Stream.Stream.put g.O.Stream.Stream.faults g.O.Stream.Stream.waits g.O.Stream.Stream.empties g.O.Stream.Stream.down)
    (g.E.Engine.memory mid.engine) request.ask mid new Opened (Some c.in-Opened.stream) well.asked c.in-Opened.ensures.came in
    let came_so = subst (λ (r : Request). CameBeside (shown_part mid) r Opened (g.E.Engine.memory mid.engine) (shown_part new) new.owed) (sym well.bytes) came in
    rw (c.beside.ensures.engine, c.beside.ensures.start, c.beside.ensures.fuel, c.beside.ensures.shed, c.from_vec-calls.ensures)
    (given_asked engines g.E.Engine.begin g.E.Engine.at g.E.Engine.may_ask laws.asks_what_it_may (seat_of c.args.proc) (seat_of mid) (numbers_of mid.shed) c.run-halt.new.calls.items request Opened
    (shown_part new) new.owed c.requires.unowed c.in-Asks.ensures.ends came_so)

pub returns-in-Opened-clause-streams : goal.returns-in-Opened-clause-streams
returns-in-Opened-clause-streams g c =
    let request = c.in-Asks.request in
    let mid = c.run-halt.new.proc in
    let new = c.beside.new.proc in
    let well = c.in-Asks.ensures.asks in
    subst (λ (r : Request). StreamsMayCome (told g.O.Stream.Stream.taken g.O.Stream.Stream.put g.O.Stream.Stream.faults g.O.Stream.Stream.waits g.O.Stream.Stream.empties g.O.Stream.Stream.down)
    (Some r) Opened (hands_of c.args.proc) (streams_by new (Some c.in-Opened.stream))) (sym well.bytes)
    (streams_asked (told g.O.Stream.Stream.taken g.O.Stream.Stream.put g.O.Stream.Stream.faults g.O.Stream.Stream.waits g.O.Stream.Stream.empties g.O.Stream.Stream.down) c.args.proc mid new
    (g.E.Engine.memory mid.engine) request.ask Opened (Some c.in-Opened.stream) c.requires.shed c.requires.order c.run-halt.ensures.streams c.beside.ensures.shed well.asked
    c.in-Opened.ensures.came)

pub returns-in-NoMemory-clause-given : goal.returns-in-NoMemory-clause-given
returns-in-NoMemory-clause-given g c =
    let engines = meaning g.E.Engine.stands g.E.Engine.phase g.E.Engine.memory in
    let mid = c.run-halt.new.proc in
    let well = c.in-Asks.ensures.asks in
    rw (c.in-NoMemory.ensures.memory refl, c.from_vec-calls.ensures)
    (given_short engines g.E.Engine.begin g.E.Engine.at g.E.Engine.may_ask (seat_of c.args.proc) (seat_of mid) (numbers_of mid.shed) c.run-halt.new.calls.items c.in-Asks.request c.requires.unowed
    (c.run-halt.ensures.owed ∙ c.requires.unowed) well.few c.in-Asks.ensures.ends)

pub returns-in-NoMemory-clause-streams : goal.returns-in-NoMemory-clause-streams
returns-in-NoMemory-clause-streams g c =
    rw (c.in-NoMemory.ensures.memory refl)
    (streams_plain (told g.O.Stream.Stream.taken g.O.Stream.Stream.put g.O.Stream.Stream.faults g.O.Stream.Stream.waits g.O.Stream.Stream.empties g.O.Stream.Stream.down) c.args.proc
    c.run-halt.new.proc HaltIs.NoMemory None c.requires.shed c.run-halt.ensures.streams (λ request e. cc) refl)

pub returns-in_default-clause-given : goal.returns-in_default-clause-given
returns-in_default-clause-given g c =
    let engines = meaning g.E.Engine.stands g.E.Engine.phase g.E.Engine.memory in
    let mid = c.run-halt.new.proc in
    rw (c.from_vec-calls.ensures)
    (given_plain engines g.E.Engine.begin g.E.Engine.at g.E.Engine.may_ask (seat_of c.args.proc) (seat_of mid) (numbers_of mid.shed) c.run-halt.new.calls.items c.run-halt.result c.requires.unowed
    (c.run-halt.ensures.owed ∙ c.requires.unowed) c.in_default.not-Asks c.run-halt.ensures.ends)

pub returns-in_default-clause-streams : goal.returns-in_default-clause-streams
returns-in_default-clause-streams g c =
    let owed : Option Request = option_map (request_of (g.E.Engine.memory c.args.proc.engine)) c.args.proc.owed in
    let unowed : owed ≡ None = ap (option_map (request_of (g.E.Engine.memory c.args.proc.engine))) c.requires.unowed in
    streams_plain (told g.O.Stream.Stream.taken g.O.Stream.Stream.put g.O.Stream.Stream.faults g.O.Stream.Stream.waits g.O.Stream.Stream.empties g.O.Stream.Stream.down) c.args.proc
    c.run-halt.new.proc c.run-halt.result owed c.requires.shed c.run-halt.ensures.streams
    c.in_default.not-Asks unowed

pub returns-in_default-clause-outside : goal.returns-in_default-clause-outside
returns-in_default-clause-outside g c =
    let outside = c.args.outside.now in
    let owed : Option Request = option_map (request_of (g.E.Engine.memory c.args.proc.engine)) c.args.proc.owed in
    let unowed : owed ≡ None = ap (option_map (request_of (g.E.Engine.memory c.args.proc.engine))) c.requires.unowed in
    gives_plain (telling (g.O.Outside.faults outside) (g.O.Outside.waits outside) (g.O.Outside.rests outside) (g.O.Outside.clock outside)) (wanted_in (want_of c.run-halt.result) owed)
    (none_wanted c.run-halt.result owed c.in_default.not-Asks unowed)

pub returns-in-Side-clause-handed : goal.returns-in-Side-clause-handed
returns-in-Side-clause-handed g c =
    let request = c.in-Asks.request in
    let mid = c.run-halt.new.proc in
    let new = c.beside.new.proc in
    let tells = told g.O.Stream.Stream.taken g.O.Stream.Stream.put g.O.Stream.Stream.faults g.O.Stream.Stream.waits g.O.Stream.Stream.empties g.O.Stream.Stream.down in
    subst (λ (r : Request). HandsBack tells (Some r) (hands_of c.args.proc) (streams_by new None)) (sym c.in-Asks.ensures.asks.bytes)
    (back_asked tells c.args.proc mid new (request_of (g.E.Engine.memory mid.engine) request.ask) c.in-Side.side None c.requires.shed c.run-halt.ensures.streams c.beside.ensures.shed
    c.in-Side.ensures.came)

pub returns-in-Opened-clause-handed : goal.returns-in-Opened-clause-handed
returns-in-Opened-clause-handed g c =
    let request = c.in-Asks.request in
    let mid = c.run-halt.new.proc in
    let new = c.beside.new.proc in
    let tells = told g.O.Stream.Stream.taken g.O.Stream.Stream.put g.O.Stream.Stream.faults g.O.Stream.Stream.waits g.O.Stream.Stream.empties g.O.Stream.Stream.down in
    subst (λ (r : Request). HandsBack tells (Some r) (hands_of c.args.proc) (streams_by new (Some c.in-Opened.stream))) (sym c.in-Asks.ensures.asks.bytes)
    (back_asked tells c.args.proc mid new (request_of (g.E.Engine.memory mid.engine) request.ask) Opened (Some c.in-Opened.stream) c.requires.shed c.run-halt.ensures.streams
    c.beside.ensures.shed c.in-Opened.ensures.came)

pub returns-in-NoMemory-clause-handed : goal.returns-in-NoMemory-clause-handed
returns-in-NoMemory-clause-handed g c =
    rw (c.in-NoMemory.ensures.memory refl)
    (back_plain (told g.O.Stream.Stream.taken g.O.Stream.Stream.put g.O.Stream.Stream.faults g.O.Stream.Stream.waits g.O.Stream.Stream.empties g.O.Stream.Stream.down)
    c.args.proc c.run-halt.new.proc None c.requires.shed c.run-halt.ensures.streams)

pub returns-in_default-clause-handed : goal.returns-in_default-clause-handed
returns-in_default-clause-handed g c =
    let owed : Option Request = option_map (request_of (g.E.Engine.memory c.args.proc.engine)) c.args.proc.owed in
    back_plain (told g.O.Stream.Stream.taken g.O.Stream.Stream.put g.O.Stream.Stream.faults g.O.Stream.Stream.waits g.O.Stream.Stream.empties g.O.Stream.Stream.down)
    c.args.proc c.run-halt.new.proc (wanted_in (want_of c.run-halt.result) owed) c.requires.shed c.run-halt.ensures.streams
