use Rattle.std.proofs.Common.{◌≡◌, ℕ, subst, refl, None}
use Rattle.world_rules.specs.declared.entry.Side.{Side}
use Rattle.world_rules.specs.declared.entry.Side.TheVariants.{Nothing, Clock}
use Rattle.world_rules.specs.declared.halt.Halt.TheVariants.{Asks}
use Rattle.world_rules.specs.Told.{told}
use Rattle.resource_table.specs.Handles.{numbers_of}
use Rattle.host_calls.specs.Shown.{seat_of}
use Rattle.process_table.proofs.Dispatch.{comes-as, came-none, back-as}
use Rattle.process_table.proofs.ServedCalls.{AskedBeside, asked-beside, nothing-sends, clock-waits, else-outside}
use Rattle.process_table.proofs.node.Node.give_request.Goals as goal

pub give_send-requires-clause-call : goal.give_send-requires-clause-call
give_send-requires-clause-call g c κs within =
    let laws = g.met.E.Engine g.world.𝓛 g.world.𝓜 g.world.𝓡 ((λ s x. x), (λ x. x), (λ x. x), (λ x. x)) in
    let asked = asked-beside (λ engine program start calls fuel ask stands owes. laws.asks_what_it_may program start calls fuel ask
    (laws.owes_its_ask engine program start calls fuel ask stands owes)) c.requires.rows c.args.self.now.book.births (told c.args.self.now.book) c.args.worker c.args.proc.start.pid
    (seat_of c.args.proc) c.args.calls c.args.request c.args.side (numbers_of c.args.proc.shed) c.requires.comes.fits in
    nothing-sends c.args.request.ask.call (subst (λ (s : Side). AskedBeside c.args.request.ask.call s) c.in-Nothing.is asked)

pub give_receive-requires-clause-call : goal.give_receive-requires-clause-call
give_receive-requires-clause-call g c κs within =
    let laws = g.met.E.Engine g.world.𝓛 g.world.𝓜 g.world.𝓡 ((λ s x. x), (λ x. x), (λ x. x), (λ x. x)) in
    let asked = asked-beside (λ engine program start calls fuel ask stands owes. laws.asks_what_it_may program start calls fuel ask
    (laws.owes_its_ask engine program start calls fuel ask stands owes)) c.requires.rows c.args.self.now.book.births (told c.args.self.now.book) c.args.worker c.args.proc.start.pid
    (seat_of c.args.proc) c.args.calls c.args.request c.args.side (numbers_of c.args.proc.shed) c.requires.comes.fits in
    clock-waits c.args.request.ask.call c.in-Clock.now (subst (λ (s : Side). AskedBeside c.args.request.ask.call s) c.in-Clock.is asked) c.if-request-eq-SLEEP_MS.false

pub give_outside-requires-clause-outside : goal.give_outside-requires-clause-outside
give_outside-requires-clause-outside g c κs within =
    let laws = g.met.E.Engine g.world.𝓛 g.world.𝓜 g.world.𝓡 ((λ s x. x), (λ x. x), (λ x. x), (λ x. x)) in
    let asked = asked-beside (λ engine program start calls fuel ask stands owes. laws.asks_what_it_may program start calls fuel ask
    (laws.owes_its_ask engine program start calls fuel ask stands owes)) c.requires.rows c.args.self.now.book.births (told c.args.self.now.book) c.args.worker c.args.proc.start.pid
    (seat_of c.args.proc) c.args.calls c.args.request c.args.side (numbers_of c.args.proc.shed) c.requires.comes.fits in
    else-outside c.args.request.ask.call c.args.side asked c.in_default.not-Nothing c.in_default.not-Clock

pub no_stream-requires-clause-none : goal.no_stream-requires-clause-none
no_stream-requires-clause-none g c κs within = came-none c.args.proc c.args.calls (Asks c.args.request) c.args.side Nothing c.args.arrived c.in-Nothing.is refl c.requires.comes

pub give_send-requires-clause-comes : goal.give_send-requires-clause-comes
give_send-requires-clause-comes g c κs within =
    comes-as c.args.proc c.args.calls (Asks c.args.request) c.args.side Nothing c.args.arrived None c.in-Nothing.is
    (came-none c.args.proc c.args.calls (Asks c.args.request) c.args.side Nothing c.args.arrived c.in-Nothing.is refl c.requires.comes) c.requires.comes

pub returns-in-Nothing : goal.returns-in-Nothing
returns-in-Nothing g c = back-as c.args.proc c.args.calls (Asks c.args.request) c.args.side Nothing c.in-Nothing.is c.give_send.ensures

pub no_stream-requires-in-Clock-clause-none : goal.no_stream-requires-in-Clock-clause-none
no_stream-requires-in-Clock-clause-none g c κs within = came-none c.args.proc c.args.calls (Asks c.args.request) c.args.side (Clock c.in-Clock.now) c.args.arrived c.in-Clock.is refl c.requires.comes

pub give_sleep-requires-clause-comes : goal.give_sleep-requires-clause-comes
give_sleep-requires-clause-comes g c κs within =
    comes-as c.args.proc c.args.calls (Asks c.args.request) c.args.side (Clock c.in-Clock.now) c.args.arrived None c.in-Clock.is
    (came-none c.args.proc c.args.calls (Asks c.args.request) c.args.side (Clock c.in-Clock.now) c.args.arrived c.in-Clock.is refl c.requires.comes) c.requires.comes

pub give_receive-requires-clause-comes : goal.give_receive-requires-clause-comes
give_receive-requires-clause-comes g c κs within =
    comes-as c.args.proc c.args.calls (Asks c.args.request) c.args.side (Clock c.in-Clock.now) c.args.arrived None c.in-Clock.is
    (came-none c.args.proc c.args.calls (Asks c.args.request) c.args.side (Clock c.in-Clock.now) c.args.arrived c.in-Clock.is refl c.requires.comes) c.requires.comes
