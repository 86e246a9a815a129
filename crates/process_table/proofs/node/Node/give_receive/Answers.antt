use Rattle.std.proofs.Common.{refl, arith, map, [], ◌∙◌, sym, inl, append-nil, length-set}
use Rattle.std.specs.Arc.{arc_value}
use Rattle.world_rules.specs.declared.entry.Side.TheVariants.{Clock}
use Rattle.world_rules.specs.declared.halt.Halt.TheVariants.{Asks}
use Rattle.world_rules.specs.Told.{told}
use Rattle.node_laws.proofs.Answerable.{answerable-receive}
use Rattle.host_calls.specs.Shown.{shown_part}
use Rattle.message_scratch.specs.Messages.{handles_in, slots_of}
use Rattle.resource_table.specs.Steps as Steps
use Rattle.process_table.specs.Holds.{streams_of}
use Rattle.process_table.proofs.AskedRequests.{tags-whole}
use Rattle.process_table.proofs.Shutting.{closed-two}
use Rattle.node_state.specs.Fits.{entry_of}
use Rattle.host_calls.specs.Shown.{brought_by}
use Rattle.process_table.proofs.Holding.{mail-set, deadline-same, keeps-at}
use Rattle.process_table.proofs.Giving.{is-given, is-out, give-room, has-room, is-vacant, given-back, records-alone, fitting-of}
use Rattle.process_table.proofs.GivingRequests.{node-received, node-waits, deadline_is, room-moved}
use Rattle.process_table.proofs.node.Node.give_receive.Goals as goal

pub close_all-requires-clause-room : goal.close_all-requires-clause-room
close_all-requires-clause-room g c =
    let i = c.self.inside in
    let has = has-room c.streams_stand_apart.ensures.room_given i.journal _ c.args.worker c.args.proc.start.pid c.args.proc c.args.calls (Asks c.args.request) (Clock c.args.now) c.self.invariant
    (rw (← c.self.view_is) at c.requires.comes.fits) in
    let room = has.room in
    let closed = has.closed_room in
    let len = i.closed.ok.0 in
    omega (arith, room, closed, len)

pub close_all-requires-2-clause-room : goal.close_all-requires-2-clause-room
close_all-requires-2-clause-room g c κs within =
    let i = c.self.inside in
    room-moved (Steps.told g.O.Stream.Stream.taken g.O.Stream.Stream.put g.O.Stream.Stream.faults g.O.Stream.Stream.waits g.O.Stream.Stream.empties g.O.Stream.Stream.down) _
    c.args.proc.start.pid c.args.proc (streams_of c.index_mut.result.now) (streams_of c.take_wanted-receipt.new.mail) (handles_in (slots_of c.take_wanted-receipt.new.scratch))
    c.take_wanted-receipt.new.shed c.close_all.new.closed.items c.take_wanted-receipt.result _ _
    (has-room c.streams_stand_apart.ensures.room_given i.journal _ c.args.worker c.args.proc.start.pid c.args.proc c.args.calls (Asks c.args.request) (Clock c.args.now) c.self.invariant
    (rw (← c.self.view_is) at c.requires.comes.fits))
    c.close_all.ensures.closed (rw c.close_all.ensures.shed at c.take_wanted-receipt.ensures.streams) c.close_all.new.closed.ok.0 c.close_all.ensures.capacity

pub add-requires : goal.add-requires
add-requires g c = give-room c.self.inside.journal _ c.args.proc.start.pid c.args.worker c.self.invariant (rw (← c.self.view_is) at c.requires.comes.fits.allowed.away)

pub set_place-requires-clause-within : goal.set_place-requires-clause-within
set_place-requires-clause-within g c =
    let within = (is-out c.self.inside.journal _ c.args.proc.start.pid c.args.worker c.self.invariant (rw (← c.self.view_is) at c.requires.comes.fits.allowed.away)).within in
    let l = c.self.inside.places.ok.0 in
    omega (arith, within, l)

pub set_place-requires-clause-vacant : goal.set_place-requires-clause-vacant
set_place-requires-clause-vacant g c κs within =
    is-vacant c.self.inside.journal _ c.args.proc.start.pid c.args.worker c.self.invariant (rw (← c.self.view_is) at c.requires.comes.fits.allowed.away)

pub set_place-requires-2-clause-vacant : goal.set_place-requires-2-clause-vacant
set_place-requires-2-clause-vacant g c κs within =
    is-vacant c.self.inside.journal _ c.args.proc.start.pid c.args.worker c.self.invariant (rw (← c.self.view_is) at c.requires.comes.fits.allowed.away)

pub overflow_sub-self : goal.overflow_sub-self
overflow_sub-self g c =
    let one = (is-out c.self.inside.journal _ c.args.proc.start.pid c.args.worker c.self.invariant (rw (← c.self.view_is) at c.requires.comes.fits.allowed.away)).out in
    omega (arith, one)

pub push_reserved-requires : goal.push_reserved-requires
push_reserved-requires g c = (is-out c.self.inside.journal _ c.args.proc.start.pid c.args.worker c.self.invariant (rw (← c.self.view_is) at c.requires.comes.fits.allowed.away)).ready

pub index_mut-requires : goal.index_mut-requires
index_mut-requires g c =
    let within = (is-out c.self.inside.journal _ c.args.proc.start.pid c.args.worker c.self.invariant (rw (← c.self.view_is) at c.requires.comes.fits.allowed.away)).boxed in
    let l = c.self.inside.mail.ok.0 in
    omega (arith, within, l)

pub take_wanted-receipt-requires-clause-whole : goal.take_wanted-receipt-requires-clause-whole
take_wanted-receipt-requires-clause-whole g c κs within =
    rw c.as_slice.ensures (tags-whole c.self.inside.journal.births (told c.self.inside.journal) c.args.worker c.args.proc.start.pid c.args.proc c.args.calls c.args.request (Clock c.args.now)
    c.requires.call (rw (← c.self.view_is) at c.requires.comes.fits))

pub set_wait-requires : goal.set_wait-requires
set_wait-requires g c =
    let given = is-given c.sound.ensures.all_told c.self.inside.journal _ c.args.proc.start.pid c.args.worker c.self.invariant (rw (← c.self.view_is) at c.requires.out) in
    let none = given.no_deadlines in
    let room = c.self.invariant.room in
    omega (arith, none, room)

pub answer-requires : goal.answer-requires
answer-requires g c =
    rw (c.number_reply.ensures, c.receive_code.ensures) (answerable-receive c.self.inside.journal.births (told c.self.inside.journal) c.args.worker c.args.proc.start.pid
    (brought_by c.args.proc c.args.calls (Asks c.args.request) (Clock c.args.now)) c.args.request c.take_wanted-receipt.result c.requires.call (rw (← c.self.view_is) at c.requires.comes.fits) refl)

pub invariant_of-self : goal.invariant_of-self
invariant_of-self g c =
    let i = c.self.inside in
    let out = is-out i.journal _ c.args.proc.start.pid c.args.worker c.self.invariant (rw (← c.self.view_is) at c.requires.comes.fits.allowed.away) in
    keeps-at g.E.Engine.begin g.E.Engine.at (map arc_value i.programs.items) i.journal.births c.add.new.self.births i.live i.idle c.add.new.self _ c.add.ensures.births
    (node-waits c.streams_keep_standing.ensures.given c.sound.ensures.all_told c.a_wait_keeps.ensures i.journal c.add.new.self _ _ c.args.worker c.args.proc c.close_all-2.new.shed
    c.take_wanted-receipt.new.shed c.take_wanted-receipt.new.scratch
    c.args.calls c.args.request c.args.now c.index_mut.result.now c.take_wanted-receipt.new.mail c.self.invariant (rw (← c.self.view_is) at c.requires.out) c.requires.call
    (fitting-of _ _ _ _ _ (rw (← c.self.view_is) at c.requires.comes))
    c.index_mut.ensures.value (rw (c.as_slice.ensures, c.in-Waits.is) at (c.take_wanted-receipt.ensures.receives (shown_part c.args.proc)))
    (rw (c.close_all.ensures.shed, c.in-Waits.is) at c.take_wanted-receipt.ensures.streams)
    (λ none all. record {
      placed = c.set_place.ensures.items;
      mails = mail-set i.mail.items _ c.args.proc.start.pid c.take_wanted-receipt.new.mail out.boxed refl;
      mail_length = length-set i.mail.items c.args.proc.start.pid c.take_wanted-receipt.new.mail;
      deadlines = deadline_is i.queue.deadlines c.set_wait.new.queue.deadlines c.args.proc.start.pid _ none (rw (c.deadline_of.ensures, c.max-time.ensures) at c.set_wait.ensures.deadlines);
      behind = c.set_wait.ensures.ready ∙ sym (append-nil i.queue.ready);
      room = c.set_wait.ensures.room;
      out = λ e. omega (arith, e);
      streams_are = refl;
      streams_few = omega arith;
      closed = closed-two i.closed.items c.args.proc.shed c.take_wanted-receipt.new.shed c.close_all.new.closed.items c.close_all-2.new.closed.items c.close_all.ensures.closed
          c.close_all-2.ensures.closed;
      closed_room = c.close_all-2.ensures.capacity ∙ c.close_all.ensures.capacity;
      shed = c.self.invariant.shed;
      no_shed = c.close_all-2.ensures.shed;
      spare = refl;
      over = omega arith;
    })
    (record { sends_are = refl; time_is = c.max-time.ensures; row_is = refl; over = refl }) c.add.ensures)

pub returns-in-Waits : goal.returns-in-Waits
returns-in-Waits g c =
    let i = c.self.inside in
    rw (← c.self.view_is) (given-back g.E.Engine.begin g.E.Engine.at (map arc_value i.programs.items) i.journal c.add.new.self i.live i.idle _ _ c.args.worker c.args.proc.start.pid
    (brought_by c.args.proc c.args.calls (Asks c.args.request) (Clock c.args.now)) (Clock c.args.now) [] c.self.invariant (invariant_of-self g c) refl ∣ inl refl ∣₁
    (records-alone i.journal c.add.new.self (entry_of c.args.worker c.args.proc.start.pid (brought_by c.args.proc c.args.calls (Asks c.args.request) (Clock c.args.now)) (Clock c.args.now))
    c.add.ensures))

pub invariant_of-self-2 : goal.invariant_of-self-2
invariant_of-self-2 g c =
    let i = c.self.inside in
    let out = is-out i.journal _ c.args.proc.start.pid c.args.worker c.self.invariant (rw (← c.self.view_is) at c.requires.comes.fits.allowed.away) in
    keeps-at g.E.Engine.begin g.E.Engine.at (map arc_value i.programs.items) i.journal.births c.add.new.self.births i.live i.idle c.add.new.self _ c.add.ensures.births
    (node-received c.streams_keep_standing.ensures.given c.sound.ensures.all_told c.a_receive_keeps.ensures i.journal c.add.new.self _ _ c.args.worker c.args.proc c.close_all-2.new.shed
    c.take_wanted-receipt.new.shed c.take_wanted-receipt.new.scratch
    c.answer.new.self c.args.calls c.args.request c.args.now c.index_mut.result.now c.take_wanted-receipt.new.mail c.take_wanted-receipt.result c.self.invariant
    (rw (← c.self.view_is) at c.requires.out) c.requires.call
    c.in_default.not-Waits (fitting-of _ _ _ _ _ (rw (← c.self.view_is) at c.requires.comes))
    c.index_mut.ensures.value (rw c.as_slice.ensures at (c.take_wanted-receipt.ensures.receives (shown_part c.args.proc))) (rw c.close_all.ensures.shed at c.take_wanted-receipt.ensures.streams)
    (record { running = c.answer.ensures.phase; stands = rw (c.number_reply.ensures, c.receive_code.ensures) at c.answer.ensures.stands })
    (λ none. record {
      placed = c.set_place-2.ensures.items;
      mails = mail-set i.mail.items _ c.args.proc.start.pid c.take_wanted-receipt.new.mail out.boxed refl;
      mail_length = length-set i.mail.items c.args.proc.start.pid c.take_wanted-receipt.new.mail;
      deadlines = deadline-same i.queue.deadlines c.push_reserved.new.self.deadlines c.args.proc.start.pid _ c.push_reserved.ensures.deadlines none;
      behind = c.push_reserved.ensures.ready;
      room = c.push_reserved.ensures.room;
      out = λ e. omega (arith, e);
      streams_are = refl;
      streams_few = omega arith;
      closed = closed-two i.closed.items c.args.proc.shed c.take_wanted-receipt.new.shed c.close_all.new.closed.items c.close_all-2.new.closed.items c.close_all.ensures.closed
          c.close_all-2.ensures.closed;
      closed_room = c.close_all-2.ensures.capacity ∙ c.close_all.ensures.capacity;
      shed = c.self.invariant.shed;
      no_shed = c.close_all-2.ensures.shed;
      spare = refl;
      over = omega arith;
    })
    (record { sends_are = refl; time_is = c.max-time.ensures; row_is = refl; over = refl }) c.add.ensures)

pub returns : goal.returns
returns g c =
    let i = c.self.inside in
    rw (← c.self.view_is) (given-back g.E.Engine.begin g.E.Engine.at (map arc_value i.programs.items) i.journal c.add.new.self i.live i.idle _ _ c.args.worker c.args.proc.start.pid
    (brought_by c.args.proc c.args.calls (Asks c.args.request) (Clock c.args.now)) (Clock c.args.now) [] c.self.invariant (invariant_of-self-2 g c) refl ∣ inl refl ∣₁
    (records-alone i.journal c.add.new.self (entry_of c.args.worker c.args.proc.start.pid (brought_by c.args.proc c.args.calls (Asks c.args.request) (Clock c.args.now)) (Clock c.args.now))
    c.add.ensures))
