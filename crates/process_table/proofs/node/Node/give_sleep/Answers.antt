use Rattle.std.proofs.Common.{refl, arith, map, [], None, ◌∙◌, ap, sym, inl, subst, append-nil, slice_index, Some, ℕ, ◌≡◌}
use Rattle.std.specs.Arc.{arc_value}
use Rattle.world_rules.specs.declared.entry.Side.TheVariants.{Clock}
use Rattle.world_rules.specs.declared.halt.Halt.TheVariants.{Asks}
use Rattle.world_rules.specs.Told.{told}
use Rattle.node_laws.proofs.Answerable.{answerable-sleep}
use Rattle.node_state.specs.Posts.{deadline_of}
use Rattle.node_state.specs.Fits.{entry_of}
use Rattle.host_calls.specs.Shown.{brought_by}
use Rattle.process_table.proofs.Holding.{mail-same, deadline-same, deadline-set, keeps-at}
use Rattle.process_table.proofs.Giving.{is-given, is-out, give-room, has-room, is-vacant, given-back, records-alone, fitting-of}
use Rattle.process_table.proofs.GivingRequests.{node-slept, node-sleeping}
use Rattle.process_table.proofs.node.Node.give_sleep.Goals as goal

pub close_all-requires-clause-room : goal.close_all-requires-clause-room
close_all-requires-clause-room g c =
    let i = c.self.inside in
    let has = has-room c.streams_stand_apart.ensures.room_given i.journal _ c.args.worker c.args.proc.start.pid c.args.proc c.args.calls (Asks c.args.request) (Clock c.args.now) c.self.invariant
    (rw (← c.self.view_is) at c.requires.comes.fits) in
    let room = has.room in
    let closed = has.closed_room in
    let len = i.closed.ok.0 in
    omega (arith, room, closed, len)

pub add-requires : goal.add-requires
add-requires g c = give-room c.self.inside.journal _ c.args.proc.start.pid c.args.worker c.self.invariant (rw (← c.self.view_is) at c.requires.comes.fits.allowed.away)

pub set_place-requires-clause-within : goal.set_place-requires-clause-within
set_place-requires-clause-within g c =
    let within = (is-out c.self.inside.journal _ c.args.proc.start.pid c.args.worker c.self.invariant (rw (← c.self.view_is) at c.requires.comes.fits.allowed.away)).within in
    let l = c.self.inside.places.ok.0 in
    omega (arith, within, l)

pub set_place-requires-clause-vacant : goal.set_place-requires-clause-vacant
set_place-requires-clause-vacant g c κs within =
    is-vacant c.self.inside.journal _ c.args.proc.start.pid c.args.worker c.self.invariant (rw (← c.self.view_is) at c.requires.comes.fits.allowed.away)

pub overflow_sub-self : goal.overflow_sub-self
overflow_sub-self g c =
    let one = (is-out c.self.inside.journal _ c.args.proc.start.pid c.args.worker c.self.invariant (rw (← c.self.view_is) at c.requires.comes.fits.allowed.away)).out in
    omega (arith, one)

pub set_place-requires-2-clause-within : goal.set_place-requires-2-clause-within
set_place-requires-2-clause-within g c =
    let within = (is-out c.self.inside.journal _ c.args.proc.start.pid c.args.worker c.self.invariant (rw (← c.self.view_is) at c.requires.comes.fits.allowed.away)).within in
    let l = c.self.inside.places.ok.0 in
    omega (arith, within, l)

pub set_place-requires-2-clause-vacant : goal.set_place-requires-2-clause-vacant
set_place-requires-2-clause-vacant g c κs within =
    is-vacant c.self.inside.journal _ c.args.proc.start.pid c.args.worker c.self.invariant (rw (← c.self.view_is) at c.requires.comes.fits.allowed.away)

pub push_reserved-requires : goal.push_reserved-requires
push_reserved-requires g c = (is-out c.self.inside.journal _ c.args.proc.start.pid c.args.worker c.self.invariant (rw (← c.self.view_is) at c.requires.comes.fits.allowed.away)).ready

pub set_deadline-requires : goal.set_deadline-requires
set_deadline-requires g c =
    let given = is-given c.sound.ensures.all_told c.self.inside.journal _ c.args.proc.start.pid c.args.worker c.self.invariant (rw (← c.self.view_is) at c.requires.out) in
    let none = given.no_deadlines in
    let room = c.self.invariant.room in
    λ _. omega (arith, none, room)

pub answer-requires : goal.answer-requires
answer-requires g c =
    rw c.empty_reply.ensures (answerable-sleep c.self.inside.journal.births (told c.self.inside.journal) c.args.worker c.args.proc.start.pid (brought_by c.args.proc c.args.calls (Asks c.args.request) (Clock c.args.now))
    c.args.request c.requires.call (rw (← c.self.view_is) at c.requires.comes.fits) refl)

pub invariant_of-self : goal.invariant_of-self
invariant_of-self g c =
    let i = c.self.inside in
    keeps-at g.E.Engine.begin g.E.Engine.at (map arc_value i.programs.items) i.journal.births c.add.new.self.births i.live i.idle c.add.new.self _ c.add.ensures.births
    (let some : deadline_of c.max-time.result (slice_index c.args.request.ask.args 0) ≡ Some c.in-Some.at = sym c.in-Some.ensures in
    node-sleeping c.streams_keep_standing.ensures.given c.sound.ensures.all_told c.a_sleep_waits_keeps.ensures i.journal c.add.new.self _ _ c.args.worker c.args.proc c.close_all.new.shed c.args.calls c.args.request c.args.now c.in-Some.at
    c.self.invariant (rw (← c.self.view_is) at c.requires.out) c.requires.call
    (subst (λ (t : ℕ). deadline_of t (slice_index c.args.request.ask.args 0) ≡ Some c.in-Some.at) c.max-time.ensures some) (fitting-of _ _ _ _ _ (rw (← c.self.view_is) at c.requires.comes))
    (record {
      placed = c.set_place.ensures.items;
      mails = mail-same i.mail.items c.args.proc.start.pid;
      mail_length = refl;
      deadlines = deadline-set i.queue.deadlines c.set_deadline.new.self.deadlines c.args.proc.start.pid c.in-Some.at c.set_deadline.ensures.deadlines;
      behind = c.set_deadline.ensures.ready ∙ sym (append-nil i.queue.ready);
      room = c.set_deadline.ensures.room;
      out = λ e. omega (arith, e);
      streams_are = refl;
      streams_few = omega arith;
      closed = c.close_all.ensures.closed;
      closed_room = c.close_all.ensures.capacity;
      shed = c.self.invariant.shed;
      no_shed = c.close_all.ensures.shed;
      spare = refl;
      over = omega arith;
    })
    (record { sends_are = refl; time_is = c.max-time.ensures; row_is = refl; over = refl }) c.add.ensures)

pub returns-in-Some : goal.returns-in-Some
returns-in-Some g c =
    let i = c.self.inside in
    rw (← c.self.view_is) (given-back g.E.Engine.begin g.E.Engine.at (map arc_value i.programs.items) i.journal c.add.new.self i.live i.idle _ _ c.args.worker c.args.proc.start.pid
    (brought_by c.args.proc c.args.calls (Asks c.args.request) (Clock c.args.now)) (Clock c.args.now) [] c.self.invariant (invariant_of-self g c) refl ∣ inl refl ∣₁
    (records-alone i.journal c.add.new.self (entry_of c.args.worker c.args.proc.start.pid (brought_by c.args.proc c.args.calls (Asks c.args.request) (Clock c.args.now)) (Clock c.args.now)) c.add.ensures))

pub invariant_of-self-2 : goal.invariant_of-self-2
invariant_of-self-2 g c =
    let i = c.self.inside in
    keeps-at g.E.Engine.begin g.E.Engine.at (map arc_value i.programs.items) i.journal.births c.add.new.self.births i.live i.idle c.add.new.self _ c.add.ensures.births
    (let none : deadline_of c.max-time.result (slice_index c.args.request.ask.args 0) ≡ None = sym c.deadline_of.ensures ∙ c.in_default.is in
    node-slept c.streams_keep_standing.ensures.given c.sound.ensures.all_told c.a_sleep_keeps.ensures i.journal c.add.new.self _ _ c.args.worker c.args.proc c.close_all.new.shed c.answer.new.self c.args.calls c.args.request c.args.now
    c.self.invariant (rw (← c.self.view_is) at c.requires.out) c.requires.call
    (subst (λ (t : ℕ). deadline_of t (slice_index c.args.request.ask.args 0) ≡ None) c.max-time.ensures none) (fitting-of _ _ _ _ _ (rw (← c.self.view_is) at c.requires.comes))
    (record { running = c.answer.ensures.phase; stands = rw c.empty_reply.ensures at c.answer.ensures.stands })
    (λ none. record {
      placed = c.set_place-2.ensures.items;
      mails = mail-same i.mail.items c.args.proc.start.pid;
      mail_length = refl;
      deadlines = deadline-same i.queue.deadlines c.push_reserved.new.self.deadlines c.args.proc.start.pid _ c.push_reserved.ensures.deadlines none;
      behind = c.push_reserved.ensures.ready;
      room = c.push_reserved.ensures.room;
      out = λ e. omega (arith, e);
      streams_are = refl;
      streams_few = omega arith;
      closed = c.close_all.ensures.closed;
      closed_room = c.close_all.ensures.capacity;
      shed = c.self.invariant.shed;
      no_shed = c.close_all.ensures.shed;
      spare = refl;
      over = omega arith;
    })
    (record { sends_are = refl; time_is = c.max-time.ensures; row_is = refl; over = refl }) c.add.ensures)

pub returns : goal.returns
returns g c =
    let i = c.self.inside in
    rw (← c.self.view_is) (given-back g.E.Engine.begin g.E.Engine.at (map arc_value i.programs.items) i.journal c.add.new.self i.live i.idle _ _ c.args.worker c.args.proc.start.pid
    (brought_by c.args.proc c.args.calls (Asks c.args.request) (Clock c.args.now)) (Clock c.args.now) [] c.self.invariant (invariant_of-self-2 g c) refl ∣ inl refl ∣₁
    (records-alone i.journal c.add.new.self (entry_of c.args.worker c.args.proc.start.pid (brought_by c.args.proc c.args.calls (Asks c.args.request) (Clock c.args.now)) (Clock c.args.now)) c.add.ensures))
