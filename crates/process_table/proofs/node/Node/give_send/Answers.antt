use Rattle.std.proofs.Common.{refl, arith, map, [], None, ◌∙◌, ap, sym, inl, length-set}
use Rattle.std.specs.Arc.{arc_value}
use Rattle.world_rules.specs.declared.entry.Side.TheVariants.{Nothing}
use Rattle.world_rules.specs.declared.halt.Halt.TheVariants.{Asks}
use Rattle.world_rules.specs.Told.{told}
use Rattle.node_laws.proofs.Answerable.{answerable-send}
use Rattle.node_state.specs.Posts.{side_of}
use Rattle.host_calls.specs.Shown.{shown_part}
use Rattle.process_table.proofs.AskedRequests.{sender-has}
use Rattle.node_state.specs.Fits.{entry_of}
use Rattle.host_calls.specs.Shown.{brought_by}
use Rattle.process_table.proofs.Holding.{mail-set, deadline-same, keeps-at}
use Rattle.process_table.proofs.Giving.{is-out, give-room, has-room, is-vacant, given-back, records-alone, fitting-of}
use Rattle.process_table.proofs.GivingRequests.{node-send, side_free}
use Rattle.process_table.proofs.node.Node.give_send.Goals as goal

pub close_all-requires-clause-room : goal.close_all-requires-clause-room
close_all-requires-clause-room g c =
    let i = c.self.inside in
    let has = has-room c.streams_stand_apart.ensures.room_given i.journal _ c.args.worker c.args.proc.start.pid c.args.proc c.args.calls (Asks c.args.request) Nothing c.self.invariant
    (rw (← c.self.view_is) at c.requires.comes.fits) in
    let room = has.room in
    let closed = has.closed_room in
    let len = i.closed.ok.0 in
    omega (arith, room, closed, len)

pub add-requires : goal.add-requires
add-requires g c = give-room c.self.inside.journal _ c.args.proc.start.pid c.args.worker c.self.invariant (rw (← c.self.view_is) at c.requires.comes.fits.allowed.away)

pub set_place-requires-clause-within : goal.set_place-requires-clause-within
set_place-requires-clause-within g c =
    let within = (is-out c.self.inside.journal _ c.args.proc.start.pid c.args.worker c.self.invariant (rw (← c.self.view_is) at c.requires.comes.fits.allowed.away)).within in
    let l = c.self.inside.places.ok.0 in
    omega (arith, within, l)

pub set_place-requires-clause-vacant : goal.set_place-requires-clause-vacant
set_place-requires-clause-vacant g c κs within =
    is-vacant c.self.inside.journal _ c.args.proc.start.pid c.args.worker c.self.invariant (rw (← c.self.view_is) at c.requires.comes.fits.allowed.away)

pub overflow_sub-self : goal.overflow_sub-self
overflow_sub-self g c =
    let one = (is-out c.self.inside.journal _ c.args.proc.start.pid c.args.worker c.self.invariant (rw (← c.self.view_is) at c.requires.comes.fits.allowed.away)).out in
    omega (arith, one)

pub push_reserved-requires : goal.push_reserved-requires
push_reserved-requires g c = (is-out c.self.inside.journal _ c.args.proc.start.pid c.args.worker c.self.invariant (rw (← c.self.view_is) at c.requires.comes.fits.allowed.away)).ready

pub index_mut-requires : goal.index_mut-requires
index_mut-requires g c =
    let within = (is-out c.self.inside.journal _ c.args.proc.start.pid c.args.worker c.self.invariant (rw (← c.self.view_is) at c.requires.comes.fits.allowed.away)).boxed in
    let l = c.self.inside.mail.ok.0 in
    omega (arith, within, l)

pub put_message-outcome-requires-clause-held : goal.put_message-outcome-requires-clause-held
put_message-outcome-requires-clause-held g c κs within =
    sender-has c.self.inside.journal.births (told c.self.inside.journal) c.args.worker c.args.proc.start.pid c.args.proc c.args.calls c.args.request Nothing c.requires.call (rw (← c.self.view_is) at c.requires.comes.fits)

pub answer-requires : goal.answer-requires
answer-requires g c =
    rw (c.number_reply.ensures, c.post_code.ensures) (answerable-send c.self.inside.journal.births (told c.self.inside.journal) c.args.worker c.args.proc.start.pid
    (brought_by c.args.proc c.args.calls (Asks c.args.request) Nothing) c.args.request c.put_message-outcome.result c.requires.call (rw (← c.self.view_is) at c.requires.comes.fits) refl)

pub invariant_of-self : goal.invariant_of-self
invariant_of-self g c =
    let i = c.self.inside in
    let out = is-out i.journal _ c.args.proc.start.pid c.args.worker c.self.invariant (rw (← c.self.view_is) at c.requires.comes.fits.allowed.away) in
    keeps-at g.E.Engine.begin g.E.Engine.at (map arc_value i.programs.items) i.journal.births c.add.new.self.births i.live i.idle c.add.new.self _ c.add.ensures.births
    (node-send c.streams_keep_standing.ensures.given c.sound.ensures.all_told c.a_send_keeps.ensures i.journal c.add.new.self _ _ c.args.worker c.args.proc c.close_all.new.shed c.put_message-outcome.new.scratch c.answer.new.self
    c.args.calls c.args.request c.index_mut.result.now c.put_message-outcome.new.mail c.put_message-outcome.result c.self.invariant (rw (← c.self.view_is) at c.requires.out) c.requires.call (fitting-of _ _ _ _ _ (rw (← c.self.view_is) at c.requires.comes))
    c.index_mut.ensures.value (c.put_message-outcome.ensures.posts (shown_part c.args.proc)) c.put_message-outcome.ensures.streams
    (record { running = c.answer.ensures.phase; stands = rw (c.number_reply.ensures, c.post_code.ensures) at c.answer.ensures.stands })
    (λ none. record {
      placed = c.set_place.ensures.items;
      mails = mail-set i.mail.items _ c.args.proc.start.pid c.put_message-outcome.new.mail out.boxed refl;
      mail_length = length-set i.mail.items c.args.proc.start.pid c.put_message-outcome.new.mail;
      deadlines = deadline-same i.queue.deadlines c.push_reserved.new.self.deadlines c.args.proc.start.pid _ c.push_reserved.ensures.deadlines none;
      behind = c.push_reserved.ensures.ready;
      room = c.push_reserved.ensures.room;
      out = λ e. omega (arith, e);
      streams_are = refl;
      streams_few = omega arith;
      closed = c.close_all.ensures.closed;
      closed_room = c.close_all.ensures.capacity;
      shed = c.self.invariant.shed;
      no_shed = c.close_all.ensures.shed;
      spare = refl;
      over = omega arith;
    })
    (record { sends_are = c.count_sent-self-inside.ensures; time_is = refl; row_is = refl; over = refl }) (rw c.post_side.ensures at c.add.ensures))

pub returns : goal.returns
returns g c =
    let i = c.self.inside in
    rw (← c.self.view_is) (given-back g.E.Engine.begin g.E.Engine.at (map arc_value i.programs.items) i.journal c.add.new.self i.live i.idle _ _ c.args.worker c.args.proc.start.pid
    (brought_by c.args.proc c.args.calls (Asks c.args.request) Nothing) (side_of c.put_message-outcome.result) [] c.self.invariant (invariant_of-self g c) refl (side_free c.put_message-outcome.result)
    (records-alone i.journal c.add.new.self (entry_of c.args.worker c.args.proc.start.pid (brought_by c.args.proc c.args.calls (Asks c.args.request) Nothing) (side_of c.put_message-outcome.result))
    (rw c.post_side.ensures at c.add.ensures)))
