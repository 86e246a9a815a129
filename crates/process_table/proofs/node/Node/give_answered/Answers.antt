use Rattle.std.proofs.Common.{refl, arith, map, [], None, ◌∙◌, ap, sym, inl}
use Rattle.std.specs.Arc.{arc_value}
use Rattle.world_rules.specs.declared.entry.Side.TheVariants.{Answer}
use Rattle.node_state.specs.Fits.{entry_of}
use Rattle.host_calls.specs.Shown.{brought_by}
use Rattle.process_table.proofs.Holding.{mail-same, deadline-same, keeps-at}
use Rattle.process_table.proofs.Giving.{is-out, give-room, has-room, is-vacant, given-back, records-alone, fitting-of}
use Rattle.process_table.proofs.GivingNetwork.{node-answered}
use Rattle.process_table.proofs.node.Node.give_answered.Goals as goal

pub close_all-requires-clause-room : goal.close_all-requires-clause-room
close_all-requires-clause-room g c =
    let i = c.self.inside in
    let has = has-room c.streams_stand_apart.ensures.room_given i.journal _ c.args.worker c.args.proc.start.pid c.args.proc c.args.calls c.args.halt (Answer c.args.reply) c.self.invariant
    (rw (← c.self.view_is) at c.requires.comes.fits) in
    let room = has.room in
    let closed = has.closed_room in
    let len = i.closed.ok.0 in
    omega (arith, room, closed, len)

pub add-requires : goal.add-requires
add-requires g c = give-room c.self.inside.journal _ c.args.proc.start.pid c.args.worker c.self.invariant (rw (← c.self.view_is) at c.requires.comes.fits.allowed.away)

pub set_place-requires-clause-within : goal.set_place-requires-clause-within
set_place-requires-clause-within g c =
    let within = (is-out c.self.inside.journal _ c.args.proc.start.pid c.args.worker c.self.invariant (rw (← c.self.view_is) at c.requires.comes.fits.allowed.away)).within in
    let l = c.self.inside.places.ok.0 in
    omega (arith, within, l)

pub set_place-requires-clause-vacant : goal.set_place-requires-clause-vacant
set_place-requires-clause-vacant g c κs within =
    is-vacant c.self.inside.journal _ c.args.proc.start.pid c.args.worker c.self.invariant (rw (← c.self.view_is) at c.requires.comes.fits.allowed.away)

pub overflow_sub-self : goal.overflow_sub-self
overflow_sub-self g c =
    let one = (is-out c.self.inside.journal _ c.args.proc.start.pid c.args.worker c.self.invariant (rw (← c.self.view_is) at c.requires.comes.fits.allowed.away)).out in
    omega (arith, one)

pub push_reserved-requires : goal.push_reserved-requires
push_reserved-requires g c = (is-out c.self.inside.journal _ c.args.proc.start.pid c.args.worker c.self.invariant (rw (← c.self.view_is) at c.requires.comes.fits.allowed.away)).ready

pub answer-requires : goal.answer-requires
answer-requires g c =
    (c.outside_replies_fit.ensures.answered _ _ _ c.args.worker c.args.proc.start.pid (brought_by c.args.proc c.args.calls c.args.halt (Answer c.args.reply)) c.args.reply c.requires.comes.fits refl).1

pub invariant_of-self : goal.invariant_of-self
invariant_of-self g c =
    let i = c.self.inside in
    keeps-at g.E.Engine.begin g.E.Engine.at (map arc_value i.programs.items) i.journal.births c.add.new.self.births i.live i.idle c.add.new.self _ c.add.ensures.births
    (node-answered c.streams_keep_standing.ensures.given c.sound.ensures.all_told c.an_answer_keeps.ensures i.journal c.add.new.self _ _ c.args.worker c.args.proc c.close_all.new.shed c.answer.new.self c.args.calls c.args.halt
    c.args.reply c.self.invariant (rw (← c.self.view_is) at c.requires.out) (fitting-of _ _ _ _ _ (rw (← c.self.view_is) at c.requires.comes))
    (record { running = c.answer.ensures.phase; stands = c.answer.ensures.stands })
    (record {
      placed = c.set_place.ensures.items;
      mails = mail-same i.mail.items c.args.proc.start.pid;
      mail_length = refl;
      deadlines = deadline-same i.queue.deadlines c.push_reserved.new.self.deadlines c.args.proc.start.pid _ c.push_reserved.ensures.deadlines refl;
      behind = c.push_reserved.ensures.ready;
      room = c.push_reserved.ensures.room;
      out = λ e. omega (arith, e);
      streams_are = refl;
      streams_few = omega arith;
      closed = c.close_all.ensures.closed;
      closed_room = c.close_all.ensures.capacity;
      shed = c.self.invariant.shed;
      no_shed = c.close_all.ensures.shed;
      spare = refl;
      over = omega arith;
    })
    (record { sends_are = refl; time_is = refl; row_is = refl; over = refl }) c.add.ensures)

pub returns : goal.returns
returns g c =
    let i = c.self.inside in
    rw (← c.self.view_is) (given-back g.E.Engine.begin g.E.Engine.at (map arc_value i.programs.items) i.journal c.add.new.self i.live i.idle _ _ c.args.worker c.args.proc.start.pid
    (brought_by c.args.proc c.args.calls c.args.halt (Answer c.args.reply)) (Answer c.args.reply) [] c.self.invariant (invariant_of-self g c) refl ∣ inl refl ∣₁
    (records-alone i.journal c.add.new.self (entry_of c.args.worker c.args.proc.start.pid (brought_by c.args.proc c.args.calls c.args.halt (Answer c.args.reply)) (Answer c.args.reply)) c.add.ensures))
