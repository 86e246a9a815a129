use Rattle.std.proofs.Common.{refl, arith, map, [], ◌∙◌, ap, sym, inl, ◌∷◌, append-nil, length-set}
use Rattle.std.specs.Arc.{arc_value}
use Rattle.world_rules.specs.declared.entry.Side.TheVariants.{Nothing}
use Rattle.process_table.proofs.Shutting.{closed-three}
use Rattle.std.proofs.Common.{get_or, ◌≡◌}
use Rattle.node_state.specs.Fits.{entry_of}
use Rattle.host_calls.specs.Shown.{brought_by}
use Rattle.process_table.proofs.Holding.{streams-read, deadline-same, keeps-at}
use Rattle.process_table.proofs.Giving.{is-out, give-room, end-room, has-room, room-proc, room-mail, emptied, is-vacant, given-back, records-end, fitting-of}
use Rattle.process_table.proofs.GivingEnds.{node-end}
use Rattle.process_table.proofs.node.Node.give_end.Goals as goal

pub close_all-requires-clause-room : goal.close_all-requires-clause-room
close_all-requires-clause-room g c =
    let i = c.self.inside in
    let has = has-room c.streams_stand_apart.ensures.room_given i.journal _ c.args.worker c.args.proc.start.pid c.args.proc c.args.calls c.args.halt Nothing c.self.invariant
    (rw (← c.self.view_is) at c.requires.comes.fits) in
    let room = has.room in
    let closed = has.closed_room in
    let len = i.closed.ok.0 in
    omega (arith, room, closed, len)

pub add-requires : goal.add-requires
add-requires g c = give-room c.self.inside.journal _ c.args.proc.start.pid c.args.worker c.self.invariant (rw (← c.self.view_is) at c.requires.comes.fits.allowed.away)

pub set_place-requires-clause-within : goal.set_place-requires-clause-within
set_place-requires-clause-within g c =
    let within = (is-out c.self.inside.journal _ c.args.proc.start.pid c.args.worker c.self.invariant (rw (← c.self.view_is) at c.requires.comes.fits.allowed.away)).within in
    let l = c.self.inside.places.ok.0 in
    omega (arith, within, l)

pub set_place-requires-clause-vacant : goal.set_place-requires-clause-vacant
set_place-requires-clause-vacant g c κs within =
    is-vacant c.self.inside.journal _ c.args.proc.start.pid c.args.worker c.self.invariant (rw (← c.self.view_is) at c.requires.comes.fits.allowed.away)

pub overflow_sub-self : goal.overflow_sub-self
overflow_sub-self g c =
    let one = (is-out c.self.inside.journal _ c.args.proc.start.pid c.args.worker c.self.invariant (rw (← c.self.view_is) at c.requires.comes.fits.allowed.away)).out in
    omega (arith, one)

pub ended-requires : goal.ended-requires
ended-requires g c =
    end-room c.self.inside.journal c.add.new.self _ c.args.proc.start.pid c.args.worker _ c.self.invariant (rw (← c.self.view_is) at c.requires.comes.fits.allowed.away) c.add.ensures

pub index_mut-requires : goal.index_mut-requires
index_mut-requires g c =
    let within = (is-out c.self.inside.journal _ c.args.proc.start.pid c.args.worker c.self.invariant (rw (← c.self.view_is) at c.requires.comes.fits.allowed.away)).boxed in
    let l = c.self.inside.mail.ok.0 in
    omega (arith, within, l)

pub close_proc-requires-clause-room : goal.close_proc-requires-clause-room
close_proc-requires-clause-room g c κs within =
    room-proc _ c.args.proc.start.pid c.args.proc c.close_all.new.closed.items _ _
    (has-room c.streams_stand_apart.ensures.room_given c.self.inside.journal _ c.args.worker c.args.proc.start.pid c.args.proc c.args.calls c.args.halt Nothing
    c.self.invariant (rw (← c.self.view_is) at c.requires.comes.fits)) c.close_all.ensures.closed c.close_all.new.closed.ok.0 c.close_all.ensures.capacity

pub close_mail-requires-clause-room : goal.close_mail-requires-clause-room
close_mail-requires-clause-room g c κs within =
    let i = c.self.inside in
    let out = is-out i.journal _ c.args.proc.start.pid c.args.worker c.self.invariant (rw (← c.self.view_is) at c.requires.comes.fits.allowed.away) in
    let read : c.replace-mail.result ≡ get_or i.mail.items c.args.proc.start.pid c.replace-mail.result = rw c.replace-mail.ensures.value c.index_mut.ensures.value in
    room-mail _ _ c.args.proc.start.pid c.args.proc c.replace-mail.result c.close_all.new.closed.items c.close_proc.new.closed.items _ _
    (has-room c.streams_stand_apart.ensures.room_given c.self.inside.journal _ c.args.worker c.args.proc.start.pid c.args.proc c.args.calls c.args.halt Nothing
    c.self.invariant (rw (← c.self.view_is) at c.requires.comes.fits))
    (streams-read i.mail.items c.args.proc.start.pid c.replace-mail.result out.boxed read) c.close_all.ensures.closed c.close_proc.ensures.closed c.close_proc.new.closed.ok.0
    (c.close_proc.ensures.capacity ∙ c.close_all.ensures.capacity)

pub invariant_of-self : goal.invariant_of-self
invariant_of-self g c =
    let i = c.self.inside in
    let out = is-out i.journal _ c.args.proc.start.pid c.args.worker c.self.invariant (rw (← c.self.view_is) at c.requires.comes.fits.allowed.away) in
    let read : c.replace-mail.result ≡ get_or i.mail.items c.args.proc.start.pid c.replace-mail.result = rw c.replace-mail.ensures.value c.index_mut.ensures.value in
    keeps-at g.E.Engine.begin g.E.Engine.at (map arc_value i.programs.items) i.journal.births c.ended.new.self.births i.live i.idle c.ended.new.self _ (c.ended.ensures.births ∙ c.add.ensures.births)
    (node-end c.streams_keep_standing.ensures.given c.sound.ensures.all_told c.an_end_keeps.ensures i.journal c.add.new.self c.ended.new.self _ _ c.args.worker c.args.proc c.args.calls c.args.halt
    c.requires.ends.0 c.last_of.result c.replace-mail.result c.close_proc.ensures.closed.closed c.close_mail.ensures.closed.closed
    (g.met.E.Engine g.world.𝓛 g.world.𝓜 g.world.𝓡 ((λ s x. x), (λ x. x), (λ x. x), (λ x. x))).shows_memory
    c.self.invariant (rw (← c.self.view_is) at c.requires.out) c.requires.ends.1 (fitting-of _ _ _ _ _ (rw (← c.self.view_is) at c.requires.comes)) c.last_of.ensures
    read c.close_proc.ensures.closed.shut c.close_mail.ensures.closed.shut
    (λ none. record {
      placed = c.set_place.ensures.items;
      mails = emptied i.mail.items c.args.proc.start.pid c.replace-mail.new.dest out.boxed (ap (λ m. m.items) c.replace-mail.ensures.after ∙ c.new.ensures.items);
      mail_length = length-set i.mail.items c.args.proc.start.pid c.replace-mail.new.dest;
      deadlines = deadline-same i.queue.deadlines i.queue.deadlines c.args.proc.start.pid _ refl none;
      behind = sym (append-nil i.queue.ready);
      room = refl;
      out = λ e. omega (arith, e);
      streams_are = refl;
      streams_few = omega arith;
      closed = closed-three i.closed.items c.args.proc.shed c.close_proc.ensures.closed.closed c.close_mail.ensures.closed.closed c.close_all.new.closed.items c.close_proc.new.closed.items
          c.close_mail.new.closed.items c.close_all.ensures.closed c.close_proc.ensures.closed.behind c.close_mail.ensures.closed.behind;
      closed_room = c.close_mail.ensures.capacity ∙ c.close_proc.ensures.capacity ∙ c.close_all.ensures.capacity;
      shed = c.close_mail.ensures.shed;
      no_shed = tt;
      spare = refl;
      over = omega arith;
    })
    refl refl refl refl c.add.ensures c.ended.ensures)

pub returns : goal.returns
returns g c =
    let i = c.self.inside in
    rw (← c.self.view_is) (given-back g.E.Engine.begin g.E.Engine.at (map arc_value i.programs.items) i.journal c.ended.new.self i.live i.idle _ _ c.args.worker c.args.proc.start.pid
    (brought_by c.args.proc c.args.calls c.args.halt Nothing) Nothing (c.last_of.result ∷ []) c.self.invariant (invariant_of-self g c) refl ∣ inl refl ∣₁
    (records-end i.journal c.add.new.self c.ended.new.self (entry_of c.args.worker c.args.proc.start.pid (brought_by c.args.proc c.args.calls c.args.halt Nothing) Nothing)
    c.last_of.result c.add.ensures c.ended.ensures))
