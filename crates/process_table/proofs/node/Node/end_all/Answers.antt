use Rattle.std.proofs.Common.{ℕ, map, refl, arith, ap, sym, subst, ◌∙◌}
use Rattle.tagged_mailbox.specs.Mail.{Mail}
use Rattle.process_table.specs.Letters.{Letter}
use Rattle.process_table.specs.Holds.{IsVacant, hands_at, streams_of}
use Rattle.std.specs.Arc.{arc_value}
use Rattle.std.specs.FinMap.{FinMap, remove}
use Rattle.std.specs.Ordering.{nat_cmp}
use Rattle.node_laws.proofs.Programs.{keeps-sound}
use Rattle.process_table.proofs.EndingAll.{node-ends, read-through, end-room-going, shed_read, struck_room, mail_room, vacant_set}
use Rattle.process_table.proofs.Owning.{keeps-streams}
use Rattle.process_table.proofs.node.Node.end_all.Goals as goal

pub invariant_of-self : goal.invariant_of-self
invariant_of-self g c =
    let i = c.self.inside in
    node-ends (keeps-sound c.sound.ensures.first c.sound.ensures.kept c.touches.ensures.stays c.touches.ensures.counts) c.sound.ensures.all_told c.streams_keep_standing.ensures.others
    g.E.Engine.begin g.E.Engine.at (map arc_value i.programs.items) i.journal c.add.new.self c.strike-struck.new.journal i.live i.idle i.spare (map hands_at i.places.items)
    (map streams_of i.mail.items)
    i.closed.items _ _ c.args.entry c.args.end
    c.replace-place.result c.strike-struck.result c.replace-place.new.dest c.replace-mail.result c.replace-mail.new.dest c.strike-struck.new.closed.items
    (g.met.E.Engine g.world.𝓛 g.world.𝓜 g.world.𝓡 ((λ s x. x), (λ x. x), (λ x. x), (λ x. x))).shows_memory
    c.self.invariant (rw (← c.self.view_is) at c.requires.going) (rw (← c.self.view_is) at c.requires.due)
    (record {
      read = read-through i.places.items 1 c.replace-place.result c.index_mut.result.now c.replace-place.ensures.value c.index_mut.ensures.value;
      placed = c.set_place.ensures.items;
      struck_is = c.strike-struck.ensures.slot;
      vacant = c.strike-struck.ensures.vacant;
      boxed = read-through i.mail.items 1 c.replace-mail.result c.index_mut-2.result.now c.replace-mail.ensures.value c.index_mut-2.ensures.value;
      empty = ap (λ (m : Mail (Letter _)). m.items) c.replace-mail.ensures.after ∙ c.new.ensures.items;
      mail_is = refl;
      ready_is = c.clear_deadline.ensures.ready ∙ c.remove.ensures.ready;
      deadlines_are = c.clear_deadline.ensures.deadlines ∙ ap (λ (m : FinMap nat_cmp ℕ). remove m 1) c.remove.ensures.deadlines;
      room_is = c.clear_deadline.ensures.room ∙ c.remove.ensures.room;
      sends = refl;
      time = refl;
      row = refl;
      out = refl;
      over = refl;
      hands = c.strike-struck.ensures.closed;
      letters = c.close_mail.ensures.closed;
      streams_are = refl;
      closed_room = c.close_mail.ensures.capacity ∙ c.strike-struck.ensures.capacity;
      shed = c.close_mail.ensures.shed;
      spare = refl;
    })
    c.add.ensures c.strike-struck.ensures.last

pub returns-clause-over : goal.returns-clause-over
returns-clause-over g c = (invariant_of-self g c).stands.mirrors.over

pub returns-clause-streams : goal.returns-clause-streams
returns-clause-streams g c = keeps-streams _ c.strike-struck.new.journal _ _ _ _ (invariant_of-self g c)

pub returns-clause-run : goal.returns-clause-run
returns-clause-run g c = (invariant_of-self g c).stands.run

pub strike-struck-requires-clause-ends : goal.strike-struck-requires-clause-ends
strike-struck-requires-clause-ends g c κs within =
    end-room-going c.self.inside.journal c.add.new.self _ c.args.entry c.self.invariant (rw (← c.self.view_is) at c.requires.going) c.add.ensures

pub strike-struck-requires-clause-shed : goal.strike-struck-requires-clause-shed
strike-struck-requires-clause-shed g c κs within =
    let i = c.self.inside in
    shed_read i.journal _ c.replace-place.result c.self.invariant
    (read-through i.places.items 1 c.replace-place.result c.index_mut.result.now c.replace-place.ensures.value c.index_mut.ensures.value)

pub strike-struck-requires-clause-room : goal.strike-struck-requires-clause-room
strike-struck-requires-clause-room g c κs within =
    let i = c.self.inside in
    let room = struck_room c.streams_stand_apart.ensures.room i.journal _ c.replace-place.result c.self.invariant
    (read-through i.places.items 1 c.replace-place.result c.index_mut.result.now c.replace-place.ensures.value c.index_mut.ensures.value) in
    let len = i.closed.ok.0 in
    omega (arith, room, len)

pub set_place-requires-clause-vacant : goal.set_place-requires-clause-vacant
set_place-requires-clause-vacant g c κs within =
    let places = c.self.invariant.places in
    vacant_set c.self.inside.places.items 1 c.replace-place.new.dest (omega (arith, places)) (subst IsVacant (sym c.replace-place.ensures.after) tt)

pub close_mail-requires-clause-room : goal.close_mail-requires-clause-room
close_mail-requires-clause-room g c κs within =
    let i = c.self.inside in
    let room = mail_room c.streams_stand_apart.ensures.room i.journal _ c.replace-place.result c.replace-mail.result c.strike-struck.new.closed.items c.self.invariant
    (read-through i.places.items 1 c.replace-place.result c.index_mut.result.now c.replace-place.ensures.value c.index_mut.ensures.value)
    (read-through i.mail.items 1 c.replace-mail.result c.index_mut-2.result.now c.replace-mail.ensures.value c.index_mut-2.ensures.value) c.strike-struck.ensures.closed in
    let len = c.strike-struck.new.closed.ok.0 in
    let capacity = c.strike-struck.ensures.capacity in
    omega (arith, room, len, capacity)
