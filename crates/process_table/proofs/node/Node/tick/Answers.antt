use Rattle.std.proofs.Common.{◌≡◌, get_or, map, refl, arith, ◌∙◌}
use Rattle.std.specs.Arc.{arc_value}
use Rattle.process_table.proofs.Ticking.{is-woken, place-read, asleep-place, late-answerable, woken-room, node-wake, node-early}
use Rattle.process_table.proofs.Owning.{keeps-streams}
use Rattle.process_table.proofs.Placing.{vacant_set}
use Rattle.process_table.proofs.node.Node.tick.Goals as goal

pub invariant_of-self : goal.invariant_of-self
invariant_of-self g c =
    let i = c.self.inside in
    node-early c.sound.ensures.all_told c.streams_keep_standing.ensures.others g.E.Engine.begin g.E.Engine.at (map arc_value i.programs.items) i.journal c.add.new.self i.live i.idle _ _ c.args.worker
    c.now-now.result c.self.invariant
    (rw (← c.self.view_is) at c.requires.going) (rw (← c.self.view_is) at c.requires.spare) (rw (← c.self.view_is) at c.requires.timed)
    (rw c.max-time.ensures at c.in_default.ensures.least)
    refl c.due.ensures.ready c.in_default.ensures.deadlines c.longer_row-self-inside.ensures
    (record {
      mail = refl;
      room = c.due.ensures.room;
      sends = refl;
      time = c.max-time.ensures;
      over = refl;
      out = refl;
      streams = refl;
      closed = refl;
      closed_room = refl;
      shed = refl;
      spare = let one = rw (← c.self.view_is) at c.requires.spare in omega (arith, one);
    })
    c.add.ensures

pub returns-in_default-clause-streams : goal.returns-in_default-clause-streams
returns-in_default-clause-streams g c = keeps-streams _ c.add.new.self _ _ _ _ (invariant_of-self g c)

pub returns-in_default-clause-run : goal.returns-in_default-clause-run
returns-in_default-clause-run g c = (invariant_of-self g c).stands.run

pub index_mut-requires : goal.index_mut-requires
index_mut-requires g c =
    let woken = is-woken c.sound.ensures.all_told c.self.inside.journal _ c.in-Some.pid c.max-time.result c.self.invariant c.in-Some.ensures.least.due in
    let one = woken.one in
    let within = woken.within in
    let l = c.self.inside.places.ok.0 in
    omega (arith, one, within, l)

pub unreachable-requires : goal.unreachable-requires
unreachable-requires g c =
    let woken = is-woken c.sound.ensures.all_told c.self.inside.journal _ c.in-Some.pid c.max-time.result c.self.invariant c.in-Some.ensures.least.due in
    asleep-place c.replace-place.result woken.seat woken.ask
    (place-read _ c.in-Some.pid c.max-time.result c.replace-place.result woken (rw c.replace-place.ensures.value c.index_mut.ensures.value)) c.in_default-place.not-Asleep

pub answer-requires : goal.answer-requires
answer-requires g c =
    let woken = is-woken c.sound.ensures.all_told c.self.inside.journal _ c.in-Some.pid c.max-time.result c.self.invariant c.in-Some.ensures.least.due in
    let read : c.replace-place.result ≡ get_or c.self.inside.places.items c.in-Some.pid c.replace-place.result = rw c.replace-place.ensures.value c.index_mut.ensures.value in
    let here = rw c.in-Asleep.is at read in
    rw c.late_reply.ensures (late-answerable c.self.inside.journal _ c.in-Some.pid c.max-time.result c.in-Asleep.proc c.in-Asleep.ask c.self.invariant woken
    (place-read _ c.in-Some.pid c.max-time.result _ woken here))

pub push_reserved-requires : goal.push_reserved-requires
push_reserved-requires g c =
    let woken = is-woken c.sound.ensures.all_told c.self.inside.journal _ c.in-Some.pid c.max-time.result c.self.invariant c.in-Some.ensures.least.due in
    let room = woken-room c.self.inside.journal _ c.in-Some.pid c.max-time.result c.self.invariant woken in
    rw (c.due.ensures.ready, c.due.ensures.room) (omega (arith, room))

pub invariant_of-self-2 : goal.invariant_of-self-2
invariant_of-self-2 g c =
    let i = c.self.inside in
    let p = c.in-Asleep.proc in
    let read : c.replace-place.result ≡ get_or i.places.items c.in-Some.pid c.replace-place.result = rw c.replace-place.ensures.value c.index_mut.ensures.value in
    let here = rw c.in-Asleep.is at read in
    node-wake c.sound.ensures.all_told c.streams_keep_standing.ensures.others g.E.Engine.begin g.E.Engine.at (map arc_value i.programs.items) i.journal c.add.new.self i.live i.idle _ _ c.args.worker
    c.now-now.result c.in-Some.pid p (record p { engine = c.answer.new.self }) c.in-Asleep.ask c.replace-place.new.dest
    c.self.invariant
    (rw (← c.self.view_is) at c.requires.going) (rw (← c.self.view_is) at c.requires.spare) (rw c.max-time.ensures at c.in-Some.ensures.least.due) here
    (record { running = c.answer.ensures.phase; stands = rw c.late_reply.ensures at c.answer.ensures.stands }) refl refl refl c.set_place.ensures.items
    (rw c.due.ensures.ready at c.push_reserved.ensures.ready) (c.push_reserved.ensures.deadlines ∙ c.in-Some.ensures.deadlines) refl
    (record {
      mail = refl;
      room = c.push_reserved.ensures.room ∙ c.due.ensures.room;
      sends = refl;
      time = c.max-time.ensures;
      over = refl;
      out = refl;
      streams = refl;
      closed = refl;
      closed_room = refl;
      shed = refl;
      spare = let one = rw (← c.self.view_is) at c.requires.spare in omega (arith, one);
    })
    c.add.ensures

pub returns-clause-streams : goal.returns-clause-streams
returns-clause-streams g c = keeps-streams _ c.add.new.self _ _ _ _ (invariant_of-self-2 g c)

pub returns-clause-run : goal.returns-clause-run
returns-clause-run g c = (invariant_of-self-2 g c).stands.run

pub set_place-requires-clause-within : goal.set_place-requires-clause-within
set_place-requires-clause-within g c κs within =
    let woken = is-woken c.sound.ensures.all_told c.self.inside.journal _ c.in-Some.pid c.max-time.result c.self.invariant c.in-Some.ensures.least.due in
    let one = woken.one in
    let long = woken.within in
    let l = c.self.inside.places.ok.0 in
    omega (arith, one, long, l)

pub set_place-requires-clause-vacant : goal.set_place-requires-clause-vacant
set_place-requires-clause-vacant g c κs within =
    let woken = is-woken c.sound.ensures.all_told c.self.inside.journal _ c.in-Some.pid c.max-time.result c.self.invariant c.in-Some.ensures.least.due in
    let one = woken.one in
    let long = woken.within in
    vacant_set c.self.inside.places.items c.in-Some.pid c.replace-place.new.dest (omega (arith, one, long)) c.replace-place.ensures.after
