use Rattle.std.proofs.Common.{◌≡◌, ◌∙◌, refl, arith, sym, ap, subst, Some, IfSome, length, slice_get}
use Rattle.std.proofs.lemmas.Option.{slice_get_read}
use Rattle.node_state.specs.Fits.{IsAnswered}
use Rattle.node_state.specs.Seats.{meaning}
use Rattle.host_calls.specs.Shown.{seat_of}
use Rattle.process_store.specs.declared.place.Place.TheVariants as PlaceIs
use Rattle.process_store.specs.Holds.{place_at, slot_in, slot_of}
use Rattle.process_store.specs.Keeps.{IsVacant, IsWaiting}
use Rattle.process_store.proofs.Sets.{IsSet, get_set_same, is_set, is_within, read_through}
use Rattle.process_store.proofs.Lateness.{Wakes, came_place, due_waits, wakes_home, wakes_keeps, waits_asleep, woken_at}
use Rattle.process_store.proofs.Passing.{passes_moved, passes_stay}
use Rattle.process_store.proofs.store.Store.late_next.Goals as goal

pub returns-in_err-pid-clause-streams : goal.returns-in_err-pid-clause-streams
returns-in_err-pid-clause-streams g c =
    let old = c.args.self.now in
    passes_stay _ old (record old { queue = c.due.new.self }) refl refl refl

pub index_mut-requires : goal.index_mut-requires
index_mut-requires g c =
    let old = c.args.self.now in
    let pid = c.in_ok-pid.pid in
    let waits = due_waits old c.requires.keeps old.time pid c.in_ok-pid.ensures.least.due in
    let within = is_within (λ o. IsWaiting (slot_in o)) old.places.items pid waits (λ none. none) in
    let l = old.places.ok.0 in
    omega (arith, within, l)

pub unreachable-requires : goal.unreachable-requires
unreachable-requires g c =
    let old = c.args.self.now in
    let pid = c.in_ok-pid.pid in
    let waits = due_waits old c.requires.keeps old.time pid c.in_ok-pid.ensures.least.due in
    let within = is_within (λ o. IsWaiting (slot_in o)) old.places.items pid waits (λ none. none) in
    let was = c.replace-place.result in
    let there = slice_get_read old.places.items (length old.places.items) pid was refl within
    (read_through old.places.items pid was c.index_mut.result.now was c.replace-place.ensures.value c.index_mut.ensures.value refl) in
    waits_asleep was (subst (λ o. IsWaiting (slot_in o)) there waits) c.in_default.not-Asleep

pub answer-requires : goal.answer-requires
answer-requires g c =
    let old = c.args.self.now in
    let pid = c.in_ok-pid.pid in
    let waits = due_waits old c.requires.keeps old.time pid c.in_ok-pid.ensures.least.due in
    let within = is_within (λ o. IsWaiting (slot_in o)) old.places.items pid waits (λ none. none) in
    let was = PlaceIs.Asleep c.in-Asleep.proc c.in-Asleep.ask in
    let there = slice_get_read old.places.items (length old.places.items) pid was refl within
    (read_through old.places.items pid c.replace-place.result c.index_mut.result.now was c.replace-place.ensures.value c.index_mut.ensures.value c.in-Asleep.is) in
    let may = woken_at g.E.Engine.phase g.E.Engine.memory old pid c.in-Asleep.proc c.in-Asleep.ask there (c.requires.waits pid) in
    rw c.late_reply.ensures may.late

pub set_place-requires-clause-within : goal.set_place-requires-clause-within
set_place-requires-clause-within g c κs inside =
    let old = c.args.self.now in
    let pid = c.in_ok-pid.pid in
    let waits = due_waits old c.requires.keeps old.time pid c.in_ok-pid.ensures.least.due in
    let within = is_within (λ o. IsWaiting (slot_in o)) old.places.items pid waits (λ none. none) in
    let l = old.places.ok.0 in
    omega (arith, within, l)

pub set_place-requires-clause-vacant : goal.set_place-requires-clause-vacant
set_place-requires-clause-vacant g c κs inside =
    let old = c.args.self.now in
    let pid = c.in_ok-pid.pid in
    let waits = due_waits old c.requires.keeps old.time pid c.in_ok-pid.ensures.least.due in
    let within = is_within (λ o. IsWaiting (slot_in o)) old.places.items pid waits (λ none. none) in
    subst (λ o. IfSome o IsVacant) (sym (get_set_same old.places.items pid c.replace-place.new.dest within)) (subst IsVacant (sym c.replace-place.ensures.after) tt)

pub push_reserved-requires : goal.push_reserved-requires
push_reserved-requires g c =
    let old = c.args.self.now in
    let pid = c.in_ok-pid.pid in
    let waits = due_waits old c.requires.keeps old.time pid c.in_ok-pid.ensures.least.due in
    let within = is_within (λ o. IsWaiting (slot_in o)) old.places.items pid waits (λ none. none) in
    let was = PlaceIs.Asleep c.in-Asleep.proc c.in-Asleep.ask in
    let there = slice_get_read old.places.items (length old.places.items) pid was refl within
    (read_through old.places.items pid c.replace-place.result c.index_mut.result.now was c.replace-place.ensures.value c.index_mut.ensures.value c.in-Asleep.is) in
    let place = came_place old pid c.in-Asleep.proc c.in-Asleep.ask c.requires.keeps there in
    let l = old.came.ok.0 in
    omega (arith, place, l)

pub returns-clause-keeps : goal.returns-clause-keeps
returns-clause-keeps g c =
    let old = c.args.self.now in
    let pid = c.in_ok-pid.pid in
    let proc = c.in-Asleep.proc in
    let ask = c.in-Asleep.ask in
    let after = record proc { engine = c.answer.new.self } in
    let new = record old { places = c.set_place.new.places; queue = c.due.new.self; came = c.push_reserved.new.self } in
    let waits = due_waits old c.requires.keeps old.time pid c.in_ok-pid.ensures.least.due in
    let within = is_within (λ o. IsWaiting (slot_in o)) old.places.items pid waits (λ none. none) in
    let placed : IsSet old.places.items new.places.items pid (PlaceIs.Asleep proc ask) (PlaceIs.Home after) =
    is_set old.places.items c.set_place.new.places.items pid c.replace-place.result c.index_mut.result.now (PlaceIs.Asleep proc ask) _ (PlaceIs.Home after) within c.replace-place.ensures.value
    c.index_mut.ensures.value c.in-Asleep.is c.set_place.ensures.items in
    let wakes : Wakes old new pid proc after ask = record {
      placed = placed;
      same_shed = refl;
      same_hands = refl;
      ready = c.in_ok-pid.ensures.ready;
      dates = c.in_ok-pid.ensures.deadlines;
      room = c.in_ok-pid.ensures.room;
      came = c.push_reserved.ensures.items;
      came_room = c.push_reserved.ensures.capacity;
      giver = refl;
      mail = refl;
      shed = refl;
      closed = refl;
      links = refl;
      names = refl;
      births = refl;
      unended = refl;
      out = refl;
      sends = refl;
      time = refl;
      row = refl;
      over = refl;
      streams = refl;
    } in
    wakes_keeps old new pid proc after ask wakes c.requires.keeps

pub returns-clause-late : goal.returns-clause-late
returns-clause-late g c =
    let old = c.args.self.now in
    let pid = c.in_ok-pid.pid in
    let proc = c.in-Asleep.proc in
    let ask = c.in-Asleep.ask in
    let after = record proc { engine = c.answer.new.self } in
    let new = record old { places = c.set_place.new.places; queue = c.due.new.self; came = c.push_reserved.new.self } in
    let waits = due_waits old c.requires.keeps old.time pid c.in_ok-pid.ensures.least.due in
    let within = is_within (λ o. IsWaiting (slot_in o)) old.places.items pid waits (λ none. none) in
    let placed : IsSet old.places.items new.places.items pid (PlaceIs.Asleep proc ask) (PlaceIs.Home after) =
    is_set old.places.items c.set_place.new.places.items pid c.replace-place.result c.index_mut.result.now (PlaceIs.Asleep proc ask) _ (PlaceIs.Home after) within c.replace-place.ensures.value
    c.index_mut.ensures.value c.in-Asleep.is c.set_place.ensures.items in
    let wakes : Wakes old new pid proc after ask = record {
      placed = placed;
      same_shed = refl;
      same_hands = refl;
      ready = c.in_ok-pid.ensures.ready;
      dates = c.in_ok-pid.ensures.deadlines;
      room = c.in_ok-pid.ensures.room;
      came = c.push_reserved.ensures.items;
      came_room = c.push_reserved.ensures.capacity;
      giver = refl;
      mail = refl;
      shed = refl;
      closed = refl;
      links = refl;
      names = refl;
      births = refl;
      unended = refl;
      out = refl;
      sends = refl;
      time = refl;
      row = refl;
      over = refl;
      streams = refl;
    } in
    record {
      seat = seat_of proc;
      ask = ask;
      engine = c.answer.new.self;
      waited = ap slot_in placed.there;
      told = subst (λ reply. IsAnswered (meaning g.E.Engine.stands g.E.Engine.phase g.E.Engine.memory) proc.engine reply c.answer.new.self) c.late_reply.ensures
          (record { running = c.answer.ensures.phase; stands = c.answer.ensures.stands });
      held = wakes_home old new pid proc after ask wakes;
    }

pub returns-clause-streams : goal.returns-clause-streams
returns-clause-streams g c =
    let old = c.args.self.now in
    let pid = c.in_ok-pid.pid in
    let proc = c.in-Asleep.proc in
    let ask = c.in-Asleep.ask in
    let after = record proc { engine = c.answer.new.self } in
    let new = record old { places = c.set_place.new.places; queue = c.due.new.self; came = c.push_reserved.new.self } in
    let waits = due_waits old c.requires.keeps old.time pid c.in_ok-pid.ensures.least.due in
    let within = is_within (λ o. IsWaiting (slot_in o)) old.places.items pid waits (λ none. none) in
    let placed : IsSet old.places.items new.places.items pid (PlaceIs.Asleep proc ask) (PlaceIs.Home after) =
    is_set old.places.items c.set_place.new.places.items pid c.replace-place.result c.index_mut.result.now (PlaceIs.Asleep proc ask) _ (PlaceIs.Home after) within c.replace-place.ensures.value
    c.index_mut.ensures.value c.in-Asleep.is c.set_place.ensures.items in
    passes_moved _ old new pid (PlaceIs.Asleep proc ask) (PlaceIs.Home after) placed (λ handle has. has) refl refl
