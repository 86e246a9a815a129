use Rattle.std.proofs.Common.{◌≡◌, ◌≤◌, ◌+◌, ◌∙◌, refl, arith, sym, ap, subst, None, Some, length, length-append, sum_by, slice_get, slice_set, IfSome, ◌-◌, ℕ}
use Rattle.resource_table.specs.Handles.{numbers_of}
use Rattle.std.proofs.lemmas.List.{map-append}
use Rattle.host_calls.specs.Shown.{seat_of}
use Rattle.node_mirror.specs.Slots.{Home}
use Rattle.node_mirror.specs.Steps.{back}
use Rattle.process_store.specs.declared.place.Place.TheVariants as PlaceIs
use Rattle.process_store.specs.Holds.{Becomes, held_of, hands_at, place_at, slot_in, streams_of}
use Rattle.process_store.specs.Keeps.{is_out, IsVacant}
use Rattle.process_store.proofs.Sets.{IsSet, sum_has, sum_set, within_of}
use Rattle.process_store.proofs.Showing.{becomes, slots_set, numbers_set, undated}
use Rattle.process_store.proofs.Keeping.{settled_keeps, links_stay}
use Rattle.process_store.proofs.Passing.{passes_came}
use Rattle.process_store.proofs.Bringing.{away_place, giver-lists, giver-length}
use Rattle.process_store.proofs.store.Store.bring_home.Goals as goal

pub overflow_sub-self : goal.overflow_sub-self
overflow_sub-self g c =
    let old = c.args.self.now in
    let worker = c.requires.away.0 in
    let there = away_place (slice_get old.places.items c.args.proc.start.pid) worker c.requires.away.1 in
    let placed : IsSet old.places.items c.set_place.new.places.items c.args.proc.start.pid (PlaceIs.Away worker) (PlaceIs.Home (record c.args.proc { shed = c.close_all.new.shed })) =
    record { within = within_of old.places.items c.args.proc.start.pid (PlaceIs.Away worker) there; there = there; set = c.set_place.ensures.items } in
    let has = sum_has placed is_out in
    let out = c.requires.keeps.out in
    omega (arith, has, out)

pub returns-clause-keeps : goal.returns-clause-keeps
returns-clause-keeps g c =
    let old = c.args.self.now in
    let pid = c.args.proc.start.pid in
    let worker = c.requires.away.0 in
    let was = PlaceIs.Away worker in
    let is = PlaceIs.Home (record c.args.proc { shed = c.close_all.new.shed }) in
    let new = record old { places = c.set_place.new.places; closed = c.close_all.new.closed; giver = Some pid; streams = old.streams + c.args.drawn; out = old.out - 1 } in
    let there = away_place (slice_get old.places.items pid) worker c.requires.away.1 in
    let placed : IsSet old.places.items new.places.items pid was is = record { within = within_of old.places.items pid was there; there = there; set = c.set_place.ensures.items } in
    let has = sum_has placed is_out in
    let out = c.requires.keeps.out in
    let longer = giver-length old new pid c.requires.alone refl in
    let sums = sum_set placed (λ place. length (hands_at place)) in
    let closed = ap length c.close_all.ensures.closed ∙ length-append old.closed.items c.args.proc.shed in
    let capacity = c.close_all.ensures.capacity in
    let room = c.requires.keeps.closed_room in
    let few = c.requires.few in
    settled_keeps old new pid was is c.requires.keeps (record {
      placed = placed;
      mail = refl;
      shed = c.requires.keeps.shed;
      sheds = c.close_all.ensures.shed;
      unended = refl;
      out = omega (arith, has, out);
      listed = giver-lists old new pid was is c.requires.keeps there c.requires.alone refl (λ listed. listed) tt;
      long = omega (arith, longer);
      room = omega arith;
      came_room = omega arith;
      dates = λ q differs. refl;
      dated = λ deadline at. let none = undated old pid was c.requires.keeps there (λ waits. waits) in let h : ⊥ = cc in absurd h;
      closed_room = let one = c.requires.one in omega (arith, has, out, capacity, room, one);
      links_room = links_stay old new pid was is c.requires.keeps placed refl refl (λ live. refl);
      links_of = λ a b tag at. at;
    }) (omega (arith, sums, closed, few))

pub returns-clause-held : goal.returns-clause-held
returns-clause-held g c =
    let old = c.args.self.now in
    let pid = c.args.proc.start.pid in
    let worker = c.requires.away.0 in
    let was = PlaceIs.Away worker in
    let is = PlaceIs.Home (record c.args.proc { shed = c.close_all.new.shed }) in
    let new = record old { places = c.set_place.new.places; closed = c.close_all.new.closed; giver = Some pid; streams = old.streams + c.args.drawn; out = old.out - 1 } in
    let there = away_place (slice_get old.places.items pid) worker c.requires.away.1 in
    let placed : IsSet old.places.items new.places.items pid was is = record { within = within_of old.places.items pid was there; there = there; set = c.set_place.ensures.items } in
    becomes new (record (back (held_of old) pid (Home (seat_of c.args.proc)) old.time (numbers_of c.args.proc.shed)) { streams = old.streams + c.args.drawn }) (record {
      slots = slots_set old new pid was is placed;
      mail = λ q. refl;
      deadlines = λ q. refl;
      names = λ name. refl;
      numbers = numbers_set old new pid was is placed;
      births = refl;
      unended = refl;
      out = refl;
      sends = refl;
      time = refl;
      row = refl;
      over = refl;
      streams = refl;
      closed = ap numbers_of c.close_all.ensures.closed ∙ map-append _ old.closed.items c.args.proc.shed;
    })

pub returns-clause-streams : goal.returns-clause-streams
returns-clause-streams g c =
    let old = c.args.self.now in
    let pid = c.args.proc.start.pid in
    let worker = c.requires.away.0 in
    let was = PlaceIs.Away worker in
    let is = PlaceIs.Home (record c.args.proc { shed = c.close_all.new.shed }) in
    let new = record old { places = c.set_place.new.places; closed = c.close_all.new.closed; giver = Some pid; streams = old.streams + c.args.drawn; out = old.out - 1 } in
    let there = away_place (slice_get old.places.items pid) worker c.requires.away.1 in
    let placed : IsSet old.places.items new.places.items pid was is = record { within = within_of old.places.items pid was there; there = there; set = c.set_place.ensures.items } in
    passes_came _ old new pid was is c.args.proc.shed placed refl c.close_all.ensures.closed

pub close_all-requires-clause-room : goal.close_all-requires-clause-room
close_all-requires-clause-room g c =
    let old = c.args.self.now in
    let pid = c.args.proc.start.pid in
    let was = PlaceIs.Away c.requires.away.0 in
    let there = away_place (slice_get old.places.items pid) c.requires.away.0 c.requires.away.1 in
    let placed : IsSet old.places.items (slice_set old.places.items pid was) pid was was = record { within = within_of old.places.items pid was there; there = there; set = refl } in
    let has = sum_has placed is_out in
    let out = c.requires.keeps.out in
    let room = c.requires.keeps.closed_room in
    let few = c.requires.few in
    let one = c.requires.one in
    let l = old.closed.ok.0 in
    omega (arith, has, out, room, few, one, l)

pub set_place-requires-clause-within : goal.set_place-requires-clause-within
set_place-requires-clause-within g c =
    let old = c.args.self.now in
    let within = within_of old.places.items c.args.proc.start.pid (PlaceIs.Away c.requires.away.0) (away_place (slice_get old.places.items c.args.proc.start.pid) c.requires.away.0 c.requires.away.1) in
    let l = old.places.ok.0 in
    omega (arith, within, l)

pub set_place-requires-clause-vacant : goal.set_place-requires-clause-vacant
set_place-requires-clause-vacant g c κs inside =
    let old = c.args.self.now in
    subst (λ o. IfSome o IsVacant) (sym (away_place (slice_get old.places.items c.args.proc.start.pid) c.requires.away.0 c.requires.away.1)) tt
