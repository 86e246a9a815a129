use Rattle.std.proofs.Common.{◌∙◌, refl, arith, sym, ap, None}
use Rattle.host_calls.specs.Shown.{seat_of}
use Rattle.node_mirror.specs.Steps.{home}
use Rattle.process_store.specs.declared.place.Place.TheVariants as PlaceIs
use Rattle.process_store.specs.Holds.{Becomes, held_of, slot_in, place_at}
use Rattle.process_store.specs.Telling.{MayBeTold}
use Rattle.process_store.proofs.Sets.{is_set, is_within, is_at}
use Rattle.process_store.proofs.Showing.{becomes, replaced_same, slots_set, numbers_set, undated}
use Rattle.process_store.proofs.Keeping.{moved_keeps, lists_stay, links_stay}
use Rattle.process_store.proofs.Passing.{passes_moved}
use Rattle.process_store.proofs.Telling.{tells}
use Rattle.process_store.specs.Keeps.{HasShedAll}
use Rattle.process_store.proofs.store.Store.answer.Goals as goal

pub returns-clause-keeps : goal.returns-clause-keeps
returns-clause-keeps g c =
    let old = c.args.self.now in
    let new = record old { places = c.set_place.new.places } in
    let was = PlaceIs.Giving c.in-Giving.proc c.in-Giving.field-1 in
    let is = PlaceIs.Home (record c.in-Giving.proc { engine = c.answer.new.self }) in
    let within = is_within (λ o. MayBeTold g.E.Engine.phase g.E.Engine.memory (slot_in o) c.args.reply.now) old.places.items c.args.pid c.requires.giving (λ none. none) in
    let placed = is_set old.places.items c.set_place.new.places.items c.args.pid c.replace-place.result c.index_mut.result.now was _ is within c.replace-place.ensures.value c.index_mut.ensures.value
    c.in-Giving.is c.set_place.ensures.items in
    let none = undated old c.args.pid was c.requires.keeps placed.there (λ waits. waits) in
    moved_keeps old new c.args.pid was is c.requires.keeps (record {
      placed = placed;
      mail = refl;
      shed = c.requires.keeps.shed;
      sheds = is_at placed HasShedAll c.requires.keeps.sheds;
      unended = refl;
      out = refl;
      listed = lists_stay old new c.args.pid was is c.requires.keeps placed.there refl (λ listed. listed) (λ here. here);
      long = omega arith;
      room = omega arith;
      came_room = omega arith;
      dates = λ q differs. refl;
      dated = λ deadline at. let h : ⊥ = cc in absurd h;
      few = omega arith;
      closed_room = c.requires.keeps.closed_room;
      links_room = links_stay old new c.args.pid was is c.requires.keeps placed refl refl (λ live. live);
      links_of = λ a b tag at. at;
    })

pub returns-clause-held : goal.returns-clause-held
returns-clause-held g c =
    let old = c.args.self.now in
    let new = record old { places = c.set_place.new.places } in
    let was = PlaceIs.Giving c.in-Giving.proc c.in-Giving.field-1 in
    let is = PlaceIs.Home (record c.in-Giving.proc { engine = c.answer.new.self }) in
    let within = is_within (λ o. MayBeTold g.E.Engine.phase g.E.Engine.memory (slot_in o) c.args.reply.now) old.places.items c.args.pid c.requires.giving (λ none. none) in
    let placed = is_set old.places.items c.set_place.new.places.items c.args.pid c.replace-place.result c.index_mut.result.now was _ is within c.replace-place.ensures.value c.index_mut.ensures.value
    c.in-Giving.is c.set_place.ensures.items in
    let none = undated old c.args.pid was c.requires.keeps placed.there (λ waits. waits) in
    tells _ (place_at old c.args.pid) c.args.reply.now (λ seat engine. Becomes new (home (held_of old) c.args.pid (record seat { engine = engine }))) (seat_of c.in-Giving.proc) c.in-Giving.field-1 c.answer.new.self (ap slot_in placed.there) (record { running = c.answer.ensures.phase; stands = c.answer.ensures.stands })
    (becomes new (home (held_of old) c.args.pid (seat_of (record c.in-Giving.proc { engine = c.answer.new.self }))) (record {
      slots = slots_set old new c.args.pid was is placed;
      mail = replaced_same (held_of old).mail c.args.pid ((held_of old).mail c.args.pid) refl;
      deadlines = replaced_same (held_of old).deadlines c.args.pid None none;
      names = λ name. refl;
      numbers = numbers_set old new c.args.pid was is placed;
      births = refl;
      unended = refl;
      out = refl;
      sends = refl;
      time = refl;
      row = refl;
      over = refl;
      streams = refl;
      closed = refl;
    }))

pub returns-clause-streams : goal.returns-clause-streams
returns-clause-streams g c =
    let old = c.args.self.now in
    let new = record old { places = c.set_place.new.places } in
    let was = PlaceIs.Giving c.in-Giving.proc c.in-Giving.field-1 in
    let is = PlaceIs.Home (record c.in-Giving.proc { engine = c.answer.new.self }) in
    let within = is_within (λ o. MayBeTold g.E.Engine.phase g.E.Engine.memory (slot_in o) c.args.reply.now) old.places.items c.args.pid c.requires.giving (λ none. none) in
    let placed = is_set old.places.items c.set_place.new.places.items c.args.pid c.replace-place.result c.index_mut.result.now was _ is within c.replace-place.ensures.value c.index_mut.ensures.value
    c.in-Giving.is c.set_place.ensures.items in
    passes_moved _ old new c.args.pid was is placed (λ handle has. has) refl refl
