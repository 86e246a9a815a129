use Rattle.std.proofs.Common.{◌≡◌, ◌<◌, ℕ, Some, None, true, refl, arith, sym, ◌∙◌, ap}
use Rattle.node_mirror.specs.Slots.{is_giving}
use Rattle.process_store.specs.declared.place.Place.TheVariants as PlaceIs
use Rattle.process_store.specs.Holds.{slot_in, place_at}
use Rattle.process_store.proofs.Sets.{is_set, is_within}
use Rattle.process_store.proofs.Showing.{undated}
use Rattle.process_store.proofs.Passing.{passes_moved}
use Rattle.process_store.proofs.Waits.{date_room, waiting_held, waiting_keeps}
use Rattle.process_store.proofs.store.Store.wait.Goals as goal

pub set_wait-requires : goal.set_wait-requires
set_wait-requires g c =
    let old = c.args.self.now in
    let within = is_within (λ o. is_giving (slot_in o) ≡ true) old.places.items c.args.pid c.requires.giving (λ none. let h : ⊥ = cc in h) in
    let placed = is_set old.places.items c.set_place.new.places.items c.args.pid c.replace-place.result c.index_mut.result.now (PlaceIs.Giving c.in-Giving.proc c.in-Giving.ask) _ _ within
    c.replace-place.ensures.value c.index_mut.ensures.value c.in-Giving.is c.set_place.ensures.items in
    date_room old c.args.pid c.requires.keeps (undated old c.args.pid (PlaceIs.Giving c.in-Giving.proc c.in-Giving.ask) c.requires.keeps placed.there (λ waits. waits)) within

pub returns-clause-keeps : goal.returns-clause-keeps
returns-clause-keeps g c =
    let old = c.args.self.now in
    let new = record old { places = c.set_place.new.places; queue = c.set_wait.new.queue; giver = None } in
    let within = is_within (λ o. is_giving (slot_in o) ≡ true) old.places.items c.args.pid c.requires.giving (λ none. let h : ⊥ = cc in h) in
    let placed = is_set old.places.items c.set_place.new.places.items c.args.pid c.replace-place.result c.index_mut.result.now (PlaceIs.Giving c.in-Giving.proc c.in-Giving.ask) _
    (PlaceIs.Asleep c.in-Giving.proc c.in-Giving.ask) within c.replace-place.ensures.value c.index_mut.ensures.value c.in-Giving.is c.set_place.ensures.items in
    waiting_keeps old new c.args.pid c.in-Giving.proc c.in-Giving.ask c.args.deadline c.requires.keeps placed c.requires.giver c.set_wait.ensures.deadlines c.set_wait.ensures.ready c.set_wait.ensures.room refl

pub returns-clause-held : goal.returns-clause-held
returns-clause-held g c =
    let old = c.args.self.now in
    let new = record old { places = c.set_place.new.places; queue = c.set_wait.new.queue; giver = None } in
    let within = is_within (λ o. is_giving (slot_in o) ≡ true) old.places.items c.args.pid c.requires.giving (λ none. let h : ⊥ = cc in h) in
    let placed = is_set old.places.items c.set_place.new.places.items c.args.pid c.replace-place.result c.index_mut.result.now (PlaceIs.Giving c.in-Giving.proc c.in-Giving.ask) _
    (PlaceIs.Asleep c.in-Giving.proc c.in-Giving.ask) within c.replace-place.ensures.value c.index_mut.ensures.value c.in-Giving.is c.set_place.ensures.items in
    waiting_held old new c.args.pid c.in-Giving.proc c.in-Giving.ask c.args.deadline c.requires.keeps placed c.requires.giver c.set_wait.ensures.deadlines c.set_wait.ensures.ready c.set_wait.ensures.room refl

pub returns-clause-streams : goal.returns-clause-streams
returns-clause-streams g c =
    let old = c.args.self.now in
    let new = record old { places = c.set_place.new.places; queue = c.set_wait.new.queue; giver = None } in
    let within = is_within (λ o. is_giving (slot_in o) ≡ true) old.places.items c.args.pid c.requires.giving (λ none. let h : ⊥ = cc in h) in
    let placed = is_set old.places.items c.set_place.new.places.items c.args.pid c.replace-place.result c.index_mut.result.now (PlaceIs.Giving c.in-Giving.proc c.in-Giving.ask) _
    (PlaceIs.Asleep c.in-Giving.proc c.in-Giving.ask) within c.replace-place.ensures.value c.index_mut.ensures.value c.in-Giving.is c.set_place.ensures.items in
    passes_moved _ old new c.args.pid (PlaceIs.Giving c.in-Giving.proc c.in-Giving.ask) (PlaceIs.Asleep c.in-Giving.proc c.in-Giving.ask) placed (λ handle at. at) refl refl
