use Rattle.std.proofs.Common.{sym, ◌∙◌, slice_get}
use Rattle.process_store.specs.declared.place.Place.TheVariants as PlaceIs
use Rattle.process_store.proofs.InHand.{read_place, tag_held}
use Rattle.process_store.proofs.store.Store.tag_in_hand.Goals as goal

pub returns : goal.returns
returns g c = λ seat ask at.
    let items = c.args.self.now.places.items in
    let there = read_place items c.deref.result.now c.args.pid c.in-Some-Giving.field-0.now (PlaceIs.Giving c.in-Some-Giving.proc c.in-Some-Giving.field-0-1) c.deref.ensures.value
    c.in-Some-Giving.ensures.lookup.0 c.in-Some-Giving.ensures.lookup.1 c.in-Some-Giving.field-0-is in
    tag_held (slice_get items c.args.pid) c.in-Some-Giving.proc c.in-Some-Giving.field-0-1 c.in-Some.tag there (sym c.tag.ensures ∙ c.in-Some.is) seat ask at
