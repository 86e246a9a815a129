-- Slots that are read, written and emptied at a place.
use Rattle.std.proofs.Common.{◌≡◌, ℕ, ◌<◌, length, set, Option, Some, None, ap, ◌∙◌, add-one}
use Rattle.std.specs.List.{slice_get}
use Rattle.std.specs.Option.{option_flatten, OnSome}
use Rattle.resource_table.specs.Handles.{Handle}
use Rattle.resource_table.proofs.Filters.{set_at}
use Rattle.message_scratch.specs.Messages.{Message, Slots, handle_at}
use Rattle.message_scratch.specs.Changes.{emptied}

-- what holds anyway holds of a value too
on_some : {A : Type 0} (o : Option A) (P : Type 0) → P → OnSome o P
on_some None P p = tt
on_some (Some x) P p = p

module _ {S : Type 0} where
  -- a write of None is an empty slot
  pub emptied_at : (slots : Slots S) (place : ℕ) → place < length slots → set slots place None ≡ emptied slots place
  emptied_at slots place lt = rw add-one (set_at slots place None lt)

  -- the handle in the slot that was read
  pub handle_read : (slots : Slots S) (place : ℕ) (slot : Option (Handle S)) → slice_get slots place ≡ Some slot
      → handle_at slots place ≡ slot
  handle_read slots place slot at = ap option_flatten at

  pub handle_past : (slots : Slots S) (place : ℕ) → slice_get slots place ≡ None → handle_at slots place ≡ None
  handle_past slots place at = ap option_flatten at

  -- a take leaves the slot empty
  pub take_left : (r : Option (Handle S)) (inside whole : Message S) (place : ℕ) (slot : Option (Handle S))
      → slot ≡ None → place < length inside.slots → inside ≡ whole
      → OnSome r (record inside { slots = set inside.slots place slot } ≡ record whole { slots = emptied whole.slots place })
  take_left r inside whole place slot none lt same =
      let by_slot : Option (Handle S) → Message S = λ s. record inside { slots = set inside.slots place s } in
      let by_slots : Slots S → Message S = λ slots. record inside { slots = slots } in
      let by_message : Message S → Message S = λ m. record m { slots = emptied m.slots place } in
      on_some r _ (ap by_slot none ∙ ap by_slots (emptied_at inside.slots place lt) ∙ ap by_message same)
