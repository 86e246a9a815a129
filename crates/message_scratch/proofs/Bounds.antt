-- How many streams a message holds.
use Rattle.std.proofs.Common.{◌≤◌, [], ◌∷◌, length, Option, Some, None, arith}
use Rattle.std.specs.Option.{IfSome}
use Rattle.message_scratch.specs.Messages.{Scratch, Slots, slots_of, handles_in}
use Rattle.message_scratch.specs.Changes.{HasBounds}

module _ {S : Type 0} where
  -- no more streams than slots
  pub count_bounded : (slots : Slots S) → length (handles_in slots) ≤ length slots
  count_bounded [] = omega arith
  count_bounded (None ∷ slots) = let rest = count_bounded slots in omega arith
  count_bounded (Some h ∷ slots) = let rest = count_bounded slots in omega arith

  -- so an empty shed has room for them
  pub scratch_bounded : (scratch : Option (Scratch S)) → IfSome scratch HasBounds
      → length (handles_in (slots_of scratch)) ≤ 64
  scratch_bounded None bounds = omega arith
  scratch_bounded (Some s) bounds =
      let count = count_bounded s.message.slots in
      let slots = bounds.slots in
      omega arith
