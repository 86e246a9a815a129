-- A message with its very streams, and the scratch area that holds one.
use Rattle.std.specs.Prelude.{ℕ, List, [], Option, Some, None, filter_map, slice_get, option_map, map}
use Rattle.std.specs.Option.{option_flatten}
use Rattle.resource_table.specs.Handles.{Handle}

-- the slots of a message, each with the handle that is in it
abbrev pub Slots : Type 0 → Type 0
Slots S = List (Option (Handle S))

-- a message: its tag, its bytes, and one slot for each stream that was pushed into it, with the handle while it is
-- there
pub record Message (S : Type 0) : Type 0 where
  pub tag : ℕ
  pub bytes : List ℕ
  pub slots : List (Option (Handle S))

-- a new message
abbrev pub blank_message : {S : Type 0} → ℕ → Message S
blank_message tag = record { tag = tag; bytes = []; slots = [] }

-- the scratch area holds a message, of which so many bytes were read
pub record Scratch (S : Type 0) : Type 0 where
  pub message : Message S
  pub read_place : ℕ

-- a message of which nothing was read
abbrev pub unread : {S : Type 0} → Message S → Scratch S
unread message = record { message = message; read_place = 0 }

-- the slots of the message that is held; without one there are none
abbrev pub slots_of : {S : Type 0} → Option (Scratch S) → Slots S
slots_of None = []
slots_of (Some scratch) = scratch.message.slots

-- the handles in these slots, by rising slot
abbrev pub handles_in : {S : Type 0} → Slots S → List (Handle S)
handles_in slots = filter_map (λ slot. slot) slots

-- the handle in a slot, if one is there
abbrev pub handle_at : {S : Type 0} → Slots S → ℕ → Option (Handle S)
handle_at slots place = option_flatten (slice_get slots place)

-- the numbers in these slots
abbrev pub slot_numbers : {S : Type 0} → Slots S → List (Option ℕ)
slot_numbers slots = map (option_map (λ (h : Handle _). h.number)) slots
