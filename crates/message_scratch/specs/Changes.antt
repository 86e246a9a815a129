-- What the calls of a scratch area do to the message that it holds.
use Rattle.std.specs.Prelude.{ℕ, ◌+◌, ◌-◌, ◌≤◌, List, [], ◌∷◌, ◌++◌, Some, None, take, drop, length, nat_le, Bool}
use Rattle.std.specs.Prelude.{if◌then◌else◌}
use Rattle.resource_table.specs.Handles.{Handle}
use Rattle.message_scratch.specs.Messages.{Scratch, Slots}

-- a message holds 1,048,576 bytes
abbrev pub most_bytes : ℕ
most_bytes = 1048576

-- what a message may hold, and where it may be read from
pub record HasBounds {S : Type 0} (scratch : Scratch S) : Type 0 where
  pub bytes : length scratch.message.bytes ≤ 1048576
  pub slots : length scratch.message.slots ≤ 64
  pub read_place : scratch.read_place ≤ length scratch.message.bytes

-- as many of these bytes as the message still holds
abbrev pub fitting : {S : Type 0} → List ℕ → Scratch S → List ℕ
fitting bytes scratch = take (most_bytes - length scratch.message.bytes) bytes

-- the message with these bytes behind its own
abbrev pub with_bytes : {S : Type 0} → List ℕ → Scratch S → Scratch S
with_bytes bytes scratch =
    record scratch { message = record scratch.message { bytes = scratch.message.bytes ++ bytes } }

-- the bytes from the read place on, as many as are asked for
abbrev pub next_bytes : {S : Type 0} → ℕ → Scratch S → List ℕ
next_bytes len scratch = take len (drop scratch.read_place scratch.message.bytes)

-- behind the bytes that were read
abbrev pub after_read : {S : Type 0} → ℕ → Scratch S → Scratch S
after_read len scratch = record scratch { read_place = scratch.read_place + length (next_bytes len scratch) }

-- a read place is within the message, or at its end
abbrev pub is_within : {S : Type 0} → ℕ → Scratch S → Bool
is_within place scratch = nat_le place (length scratch.message.bytes)

-- to be read from this place on; past the size nothing changes
abbrev pub after_seek : {S : Type 0} → ℕ → Scratch S → Scratch S
after_seek place scratch = if is_within place scratch then record scratch { read_place = place } else scratch

-- the message with other slots
abbrev pub with_slots : {S : Type 0} → Slots S → Scratch S → Scratch S
with_slots slots scratch = record scratch { message = record scratch.message { slots = slots } }

-- the message with one slot more, and a handle in it
abbrev pub after_push : {S : Type 0} → Handle S → Scratch S → Scratch S
after_push handle scratch = with_slots (scratch.message.slots ++ Some handle ∷ []) scratch

-- the slots, this one empty
abbrev pub emptied : {S : Type 0} → Slots S → ℕ → Slots S
emptied slots place = take place slots ++ None ∷ drop (place + 1) slots

-- the message with this slot empty
abbrev pub after_take : {S : Type 0} → ℕ → Scratch S → Scratch S
after_take place scratch = with_slots (emptied scratch.message.slots place) scratch
