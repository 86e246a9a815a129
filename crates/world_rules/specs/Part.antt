use Rattle.std.specs.Prelude.{ℕ, ◌+◌, List, [], ◌∷◌, ◌++◌, take, drop, filter, filter_map, slice_get, option_map, Option, Some, None, Bool, not, nat_eq, nat_lt, if◌then◌else◌}
use Rattle.std.specs.List.{list_any}
use Rattle.std.specs.Option.{option_flatten}
use Rattle.host_port.specs.Allowance.{Allowance}

-- What a process keeps for itself: its scratch message, its streams, its listeners, its configs and its traffic.

-- a message: its tag, its bytes, and one slot for each stream that was pushed into it, with the stream while it is
-- there
pub record Message : Type 0 where
  pub tag : ℕ
  pub bytes : List ℕ
  pub slots : List (Option ℕ)

-- a new message
abbrev pub blank_message : ℕ → Message
blank_message tag = record { tag = tag; bytes = []; slots = [] }

-- the scratch area holds a message, of which so many bytes were read
pub record Scratch : Type 0 where
  pub message : Message
  pub read_place : ℕ

-- a message of which nothing was read
abbrev pub unread : Message → Scratch
unread message = record { message = message; read_place = 0 }

-- the scratch message, if there is one; the streams of the table, by rising number; the listeners and the number of
-- the next; the limits of each config, and the number of the next; the bytes of traffic
pub record Part : Type 0 where
  pub scratch : Option Scratch
  pub handles : List ℕ
  pub listeners : List ℕ
  pub next_listener : ℕ
  pub configs : ℕ → Option Allowance
  pub next_config : ℕ
  pub traffic : ℕ

-- what a process has at its birth, and after its end
abbrev pub no_part : Part
no_part = record {
  scratch = None;
  handles = [];
  listeners = [];
  next_listener = 0;
  configs = λ _. None;
  next_config = 0;
  traffic = 0;
}

-- LIMITS

-- a message holds 1,048,576 bytes, and 64 streams may be pushed into it
abbrev pub most_message_bytes : ℕ
most_message_bytes = 1048576

abbrev pub most_slots : ℕ
most_slots = 64

-- a table holds 256 streams, and a process has 16 listeners
abbrev pub most_handles : ℕ
most_handles = 256

abbrev pub most_listeners : ℕ
most_listeners = 16

-- NUMBERS

-- a number is among these
abbrev pub is_among : List ℕ → ℕ → Bool
is_among numbers number = list_any (nat_eq number) numbers

-- rising numbers with one more, in its place
abbrev pub with_number : ℕ → List ℕ → List ℕ
with_number number numbers = filter (λ n. nat_lt n number) numbers ++ number ∷ filter (λ n. nat_lt number n) numbers

-- numbers without one
abbrev pub without_number : ℕ → List ℕ → List ℕ
without_number number numbers = filter (λ n. not (nat_eq n number)) numbers

-- SLOTS

-- the streams in these slots, by rising slot
abbrev pub handles_in : List (Option ℕ) → List ℕ
handles_in slots = filter_map (λ slot. slot) slots

-- the stream in a slot, if one is there
abbrev pub handle_at : List (Option ℕ) → ℕ → Option ℕ
handle_at slots place = option_flatten (slice_get slots place)

-- the slots, this one empty
abbrev pub emptied : List (Option ℕ) → ℕ → List (Option ℕ)
emptied slots place = take place slots ++ None ∷ drop (place + 1) slots

-- the slots of the scratch message; without one there are none
abbrev pub slots_of : Option Scratch → List (Option ℕ)
slots_of None = []
slots_of (Some scratch) = scratch.message.slots

-- the streams of the scratch message
abbrev pub scratch_handles : Part → List ℕ
scratch_handles part = handles_in (slots_of part.scratch)

-- CHANGES

-- the part with the message of the scratch area changed; without one nothing changes
abbrev pub with_message : (Message → Message) → Part → Part
with_message change part = record part {
  scratch = option_map (λ (s : Scratch). record s { message = change s.message }) part.scratch;
}

-- the part with this read place in the scratch area
abbrev pub read_to : ℕ → Part → Part
read_to place part =
    record part { scratch = option_map (λ (s : Scratch). record s { read_place = place }) part.scratch }

-- the part with these streams in the table
abbrev pub with_handles : List ℕ → Part → Part
with_handles handles part = record part { handles = handles }

-- the part with these limits, or none, at a config's number
abbrev pub with_config : ℕ → Option Allowance → Part → Part
with_config number limits part =
    record part { configs = λ other. if nat_eq other number then limits else part.configs other }
