use Rattle.std.specs.Prelude.{◌≡◌, ◌↔◌, ℕ, ◌<◌, ◌≤◌, ◌&&◌, ◌||◌, List, [], ◌∷◌, ◌++◌, flat_map, Option, Some, None, Bool, true, false, nat_eq, nat_lt}
use Rattle.std.specs.List.{list_any}
use Rattle.std.specs.Option.{option_map_or}
use Rattle.world_rules.specs.Part.{is_among, handle_at, slots_of}
use Rattle.world_rules.specs.Mail.{MailItem, Letter, Signal}
use Rattle.world_rules.specs.Moves.{Place, Table, Scratch, Mail, Closed, Move, is_in_table, is_in_scratch, handled}
use Rattle.world_rules.specs.Streams.{one_if}
use Rattle.world_rules.specs.World.{World, up_to}
use Rattle.world_rules.specs.Ends.{held_handles}
use Rattle.world_rules.specs.Sound.{Rise, times}

-- Where the streams stand, by the containers and by the moves alone. In each world that a journal tells the two agree,
-- and each stream stands in one place.

-- BY THE CONTAINERS

-- the slot holds this stream
abbrev pub slot_holds : ℕ → List (Option ℕ) → ℕ → Bool
slot_holds handle slots slot = option_map_or (nat_eq handle) (handle_at slots slot) false

-- the item is the message of this number, and this slot of it holds the stream
abbrev pub item_holds : ℕ → ℕ → ℕ → MailItem → Bool
item_holds handle number slot (Letter other message) = nat_eq other number && slot_holds handle message.slots slot
item_holds handle number slot (Signal tag) = false

-- the stream is found at this place: in the table or in the slot of the scratch message of that process, in the slot of
-- the message in its mailbox, or among the closed
abbrev pub is_found : World → ℕ → Place → Bool
is_found w handle (Table pid) = is_among (w.process pid).part.handles handle
is_found w handle (Scratch pid slot) = slot_holds handle (slots_of (w.process pid).part.scratch) slot
is_found w handle (Mail pid number slot) = list_any (item_holds handle number slot) (w.process pid).mail
is_found w handle Closed = is_among w.closed handle

-- all streams of a world: what each process holds in its table, its scratch message and its mailbox, one process after
-- the other, and then what was closed
abbrev pub all_streams : World → List ℕ
all_streams w = flat_map (λ pid. held_handles (w.process pid)) (up_to w.numbers_drawn) ++ w.closed

-- the numbers of the messages of a mailbox, the oldest first
abbrev pub letter_numbers : List MailItem → List ℕ
letter_numbers [] = []
letter_numbers (Letter number message ∷ mail) = number ∷ letter_numbers mail
letter_numbers (Signal tag ∷ mail) = letter_numbers mail

-- PLACED. A stream is found exactly where the moves have it, and they have it nowhere exactly where its number wasn't
-- drawn; the moves close the streams that were closed, in the same order; among all streams each number that was drawn
-- is once, and no other; and the messages of a mailbox lie in the order of their sends.
pub record IsPlaced (w : World) : Type 0 where
  pub found : (handle : ℕ) (place : Place) →
      (is_found w handle place ≡ true) ↔ ((handled w.moves).owner handle ≡ Some place)
  pub undrawn : (handle : ℕ) → ((handled w.moves).owner handle ≡ None) ↔ (w.streams ≤ handle)
  pub drawn : (handled w.moves).drawn ≡ w.streams
  pub closed : (handled w.moves).closed ≡ w.closed
  pub once : (handle : ℕ) → times handle (all_streams w) ≡ one_if (nat_lt handle w.streams) 0
  pub letters : (pid : ℕ) → Rise (letter_numbers (w.process pid).mail)
  pub sent : (pid number : ℕ) → is_among (letter_numbers (w.process pid).mail) number ≡ true → number < w.sends

-- WHAT FOLLOWS

-- the place is in the table or in the scratch message of this process
abbrev pub is_in_hand : ℕ → Place → Bool
is_in_hand pid place = is_in_table pid place || is_in_scratch pid place

-- what is told of streams only goes on: further moves, and further closed streams, come behind those there were
pub record StreamsGo (old new : World) : Type 0 where
  pub moves : (more : List Move) × (new.moves ≡ old.moves ++ more)
  pub closed : (more : List ℕ) × (new.closed ≡ old.closed ++ more)
