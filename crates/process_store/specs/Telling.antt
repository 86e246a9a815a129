use Rattle.std.specs.Prelude.{◌≡◌, ℕ, ◌+◌, ◌≤◌, ◌<◌, List, [], ◌∷◌, ◌++◌, length, slice_get, nat_eq, ◌&&◌, IsSome, Bool, true, false}
use Rattle.host_port.specs.declared.ask.Ask.{Ask}
use Rattle.host_port.specs.declared.reply.Reply.{Reply}
use Rattle.host_port.specs.Areas.{request_of}
use Rattle.host_port.specs.Standing.{Phase}
use Rattle.host_port.specs.Steps.{IsAnswerable}
use Rattle.world_rules.specs.declared.halt.End.{End}
use Rattle.world_rules.specs.declared.life.Ended.{Ended as EndMemory}
use Rattle.world_rules.specs.Book.{Book}
use Rattle.world_rules.specs.Mail.{MailItem, is_wanted, message_count, most_messages, tags_in}
use Rattle.node_state.specs.declared.outcome.Post.{Post}
use Rattle.node_state.specs.declared.outcome.Post.TheVariants as PostIs
use Rattle.node_state.specs.Seats.{Meaning, Seat, IsFitting}
use Rattle.node_state.specs.Fits.{IsAnswered, IsLastOf}
use Rattle.node_mirror.specs.Slots.{Slot, Nobody, Home, Asleep, Giving, Away, Fated, Gone, IsLastAt, is_live_slot}
use Rattle.process_store.specs.declared.store.Store.{Store}
use Rattle.process_store.specs.Holds.{place_at}
use Rattle.process_store.specs.Keeps.{link_count, signal_count, reserved_in}

-- What those are told whose Give is being performed, where a message goes, and who waits for it.

-- the Give of the process at this slot is being performed, and its engine may be told this
abbrev pub MayBeTold : {E : Type 0} → (E → Phase) → (E → List ℕ) → Slot E → Reply → Type 0
MayBeTold phase memory Nobody reply = ⊥
MayBeTold phase memory (Home seat) reply = ⊥
MayBeTold phase memory (Asleep seat ask) reply = ⊥
MayBeTold phase memory (Giving seat ask) reply = IsAnswerable (phase seat.engine) (memory seat.engine) reply
MayBeTold phase memory (Away worker) reply = ⊥
MayBeTold phase memory (Fated worker end) reply = ⊥
MayBeTold phase memory Gone reply = ⊥

-- the Give of the process at this slot is being performed, and it has a scratch message
abbrev pub HasScratch : {E : Type 0} → Slot E → Type 0
HasScratch Nobody = ⊥
HasScratch (Home seat) = ⊥
HasScratch (Asleep seat ask) = ⊥
HasScratch (Giving seat ask) = IsSome seat.part.scratch
HasScratch (Away worker) = ⊥
HasScratch (Fated worker end) = ⊥
HasScratch Gone = ⊥

-- the engine of the process at a slot was told this, and what came of it
abbrev pub Tells : {E P : Type 0} → Meaning E P → Slot E → Reply → (Seat E → E → Type 0) → Type 0
Tells {E = E} engines slot reply Is =
    (seat : Seat E) (ask : Ask) → slot ≡ Giving seat ask →
    (engine : E) × IsAnswered engines seat.engine reply engine × Is seat engine

-- what becomes of a message that is sent to the process of a slot, with this mailbox
abbrev pub IsPost : {E : Type 0} → Slot E → List MailItem → Post → Type 0
IsPost slot mail PostIs.Put = (is_live_slot slot ≡ true) × (message_count mail < most_messages)
IsPost slot mail PostIs.Nobody = is_live_slot slot ≡ false
IsPost slot mail PostIs.Full = (is_live_slot slot ≡ true) × (most_messages ≤ message_count mail)
IsPost slot mail PostIs.Refused = (is_live_slot slot ≡ true) × (message_count mail < most_messages)

-- in the mailbox of this number there is a place for an item of this tag, beside those for signals
abbrev pub HasPlace : {E O P S L : Type 0} → Store E O P S L → (to tag : ℕ) → Type 0
HasPlace store to tag =
    link_count store.links to tag + signal_count store.links to tag + 1 ≤ reserved_in (slice_get store.mail.items to) tag

-- the tags that the receive of this ask wants, at this memory
abbrev pub tags_of : (memory : List ℕ) → Ask → List ℕ
tags_of memory ask = tags_in (request_of memory ask).first

-- the process at a slot waits in a receive that wants an item of this tag; and what it waits in fits its memory
abbrev pub wakes_for : {E : Type 0} → (E → List ℕ) → Slot E → (tag : ℕ) → Bool
wakes_for memory Nobody tag = false
wakes_for memory (Home seat) tag = false
wakes_for memory (Asleep seat ask) tag = nat_eq ask.call 9 && is_wanted (tags_of (memory seat.engine) ask) tag
wakes_for memory (Giving seat ask) tag = false
wakes_for memory (Away worker) tag = false
wakes_for memory (Fated worker end) tag = false
wakes_for memory Gone tag = false

abbrev pub WaitsWell : {E : Type 0} → (E → List ℕ) → Slot E → Type 0
WaitsWell memory Nobody = Unit {0}
WaitsWell memory (Home seat) = Unit {0}
WaitsWell memory (Asleep seat ask) = IsFitting (memory seat.engine) (request_of (memory seat.engine) ask)
WaitsWell memory (Giving seat ask) = Unit {0}
WaitsWell memory (Away worker) = Unit {0}
WaitsWell memory (Fated worker end) = Unit {0}
WaitsWell memory Gone = Unit {0}

-- ENDS

-- the slot of a process after an end has come to it from outside its turn
abbrev pub after_strike : {E : Type 0} → Slot E → End → Slot E
after_strike Nobody end = Nobody
after_strike (Home seat) end = Gone
after_strike (Asleep seat ask) end = Gone
after_strike (Giving seat ask) end = Gone
after_strike (Away worker) end = Fated worker end
after_strike (Fated worker earlier) end = Fated worker earlier
after_strike Gone end = Gone

-- the journal has the ends more that come where an end comes to the process of a slot
pub record AddsLast {E P : Type 0} (engines : Meaning E P) (pid : ℕ) (slot : Slot E) (old new : Book) : Type 0 where
  pub more : List EndMemory
  pub last : IsLastAt engines pid slot more
  pub ends : new.ends ≡ old.ends ++ more
  pub entries : new.entries ≡ old.entries
  pub births : new.births ≡ old.births
  pub entry_room : new.entry_room ≡ old.entry_room

-- the journal has the end of the process with this engine more
pub record AddsEndOf {E P : Type 0} (engines : Meaning E P) (pid : ℕ) (engine : E) (old new : Book) : Type 0 where
  pub memory : EndMemory
  pub last : IsLastOf engines pid engine memory
  pub ends : new.ends ≡ old.ends ++ memory ∷ []
  pub entries : new.entries ≡ old.entries
  pub births : new.births ≡ old.births
  pub entry_room : new.entry_room ≡ old.entry_room

-- the journal stays, but for its ends
pub record StaysButEnds (old new : Book) : Type 0 where
  pub entries : new.entries ≡ old.entries
  pub births : new.births ≡ old.births
  pub entry_room : new.entry_room ≡ old.entry_room

-- each process that hasn't ended has room for its end
abbrev pub HasEndRoom : {E O P S L : Type 0} → Store E O P S L → Book → Type 0
HasEndRoom store book = length book.ends + store.unended ≤ length book.births
