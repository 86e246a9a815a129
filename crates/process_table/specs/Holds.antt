use Rattle.std.specs.Prelude.{◌≡◌, ℕ, ◌+◌, ◌≤◌, List, [], ◌++◌, length, map, flat_map, All, slice_get}
use Rattle.std.specs.Prelude.{Option, Some, None, Bool}
use Rattle.std.specs.Ordering.{nat_cmp}
use Rattle.std.specs.FinMap.{FinMap, get, insert}
use Rattle.run_queue.specs.Schedule.{Schedule}
use Rattle.tagged_mailbox.specs.Mail.{Mail}
use Rattle.world_rules.specs.declared.life.Ended.{Ended as EndMemory}
use Rattle.world_rules.specs.Book.{Book}
use Rattle.world_rules.specs.Mail.{MailItem}
use Rattle.world_rules.specs.Mail as MailIs
use Rattle.world_rules.specs.Told.{told}
use Rattle.world_rules.specs.Lives.{Setting}
use Rattle.node_state.specs.Seats.{Meaning}
use Rattle.node_state.specs.Slots.{Slot, Nobody, Home, Asleep, Away, Fated, Gone}
use Rattle.node_state.specs.Held.{Held, StandsFor, kept_places}
use Rattle.node_state.specs.Fits.{IsLastAt}
use Rattle.node_state.specs.Streaming.{Kept, StreamsStand}
use Rattle.node_state.specs.Rows.{AllHaveRows}
use Rattle.message_scratch.specs.Messages.{handles_in}
use Rattle.resource_table.specs.Handles.{Handle, numbers_of}
use Rattle.resource_table.specs.Steps.{Told}
use Rattle.host_calls.specs.Shown.{seat_of, hands_of, shown_message}
use Rattle.process_table.specs.Letters.{Letter}
use Rattle.process_table.specs.declared.place.Place.{Place}
use Rattle.process_table.specs.declared.place.Place.TheVariants as PlaceIs

-- What a node holds.

-- a place as the world has it
abbrev pub slot_of : {E O P S L : Type 0} → Place E O P S L → Slot E
slot_of PlaceIs.Nobody = Nobody
slot_of (PlaceIs.Home proc) = Home (seat_of proc)
slot_of (PlaceIs.Asleep proc ask) = Asleep (seat_of proc) ask
slot_of (PlaceIs.Away worker) = Away worker
slot_of (PlaceIs.Fated worker end) = Fated worker end
slot_of PlaceIs.Gone = Gone

-- what stands at a number
abbrev pub slot_in : {E O P S L : Type 0} → Option (Place E O P S L) → Slot E
slot_in None = Nobody
slot_in (Some place) = slot_of place

-- a letter as the world has it
abbrev pub letter_of : {S : Type 0} → Letter S → MailItem
letter_of letter = MailIs.Letter letter.number (shown_message letter.message)

-- the items of a mailbox
abbrev pub letters_in : {S : Type 0} → Mail (Letter S) → List MailItem
letters_in mail = map letter_of mail.items

-- the mailbox at a number
abbrev pub mail_in : {S : Type 0} → Option (Mail (Letter S)) → List MailItem
mail_in None = []
mail_in (Some mail) = letters_in mail

-- the very streams in hand of the process at a place, and in a mailbox, the oldest message first
abbrev pub hands_at : {E O P S L : Type 0} → Place E O P S L → List (Handle S)
hands_at PlaceIs.Nobody = []
hands_at (PlaceIs.Home proc) = hands_of proc
hands_at (PlaceIs.Asleep proc ask) = hands_of proc
hands_at (PlaceIs.Away worker) = []
hands_at (PlaceIs.Fated worker end) = []
hands_at PlaceIs.Gone = []

abbrev pub hands_in : {E O P S L : Type 0} → Option (Place E O P S L) → List (Handle S)
hands_in None = []
hands_in (Some place) = hands_at place

abbrev pub streams_of : {S : Type 0} → Mail (Letter S) → List (Handle S)
streams_of mail = flat_map (λ letter. handles_in letter.message.slots) mail.items

abbrev pub streams_at : {S : Type 0} → Option (Mail (Letter S)) → List (Handle S)
streams_at None = []
streams_at (Some mail) = streams_of mail

-- the shed of the process at a place, which is empty
abbrev pub HasShedAll : {E O P S L : Type 0} → Place E O P S L → Type 0
HasShedAll PlaceIs.Nobody = Unit {0}
HasShedAll (PlaceIs.Home proc) = proc.shed ≡ []
HasShedAll (PlaceIs.Asleep proc ask) = proc.shed ≡ []
HasShedAll (PlaceIs.Away worker) = Unit {0}
HasShedAll (PlaceIs.Fated worker end) = Unit {0}
HasShedAll PlaceIs.Gone = Unit {0}

-- no process is at the place
abbrev pub IsVacant : {E O P S L : Type 0} → Place E O P S L → Type 0
IsVacant PlaceIs.Nobody = Unit {0}
IsVacant (PlaceIs.Home proc) = ⊥
IsVacant (PlaceIs.Asleep proc ask) = ⊥
IsVacant (PlaceIs.Away worker) = Unit {0}
IsVacant (PlaceIs.Fated worker end) = Unit {0}
IsVacant PlaceIs.Gone = Unit {0}

-- what the fields of a node hold: places and mailboxes by number; the ready list and the deadlines; how many sends
-- were answered 0; the time; the Pending gives and early Ticks in a row; how many processes workers have; whether the
-- run is over; how many stream numbers were drawn; the closed streams, and for how many there is room; the shed
-- through which the streams of mailboxes are closed; and how many entries may be recorded beside those that are to
-- come
pub record Fields (E O P S L : Type 0) : Type 0 where
  pub places : List (Place E O P S L)
  pub mail : List (Mail (Letter S))
  pub queue : Schedule
  pub sends : ℕ
  pub time : ℕ
  pub row : ℕ
  pub out : ℕ
  pub over : Bool
  pub streams : ℕ
  pub closed : List (Handle S)
  pub closed_room : ℕ
  pub shed : List (Handle S)
  pub spare : ℕ

abbrev pub held_of : {E O P S L : Type 0} → Fields E O P S L → Held E
held_of fields = record {
  slots = λ pid. slot_in (slice_get fields.places pid);
  mail = λ pid. mail_in (slice_get fields.mail pid);
  deadlines = λ pid. get fields.queue.deadlines pid;
  ready = fields.queue.ready;
  sends = fields.sends;
  time = fields.time;
  row = fields.row;
  over = fields.over;
  out = fields.out;
  streams = fields.streams;
  closed = numbers_of fields.closed;
}

abbrev pub kept_of : {E O P S L : Type 0} → List (Place E O P S L) → List (Mail (Letter S)) → List (Handle S) → Kept S
kept_of places mail closed = record {
  hands = λ pid. hands_in (slice_get places pid);
  mail = λ pid. streams_at (slice_get mail pid);
  closed = closed;
}

-- KEEPS. What a node keeps: it stands for its journal, and its streams bear out what was streamed on them; it has a
-- place and a mailbox for the number of each process, room in its queue for each process, also for those that workers
-- have, and room among the closed streams for each that was drawn, and for one more for each process that workers
-- have; its sheds are empty; and its programs ask only calls that have a row. What it may record beside the entries
-- that are to come has a place; and where that is enough for a take, a closed stream more has room.
pub record NodeKeeps {E O P S L : Type 0} (engines : Meaning E P) (may_ask : P → ℕ → Type 0) (tells : Told S)
    (setting : Setting P) (book : Book) (fields : Fields E O P S L) : Type 0 where
  pub stands : StandsFor engines setting book (told book) (held_of fields)
  pub streams : StreamsStand tells (told book) (kept_of fields.places fields.mail fields.closed)
  pub places : length fields.places ≡ 2
  pub mail : length fields.mail ≡ 2
  pub room : 2 ≤ fields.queue.room
  pub ready_room : length fields.queue.ready + fields.out ≤ fields.queue.room
  pub closed_room : fields.streams + fields.out ≤ fields.closed_room
  pub sheds : All HasShedAll fields.places
  pub shed : fields.shed ≡ []
  pub rows : AllHaveRows may_ask setting.programs
  pub spare_room : fields.spare + kept_places fields.out fields.over ≤ book.entry_room
  pub spare_bound : fields.spare ≤ 3
  pub turn_room : 2 ≤ fields.spare → fields.streams + fields.out + 1 ≤ fields.closed_room

-- the journal has the ends more that come where an end comes to the process of a slot
pub record AddsLast {E P : Type 0} (engines : Meaning E P) (pid : ℕ) (slot : Slot E) (old new : Book) : Type 0 where
  pub more : List EndMemory
  pub last : IsLastAt engines pid slot more
  pub ends : new.ends ≡ old.ends ++ more
  pub entries : new.entries ≡ old.entries
  pub births : new.births ≡ old.births
  pub entry_room : new.entry_room ≡ old.entry_room

-- the deadline of a process that waits is set; a wait without end has none
abbrev pub SetsDeadline : (old new : FinMap nat_cmp ℕ) (pid : ℕ) → Option ℕ → Type 0
SetsDeadline old new pid None = new ≡ old
SetsDeadline old new pid (Some at) = new ≡ insert old pid at
