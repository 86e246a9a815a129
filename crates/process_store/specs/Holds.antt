use Rattle.std.specs.Prelude.{◌≡◌, ℕ, ◌-◌, List, [], ◌∷◌, ◌++◌, length, map, flat_map, filter, slice_get, Option, Some, None, Bool, true, false}
use Rattle.std.specs.FinMap.{get}
use Rattle.tagged_mailbox.specs.Mail.{Mail}
use Rattle.message_scratch.specs.Messages.{handles_in}
use Rattle.resource_table.specs.Handles.{Handle, numbers_of}
use Rattle.world_rules.specs.Mail.{MailItem}
use Rattle.world_rules.specs.Mail as MailIs
use Rattle.node_state.specs.Streaming.{Kept}
use Rattle.host_calls.specs.Shown.{seat_of, hands_of, shown_message}
use Rattle.node_mirror.specs.Slots.{Slot, Nobody, Home, Asleep, Giving, Away, Fated, Gone, is_home}
use Rattle.node_mirror.specs.Held.{Held}
use Rattle.process_store.specs.Letters.{ItemShown}
use Rattle.process_store.specs.declared.item.Letter.{Letter}
use Rattle.process_store.specs.declared.place.Place.{Place}
use Rattle.process_store.specs.declared.place.Place.TheVariants as PlaceIs
use Rattle.process_store.specs.declared.store.Store.{Store}

-- What a store of processes holds of a node.

-- a place as a node has it
abbrev pub slot_of : {E O P S L : Type 0} → Place E O P S L → Slot E
slot_of PlaceIs.Nobody = Nobody
slot_of (PlaceIs.Home proc) = Home (seat_of proc)
slot_of (PlaceIs.Asleep proc ask) = Asleep (seat_of proc) ask
slot_of (PlaceIs.Giving proc ask) = Giving (seat_of proc) ask
slot_of (PlaceIs.Away worker) = Away worker
slot_of (PlaceIs.Fated worker end) = Fated worker end
slot_of PlaceIs.Gone = Gone

-- what stands at a number
abbrev pub slot_in : {E O P S L : Type 0} → Option (Place E O P S L) → Slot E
slot_in None = Nobody
slot_in (Some place) = slot_of place

-- an item of a mailbox as the world has it
abbrev pub item_by : {S : Type 0} → Option (Letter S) → (tag : ℕ) → MailItem
item_by None tag = MailIs.Signal tag
item_by (Some letter) tag = MailIs.Letter letter.number (shown_message letter.message)

abbrev pub item_of : {S : Type 0} → ItemShown S → MailItem
item_of item = item_by item.letter item.tag

-- the items of the mailbox at a number
abbrev pub items_in : {S : Type 0} → Option (Mail (ItemShown S)) → List MailItem
items_in None = []
items_in (Some mail) = map item_of mail.items

-- the very streams in hand of the process at a place, those of an item, and those of a mailbox, the oldest item first
abbrev pub hands_at : {E O P S L : Type 0} → Place E O P S L → List (Handle S)
hands_at PlaceIs.Nobody = []
hands_at (PlaceIs.Home proc) = hands_of proc
hands_at (PlaceIs.Asleep proc ask) = hands_of proc
hands_at (PlaceIs.Giving proc ask) = hands_of proc
hands_at (PlaceIs.Away worker) = []
hands_at (PlaceIs.Fated worker end) = []
hands_at PlaceIs.Gone = []

abbrev pub hands_in : {E O P S L : Type 0} → Option (Place E O P S L) → List (Handle S)
hands_in None = []
hands_in (Some place) = hands_at place

abbrev pub streams_by : {S : Type 0} → Option (Letter S) → List (Handle S)
streams_by None = []
streams_by (Some letter) = handles_in letter.message.slots

abbrev pub item_streams : {S : Type 0} → ItemShown S → List (Handle S)
item_streams item = streams_by item.letter

abbrev pub streams_of : {S : Type 0} → Mail (ItemShown S) → List (Handle S)
streams_of mail = flat_map item_streams mail.items

abbrev pub streams_in : {S : Type 0} → Option (Mail (ItemShown S)) → List (Handle S)
streams_in None = []
streams_in (Some mail) = streams_of mail

-- the place of a number
abbrev pub place_at : {E O P S L : Type 0} → Store E O P S L → ℕ → Slot E
place_at store pid = slot_in (slice_get store.places.items pid)

-- the ready list: of those in the queue, who is at home
abbrev pub ready_of : {E O P S L : Type 0} → Store E O P S L → List ℕ
ready_of store = filter (λ pid. is_home (place_at store pid)) store.queue.ready

-- HELD. What a node with this store holds.
abbrev pub held_of : {E O P S L : Type 0} → Store E O P S L → Held E
held_of store = record {
  slots = place_at store;
  mail = λ pid. items_in (slice_get store.mail.items pid);
  deadlines = λ pid. get store.queue.deadlines pid;
  names = λ name. get store.names name;
  ready = ready_of store;
  numbers = length store.places.items - 1;
  births = store.births;
  unended = store.unended;
  out = store.out;
  sends = store.sends;
  time = store.time;
  row = store.row;
  over = store.over;
  streams = store.streams;
  closed = numbers_of store.closed.items;
}

-- BECOMES. What the store holds is this now, but for the ready list, which is settled at the end of an entry.
abbrev pub Becomes : {E O P S L : Type 0} → Store E O P S L → Held E → Type 0
Becomes store held = held_of store ≡ record held { ready = ready_of store }

-- KEPT. The very streams of the store.
abbrev pub kept_of : {E O P S L : Type 0} → Store E O P S L → Kept S
kept_of store = record {
  hands = λ pid. hands_in (slice_get store.places.items pid);
  mail = λ pid. streams_in (slice_get store.mail.items pid);
  closed = store.closed.items;
}
