use Rattle.std.specs.Prelude.{◌≡◌, ℕ, ◌+◌, ◌<◌, ◌≤◌, ◌&&◌, List, [], ◌++◌, length, All, filter, sum_by, slice_get, vec_capacity, nat_eq, Option, Some, None, Bool, true, false}
use Rattle.std.specs.Option.{option_map_or, option_to_list}
use Rattle.std.specs.FinMap.{get, keys}
use Rattle.tagged_mailbox.specs.Mail.{Mail, reserved}
use Rattle.link_signals.specs.Links.{Net, ends}
use Rattle.link_signals.specs.declared.signal.Signal.{Signal}
use Rattle.world_rules.specs.Part.{is_among}
use Rattle.world_rules.specs.Sound.{times}
use Rattle.node_mirror.specs.Slots.{Slot, Nobody, Home, Asleep, Giving, Away, Fated, Gone, is_live_slot}
use Rattle.process_store.specs.declared.place.Place.{Place}
use Rattle.process_store.specs.declared.place.Place.TheVariants as PlaceIs
use Rattle.process_store.specs.declared.store.Store.{Store}
use Rattle.process_store.specs.Letters.{ItemShown}
use Rattle.process_store.specs.Holds.{place_at, hands_at, streams_of}

-- What a store keeps, whatever world it stands for.

-- the shed of the process at a place, which is empty
abbrev pub HasShedAll : {E O P S L : Type 0} → Place E O P S L → Type 0
HasShedAll PlaceIs.Nobody = Unit {0}
HasShedAll (PlaceIs.Home proc) = proc.shed ≡ []
HasShedAll (PlaceIs.Asleep proc ask) = proc.shed ≡ []
HasShedAll (PlaceIs.Giving proc ask) = proc.shed ≡ []
HasShedAll (PlaceIs.Away worker) = Unit {0}
HasShedAll (PlaceIs.Fated worker end) = Unit {0}
HasShedAll PlaceIs.Gone = Unit {0}

-- no process is at the place
abbrev pub IsVacant : {E O P S L : Type 0} → Place E O P S L → Type 0
IsVacant PlaceIs.Nobody = Unit {0}
IsVacant (PlaceIs.Home proc) = ⊥
IsVacant (PlaceIs.Asleep proc ask) = ⊥
IsVacant (PlaceIs.Giving proc ask) = ⊥
IsVacant (PlaceIs.Away worker) = Unit {0}
IsVacant (PlaceIs.Fated worker end) = Unit {0}
IsVacant PlaceIs.Gone = Unit {0}

-- a process that hasn't ended; one that a worker has; and one that isn't in the queue but may come to be: it waits, or a
-- worker has it
abbrev pub is_present : {E O P S L : Type 0} → Place E O P S L → ℕ
is_present PlaceIs.Nobody = 0
is_present (PlaceIs.Home proc) = 1
is_present (PlaceIs.Asleep proc ask) = 1
is_present (PlaceIs.Giving proc ask) = 1
is_present (PlaceIs.Away worker) = 1
is_present (PlaceIs.Fated worker end) = 1
is_present PlaceIs.Gone = 0

abbrev pub is_out : {E O P S L : Type 0} → Place E O P S L → ℕ
is_out PlaceIs.Nobody = 0
is_out (PlaceIs.Home proc) = 0
is_out (PlaceIs.Asleep proc ask) = 0
is_out (PlaceIs.Giving proc ask) = 0
is_out (PlaceIs.Away worker) = 1
is_out (PlaceIs.Fated worker end) = 1
is_out PlaceIs.Gone = 0

abbrev pub is_absent : {E O P S L : Type 0} → Place E O P S L → ℕ
is_absent PlaceIs.Nobody = 0
is_absent (PlaceIs.Home proc) = 0
is_absent (PlaceIs.Asleep proc ask) = 1
is_absent (PlaceIs.Giving proc ask) = 0
is_absent (PlaceIs.Away worker) = 1
is_absent (PlaceIs.Fated worker end) = 1
is_absent PlaceIs.Gone = 0

-- who is in the queue, or is put there at the end of the entry: those that came home in it, and the one that came back
-- from its worker
abbrev pub listed_of : {E O P S L : Type 0} → Store E O P S L → List ℕ
listed_of store = (store.queue.ready ++ store.came.items) ++ option_to_list store.giver

-- such a process is at home, its Give is being performed, or it has ended meanwhile
abbrev pub IsListed : {E : Type 0} → Slot E → Type 0
IsListed Nobody = ⊥
IsListed (Home seat) = Unit {0}
IsListed (Asleep seat ask) = ⊥
IsListed (Giving seat ask) = Unit {0}
IsListed (Away worker) = ⊥
IsListed (Fated worker end) = ⊥
IsListed Gone = Unit {0}

-- a process that is at home, or whose Give is being performed
abbrev pub is_here : {E : Type 0} → Slot E → Bool
is_here Nobody = false
is_here (Home seat) = true
is_here (Asleep seat ask) = false
is_here (Giving seat ask) = true
is_here (Away worker) = false
is_here (Fated worker end) = false
is_here Gone = false

-- a process that waits
abbrev pub IsWaiting : {E : Type 0} → Slot E → Type 0
IsWaiting Nobody = ⊥
IsWaiting (Home seat) = ⊥
IsWaiting (Asleep seat ask) = Unit {0}
IsWaiting (Giving seat ask) = ⊥
IsWaiting (Away worker) = ⊥
IsWaiting (Fated worker end) = ⊥
IsWaiting Gone = ⊥

-- how many links of this tag a process has, and how many signals of this tag are still to come to it
abbrev pub link_count : Net → (pid tag : ℕ) → ℕ
link_count net pid tag =
    length (filter (λ other. option_map_or (nat_eq tag) (get net.tags (ends pid other)) false) (keys net.processes))

abbrev pub signal_count : Net → (pid tag : ℕ) → ℕ
signal_count net pid tag = length (filter (λ signal. nat_eq signal.to pid && nat_eq signal.tag tag) net.signals)

-- how many places of the mailbox at a number are reserved for this tag
abbrev pub reserved_in : {S : Type 0} → Option (Mail (ItemShown S)) → ℕ → ℕ
reserved_in None tag = 0
reserved_in (Some mail) tag = reserved mail.places tag

-- how many streams the store has: closed ones, those in hand, and those of mailboxes
abbrev pub stream_count : {E O P S L : Type 0} → Store E O P S L → ℕ
stream_count store =
    length store.closed.items + sum_by (λ place. length (hands_at place)) store.places.items
    + sum_by (λ mail. length (streams_of mail)) store.mail.items

-- KEEPS. Each number has a place and a mailbox; sheds are empty; who is counted is there. Of those in the queue, or on
-- their way into it, each is there once and is at home, or has ended; who is at home is among them; and there is room
-- for each that may come to be. Only those that wait have deadlines, and there is room for one of each number. There
-- are no more streams than were drawn, and there is room for all of them among the closed, and for one more for each
-- process that workers have. Of each live process's mailbox places are reserved for the signals of its links, and for
-- those that are still to come; and links are between numbers that were drawn.
pub record StoreKeeps {E O P S L : Type 0} (store : Store E O P S L) : Type 0 where
  pub some : 1 ≤ length store.places.items
  pub mail : length store.mail.items ≡ length store.places.items
  pub shed : store.shed ≡ []
  pub sheds : All HasShedAll store.places.items
  pub unended : sum_by is_present store.places.items ≡ store.unended
  pub out : sum_by is_out store.places.items ≡ store.out
  pub listed : (pid : ℕ) → is_among (listed_of store) pid ≡ true → IsListed (place_at store pid)
  pub once : (pid : ℕ) → times pid (listed_of store) ≤ 1
  pub all : (pid : ℕ) → is_here (place_at store pid) ≡ true → is_among (listed_of store) pid ≡ true
  pub room : length (listed_of store) + sum_by is_absent store.places.items ≤ store.queue.room
  pub came_room : length (listed_of store) + sum_by is_absent store.places.items ≤ vec_capacity store.came
  pub dated : (pid deadline : ℕ) → get store.queue.deadlines pid ≡ Some deadline → IsWaiting (place_at store pid)
  pub numbered : length store.places.items ≤ store.queue.room
  pub few : stream_count store ≤ store.streams
  pub closed_room : store.streams + store.out ≤ vec_capacity store.closed
  pub links_room : (pid tag : ℕ) → is_live_slot (place_at store pid) ≡ true →
      link_count store.links pid tag + signal_count store.links pid tag ≤ reserved_in (slice_get store.mail.items pid) tag
  pub links_of : (a b tag : ℕ) → get store.links.tags (a, b) ≡ Some tag →
      (a < length store.places.items) × (b < length store.places.items)
