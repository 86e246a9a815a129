use Rattle.std.specs.Prelude.{◌≡◌, ◌⊎◌, ◌<◌, ℕ, List, length, Contains, Option, Some, None, Bool, true, false, vec_capacity}
use Rattle.host_port.specs.declared.ask.Ask.{Ask}
use Rattle.host_port.specs.declared.request.Request.{Request}
use Rattle.host_port.specs.Areas.{request_of}
use Rattle.host_port.specs.Standing.{Phase}
use Rattle.host_port.specs.Steps.{IsAnswerable}
use Rattle.world_rules.specs.declared.entry.Side.{Side}
use Rattle.world_rules.specs.declared.life.Birth.{Birth}
use Rattle.world_rules.specs.declared.life.Ended.{Ended as EndMemory}
use Rattle.world_rules.specs.Answers.{empty_reply, number_reply}
use Rattle.world_rules.specs.Calls.{HostCall, arg, call_of}
use Rattle.world_rules.specs.Calls as CallIs
use Rattle.world_rules.specs.Lives.{Setting}
use Rattle.world_rules.specs.Judge.{fault_of}
use Rattle.world_rules.specs.Mail.{MailItem, message_count, most_messages, unpicked}
use Rattle.world_rules.specs.Part.{scratch_handles}
use Rattle.world_rules.specs.Receive.{delivery_reply}
use Rattle.world_rules.specs.Rules.{performed}
use Rattle.world_rules.specs.Settled.{settled, Delivered}
use Rattle.world_rules.specs.Time.{late_reply}
use Rattle.world_rules.specs.Views.{is_refused}
use Rattle.world_rules.specs.World.{World}
use Rattle.node_state.specs.Seats.{Meaning, Seat, IsFitting}
use Rattle.node_mirror.specs.Slots.{Slot, Nobody, Home, Asleep, Giving, Away, Fated, Gone, is_giving, is_home, is_live_slot}
use Rattle.node_mirror.specs.Held.{Mirrors}
use Rattle.node_mirror.specs.Steps.{closing, with_one}
use Rattle.node_mirror.specs.Replies.{told_numbers, tells_nothing}
use Rattle.process_store.specs.declared.store.Store.{Store}
use Rattle.process_store.specs.Holds.{Becomes, held_of, place_at}
use Rattle.process_store.specs.Telling.{Tells}

-- How a call of the world is performed on a store.

-- the calls that are performed so far
abbrev pub IsPerformed : Option HostCall → Type 0
IsPerformed (Some CallIs.Send) = Unit {0}
IsPerformed (Some CallIs.Receive) = Unit {0}
IsPerformed (Some CallIs.SleepMs) = Unit {0}
IsPerformed _ = ⊥

-- the process of a seat asks for this request, nothing is wrong with it, and its engine may be told each number of its
-- call, and nothing where its call tells nothing
pub record MayPerform {E : Type 0} (phase : E → Phase) (memory : E → List ℕ) (seat : Seat E) (ask : Ask)
    (request : Request) : Type 0 where
  pub asked : request.ask ≡ ask
  pub fitting : IsFitting (memory seat.engine) request
  pub faultless : fault_of (call_of request) seat.part request ≡ None
  pub numbers : (n : ℕ) → Contains (told_numbers (call_of request)) n →
      IsAnswerable (phase seat.engine) (memory seat.engine) (number_reply n)
  pub nothing : tells_nothing (call_of request) ≡ true →
      IsAnswerable (phase seat.engine) (memory seat.engine) empty_reply

-- the Give of the process at a slot is being performed, with this request
abbrev pub PerformsAt : {E : Type 0} → (E → Phase) → (E → List ℕ) → Slot E → Request → Type 0
PerformsAt phase memory Nobody request = ⊥
PerformsAt phase memory (Home seat) request = ⊥
PerformsAt phase memory (Asleep seat ask) request = ⊥
PerformsAt phase memory (Giving seat ask) request = MayPerform phase memory seat ask request
PerformsAt phase memory (Away worker) request = ⊥
PerformsAt phase memory (Fated worker end) request = ⊥
PerformsAt phase memory Gone request = ⊥

-- what a process that waits may be told: that its time is over, and in a receive that an item has come; its request's
-- areas lie in its memory
pub record MayWait {E : Type 0} (phase : E → Phase) (memory : E → List ℕ) (seat : Seat E) (ask : Ask) : Type 0 where
  pub fitting : IsFitting (memory seat.engine) (request_of (memory seat.engine) ask)
  pub late : IsAnswerable (phase seat.engine) (memory seat.engine)
      (late_reply (call_of (request_of (memory seat.engine) ask)))
  pub delivered : (item : MailItem) → ask.call ≡ 9 →
      IsAnswerable (phase seat.engine) (memory seat.engine) (delivery_reply item)
  pub call : ∥ (ask.call ≡ 9) ⊎ (ask.call ≡ 17) ∥₁

abbrev pub MayBeWoken : {E : Type 0} → (E → Phase) → (E → List ℕ) → Slot E → Type 0
MayBeWoken phase memory Nobody = Unit {0}
MayBeWoken phase memory (Home seat) = Unit {0}
MayBeWoken phase memory (Asleep seat ask) = MayWait phase memory seat ask
MayBeWoken phase memory (Giving seat ask) = Unit {0}
MayBeWoken phase memory (Away worker) = Unit {0}
MayBeWoken phase memory (Fated worker end) = Unit {0}
MayBeWoken phase memory Gone = Unit {0}

-- DELIVERS. The first item that is wanted came out of the mailbox of the process whose receive is being performed into
-- its scratch area, the streams of its old scratch message were closed, and it was told 0 for a message, 1 for a signal.
abbrev pub Delivers : {E O P S L : Type 0} → Meaning E P → (old new : Store E O P S L) → (pid : ℕ) → (tags : List ℕ)
    → MailItem → Type 0
Delivers engines old new pid tags item =
    Tells engines (place_at old pid) (delivery_reply item) (λ seat engine.
    Becomes new (closing (with_one (held_of old) pid
    (Home (record seat { engine = engine; part = settled seat.part (Delivered item) }))
    (unpicked tags ((held_of old).mail pid)) None) (scratch_handles seat.part)))

-- who had ended has ended; and a Give that is being performed was being performed
abbrev pub StayGone : {E O P S L : Type 0} → Store E O P S L → Store E O P S L → Type 0
StayGone old new = (pid : ℕ) → place_at old pid ≡ Gone → place_at new pid ≡ Gone

abbrev pub GivesStay : {E O P S L : Type 0} → Store E O P S L → Store E O P S L → Type 0
GivesStay old new = (pid : ℕ) → is_giving (place_at new pid) ≡ true → is_giving (place_at old pid) ≡ true

-- a send to a live process whose mailbox isn't full
pub record IsRefusedSend {E O P S L : Type 0} (store : Store E O P S L) (request : Request) : Type 0 where
  pub call : call_of request ≡ Some CallIs.Send
  pub live : is_live_slot (place_at store (arg request 0)) ≡ true
  pub count : message_count ((held_of store).mail (arg request 0)) < most_messages

-- what a store keeps of itself while a call of the world is performed: all but places, mailboxes, the queue's deadlines,
-- who comes home, how many sends were answered 0, and the closed streams
abbrev pub StaysBeside : {E O P S L : Type 0} → Store E O P S L → Store E O P S L → Type 0
StaysBeside old new =
    (new ≡ record old {
      places = new.places;
      mail = new.mail;
      queue = new.queue;
      came = new.came;
      giver = new.giver;
      sends = new.sends;
      closed = new.closed;
    })
    × (length new.places.items ≡ length old.places.items) × (new.queue.ready ≡ old.queue.ready)
    × (vec_capacity new.closed ≡ vec_capacity old.closed)

-- PERFORMS. A call of the world of the process of this number was performed, refused for want of memory or not: it made
-- of what is held, whichever world that mirrors, what the rules make of the world. The process's Give is performed then,
-- and it is on its way into the queue or waits.
pub record Performs {E O P S L : Type 0} (engines : Meaning E P) (old new : Store E O P S L) (pid : ℕ)
    (request : Request) (refused : Bool) : Type 0 where
  pub mirrors : (setting : Setting P) (w : World) (ends : List EndMemory) (births : List Birth) (side : Side) →
      is_refused side ≡ refused → Mirrors engines setting w (held_of old) ends →
      Mirrors engines setting (performed births (call_of request) w pid request side) (held_of new) ends
  pub refusable : refused ≡ true → IsRefusedSend old request
  pub performed_is : is_giving (place_at new pid) ≡ false
  pub gives_stay : GivesStay old new
  pub stay_gone : StayGone old new
  pub beside : StaysBeside old new
  pub giver : ∥ (new.giver ≡ Some pid) ⊎ ((new.giver ≡ None) × (is_home (place_at new pid) ≡ false)) ∥₁
