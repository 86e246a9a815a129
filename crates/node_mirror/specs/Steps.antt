use Rattle.std.specs.Prelude.{◌≡◌, ℕ, ◌+◌, ◌-◌, List, [], ◌∷◌, ◌++◌, Option, None, true, false, nat_eq, filter, if◌then◌else◌}
use Rattle.host_port.specs.declared.ask.Ask.{Ask}
use Rattle.world_rules.specs.declared.halt.End.{End}
use Rattle.world_rules.specs.Ends.{unless_process}
use Rattle.world_rules.specs.Mail.{MailItem, mail_handles}
use Rattle.world_rules.specs.Part.{Part, is_among, scratch_handles}
use Rattle.world_rules.specs.Sound.{Rise}
use Rattle.node_state.specs.Seats.{Seat, part_handles}
use Rattle.node_mirror.specs.Slots.{Slot, Nobody, Home, Asleep, Giving, Away, Fated, Gone, is_home}
use Rattle.node_mirror.specs.Held.{Held}

-- The steps of a node: what each change of which the rules are made does to what it holds.

-- the one of this number replaced
abbrev pub replaced : {X : Type 0} → (ℕ → X) → ℕ → X → ℕ → X
replaced f pid x other = if nat_eq other pid then x else f other

-- the slot, the mailbox and the deadline of one number are these; those of all others stay
abbrev pub with_one : {E : Type 0} → Held E → ℕ → Slot E → List MailItem → Option ℕ → Held E
with_one held pid slot mail deadline = record held {
  slots = replaced held.slots pid slot;
  mail = replaced held.mail pid mail;
  deadlines = replaced held.deadlines pid deadline;
}

-- another slot alone
abbrev pub with_slot : {E : Type 0} → Held E → ℕ → Slot E → Held E
with_slot held pid slot = record held { slots = replaced held.slots pid slot }

-- these streams are closed besides
abbrev pub closing : {E : Type 0} → Held E → List ℕ → Held E
closing held handles = record held { closed = held.closed ++ handles }

-- no name names this process
abbrev pub nameless : {E : Type 0} → Held E → ℕ → Held E
nameless held pid = record held { names = λ name. unless_process pid (held.names name) }

-- TAKEN. The process leaves its home for this worker.
abbrev pub taken : {E : Type 0} → Held E → ℕ → ℕ → Held E
taken held pid worker = record (with_slot held pid (Away worker)) { out = held.out + 1 }

-- BACK. The process is back from its worker, in this slot; the time is this, and its turn's calls have closed these
-- streams.
abbrev pub back : {E : Type 0} → Held E → ℕ → Slot E → (time : ℕ) → List ℕ → Held E
back held pid slot time shed =
    closing (record (with_slot held pid slot) { out = held.out - 1; time = time }) shed

-- GONE. The process has ended, with these streams in hand: they are closed, and then those of its mailbox; no name
-- names it.
abbrev pub gone : {E : Type 0} → Held E → ℕ → List ℕ → Held E
gone held pid handles =
    closing (record (nameless (with_one held pid Gone [] None) pid) { unended = held.unended - 1 })
    (handles ++ mail_handles (held.mail pid))

-- FATED. The process is doomed under its worker: the streams of its mailbox are closed, and no name names it.
abbrev pub fated : {E : Type 0} → Held E → ℕ → ℕ → End → Held E
fated held pid worker end =
    closing (nameless (with_one held pid (Fated worker end) [] (held.deadlines pid)) pid) (mail_handles (held.mail pid))

-- STRUCK. An end comes to the process at this slot from outside its turn.
abbrev pub struck_at : {E : Type 0} → Slot E → Held E → ℕ → End → Held E
struck_at Nobody held pid end = held
struck_at (Home seat) held pid end = gone held pid (part_handles seat.part)
struck_at (Asleep seat ask) held pid end = gone held pid (part_handles seat.part)
struck_at (Giving seat ask) held pid end = gone held pid (part_handles seat.part)
struck_at (Away worker) held pid end = fated held pid worker end
struck_at (Fated worker earlier) held pid end = held
struck_at Gone held pid end = held

abbrev pub struck : {E : Type 0} → Held E → ℕ → End → Held E
struck held pid end = struck_at (held.slots pid) held pid end

-- HOME. The process is at home with this seat, and waits for nothing.
abbrev pub home : {E : Type 0} → Held E → ℕ → Seat E → Held E
home held pid seat = with_one held pid (Home seat) (held.mail pid) None

-- ASLEEP. The process waits for the answer to this ask, up to this deadline or without end.
abbrev pub asleep : {E : Type 0} → Held E → ℕ → Seat E → Ask → Option ℕ → Held E
asleep held pid seat ask deadline = with_one held pid (Asleep seat ask) (held.mail pid) deadline

-- POSTED. An item goes behind the others of a mailbox.
abbrev pub posted : {E : Type 0} → Held E → ℕ → MailItem → Held E
posted held to item = with_one held to (held.slots to) (held.mail to ++ item ∷ []) (held.deadlines to)

-- WOKEN. A process that waited has got an item: it is at home with this seat, and the streams of its old scratch
-- message, of this part, are closed.
abbrev pub woken : {E : Type 0} → Held E → ℕ → Seat E → Part → Held E
woken held to seat old = closing (home held to seat) (scratch_handles old)

-- BORN. A child of this number is at home.
abbrev pub born : {E : Type 0} → Held E → ℕ → Seat E → Held E
born held child seat =
    record (with_one held child (Home seat) [] None) { numbers = child; unended = held.unended + 1 }

-- one birth more is told
abbrev pub one_birth_more : {E : Type 0} → Held E → Held E
one_birth_more held = record held { births = held.births + 1 }

-- the run is over
abbrev pub over : {E : Type 0} → Held E → Held E
over held = record held { over = true }

-- THE READY LIST

-- those of these processes that are at home
abbrev pub homes_among : {E : Type 0} → Held E → List ℕ → List ℕ
homes_among held pids = filter (λ pid. is_home (held.slots pid)) pids

-- REQUEUED. Those of the earlier ready list that are still at home keep their order; behind them come those that came
-- home in this entry, by rising number; the giver comes last.
pub record Requeued {E : Type 0} (earlier giver : List ℕ) (held : Held E) : Type 0 where
  pub came : List ℕ
  pub rising : Rise came
  pub ready : held.ready ≡ homes_among held earlier ++ came ++ homes_among held giver
  pub fresh : (pid : ℕ) → is_among came pid ≡ true →
      (is_home (held.slots pid) ≡ true) × (is_among (earlier ++ giver) pid ≡ false)
  pub all : (pid : ℕ) → is_home (held.slots pid) ≡ true → is_among ((earlier ++ giver) ++ came) pid ≡ true
