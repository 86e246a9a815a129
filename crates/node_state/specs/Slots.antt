use Rattle.std.specs.Prelude.{◌≡◌, ◌⊎◌, ℕ, List, [], ◌++◌, IfSome, None, true}
use Rattle.host_port.specs.declared.ask.Ask.{Ask}
use Rattle.host_port.specs.Areas.{request_of}
use Rattle.host_port.specs.Standing.{Owing}
use Rattle.world_rules.specs.declared.halt.End.{End}
use Rattle.world_rules.specs.Mail.{MailItem, mail_handles}
use Rattle.world_rules.specs.Part.{no_part}
use Rattle.world_rules.specs.World.{Process, Ready, Out, Waiting, Doomed, is_ended}
use Rattle.world_rules.specs.Touches.{nobody}
use Rattle.node_state.specs.Seats.{Meaning, Seat, IsSeatOf, IsFitting, IsOwed, part_handles, phase_by}

-- What a node has at the place of each process number.

-- Nobody: no process has the number. Home: the process is at home, and may be taken. Asleep: it is at home, and waits
-- for the answer to this ask. Away: a worker has it. Fated: a worker has it, and it has this end when it is given back.
-- Gone: it has ended.
pub data Slot (E : Type 0) : Type 0 where
  Nobody : Slot E
  Home : (seat : Seat E) → Slot E
  Asleep : (seat : Seat E) (ask : Ask) → Slot E
  Away : (worker : ℕ) → Slot E
  Fated : (worker : ℕ) (end : End) → Slot E
  Gone : Slot E

-- the process is ready; its next turn is one of its own, or tries the request again that is owed
pub record IsHome {E P : Type 0} (engines : Meaning E P) (programs : List P) (p : Process) (seat : Seat E)
    : Type 0 where
  pub stage : p.stage ≡ Ready
  pub seated : IsSeatOf engines programs p (phase_by seat.owed) seat
  pub tries : IfSome seat.owed (IsOwed (engines.memory seat.engine) seat.part)

-- the process waits in a receive or in a sleep, the request being that of the ask at its engine's memory
pub record IsAsleep {E P : Type 0} (engines : Meaning E P) (programs : List P) (p : Process) (seat : Seat E) (ask : Ask)
    : Type 0 where
  pub stage : p.stage ≡ Waiting (request_of (engines.memory seat.engine) ask)
  pub owed : p.owed ≡ None
  pub seated : IsSeatOf engines programs p (Owing ask) seat
  pub fitting : IsFitting (engines.memory seat.engine) (request_of (engines.memory seat.engine) ask)
  pub call : ∥ (ask.call ≡ 9) ⊎ (ask.call ≡ 17) ∥₁

-- the process has ended, and has nothing left
pub record IsGone (p : Process) : Type 0 where
  pub ended : is_ended p.stage ≡ true
  pub left : p.part ≡ no_part

-- FITS. The slot has what the world says of the process.
abbrev pub SlotFits : {E P : Type 0} → Meaning E P → List P → Process → Slot E → Type 0
SlotFits engines programs p Nobody = p ≡ nobody
SlotFits engines programs p (Home seat) = IsHome engines programs p seat
SlotFits engines programs p (Asleep seat ask) = IsAsleep engines programs p seat ask
SlotFits engines programs p (Away worker) = p.stage ≡ Out worker
SlotFits engines programs p (Fated worker end) = p.stage ≡ Doomed worker end
SlotFits engines programs p Gone = IsGone p

-- the slot after an end has come to its process from outside its turn
abbrev pub struck : {E : Type 0} → End → Slot E → Slot E
struck end Nobody = Nobody
struck end (Home seat) = Gone
struck end (Asleep seat ask) = Gone
struck end (Away worker) = Fated worker end
struck end (Fated worker earlier) = Fated worker earlier
struck end Gone = Gone

-- the streams that are closed where an end comes to the process of a slot from outside its turn, its mailbox being
-- this: at home those in hand and then those of its mailbox; where a worker has it, those of its mailbox alone
abbrev pub closings_at : {E : Type 0} → Slot E → List MailItem → List ℕ
closings_at Nobody mail = []
closings_at (Home seat) mail = part_handles seat.part ++ mail_handles mail
closings_at (Asleep seat ask) mail = part_handles seat.part ++ mail_handles mail
closings_at (Away worker) mail = mail_handles mail
closings_at (Fated worker end) mail = []
closings_at Gone mail = []
