use Rattle.std.specs.Prelude.{◌≡◌, ◌⊎◌, ℕ, List, [], ◌∷◌, IfSome, None, Bool, true, false}
use Rattle.host_port.specs.declared.ask.Ask.{Ask}
use Rattle.host_port.specs.Areas.{request_of}
use Rattle.host_port.specs.Standing.{Owing}
use Rattle.world_rules.specs.declared.halt.End.{End}
use Rattle.world_rules.specs.declared.life.Ended.{Ended as EndMemory}
use Rattle.world_rules.specs.Part.{no_part}
use Rattle.world_rules.specs.World.{Process, Ready, Out, Waiting, Doomed, is_ended}
use Rattle.world_rules.specs.Touches.{nobody}
use Rattle.node_state.specs.Seats.{Meaning, Seat, IsSeatOf, IsFitting, IsOwed, phase_by}
use Rattle.node_state.specs.Fits.{IsLastOf}

-- What a node has at the place of each process number.

-- Nobody: no process has the number. Home: the process is at home, and may be taken. Asleep: it is at home, and waits
-- for the answer to this ask. Giving: it is back from its worker, and its Give is being performed; the answer to this
-- ask is to come. Away: a worker has it. Fated: a worker has it, and it has this end when it is given back. Gone: it
-- has ended.
pub data Slot (E : Type 0) : Type 0 where
  Nobody : Slot E
  Home : (seat : Seat E) → Slot E
  Asleep : (seat : Seat E) (ask : Ask) → Slot E
  Giving : (seat : Seat E) (ask : Ask) → Slot E
  Away : (worker : ℕ) → Slot E
  Fated : (worker : ℕ) (end : End) → Slot E
  Gone : Slot E

-- the process is ready; its next turn is one of its own, or tries the request again that is owed
pub record IsHome {E P : Type 0} (engines : Meaning E P) (programs : List P) (p : Process) (seat : Seat E)
    : Type 0 where
  pub stage : p.stage ≡ Ready
  pub seated : IsSeatOf engines programs p (phase_by seat.owed) seat
  pub tries : IfSome seat.owed (IsOwed (engines.memory seat.engine) seat.part)

-- the process waits in a receive or in a sleep, the request being that of the ask at its engine's memory
pub record IsAsleep {E P : Type 0} (engines : Meaning E P) (programs : List P) (p : Process) (seat : Seat E) (ask : Ask)
    : Type 0 where
  pub stage : p.stage ≡ Waiting (request_of (engines.memory seat.engine) ask)
  pub owed : p.owed ≡ None
  pub seated : IsSeatOf engines programs p (Owing ask) seat
  pub fitting : IsFitting (engines.memory seat.engine) (request_of (engines.memory seat.engine) ask)
  pub call : ∥ (ask.call ≡ 9) ⊎ (ask.call ≡ 17) ∥₁

-- the process has come home with a request to the world, that of the ask at its engine's memory
pub record IsGiving {E P : Type 0} (engines : Meaning E P) (programs : List P) (p : Process) (seat : Seat E) (ask : Ask)
    : Type 0 where
  pub stage : p.stage ≡ Ready
  pub owed : p.owed ≡ None
  pub seated : IsSeatOf engines programs p (Owing ask) seat
  pub fitting : IsFitting (engines.memory seat.engine) (request_of (engines.memory seat.engine) ask)

-- the process has ended, and has nothing left
pub record IsGone (p : Process) : Type 0 where
  pub ended : is_ended p.stage ≡ true
  pub left : p.part ≡ no_part

-- FITS. The slot has what the world says of the process.
abbrev pub SlotFits : {E P : Type 0} → Meaning E P → List P → Process → Slot E → Type 0
SlotFits engines programs p Nobody = p ≡ nobody
SlotFits engines programs p (Home seat) = IsHome engines programs p seat
SlotFits engines programs p (Asleep seat ask) = IsAsleep engines programs p seat ask
SlotFits engines programs p (Giving seat ask) = IsGiving engines programs p seat ask
SlotFits engines programs p (Away worker) = p.stage ≡ Out worker
SlotFits engines programs p (Fated worker end) = p.stage ≡ Doomed worker end
SlotFits engines programs p Gone = IsGone p

-- the process may be taken
abbrev pub is_home : {E : Type 0} → Slot E → Bool
is_home Nobody = false
is_home (Home seat) = true
is_home (Asleep seat ask) = false
is_home (Giving seat ask) = false
is_home (Away worker) = false
is_home (Fated worker end) = false
is_home Gone = false

-- the process is live: an end may come to it
abbrev pub is_live_slot : {E : Type 0} → Slot E → Bool
is_live_slot Nobody = false
is_live_slot (Home seat) = true
is_live_slot (Asleep seat ask) = true
is_live_slot (Giving seat ask) = true
is_live_slot (Away worker) = true
is_live_slot (Fated worker end) = false
is_live_slot Gone = false

-- the process waits
abbrev pub is_asleep : {E : Type 0} → Slot E → Bool
is_asleep Nobody = false
is_asleep (Home seat) = false
is_asleep (Asleep seat ask) = true
is_asleep (Giving seat ask) = false
is_asleep (Away worker) = false
is_asleep (Fated worker end) = false
is_asleep Gone = false

-- a Give is being performed
abbrev pub is_giving : {E : Type 0} → Slot E → Bool
is_giving Nobody = false
is_giving (Home seat) = false
is_giving (Asleep seat ask) = false
is_giving (Giving seat ask) = true
is_giving (Away worker) = false
is_giving (Fated worker end) = false
is_giving Gone = false

-- what is kept of the memory of the process at a slot where an end comes to it: one item where it is at home, and none
-- where it isn't
abbrev pub IsLastAlone : {E P : Type 0} → Meaning E P → ℕ → E → List EndMemory → Type 0
IsLastAlone engines pid engine [] = ⊥
IsLastAlone engines pid engine (memory ∷ []) = IsLastOf engines pid engine memory
IsLastAlone engines pid engine (memory ∷ other ∷ memories) = ⊥

abbrev pub IsLastAt : {E P : Type 0} → Meaning E P → ℕ → Slot E → List EndMemory → Type 0
IsLastAt engines pid Nobody memories = memories ≡ []
IsLastAt engines pid (Home seat) memories = IsLastAlone engines pid seat.engine memories
IsLastAt engines pid (Asleep seat ask) memories = IsLastAlone engines pid seat.engine memories
IsLastAt engines pid (Giving seat ask) memories = IsLastAlone engines pid seat.engine memories
IsLastAt engines pid (Away worker) memories = memories ≡ []
IsLastAt engines pid (Fated worker end) memories = memories ≡ []
IsLastAt engines pid Gone memories = memories ≡ []
