use Rattle.std.specs.Prelude.{◌≡◌, ℕ, ◌≤◌, List, ◌++◌, slice_get, option_map, true, Option, Some, None}
use Rattle.host_port.specs.declared.ask.Ask.{Ask}
use Rattle.host_port.specs.declared.call.Call.{Call}
use Rattle.host_port.specs.declared.request.Request.{Request}
use Rattle.host_port.specs.declared.start.Start.{Start}
use Rattle.host_port.specs.Areas.{request_of}
use Rattle.host_port.specs.Standing.{Phase, Running, Owing}
use Rattle.world_rules.specs.Allowed.{PendingFits}
use Rattle.world_rules.specs.Calls.{call_of}
use Rattle.world_rules.specs.Judge.{fault_of}
use Rattle.world_rules.specs.Part.{Part, scratch_handles}
use Rattle.world_rules.specs.Sound.{times}
use Rattle.world_rules.specs.World.{Process}

-- What is kept of a process with its engine, and how that fits what the world says of the process.

-- what engines mean: the runs that an engine stands for, what it may be told next, and the bytes of its memory
pub record Meaning (E P : Type 0) : Type 1 where
  pub stands : E → P → Start → List Call → ℕ → Type 0
  pub phase : E → Phase
  pub memory : E → List ℕ

abbrev pub meaning : {E P : Type 0} → (E → P → Start → List Call → ℕ → Type 0) → (E → Phase) → (E → List ℕ)
    → Meaning E P
meaning stands phase memory = record { stands = stands; phase = phase; memory = memory }

-- what is kept of a process: its engine, how it was started, its own part, the fuel that it has burnt, and the ask of a
-- call of the outside that isn't answered yet
pub record Seat (E : Type 0) : Type 0 where
  pub engine : E
  pub start : Start
  pub part : Part
  pub fuel : ℕ
  pub owed : Option Ask

-- the streams that a process has in hand: those of its table, by rising number, then those of its scratch message, by
-- rising slot
abbrev pub part_handles : Part → List ℕ
part_handles part = part.handles ++ scratch_handles part

-- no stream is twice in hand
pub record IsOnce (part : Part) : Type 0 where
  pub once : (handle : ℕ) → times handle (part_handles part) ≤ 1

-- what the engine of a process may be told that can go on: to step, or the reply to the ask that is owed
abbrev pub phase_by : Option Ask → Phase
phase_by None = Running
phase_by (Some ask) = Owing ask

-- the request of this ask at this memory: its areas lie in the memory, and nothing is wrong with it
pub record IsAsked (memory : List ℕ) (part : Part) (ask : Ask) : Type 0 where
  pub fits : (request_of memory ask).fits ≡ true
  pub faultless : fault_of (call_of (request_of memory ask)) part (request_of memory ask) ≡ None

-- the outside could not answer it yet: it is one to which there may be no answer yet
pub record IsOwed (memory : List ℕ) (part : Part) (ask : Ask) : Type 0 where
  pub asked : IsAsked memory part ask
  pub pending : PendingFits (call_of (request_of memory ask)) part (request_of memory ask)

-- the engine stands for these calls and this much fuel of the process, over the program that its start names
abbrev pub StandsAt : {E P : Type 0} → Meaning E P → List P → Process → E → List Call → ℕ → Type 0
StandsAt {P = P} engines programs p engine calls fuel =
    (program : P) → slice_get programs p.start.«module» ≡ Some program →
    engines.stands engine program p.start calls fuel

-- the seat has what the world says of the process, and its engine may be told what is expected; the request that is
-- owed is that of the ask at the engine's memory
pub record IsSeatOf {E P : Type 0} (engines : Meaning E P) (programs : List P) (p : Process) (expected : Phase)
    (seat : Seat E) : Type 0 where
  pub stands : StandsAt engines programs p seat.engine p.calls p.fuel
  pub start : seat.start ≡ p.start
  pub part : seat.part ≡ p.part
  pub fuel : seat.fuel ≡ p.fuel
  pub owed : p.owed ≡ option_map (request_of (engines.memory seat.engine)) seat.owed
  pub phase : engines.phase seat.engine ≡ expected

-- a request with the bytes that this memory has, all of whose areas lie in the memory
pub record IsFitting (memory : List ℕ) (request : Request) : Type 0 where
  pub bytes : request ≡ request_of memory request.ask
  pub fits : request.fits ≡ true
