use Rattle.std.specs.Prelude.{◌≡◌, ◌≢◌, ℕ, List, [], ◌∷◌, ◌++◌, Option, Some, None, IfSome, Bool, true, false, if◌then◌else◌}
use Rattle.std.specs.Option.{option_map_or}
use Rattle.host_port.specs.declared.ask.Ask.{Ask}
use Rattle.host_port.specs.declared.call.Call.{Call}
use Rattle.host_port.specs.declared.reply.Reply.{Reply}
use Rattle.host_port.specs.declared.request.Request.{Request}
use Rattle.host_port.specs.declared.row.Kind.{Kind}
use Rattle.host_port.specs.declared.row.Kind.TheVariants as KindIs
use Rattle.host_port.specs.declared.start.Start.{Start}
use Rattle.host_port.specs.Memory.{pages_of, mark_of}
use Rattle.host_port.specs.Areas.{request_of}
use Rattle.host_port.specs.Standing.{State, Running, Owing}
use Rattle.world_rules.specs.declared.entry.Entry.{Entry}
use Rattle.world_rules.specs.declared.entry.Entry.TheVariants as EntryIs
use Rattle.world_rules.specs.declared.entry.Side.{Side}
use Rattle.world_rules.specs.declared.entry.Side.TheVariants as SideIs
use Rattle.world_rules.specs.declared.halt.Halt.{Halt}
use Rattle.world_rules.specs.declared.halt.Halt.TheVariants as HaltIs
use Rattle.world_rules.specs.declared.life.Birth.{Birth}
use Rattle.world_rules.specs.declared.life.Ended.{Ended as EndMemory}
use Rattle.world_rules.specs.Views.{Given, want_of, wanted_in, answer_in}
use Rattle.world_rules.specs.Calls.{HostCall, call_of}
use Rattle.world_rules.specs.Calls as CallIs
use Rattle.world_rules.specs.Kinds.{kind_of}
use Rattle.world_rules.specs.Part.{Part}
use Rattle.world_rules.specs.Settled.{settled, ListenerBound}
use Rattle.world_rules.specs.Streams.{has_result}
use Rattle.world_rules.specs.Handles.{closings_of}
use Rattle.world_rules.specs.World.{World, Process}
use Rattle.world_rules.specs.Rules.{part_after_turn}
use Rattle.world_rules.specs.Allowed.{GiveFits}
use Rattle.world_rules.specs.Lives.{Setting, OwnTurnIsRun, terms_of}
use Rattle.node_state.specs.Seats.{Meaning, Seat, StandsAt, IsAsked, IsOwed}
use Rattle.node_state.specs.Slots.{Slot, Nobody, Home, Asleep, Away, Fated, Gone}

-- When what a worker brings back fits the world.

-- what a worker brings back of a process: its seat; the calls that its turn answered, in order; why the turn ended;
-- what came from outside; and the streams that its calls closed, in order
pub record Brought (E : Type 0) : Type 0 where
  pub seat : Seat E
  pub calls : List Call
  pub halt : Halt
  pub side : Side
  pub shed : List ℕ

-- the process that is given back so
abbrev pub give_of : {E : Type 0} → (worker pid : ℕ) → Brought E → Given
give_of worker pid brought = record {
  worker = worker;
  pid = pid;
  calls = brought.calls;
  fuel = brought.seat.fuel;
  halt = brought.halt;
  side = brought.side;
}

-- the entry of that Give, recorded beside this side
abbrev pub entry_of : {E : Type 0} → (worker pid : ℕ) → Brought E → Side → Entry
entry_of worker pid brought side = EntryIs.Give worker pid brought.calls brought.seat.fuel brought.halt side

-- the outside is to answer
abbrev pub is_outside : Option Kind → Bool
is_outside None = false
is_outside (Some KindIs.Local) = false
is_outside (Some KindIs.World) = false
is_outside (Some KindIs.Outside) = true

-- the ask of a request that the outside is to answer, which is kept until it is answered
abbrev pub kept_ask : Request → Option Ask
kept_ask request = if is_outside (kind_of request) then Some request.ask else None

-- the engine owes the reply to this request, which has the bytes of its memory
pub record Owes {E P : Type 0} (engines : Meaning E P) (engine : E) (request : Request) : Type 0 where
  pub phase : engines.phase engine ≡ Owing request.ask
  pub bytes : request ≡ request_of (engines.memory engine) request.ask

-- after a turn that ended so, where this request was owed before: the engine may be stepped; or it owes the reply to
-- the request that the turn asks; or still to the one that was owed
abbrev pub PhaseFits : {E P : Type 0} → Meaning E P → Option Request → Seat E → Halt → Type 0
PhaseFits engines owed seat HaltIs.Slice = (engines.phase seat.engine ≡ Running) × (seat.owed ≡ None)
PhaseFits engines owed seat (HaltIs.Asks request) =
    Owes engines seat.engine request × (seat.owed ≡ kept_ask request)
PhaseFits engines owed seat HaltIs.Done = Unit {0}
PhaseFits engines owed seat (HaltIs.Trap trap) = Unit {0}
PhaseFits engines owed seat (HaltIs.Spent spent) = Unit {0}
PhaseFits engines owed seat (HaltIs.Host fault request) = Unit {0}
PhaseFits engines owed seat HaltIs.NoMemory = Unit {0}
PhaseFits engines owed seat HaltIs.Again =
    (request : Request) × (owed ≡ Some request) × Owes engines seat.engine request × (seat.owed ≡ Some request.ask)

-- where an engine stands there is a run, and its memory is the engine's
abbrev pub ShowMemory : {E P : Type 0} → Meaning E P → Setting P → Type 0
ShowMemory {E = E} {P = P} engines setting =
    (engine : E) (program : P) (start : Start) (calls : List Call) (fuel : ℕ) →
    engines.stands engine program start calls fuel →
    (state : State) × (setting.at program start calls fuel
    ≡ Some (record { state = state; memory = engines.memory engine }))

-- what is kept of a process at its end: its number, and the pages and the mark of its engine's memory
pub record IsLastOf {E P : Type 0} (engines : Meaning E P) (pid : ℕ) (engine : E) (memory : EndMemory) : Type 0 where
  pub numbered : memory.pid ≡ pid
  pub pages : memory.pages ≡ pages_of (engines.memory engine)
  pub mark : memory.mark ≡ mark_of (engines.memory engine)

-- one item for the process with this engine
abbrev pub IsLastAlone : {E P : Type 0} → Meaning E P → ℕ → E → List EndMemory → Type 0
IsLastAlone engines pid engine [] = ⊥
IsLastAlone engines pid engine (memory ∷ []) = IsLastOf engines pid engine memory
IsLastAlone engines pid engine (memory ∷ other ∷ memories) = ⊥

-- what is kept where an end comes to the process of a slot: one item where it is at home, and none where it isn't
abbrev pub IsLastAt : {E P : Type 0} → Meaning E P → ℕ → Slot E → List EndMemory → Type 0
IsLastAt engines pid Nobody memories = memories ≡ []
IsLastAt engines pid (Home seat) memories = IsLastAlone engines pid seat.engine memories
IsLastAt engines pid (Asleep seat ask) memories = IsLastAlone engines pid seat.engine memories
IsLastAt engines pid (Away worker) memories = memories ≡ []
IsLastAt engines pid (Fated worker end) memories = memories ≡ []
IsLastAt engines pid Gone memories = memories ≡ []

-- the engine was given this reply to the ask that it owed
pub record IsAnswered {E P : Type 0} (engines : Meaning E P) (engine : E) (reply : Reply) (after : E) : Type 0 where
  pub running : engines.phase after ≡ Running
  pub stands : (program : P) (start : Start) (calls : List Call) (fuel : ℕ) (ask : Ask) →
      engines.phase engine ≡ Owing ask → engines.stands engine program start calls fuel →
      engines.stands after program start
      (calls ++ record { request = request_of (engines.memory engine) ask; reply = reply } ∷ []) fuel

-- a bind was answered 0
abbrev pub is_bound : Option HostCall → Side → Bool
is_bound (Some CallIs.Bind) side = option_map_or (has_result 0) (answer_in side) false
is_bound _ side = false

-- the part with the listener that a bind has brought
abbrev pub with_bound : Option Request → Side → Part → Part
with_bound None side part = part
with_bound (Some request) side part = if is_bound (call_of request) side then settled part ListenerBound else part

-- the part that a turn of the process brings back: what its calls and the cost of its request leave, and a listener
-- that was bound
abbrev pub part_brought : Process → Given → Part
part_brought p give = with_bound (wanted_in (want_of give.halt) p.owed) give.side (part_after_turn p give)

-- what is brought back has this part; where memory was lacking, but for its traffic
abbrev pub PartFits : Part → Halt → Part → Type 0
PartFits part HaltIs.Slice after = part ≡ after
PartFits part (HaltIs.Asks request) after = part ≡ after
PartFits part HaltIs.Done after = part ≡ after
PartFits part (HaltIs.Trap trap) after = part ≡ after
PartFits part (HaltIs.Spent spent) after = part ≡ after
PartFits part (HaltIs.Host fault request) after = part ≡ after
PartFits part HaltIs.NoMemory after = part ≡ record after { traffic = part.traffic }
PartFits part HaltIs.Again after = part ≡ after

-- what is brought back has the process's start, the part that the turn left, and an engine that stands for its calls;
-- it has closed the streams that its calls close
pub record SeatFits {E P : Type 0} (engines : Meaning E P) (programs : List P) (p : Process) (brought : Brought E)
    (give : Given) : Type 0 where
  pub stands : StandsAt engines programs p brought.seat.engine (p.calls ++ brought.calls) brought.seat.fuel
  pub start : brought.seat.start ≡ p.start
  pub part : PartFits brought.seat.part brought.halt (part_brought p give)
  pub closed : brought.shed ≡ closings_of p.start p.part brought.calls

-- the outside answered, can't answer yet, or opened a stream
abbrev pub is_from_outside : Side → Bool
is_from_outside SideIs.Nothing = false
is_from_outside (SideIs.Clock now) = false
is_from_outside SideIs.Pending = true
is_from_outside (SideIs.Answer reply) = true
is_from_outside SideIs.Opened = true
is_from_outside SideIs.NoMemory = false

-- FITS. What this worker brings back of the process of this number may be given: the Give is allowed, it is the
-- process's turn or tries the request again that it owes, the seat has what the turn left, nothing is wrong with the
-- request that the outside is to answer, one that it can't answer yet may be tried again, the refusal of memory, which
-- `give` alone finds, isn't said beforehand, and what comes where a request is tried again is the outside's.
pub record TurnFits {E P : Type 0} (engines : Meaning E P) (setting : Setting P) (births : List Birth) (w : World)
    (worker pid : ℕ) (brought : Brought E) : Type 0 where
  pub allowed : GiveFits (Some (terms_of setting)) births w (give_of worker pid brought)
  pub turn : OwnTurnIsRun setting (w.process pid) (give_of worker pid brought) (w.process pid).owed
  pub seated : SeatFits engines setting.programs (w.process pid) brought (give_of worker pid brought)
  pub phase : PhaseFits engines (w.process pid).owed brought.seat brought.halt
  pub tries : IfSome brought.seat.owed (IsAsked (engines.memory brought.seat.engine) brought.seat.part)
  pub pending : brought.side ≡ SideIs.Pending →
      IfSome brought.seat.owed (IsOwed (engines.memory brought.seat.engine) brought.seat.part)
  pub asked : brought.side ≢ SideIs.NoMemory
  pub retried : brought.halt ≡ HaltIs.Again → is_from_outside brought.side ≡ true
