use Rattle.std.specs.Prelude.{ℕ, List, Option, Some, None, Bool, true, false}
use Rattle.host_port.specs.declared.call.Call.{Call}
use Rattle.host_port.specs.declared.request.Request.{Request}
use Rattle.host_port.specs.declared.reply.Reply.{Reply}
use Rattle.world_rules.specs.declared.entry.Entry.{Entry}
use Rattle.world_rules.specs.declared.entry.Entry.TheVariants as EntryIs
use Rattle.world_rules.specs.declared.entry.Side.{Side}
use Rattle.world_rules.specs.declared.entry.Side.TheVariants as SideIs
use Rattle.world_rules.specs.declared.halt.Halt.{Halt}
use Rattle.world_rules.specs.declared.halt.Halt.TheVariants as HaltIs
use Rattle.world_rules.specs.declared.halt.HostFault.{HostFault}
use Rattle.world_rules.specs.declared.halt.End.{End}
use Rattle.world_rules.specs.declared.halt.End.TheVariants as EndIs

-- What the rules read of an entry, of a halt and of a side. The rules read these views, and not the variants.

-- ENTRIES

-- a process that is given back: by which worker, its local calls, its fuel since birth, why its turn ended, what came
-- from outside
pub record Given : Type 0 where
  pub worker : ℕ
  pub pid : ℕ
  pub calls : List Call
  pub fuel : ℕ
  pub halt : Halt
  pub side : Side

-- why every live process ends at once: nothing can happen any more; the run was idle for too long; want of memory
pub data Cause : Type 0 where
  Stuck : Cause
  Idling : Cause
  Starving : Cause

-- the end that every live process then has
abbrev pub end_by : Cause → End
end_by Stuck = EndIs.Stalled
end_by Idling = EndIs.Idle
end_by Starving = EndIs.NoMemory

-- what an entry does
pub data Deed : Type 0 where
  Taking : (worker pid : ℕ) → Deed
  Giving : (give : Given) → Deed
  Timing : (now : ℕ) → Deed
  EndingAll : (cause : Cause) → Deed

abbrev pub deed_of : Entry → Deed
deed_of (EntryIs.Take worker pid) = Taking worker pid
deed_of (EntryIs.Give worker pid calls fuel halt side) =
    Giving (record { worker = worker; pid = pid; calls = calls; fuel = fuel; halt = halt; side = side })
deed_of (EntryIs.Tick worker now) = Timing now
deed_of (EntryIs.Stall worker) = EndingAll Stuck
deed_of (EntryIs.Idle worker) = EndingAll Idling
deed_of (EntryIs.Starve worker) = EndingAll Starving

-- an entry's worker
abbrev pub worker_of : Entry → ℕ
worker_of (EntryIs.Take worker pid) = worker
worker_of (EntryIs.Give worker pid calls fuel halt side) = worker
worker_of (EntryIs.Tick worker now) = worker
worker_of (EntryIs.Stall worker) = worker
worker_of (EntryIs.Idle worker) = worker
worker_of (EntryIs.Starve worker) = worker

-- HALTS

-- what a process wants after its turn: to go on; the answer to a request; the answer to the request that it owes; or
-- it ends
pub data Want : Type 0 where
  Goes : Want
  Wants : (request : Request) → Want
  Retries : Want
  Ends : (end : End) → Want

abbrev pub want_of : Halt → Want
want_of HaltIs.Slice = Goes
want_of (HaltIs.Asks request) = Wants request
want_of HaltIs.Done = Ends EndIs.Done
want_of (HaltIs.Trap trap) = Ends (EndIs.Trap trap)
want_of (HaltIs.Spent spent) = Ends (EndIs.Spent spent)
want_of (HaltIs.Host fault request) = Ends (EndIs.Host fault)
want_of HaltIs.NoMemory = Ends EndIs.NoMemory
want_of HaltIs.Again = Retries

-- the request whose answer is wanted, where the request that is owed is this one
abbrev pub wanted_in : Want → Option Request → Option Request
wanted_in Goes owed = None
wanted_in (Wants request) owed = Some request
wanted_in Retries owed = owed
wanted_in (Ends end) owed = None

-- the request that a turn ends by asking for the first time
abbrev pub asked_in : Halt → Option Request
asked_in halt = wanted_in (want_of halt) None

-- the fault that the halt names, and the request that was judged so
abbrev pub fault_in : Halt → Option (HostFault × Request)
fault_in HaltIs.Slice = None
fault_in (HaltIs.Asks request) = None
fault_in HaltIs.Done = None
fault_in (HaltIs.Trap trap) = None
fault_in (HaltIs.Spent spent) = None
fault_in (HaltIs.Host fault request) = Some (fault, request)
fault_in HaltIs.NoMemory = None
fault_in HaltIs.Again = None

-- the turn ended for want of memory
abbrev pub is_starved : Halt → Bool
is_starved HaltIs.Slice = false
is_starved (HaltIs.Asks request) = false
is_starved HaltIs.Done = false
is_starved (HaltIs.Trap trap) = false
is_starved (HaltIs.Spent spent) = false
is_starved (HaltIs.Host fault request) = false
is_starved HaltIs.NoMemory = true
is_starved HaltIs.Again = false

-- SIDES

-- the time that came, if one did
abbrev pub clock_in : Side → Option ℕ
clock_in SideIs.Nothing = None
clock_in (SideIs.Clock now) = Some now
clock_in SideIs.Pending = None
clock_in (SideIs.Answer reply) = None
clock_in SideIs.Opened = None
clock_in SideIs.NoMemory = None

-- the outside's answer, if one came
abbrev pub answer_in : Side → Option Reply
answer_in SideIs.Nothing = None
answer_in (SideIs.Clock now) = None
answer_in SideIs.Pending = None
answer_in (SideIs.Answer reply) = Some reply
answer_in SideIs.Opened = None
answer_in SideIs.NoMemory = None

-- nothing came
abbrev pub is_nothing : Side → Bool
is_nothing SideIs.Nothing = true
is_nothing (SideIs.Clock now) = false
is_nothing SideIs.Pending = false
is_nothing (SideIs.Answer reply) = false
is_nothing SideIs.Opened = false
is_nothing SideIs.NoMemory = false

-- the outside can't answer yet
abbrev pub is_pending : Side → Bool
is_pending SideIs.Nothing = false
is_pending (SideIs.Clock now) = false
is_pending SideIs.Pending = true
is_pending (SideIs.Answer reply) = false
is_pending SideIs.Opened = false
is_pending SideIs.NoMemory = false

-- a stream was opened
abbrev pub is_opened : Side → Bool
is_opened SideIs.Nothing = false
is_opened (SideIs.Clock now) = false
is_opened SideIs.Pending = false
is_opened (SideIs.Answer reply) = false
is_opened SideIs.Opened = true
is_opened SideIs.NoMemory = false

-- memory was refused
abbrev pub is_refused : Side → Bool
is_refused SideIs.Nothing = false
is_refused (SideIs.Clock now) = false
is_refused SideIs.Pending = false
is_refused (SideIs.Answer reply) = false
is_refused SideIs.Opened = false
is_refused SideIs.NoMemory = true
