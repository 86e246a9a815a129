use Rattle.std.specs.Prelude.{◌≡◌, ℕ, ◌+◌, ◌-◌, ◌<◌, ◌≤◌, List, [], length, slice_get, nat_le, Option, Some, None, Bool, true, false}
use Rattle.host_port.specs.declared.request.Request.{Request}
use Rattle.host_port.specs.declared.reply.Reply.{Reply}
use Rattle.turn_rules.specs.Turn.{turn_fuel, most_answers, IsUsedUp}
use Rattle.world_rules.specs.declared.entry.Entry.{Entry}
use Rattle.world_rules.specs.declared.entry.Side.{Side}
use Rattle.world_rules.specs.declared.entry.Side.TheVariants as SideIs
use Rattle.world_rules.specs.declared.halt.End.TheVariants as EndIs
use Rattle.world_rules.specs.declared.halt.HostFault.{HostFault}
use Rattle.world_rules.specs.declared.life.Birth.{Birth}
use Rattle.world_rules.specs.Views.{Given, Cause, Stuck, Idling, Starving, Deed, Taking, Giving, Timing, EndingAll, deed_of, Want, Goes, Wants, Retries, Ends, want_of, fault_in}
use Rattle.world_rules.specs.Calls.{HostCall, call_of, arg}
use Rattle.world_rules.specs.Calls as CallIs
use Rattle.host_port.specs.declared.row.MayCome.{MayCome}
use Rattle.host_port.specs.declared.row.MayCome.TheVariants as Beside
use Rattle.world_rules.specs.Kinds.{is_local, may_come, is_refusable, HasRowForm}
use Rattle.world_rules.specs.Part.{Part, most_handles, most_listeners}
use Rattle.world_rules.specs.Judge.{Fit, Faulty, judge}
use Rattle.world_rules.specs.Local.{AreLocal, part_after}
use Rattle.world_rules.specs.Streams.{has_result, word_value}
use Rattle.world_rules.specs.Time.{timed_processes}
use Rattle.world_rules.specs.Receive.{send_answer}
use Rattle.world_rules.specs.Links.{link_answer}
use Rattle.world_rules.specs.Registry.{put_answer}
use Rattle.world_rules.specs.Spawn.{next_birth}
use Rattle.world_rules.specs.World.{World, Process, Stage, Unborn, Ready, Out, Waiting, Doomed, Ended, is_away}
use Rattle.world_rules.specs.Rules.{turned}
use Rattle.world_rules.specs.Births.{Terms, BirthFits}

-- Which entries are allowed in a world.

-- the process is out to this worker, or doomed under it
abbrev pub IsWith : Stage → ℕ → Type 0
IsWith Unborn worker = ⊥
IsWith Ready worker = ⊥
IsWith (Out other) worker = other ≡ worker
IsWith (Waiting request) worker = ⊥
IsWith (Doomed other end) worker = other ≡ worker
IsWith (Ended end) worker = ⊥

-- ANSWERS OF THE OUTSIDE

-- there is no place for one listener more, or for one stream more
abbrev pub listeners_full : Part → Bool
listeners_full part = nat_le most_listeners (length part.listeners)

abbrev pub handles_full : Part → Bool
handles_full part = nat_le most_handles (length part.handles)

-- a bind: 2 exactly where 16 listeners are there, and 0 with the next listener's number
pub record BindFits (part : Part) (reply : Reply) : Type 0 where
  pub full : has_result 2 reply ≡ listeners_full part
  pub number : has_result 0 reply ≡ true → word_value reply.word ≡ part.next_listener

-- an accept or a connect without a stream: 2 exactly where 256 streams are in the table, and never 0
pub record NoStreamFits (part : Part) (reply : Reply) : Type 0 where
  pub full : has_result 2 reply ≡ handles_full part
  pub unopened : has_result 0 reply ≡ false

-- a read or a write of no bytes is answered 0 with count 0
pub record NoBytesFits (reply : Reply) : Type 0 where
  pub result : has_result 0 reply ≡ true
  pub count : word_value reply.word ≡ 0

-- what the part further asks of an answer
abbrev pub OwnAnswerFits : Option HostCall → Part → Request → Reply → Type 0
OwnAnswerFits (Some CallIs.Bind) part request reply = BindFits part reply
OwnAnswerFits (Some CallIs.Accept) part request reply = NoStreamFits part reply
OwnAnswerFits (Some CallIs.Connect) part request reply = NoStreamFits part reply
OwnAnswerFits (Some CallIs.ReadStream) part request reply = arg request 2 ≡ 0 → NoBytesFits reply
OwnAnswerFits (Some CallIs.WriteStream) part request reply = arg request 2 ≡ 0 → NoBytesFits reply
OwnAnswerFits _ part request reply = Unit {0}

-- an answer has the form of its call, and is one that the part allows
pub record AnswerFits (part : Part) (request : Request) (reply : Reply) : Type 0 where
  pub form : HasRowForm request reply
  pub own : OwnAnswerFits (call_of request) part request reply

-- no answer yet: an accept with a place for the stream, or a read or a write of some bytes
abbrev pub PendingFits : Option HostCall → Part → Request → Type 0
PendingFits (Some CallIs.Accept) part request = handles_full part ≡ false
PendingFits (Some CallIs.ReadStream) part request = 0 < arg request 2
PendingFits (Some CallIs.WriteStream) part request = 0 < arg request 2
PendingFits _ part request = ⊥

-- SIDES

-- what a refusable call would be answered without the refusal (of a spawn the births tell it)
abbrev pub plain_answer : Option HostCall → World → ℕ → Request → ℕ
plain_answer (Some CallIs.Send) w pid request = send_answer (w.process (arg request 0)) false
plain_answer (Some CallIs.Link) w pid request = link_answer w pid (arg request 1) false
plain_answer (Some CallIs.RegistryPut) w pid request = put_answer w (arg request 2) false
plain_answer _ w pid request = 0

-- a worker has the process, and it isn't doomed
abbrev pub is_out : Stage → Bool
is_out Unborn = false
is_out Ready = false
is_out (Out worker) = true
is_out (Waiting request) = false
is_out (Doomed worker end) = false
is_out (Ended end) = false

-- memory was refused to a call that would be answered 0; the request of a doomed process isn't performed, so nothing
-- is refused
pub record IsRefusal (w : World) (pid : ℕ) (request : Request) : Type 0 where
  pub refusable : is_refusable request ≡ true
  pub performed : is_out (w.process pid).stage ≡ true
  pub lost : plain_answer (call_of request) w pid request ≡ 0

-- what may come beside a request: nothing, or the refusal of memory; the clock; an answer of the outside, none yet, or
-- a stream
abbrev pub SideFits : Option MayCome → World → ℕ → Part → Request → Side → Type 0
SideFits (Some Beside.Nothing) w pid part request SideIs.Nothing = Unit {0}
SideFits (Some Beside.Nothing) w pid part request SideIs.NoMemory = IsRefusal w pid request
SideFits (Some Beside.Clock) w pid part request (SideIs.Clock now) = Unit {0}
SideFits (Some (Beside.Answer pending opened)) w pid part request (SideIs.Answer reply) = AnswerFits part request reply
SideFits (Some (Beside.Answer true opened)) w pid part request SideIs.Pending =
    PendingFits (call_of request) part request
SideFits (Some (Beside.Answer pending true)) w pid part request SideIs.Opened = handles_full part ≡ false
SideFits _ w pid part request side = ⊥

-- a spawn that is performed has its birth
abbrev pub SpawnFits : Option Terms → List Birth → Option HostCall → Stage → World → Process → Request → Side → Type 0
SpawnFits terms births (Some CallIs.Spawn) (Out worker) w parent request side =
    BirthFits terms w parent request side (next_birth births w)
SpawnFits terms births _ _ w parent request side = Unit {0}

-- what comes beside a request fits, the process standing so after its turn
pub record BesideFits (terms : Option Terms) (births : List Birth) (w : World) (after : Process) (give : Given)
    (request : Request) : Type 0 where
  pub side : SideFits (may_come request) w give.pid after.part request give.side
  pub birth : SpawnFits terms births (call_of request) (w.process give.pid).stage w after request give.side

-- HALTS

-- a turn may end by asking for a call that isn't local and is judged fit
pub record AskFits (terms : Option Terms) (births : List Birth) (w : World) (p : Process) (give : Given)
    (request : Request) : Type 0 where
  pub kind : is_local request ≡ false
  pub judged : judge p.start (part_after p.start p.part give.calls) request ≡ Fit
  pub beside : BesideFits terms births w (turned p give) give request

-- a turn may end with the fault that its request is judged; any other end of a turn names no request
abbrev pub FaultFits : Process → Given → Option (HostFault × Request) → Type 0
FaultFits p give None = Unit {0}
FaultFits p give (Some faulty) = judge p.start (part_after p.start p.part give.calls) faulty.1 ≡ Faulty faulty.0

-- what a turn may end with, its local calls done
abbrev pub WantFits : Option Terms → List Birth → World → Process → Given → Want → Type 0
WantFits terms births w p give Goes =
    (give.side ≡ SideIs.Nothing) × ∥ IsUsedUp (give.fuel - p.fuel) (length give.calls) ∥₁
WantFits terms births w p give (Wants request) = AskFits terms births w p give request
WantFits terms births w p give Retries = ⊥
WantFits terms births w p give (Ends end) = (give.side ≡ SideIs.Nothing) × FaultFits p give (fault_in give.halt)

-- a turn of its own
pub record TurnFits (terms : Option Terms) (births : List Birth) (w : World) (p : Process) (give : Given) : Type 0 where
  pub grown : p.fuel ≤ give.fuel
  pub burnt : give.fuel ≤ p.fuel + turn_fuel
  pub answered : length give.calls ≤ most_answers
  pub local : AreLocal p.start p.part give.calls
  pub halted : WantFits terms births w p give (want_of give.halt)

-- what a turn that only tries a request again may end with
abbrev pub RetryEndsSo : Option Terms → List Birth → World → Process → Given → Request → Want → Type 0
RetryEndsSo terms births w p give request Goes = ⊥
RetryEndsSo terms births w p give request (Wants other) = ⊥
RetryEndsSo terms births w p give request Retries = BesideFits terms births w p give request
RetryEndsSo terms births w p give request (Ends end) = (end ≡ EndIs.NoMemory) × (give.side ≡ SideIs.Nothing)

-- a turn that only tries the request again has no calls and burns no fuel
pub record RetryFits (terms : Option Terms) (births : List Birth) (w : World) (p : Process) (give : Given)
    (request : Request) : Type 0 where
  pub calls : give.calls ≡ []
  pub fuel : give.fuel ≡ p.fuel
  pub halted : RetryEndsSo terms births w p give request (want_of give.halt)

abbrev pub GivesTurn : Option Terms → List Birth → World → Process → Given → Option Request → Type 0
GivesTurn terms births w p give None = TurnFits terms births w p give
GivesTurn terms births w p give (Some request) = RetryFits terms births w p give request

-- a process may be given back so
pub record GiveFits (terms : Option Terms) (births : List Birth) (w : World) (give : Given) : Type 0 where
  pub away : IsWith (w.process give.pid).stage give.worker
  pub turn : GivesTurn terms births w (w.process give.pid) give (w.process give.pid).owed

-- ENDS OF ALL

-- nothing is ready, out or doomed, and nobody waits with a deadline
pub record IsStuck (w : World) : Type 0 where
  pub ready : w.ready ≡ []
  pub away : (pid : ℕ) → is_away (w.process pid).stage ≡ false
  pub timed : timed_processes w ≡ []

-- the row of Pending gives and early Ticks is at least as long as the idle limit
abbrev pub IsIdle : Option Terms → World → Type 0
IsIdle None w = Unit {0}
IsIdle (Some terms) w = terms.idle ≤ w.row

-- want of memory may come at any time
abbrev pub CauseFits : Option Terms → World → Cause → Type 0
CauseFits terms w Stuck = IsStuck w
CauseFits terms w Idling = IsIdle terms w
CauseFits terms w Starving = Unit {0}

-- ALLOWED

-- what an entry does is allowed; after the run is over only Gives of the processes that are still out are
abbrev pub DeedFits : Option Terms → List Birth → World → Deed → Type 0
DeedFits terms births w (Taking worker pid) = (w.over ≡ false) × (slice_get w.ready 0 ≡ Some pid)
DeedFits terms births w (Giving give) = GiveFits terms births w give
DeedFits terms births w (Timing now) = (w.over ≡ false) × (0 < length (timed_processes w))
DeedFits terms births w (EndingAll cause) = (w.over ≡ false) × CauseFits terms w cause

-- ALLOWED. The entry is allowed in this world; without terms nothing is tested against them.
abbrev pub Allowed : Option Terms → List Birth → World → Entry → Type 0
Allowed terms births w entry = DeedFits terms births w (deed_of entry)
