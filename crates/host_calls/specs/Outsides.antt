use Rattle.std.specs.Prelude.{◌≡◌, ◌≢◌, ℕ, ◌+◌, ◌≤◌, ◌&&◌, List, All, Contains, Option, Some, None, IfSome, Bool, true, false, cond, is_some}
use Rattle.std.specs.Option.{option_map_or}
use Rattle.outside.specs.Makes.{GoesNotBack}
use Rattle.outside.specs.Streams.{IsFresh}
use Rattle.resource_table.specs.Handles.{Handle}
use Rattle.resource_table.specs.Steps.{Told}
use Rattle.host_port.specs.declared.request.Request.{Request}
use Rattle.world_rules.specs.declared.entry.Side.{Side}
use Rattle.world_rules.specs.declared.entry.Side.TheVariants as SideIs
use Rattle.world_rules.specs.Views.{answer_in, clock_in, is_pending, is_opened}
use Rattle.world_rules.specs.Answers.{number_reply}
use Rattle.world_rules.specs.Calls.{HostCall, call_of, arg}
use Rattle.world_rules.specs.Calls as CallIs
use Rattle.world_rules.specs.Kinds.{may_come}
use Rattle.world_rules.specs.Part.{Part}
use Rattle.world_rules.specs.Streams.{Streamed, has_result}
use Rattle.world_rules.specs.World.{World}
use Rattle.world_rules.specs.Allowed.{SideFits}
use Rattle.node_state.specs.Fits.{with_bound}
use Rattle.node_state.specs.Streaming.{IsOpen, streamed_beside}
use Rattle.host_calls.specs.Listening.{Bound, listener_of}
use Rattle.host_calls.specs.Shown.{shown_part, hands_of}
use Rattle.host_calls.specs.declared.proc.Proc.{Proc}
use Rattle.host_calls.specs.declared.outside_calls.OutStep.{OutStep}
use Rattle.host_calls.specs.declared.outside_calls.OutStep.TheVariants as out

-- What a call of the outside comes to, and what it leaves of the outside's counts.

-- the side that a step comes to, if memory wasn't lacking
abbrev pub side_in : {S : Type 0} → OutStep S → Option Side
side_in (out.Side side) = Some side
side_in (out.Opened stream) = Some SideIs.Opened
side_in out.NoMemory = None

-- the stream that was opened, if one was
abbrev pub arrived_in : {S : Type 0} → OutStep S → Option S
arrived_in (out.Side side) = None
arrived_in (out.Opened stream) = Some stream
arrived_in out.NoMemory = None

-- what an outside tells of itself: its counts of faults, of waits and of rests, and the time of its clock, where it
-- tells one
pub record Telling : Type 0 where
  pub faults : ℕ
  pub waits : ℕ
  pub rests : ℕ
  pub clock : Option ℕ

abbrev pub telling : (faults waits rests : ℕ) → (clock : Option ℕ) → Telling
telling faults waits rests clock = record { faults = faults; waits = waits; rests = rests; clock = clock }

-- the outside itself makes something by this call; it answers for an accept that finds nobody
abbrev pub is_making : Option HostCall → Bool
is_making (Some CallIs.Bind) = true
is_making (Some CallIs.Accept) = true
is_making (Some CallIs.Connect) = true
is_making _ = false

abbrev pub is_accept : Option HostCall → Bool
is_accept (Some CallIs.Accept) = true
is_accept _ = false

-- one where a bind, an accept or a connect was answered 1, and where an accept couldn't be answered yet
abbrev pub failures_in : Option Request → Side → ℕ
failures_in None side = 0
failures_in (Some request) side =
    cond (is_making (call_of request) && option_map_or (has_result 1) (answer_in side) false) 1 0

abbrev pub waits_in : Option Request → Side → ℕ
waits_in None side = 0
waits_in (Some request) side = cond (is_accept (call_of request) && is_pending side) 1 0

-- GIVES. A bind, an accept or a connect is answered 1 only where the outside's faults rose, and an accept is Pending
-- only where its waits rose; no count fell, and the clock did not go back.
pub record OutsideGives (old new : Telling) (wanted : Option Request) (side : Side) : Type 0 where
  pub faults : old.faults + failures_in wanted side ≤ new.faults
  pub waits : old.waits + waits_in wanted side ≤ new.waits
  pub rests : old.rests ≤ new.rests
  pub clock : GoesNotBack old.clock new.clock

-- the time that came is the one that the clock tells, where it tells one
abbrev pub IsTimeOf : (clock : Option ℕ) → Side → Type 0
IsTimeOf clock side = IfSome (clock_in side) (λ now. IfSome clock (λ time. now ≡ time))

-- no count of the outside fell, its faults stay, and its clock tells what it told
pub record OutsideKeeps (old new : Telling) : Type 0 where
  pub faults : new.faults ≡ old.faults
  pub waits : old.waits ≤ new.waits
  pub rests : old.rests ≤ new.rests
  pub clock : new.clock ≡ old.clock

-- STEP. What a call of the outside comes to may stand in an entry beside its request; a listener that was bound is the
-- process's; of its streams only the one that the request names has changed, so that it bears out what was streamed;
-- and a stream was opened exactly where the side says so, and is fresh.
pub record IsOutStep {E O P S L : Type 0} (tells : Told S) (request : Request) (old new : Proc E O P S L) (side : Side)
    (arrived : Option S) : Type 0 where
  pub beside : (w : World) (pid : ℕ) → SideFits (may_come request) w pid (shown_part old) request side
  pub part : shown_part new ≡ with_bound (Some request) side (shown_part old)
  pub others : (handle : Handle S) → handle.number ≢ arg request 0 → Contains (hands_of new) handle →
      Contains (hands_of old) handle
  pub streamed : (streamed : ℕ → Streamed) → All (IsOpen tells streamed) (hands_of old) →
      All (IsOpen tells (streamed_beside (Some request) side streamed)) (hands_of new)
  pub opened : is_some arrived ≡ is_opened side
  pub fresh : IfSome arrived (λ s. IsFresh (tells.down s) (tells.taken s) (tells.put s))

-- the step is the answer of this number
abbrev pub AnswersPort : {S : Type 0} → ℕ → OutStep S → Type 0
AnswersPort n (out.Side side) = side ≡ SideIs.Answer (number_reply n)
AnswersPort n (out.Opened stream) = ⊥
AnswersPort n out.NoMemory = ⊥

-- PORT. The port of a listener is answered with the number that the listener tells.
abbrev pub TellsPort : {E O P S L : Type 0} → (number : L → ℕ) → Request → (old : Proc E O P S L) → OutStep S → Type 0
TellsPort {L = L} number request old step =
    call_of request ≡ Some CallIs.LocalPort → (b : Bound L) → listener_of (arg request 0) old.listeners ≡ Some b →
    AnswersPort (number b.listener) step
