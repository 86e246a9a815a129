use Rattle.std.specs.Prelude.{◌≡◌, ◌≢◌, ℕ, ◌+◌, ◌-◌, ◌<◌, ◌≤◌, List, ◌++◌, length, slice_get, All, Contains, Option, Some, None, IfSome, MatchOption, false, option_map}
use Rattle.std.specs.Option.{option_map_or}
use Rattle.host_port.specs.declared.call.Call.{Call}
use Rattle.host_port.specs.declared.request.Request.{Request}
use Rattle.host_port.specs.declared.start.Start.{Start}
use Rattle.host_port.specs.declared.start.StartRefusal.{StartRefusal}
use Rattle.host_port.specs.declared.stop.Stop.{Stop}
use Rattle.host_port.specs.declared.stop.Stop.TheVariants as stop
use Rattle.host_port.specs.Areas.{request_of}
use Rattle.host_port.specs.Standing.{Standing, Phase, Running}
use Rattle.resource_table.specs.Handles.{Handle}
use Rattle.resource_table.specs.Steps.{Told, IsShut}
use Rattle.turn_rules.specs.Turn.{GoesOn, turn_fuel, most_answers}
use Rattle.world_rules.specs.declared.entry.Side.{Side}
use Rattle.world_rules.specs.declared.halt.Halt.{Halt}
use Rattle.world_rules.specs.declared.halt.Halt.TheVariants as HaltIs
use Rattle.world_rules.specs.declared.life.Birth.{Birth}
use Rattle.world_rules.specs.Views.{asked_in, want_of, wanted_in}
use Rattle.world_rules.specs.Calls.{arg}
use Rattle.world_rules.specs.Part.{Part}
use Rattle.world_rules.specs.Kinds.{is_local}
use Rattle.world_rules.specs.Judge.{Fit, Faulty, judge, charged}
use Rattle.world_rules.specs.Handles.{closings_of}
use Rattle.world_rules.specs.Local.{local, AreLocal, part_after}
use Rattle.world_rules.specs.Streams.{Streamed}
use Rattle.world_rules.specs.World.{World, Process}
use Rattle.world_rules.specs.Allowed.{IsWith}
use Rattle.world_rules.specs.Lives.{IsTurnOf}
use Rattle.node_state.specs.Seats.{Meaning, Seat, IsSeatOf, phase_by}
use Rattle.node_state.specs.Fits.{Brought, Owes, PartFits, TurnFits}
use Rattle.node_state.specs.Rows.{HasRows}
use Rattle.node_state.specs.Streaming.{BroughtStreams, IsOpen, StreamsFit, streamed_beside}

-- What a turn brings back.

-- the engine of a seat may be told what is expected, and stands in a run of the seat's start with the seat's fuel
pub record IsUnderWay {E P : Type 0} (engines : Meaning E P) (expected : Phase) (seat : Seat E) : Type 0 where
  pub program : P
  pub calls : List Call
  pub stands : engines.stands seat.engine program seat.start calls seat.fuel
  pub phase : engines.phase seat.engine ≡ expected

-- the seat stands where this process does, by this program
pub record IsAt {E P : Type 0} (engines : Meaning E P) (program : P) (p : Process) (seat : Seat E) : Type 0 where
  pub stands : engines.stands seat.engine program p.start p.calls p.fuel
  pub start : seat.start ≡ p.start
  pub part : seat.part ≡ p.part
  pub fuel : seat.fuel ≡ p.fuel

-- the engine of a seat has gone on by these local calls of the process
pub record HasGone {E P : Type 0} (engines : Meaning E P) (program : P) (p : Process) (seat : Seat E)
    (further : List Call) : Type 0 where
  pub stands : engines.stands seat.engine program p.start (p.calls ++ further) seat.fuel
  pub start : seat.start ≡ p.start
  pub grown : p.fuel ≤ seat.fuel
  pub executed : seat.fuel ≤ p.fuel + turn_fuel
  pub local : AreLocal p.start p.part further

-- the turn of the process has gone on by these local calls, is not at its end, and has left this part and closed these
-- streams
pub record GoesTo {E P : Type 0} (engines : Meaning E P) (at : P → Start → List Call → ℕ → Option Standing)
    (program : P) (p : Process) (seat : Seat E) (shed : List ℕ) (further : List Call) : Type 0 where
  pub gone : HasGone engines program p seat further
  pub part : seat.part ≡ part_after p.start p.part further
  pub goes : GoesOn (at program p.start) (local p.start) p.part p.calls 0 p.fuel further seat.fuel seat.part
  pub closed : shed ≡ closings_of p.start p.part further

-- a turn asks for a call that isn't local and is judged fit, or ends by the fault that its request is judged
abbrev pub IsJudged : Process → List Call → Halt → Type 0
IsJudged p calls HaltIs.Slice = Unit {0}
IsJudged p calls (HaltIs.Asks request) =
    (is_local request ≡ false) × (judge p.start (part_after p.start p.part calls) request ≡ Fit)
IsJudged p calls HaltIs.Done = Unit {0}
IsJudged p calls (HaltIs.Trap trap) = Unit {0}
IsJudged p calls (HaltIs.Spent spent) = Unit {0}
IsJudged p calls (HaltIs.Host fault request) =
    judge p.start (part_after p.start p.part calls) request ≡ Faulty fault
IsJudged p calls HaltIs.NoMemory = Unit {0}
IsJudged p calls HaltIs.Again = ⊥

-- the part that a turn with these calls and this halt leaves: the cost of the request that it asks for is added
abbrev pub turn_part : Process → List Call → Halt → Part
turn_part p calls halt =
    option_map_or (λ (request : Request). charged request (part_after p.start p.part calls)) (asked_in halt)
    (part_after p.start p.part calls)

-- at the end of a turn the engine may be stepped, or owes the reply to the request that the turn asks
abbrev pub EngineFits : {E P : Type 0} → Meaning E P → E → Halt → Type 0
EngineFits engines engine HaltIs.Slice = engines.phase engine ≡ Running
EngineFits engines engine (HaltIs.Asks request) = Owes engines engine request
EngineFits engines engine HaltIs.Done = Unit {0}
EngineFits engines engine (HaltIs.Trap trap) = Unit {0}
EngineFits engines engine (HaltIs.Spent spent) = Unit {0}
EngineFits engines engine (HaltIs.Host fault request) = Unit {0}
EngineFits engines engine HaltIs.NoMemory = Unit {0}
EngineFits engines engine HaltIs.Again = ⊥

-- the turn of the process has ended so, before anything came from outside
pub record HasEnded {E P : Type 0} (engines : Meaning E P) (at : P → Start → List Call → ℕ → Option Standing)
    (program : P) (p : Process) (seat : Seat E) (shed : List ℕ) (calls : List Call) (halt : Halt) : Type 0 where
  pub gone : HasGone engines program p seat calls
  pub part : PartFits seat.part halt (turn_part p calls halt)
  pub answered : length calls ≤ most_answers
  pub turn : IsTurnOf (at program p.start) p calls (seat.fuel - p.fuel) halt
  pub judged : IsJudged p calls halt
  pub phase : EngineFits engines seat.engine halt
  pub closed : shed ≡ closings_of p.start p.part calls

-- From this seat and these calls of a turn, an ask is met with this halt, or without one: the start and the fuel stay;
-- without a halt the engine may be stepped, and there is one call more; and the turn has gone on, or has ended with the
-- halt.
pub record GoesOrEnds {E P : Type 0} (engines : Meaning E P) (at : P → Start → List Call → ℕ → Option Standing)
    (may_ask : P → ℕ → Type 0) (was : Seat E) (shed_before : List ℕ) (before : List Call) (is : Seat E)
    (shed : List ℕ) (calls : List Call) (halt : Option Halt) : Type 0 where
  pub start : is.start ≡ was.start
  pub fuel : is.fuel ≡ was.fuel
  pub owed : is.owed ≡ was.owed
  pub way : halt ≡ None → IsUnderWay engines Running is
  pub count : halt ≡ None → length calls ≡ length before + 1
  pub goes : (program : P) (p : Process) → HasRows may_ask program → length before < most_answers →
      GoesTo engines at program p was shed_before before →
      MatchOption halt (GoesTo engines at program p is shed calls)
      (λ ending. HasEnded engines at program p is shed calls ending)

-- the halt of a turn whose last step stopped at no ask; the row of an ask is never used, since no such turn is
abbrev pub halt_after : Stop → Halt
halt_after stop.Slice = HaltIs.Slice
halt_after (stop.Asks ask) = HaltIs.NoMemory
halt_after stop.Done = HaltIs.Done
halt_after (stop.Trap trap) = HaltIs.Trap trap
halt_after (stop.Spent spent) = HaltIs.Spent spent

-- the request whose answer is wanted after a turn of the process of this seat that ended so: the one that it asks, or
-- the one that was owed
abbrev pub wanted_after : {E P : Type 0} → Meaning E P → (before : Seat E) → Halt → Option Request
wanted_after engines before halt =
    wanted_in (want_of halt) (option_map (request_of (engines.memory before.engine)) before.owed)

-- What is brought back of the process of the seat `before` may be given in every world in which the worker has that
-- process as it was, also where it is doomed by now: the program that its start names is there, and asks only calls
-- that have a row.
abbrev pub MayBeGiven : {E P : Type 0} → Meaning E P → (P → Start → Option StartRefusal)
    → (P → Start → List Call → ℕ → Option Standing) → (P → ℕ → Type 0) → (before : Seat E) → Brought E → Type 0
MayBeGiven {P = P} engines begin at may_ask before brought =
    (programs : List P) (first : Start) (live idle : ℕ) (births : List Birth) (w : World) (worker : ℕ) (program : P) →
    IsWith (w.process before.start.pid).stage worker →
    IsSeatOf engines programs (w.process before.start.pid) (phase_by before.owed) before →
    slice_get programs before.start.«module» ≡ Some program → HasRows may_ask program →
    TurnFits engines
    (record { programs = programs; begin = begin; at = at; first = first; live = live; idle = idle })
    births w worker before.start.pid brought

-- The streams that are brought back fit, whatever was streamed before on those that were in hand: what came from
-- outside beside this request is borne out by the stream that it names, and the others are as they were.
abbrev pub StreamsMayCome : {S : Type 0} → Told S → Option Request → Side → (hands : List (Handle S))
    → BroughtStreams S → Type 0
StreamsMayCome tells wanted side hands brought =
    (streamed : ℕ → Streamed) → All (IsOpen tells streamed) hands →
    StreamsFit tells (streamed_beside wanted side streamed) side brought

-- the stream of this number isn't the one that the wanted request names
abbrev pub IsUnnamed : Option Request → ℕ → Type 0
IsUnnamed None number = Unit {0}
IsUnnamed (Some request) number = number ≢ arg request 0

-- The very streams are handed back: each that is in hand was in hand before, but the one that the wanted request names,
-- which may have been read or written; and each in the shed was in hand before, and was shut.
pub record HandsBack {S : Type 0} (tells : Told S) (wanted : Option Request) (hands : List (Handle S))
    (brought : BroughtStreams S) : Type 0 where
  pub in_hand : (handle : Handle S) → IsUnnamed wanted handle.number → Contains brought.hands handle →
      Contains hands handle
  pub shut : (handle : Handle S) → Contains brought.shed handle →
      ∥ ((before : Handle S) × Contains hands before × IsShut tells before handle) ∥₁
