use Rattle.std.specs.Prelude.{◌≡◌, ◌≢◌, ℕ, ◌+◌, ◌<◌, ◌≤◌, List, All, Contains, Option, Some, None, IfSome, IsSome, is_some}
use Rattle.outside.specs.Streams.{IsFresh}
use Rattle.resource_table.specs.Handles.{Handle, numbers_of}
use Rattle.resource_table.specs.Steps.{Told}
use Rattle.host_port.specs.declared.request.Request.{Request}
use Rattle.host_port.specs.Areas.{request_of}
use Rattle.host_port.specs.HostTable.{row_of, may_come_of}
use Rattle.host_port.specs.declared.row.MayCome.TheVariants as comes
use Rattle.turn_rules.specs.Turn.{most_answers}
use Rattle.world_rules.specs.declared.entry.Side.{Side}
use Rattle.world_rules.specs.declared.entry.Side.TheVariants as SideIs
use Rattle.world_rules.specs.declared.halt.Halt.{Halt}
use Rattle.world_rules.specs.declared.halt.Halt.TheVariants as HaltIs
use Rattle.world_rules.specs.Views.{is_opened}
use Rattle.world_rules.specs.Calls.{arg}
use Rattle.world_rules.specs.Kinds.{may_come}
use Rattle.world_rules.specs.Part.{Part}
use Rattle.world_rules.specs.Sound.{times}
use Rattle.world_rules.specs.Streams.{Streamed}
use Rattle.world_rules.specs.World.{World}
use Rattle.world_rules.specs.Allowed.{SideFits}
use Rattle.node_state.specs.Seats.{IsAsked, part_handles}
use Rattle.node_state.specs.Fits.{with_bound, kept_ask}
use Rattle.node_state.specs.Streaming.{IsOpen, streamed_beside}
use Rattle.host_calls.specs.Shown.{shown_part, hands_of}
use Rattle.host_calls.specs.Steps.{AreInOrder, HandsOver}
use Rattle.host_calls.specs.declared.proc.Proc.{Proc}

-- What stays right within a turn, and what comes beside its ask.

-- a part of a turn keeps the streams: they are in order, are handed on, and no number is more often in hand and shed
-- together than before
pub record KeepsStreams {E O P S L : Type 0} (tells : Told S) (old new : Proc E O P S L) : Type 0 where
  pub order : AreInOrder new
  pub handed : HandsOver tells (hands_of old) old.shed (hands_of new) new.shed
  pub apart : (handle : ℕ) →
      times handle (numbers_of new.shed) + times handle (part_handles (shown_part new))
      ≤ times handle (numbers_of old.shed) + times handle (part_handles (shown_part old))

-- the request has the bytes of this memory, nothing is wrong with it at this part, and the turn, which answered so many
-- calls, has not answered its last
pub record IsAskedWell (memory : List ℕ) (part : Part) (answers : ℕ) (request : Request) : Type 0 where
  pub bytes : request ≡ request_of memory request.ask
  pub asked : IsAsked memory part request.ask
  pub few : answers < most_answers

-- so it is with the request of a turn that ends by asking
abbrev pub AsksWell : List ℕ → Part → (answers : ℕ) → Halt → Type 0
AsksWell memory part answers HaltIs.Slice = Unit {0}
AsksWell memory part answers (HaltIs.Asks request) = IsAskedWell memory part answers request
AsksWell memory part answers HaltIs.Done = Unit {0}
AsksWell memory part answers (HaltIs.Trap trap) = Unit {0}
AsksWell memory part answers (HaltIs.Spent spent) = Unit {0}
AsksWell memory part answers (HaltIs.Host fault request) = Unit {0}
AsksWell memory part answers HaltIs.NoMemory = Unit {0}
AsksWell memory part answers HaltIs.Again = Unit {0}

-- What came beside a request whose call is served: it may stand in an entry beside it; a listener that was bound is the
-- process's; the ask is kept where the outside is to answer; only the stream that the request names has changed; those
-- in hand bear out what was streamed; and a stream came exactly where the side says so, a fresh one.
pub record HasCome {E O P S L : Type 0} (tells : Told S) (request : Request) (old new : Proc E O P S L) (side : Side)
    (arrived : Option S) : Type 0 where
  pub beside : IsSome (row_of request.ask.call) → (w : World) (pid : ℕ) →
      SideFits (may_come request) w pid (shown_part old) request side
  pub part : shown_part new ≡ with_bound (Some request) side (shown_part old)
  pub owed : IsSome (row_of request.ask.call) → new.owed ≡ kept_ask request
  pub others : (handle : Handle S) → handle.number ≢ arg request 0 → Contains (hands_of new) handle →
      Contains (hands_of old) handle
  pub streamed : (streamed : ℕ → Streamed) → All (IsOpen tells streamed) (hands_of old) →
      All (IsOpen tells (streamed_beside (Some request) side streamed)) (hands_of new)
  pub arrived_so : is_some arrived ≡ is_opened side
  pub fresh : IfSome arrived (λ s. IsFresh (tells.down s) (tells.taken s) (tells.put s))
  pub unrefused : side ≢ SideIs.NoMemory

-- what comes beside a call that no outside answers: the time that the clock tells, where its row says so, else nothing
abbrev pub IsTimeFor : (clock : Option ℕ) (call : ℕ) → Side → Type 0
IsTimeFor clock call SideIs.Nothing = may_come_of call ≢ Some comes.Clock
IsTimeFor clock call (SideIs.Clock now) =
    (may_come_of call ≡ Some comes.Clock) × IfSome clock (λ time. now ≡ time)
IsTimeFor clock call SideIs.Pending = ⊥
IsTimeFor clock call (SideIs.Answer reply) = ⊥
IsTimeFor clock call SideIs.Opened = ⊥
IsTimeFor clock call SideIs.NoMemory = ⊥
