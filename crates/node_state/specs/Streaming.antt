use Rattle.std.specs.Prelude.{◌≡◌, ◌≢◌, ◌⊎◌, ℕ, ◌+◌, ◌-◌, ◌^◌, ◌≤◌, List, [], ◌∷◌, ◌++◌, min, All, Contains, Option, Some, None, IfSome, Bool, true, false, is_some}
use Rattle.outside.specs.Streams.{IsFresh}
use Rattle.resource_table.specs.Handles.{Handle, numbers_of}
use Rattle.resource_table.specs.Steps.{Told, IsShut}
use Rattle.host_port.specs.declared.request.Request.{Request}
use Rattle.world_rules.specs.declared.entry.Side.{Side}
use Rattle.world_rules.specs.Views.{Given, want_of, wanted_in, is_opened}
use Rattle.world_rules.specs.Calls.{call_of}
use Rattle.world_rules.specs.Mail.{mail_handles}
use Rattle.world_rules.specs.Streams.{Streamed, nothing_streamed, streamed_by}
use Rattle.world_rules.specs.World.{World, Process, is_away}
use Rattle.node_state.specs.Seats.{part_handles}

-- The very streams, beside what the journal says was streamed on them.

-- what a stream tells of itself bears out what was streamed on it: the bytes, where it tells them; and at least as many
-- faults, waits and empty answers, of which a count that stands at its end says no more
pub record BearsOut {S : Type 0} (tells : Told S) (streamed : Streamed) (s : S) : Type 0 where
  pub taken : IfSome (tells.taken s) (λ bytes. bytes ≡ streamed.taken)
  pub put : IfSome (tells.put s) (λ bytes. bytes ≡ streamed.put)
  pub faults : streamed.faults ≤ tells.faults s
  pub waits : streamed.waits ≤ tells.waits s
  pub empties : min streamed.empties (2 ^ 64 - 1) ≤ tells.empties s

-- a stream that can be used: it isn't down; and a closed one: it is
pub record IsOpen {S : Type 0} (tells : Told S) (streamed : ℕ → Streamed) (handle : Handle S) : Type 0 where
  pub bears_out : BearsOut tells (streamed handle.number) handle.stream
  pub up : tells.down handle.stream ≡ false

pub record IsClosed {S : Type 0} (tells : Told S) (streamed : ℕ → Streamed) (handle : Handle S) : Type 0 where
  pub bears_out : BearsOut tells (streamed handle.number) handle.stream
  pub down : tells.down handle.stream ≡ true

-- WHAT A WORKER BRINGS BACK

-- what was streamed, after a give that wants the answer to this request, with this side
abbrev pub streamed_beside : Option Request → Side → (ℕ → Streamed) → ℕ → Streamed
streamed_beside None side streamed = streamed
streamed_beside (Some request) side streamed = streamed_by (call_of request) request side streamed

-- the same after a give of this process
abbrev pub streamed_after : Process → Given → (ℕ → Streamed) → ℕ → Streamed
streamed_after p give streamed = streamed_beside (wanted_in (want_of give.halt) p.owed) give.side streamed

-- the streams that come back with a process: those in hand (of its table, by rising number, then of its scratch
-- message, by rising slot); those that its calls closed, in order; and one that was opened, which has no number yet
pub record BroughtStreams (S : Type 0) : Type 0 where
  pub hands : List (Handle S)
  pub shed : List (Handle S)
  pub arrived : Option S

-- they fit what was streamed: of them those that the calls closed are down, and no others; and a stream was opened
-- exactly where the side says so, and is fresh
pub record StreamsFit {S : Type 0} (tells : Told S) (streamed : ℕ → Streamed) (side : Side)
    (brought : BroughtStreams S) : Type 0 where
  pub hands : All (IsOpen tells streamed) brought.hands
  pub shed : All (IsClosed tells streamed) brought.shed
  pub arrived : is_some brought.arrived ≡ is_opened side
  pub fresh : IfSome brought.arrived (λ s. IsFresh (tells.down s) (tells.taken s) (tells.put s))

-- the stream that was opened, with its number
abbrev pub arrived_as : {S : Type 0} → ℕ → Option S → List (Handle S)
arrived_as number None = []
arrived_as number (Some s) = record { number = number; stream = s } ∷ []

-- WHAT A NODE HAS

-- the streams of a node: of each process at home those in hand; those of each mailbox, the oldest message first, by
-- rising slot; and the closed ones, in the order of closing
pub record Kept (S : Type 0) : Type 0 where
  pub hands : ℕ → List (Handle S)
  pub mail : ℕ → List (Handle S)
  pub closed : List (Handle S)

-- STREAMS STAND. Each stream bears out what was streamed on it in this world; the closed ones are down, and no others;
-- on a stream whose number isn't drawn yet nothing was streamed.
pub record StreamsStand {S : Type 0} (tells : Told S) (w : World) (kept : Kept S) : Type 0 where
  pub hands : (pid : ℕ) → All (IsOpen tells w.streamed) (kept.hands pid)
  pub mail : (pid : ℕ) → All (IsOpen tells w.streamed) (kept.mail pid)
  pub closed : All (IsClosed tells w.streamed) kept.closed
  pub undrawn : (handle : ℕ) → w.streams ≤ handle → w.streamed handle ≡ nothing_streamed

-- OWNED. The streams are those that the world has: each process that no worker has has those of its table and of its
-- scratch message in hand, one that a worker has has none here, each mailbox has those of its messages, and the closed
-- ones are the world's, in its order.
pub record AreOwned {S : Type 0} (w : World) (kept : Kept S) : Type 0 where
  pub hands : (pid : ℕ) → is_away (w.process pid).stage ≡ false →
      numbers_of (kept.hands pid) ≡ part_handles (w.process pid).part
  pub away : (pid : ℕ) → is_away (w.process pid).stage ≡ true → kept.hands pid ≡ []
  pub mail : (pid : ℕ) → numbers_of (kept.mail pid) ≡ mail_handles (w.process pid).mail
  pub closed : numbers_of kept.closed ≡ w.closed

-- HANDED ON. What stands in hand and in the mailbox of one process is from this pool, the very streams; what was closed
-- besides is what was shed, or from the pool and shut; the streams of all others stay.
pub record HandsOn {S : Type 0} (tells : Told S) (was is : Kept S) (pid : ℕ) (pool shed : List (Handle S))
    : Type 0 where
  pub in_hand : (handle : Handle S) → Contains (is.hands pid ++ is.mail pid) handle → Contains pool handle
  pub more : List (Handle S)
  pub closed : is.closed ≡ was.closed ++ more
  pub shut : (handle : Handle S) → Contains more handle →
      ∥ (Contains shed handle) ⊎ ((before : Handle S) × Contains pool before × IsShut tells before handle) ∥₁
  pub other_hands : (other : ℕ) → other ≢ pid → is.hands other ≡ was.hands other
  pub other_mail : (other : ℕ) → other ≢ pid → is.mail other ≡ was.mail other
