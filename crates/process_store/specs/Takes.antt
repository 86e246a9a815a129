use Rattle.std.specs.Prelude.{◌≡◌, ◌⊎◌, ◌<◌, ◌≤◌, ℕ, ◌+◌, List, [], ◌∷◌, length, slice_get}
use Rattle.std.specs.Prelude.{Option, Some, None, IfSome, All, true, false}
use Rattle.host_port.specs.declared.start.Start.{Start}
use Rattle.world_rules.specs.declared.life.Birth.TheVariants.{Born}
use Rattle.world_rules.specs.declared.life.Ended.{Ended as EndMemory}
use Rattle.world_rules.specs.declared.entry.Entry.{Entry}
use Rattle.world_rules.specs.declared.entry.Entry.TheVariants as EntryIs
use Rattle.world_rules.specs.declared.entry.Side.{Side}
use Rattle.world_rules.specs.declared.entry.Side.TheVariants as SideIs
use Rattle.world_rules.specs.declared.halt.End.{End}
use Rattle.world_rules.specs.declared.halt.End.TheVariants as EndIs
use Rattle.world_rules.specs.Book.{Book}
use Rattle.world_rules.specs.World.{World, Out}
use Rattle.world_rules.specs.Time.{timed_processes}
use Rattle.resource_table.specs.Handles.{Handle}
use Rattle.resource_table.specs.Steps.{Told}
use Rattle.node_state.specs.Fits.{Brought, entry_of}
use Rattle.node_state.specs.Seats.{Meaning, Seat, IsSeatOf, IsOwed, IsOnce, phase_by}
use Rattle.node_state.specs.Streaming.{IsOpen}
use Rattle.node_mirror.specs.Slots.{Slot, Nobody, Home, Asleep, Giving, Away, Fated, Gone}
use Rattle.node_mirror.specs.Held.{away_count}
use Rattle.node_state.specs.Changes.{Records}
use Rattle.node_state.specs.Rows.{HasRows}
use Rattle.host_calls.specs.Shown.{seat_of, hands_of}
use Rattle.process_store.specs.declared.taken.Taken.{Taken}
use Rattle.process_store.specs.declared.taken.Taken.TheVariants as TakenIs
use Rattle.process_store.specs.Seen.{Seen, world_of, kept_in}

-- What the calls of a node answer and record.

-- the programs and the terms stay
pub record SameTerms {P S : Type 0} (old new : Seen P S) : Type 0 where
  pub programs : new.programs ≡ old.programs
  pub live : new.live ≡ old.live
  pub idle : new.idle ≡ old.idle
  pub births : new.book.births ≡ old.book.births

-- how many processes workers have
abbrev pub away_in : World → ℕ
away_in w = away_count w.process w.numbers_drawn

-- somebody waits with a deadline
abbrev pub IsTimed : World → Type 0
IsTimed w = 0 < length (timed_processes w)

-- nothing is ready, no worker has a process, and nobody waits with a deadline
pub record IsStuckNode (w : World) : Type 0 where
  pub none_ready : w.ready ≡ []
  pub away : away_in w ≡ 0
  pub untimed : timed_processes w ≡ []

-- the run was idle for as long as it may be
abbrev pub IsIdle : {P S : Type 0} → Seen P S → Type 0
IsIdle node = node.idle ≤ (world_of node).row

abbrev pub IsBusy : {P S : Type 0} → Seen P S → Type 0
IsBusy node = (world_of node).row < node.idle

-- these entries may end all, with these ends: where nothing is ready, no worker has a process and nobody waits with a
-- deadline; where the run was idle for too long; and for want of memory
abbrev pub MayEndAll : {P S : Type 0} → Seen P S → Entry → End → Type 0
MayEndAll node (EntryIs.Take worker pid) end = ⊥
MayEndAll node (EntryIs.Give worker pid calls fuel halt side) end = ⊥
MayEndAll node (EntryIs.Tick worker now) end = ⊥
MayEndAll node (EntryIs.Stall worker) end = (end ≡ EndIs.Stalled) × IsStuckNode (world_of node)
MayEndAll node (EntryIs.Idle worker) end = (end ≡ EndIs.Idle) × IsIdle node
MayEndAll node (EntryIs.Starve worker) end = end ≡ EndIs.NoMemory

-- exactly this entry was recorded, with the ends that it brought
abbrev pub RecordsEntry : Book → Book → Entry → Type 0
RecordsEntry old new entry = (ends : List EndMemory) × Records old new entry ends

-- the journal of a run in which process 1 was born so, and nothing else has happened
pub record BeginsWith (start : Start) (book : Book) : Type 0 where
  pub births : book.births ≡ Born start ∷ []
  pub entries : book.entries ≡ []
  pub ends : book.ends ≡ []

-- TICK. Exactly a Tick was recorded, with the time that the clock told, where it tells one.
pub record Ticks {P S : Type 0} (old new : Seen P S) (worker : ℕ) (clock : Option ℕ) : Type 0 where
  pub now : ℕ
  pub told : IfSome clock (λ time. now ≡ time)
  pub recorded : Records old.book new.book (EntryIs.Tick worker now) []
  pub spare : new.spare + 1 ≡ old.spare

-- The process at the front of the ready list is handed out, as the journal leaves it, and a Take is recorded; its Give
-- has a place. The program that its start names is there, and asks only calls that have a row.
pub record TakesProcess {E P S : Type 0} (engines : Meaning E P) (may_ask : P → ℕ → Type 0) (old new : Seen P S)
    (worker : ℕ) (seat : Seat E) : Type 0 where
  pub going : (world_of old).over ≡ false
  pub busy : IsBusy old
  pub front : slice_get (world_of old).ready 0 ≡ Some seat.start.pid
  pub recorded : Records old.book new.book (EntryIs.Take worker seat.start.pid) []
  pub seated : IsSeatOf engines old.programs ((world_of new).process seat.start.pid) (phase_by seat.owed) seat
  pub out : ((world_of new).process seat.start.pid).stage ≡ Out worker
  pub tries : IfSome seat.owed (IsOwed (engines.memory seat.engine) seat.part)
  pub once : IsOnce seat.part
  pub program : P
  pub found : slice_get old.programs seat.start.«module» ≡ Some program
  pub rows : HasRows may_ask program

-- the streams in hand come with it, and leave the node; its shed is empty
pub record TakesStreams {P S : Type 0} (tells : Told S) (old new : Seen P S) (pid : ℕ) (hands shed : List (Handle S))
    : Type 0 where
  pub hands_are : hands ≡ (kept_in old).hands pid
  pub stand : All (IsOpen tells (world_of new).streamed) hands
  pub left : (kept_in new).hands pid ≡ []
  pub closed : (kept_in new).closed ≡ (kept_in old).closed
  pub shed_empty : shed ≡ []

-- nothing is ready, but a worker has a process, or somebody waits with a deadline; nothing is recorded
pub record TakesNothing {P S : Type 0} (old new : Seen P S) : Type 0 where
  pub going : (world_of old).over ≡ false
  pub busy : IsBusy old
  pub none_ready : (world_of old).ready ≡ []
  pub awaits : ∥ (0 < away_in (world_of old)) ⊎ IsTimed (world_of old) ∥₁
  pub same : new.book ≡ old.book

-- the run was stuck, and a Stall is recorded
pub record Stalls {P S : Type 0} (old new : Seen P S) (worker : ℕ) : Type 0 where
  pub busy : IsBusy old
  pub none_ready : (world_of old).ready ≡ []
  pub away : away_in (world_of old) ≡ 0
  pub untimed : timed_processes (world_of old) ≡ []
  pub recorded : RecordsEntry old.book new.book (EntryIs.Stall worker)

-- the run is over: it was over, and nothing is recorded; or it is now, by an Idle where the run was idle for too long,
-- else by a Stall
pub record TakesOver {P S : Type 0} (old new : Seen P S) (worker : ℕ) : Type 0 where
  pub over : (world_of new).over ≡ true
  pub was_over : (world_of old).over ≡ true → new.book ≡ old.book
  pub idles : (world_of old).over ≡ false → IsIdle old → RecordsEntry old.book new.book (EntryIs.Idle worker)
  pub stalls : (world_of old).over ≡ false → IsBusy old → Stalls old new worker

-- a worker has the process, which is doomed
abbrev pub IsFatedSlot : {E : Type 0} → Slot E → Type 0
IsFatedSlot Nobody = ⊥
IsFatedSlot (Home seat) = ⊥
IsFatedSlot (Asleep seat ask) = ⊥
IsFatedSlot (Giving seat ask) = ⊥
IsFatedSlot (Away worker) = ⊥
IsFatedSlot (Fated worker end) = Unit {0}
IsFatedSlot Gone = ⊥

-- what a take answers
abbrev pub IsTaken : {E O P S L : Type 0} → Meaning E P → (P → ℕ → Type 0) → Told S → Seen P S → Seen P S → ℕ
    → Taken E O P S L → Type 0
IsTaken engines may_ask tells old new worker (TakenIs.Proc proc) =
    TakesProcess engines may_ask old new worker (seat_of proc)
    × TakesStreams tells old new proc.start.pid (hands_of proc) proc.shed
IsTaken engines may_ask tells old new worker TakenIs.Nothing = TakesNothing old new
IsTaken engines may_ask tells old new worker TakenIs.Over = TakesOver old new worker

-- exactly a Give was recorded, beside what came with the turn, or beside a refusal of memory
abbrev pub RecordsGive : {E : Type 0} → Book → Book → (worker pid : ℕ) → Brought E → Type 0
RecordsGive old new worker pid brought =
    (recorded : Side)
    × ∥ (recorded ≡ brought.side) ⊎ ((brought.side ≡ SideIs.Nothing) × (recorded ≡ SideIs.NoMemory)) ∥₁
    × RecordsEntry old new (entry_of worker pid brought recorded)
