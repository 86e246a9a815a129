-- How a run ends, and the status that its journal tells.
use Rattle.std.specs.Prelude.{◌≡◌, ℕ, ◌-◌, List, [], ◌∷◌, ◌++◌, Some, Bool, true, false, cond, slice_get}
use Rattle.std.specs.List.{list_any}
use Rattle.host_port.specs.declared.ask.Ask.{Ask}
use Rattle.host_port.specs.declared.call.Call.{Call}
use Rattle.host_port.specs.Standing.{Asking, state_of}
use Rattle.world_rules.specs.declared.entry.Entry.{Entry}
use Rattle.world_rules.specs.declared.entry.Entry.TheVariants as EntryIs
use Rattle.world_rules.specs.declared.halt.Halt.{Halt}
use Rattle.world_rules.specs.declared.halt.End.{End}
use Rattle.world_rules.specs.declared.halt.End.TheVariants as EndIs
use Rattle.world_rules.specs.Book.{Book}
use Rattle.world_rules.specs.Views.{Ends, want_of}
use Rattle.world_rules.specs.World.{World, Process, Ended}
use Rattle.world_rules.specs.Told.{told}
use Rattle.world_rules.specs.Lives.{Setting, IsTurnOf}

-- the entry ends a run in which nothing can happen any more
abbrev pub is_stall : Entry → Bool
is_stall (EntryIs.Take worker pid) = false
is_stall (EntryIs.Give worker pid calls fuel halt side) = false
is_stall (EntryIs.Tick worker now) = false
is_stall (EntryIs.Stall worker) = true
is_stall (EntryIs.Idle worker) = false
is_stall (EntryIs.Starve worker) = false

-- the entry ends a run that was idle for too long
abbrev pub is_idle : Entry → Bool
is_idle (EntryIs.Take worker pid) = false
is_idle (EntryIs.Give worker pid calls fuel halt side) = false
is_idle (EntryIs.Tick worker now) = false
is_idle (EntryIs.Stall worker) = false
is_idle (EntryIs.Idle worker) = true
is_idle (EntryIs.Starve worker) = false

-- the entry ends a run for want of memory
abbrev pub is_starve : Entry → Bool
is_starve (EntryIs.Take worker pid) = false
is_starve (EntryIs.Give worker pid calls fuel halt side) = false
is_starve (EntryIs.Tick worker now) = false
is_starve (EntryIs.Stall worker) = false
is_starve (EntryIs.Idle worker) = false
is_starve (EntryIs.Starve worker) = true

-- the status by the end of process 1: 0 where its entry function returned, 8 for want of memory, else 1
abbrev pub status_of_end : End → ℕ
status_of_end EndIs.Done = 0
status_of_end EndIs.NoMemory = 8
status_of_end _ = 1

-- the status of a run with these entries in which process 1 ended so: 8 where there is a Starve, else 7 where there
-- is an Idle, else 6 where there is a Stall
abbrev pub told_status : List Entry → End → ℕ
told_status entries end =
    cond (list_any is_starve entries) 8
    (cond (list_any is_idle entries) 7 (cond (list_any is_stall entries) 6 (status_of_end end)))

-- process 1 ended, and the journal tells this status
pub record HasStatus (book : Book) (status : ℕ) : Type 0 where
  pub end : End
  pub ended : ((told book).process 1).stage ≡ Ended end
  pub status_is : status ≡ told_status book.entries end

-- process 1's program, started as process 1 was, asks something
pub record AsksSomething {P : Type 0} (setting : Setting P) : Type 0 where
  pub program : P
  pub found : slice_get setting.programs setting.first.«module» ≡ Some program
  pub calls : List Call
  pub fuel : ℕ
  pub ask : Ask
  pub asks : state_of (setting.at program setting.first calls fuel) ≡ Some (Asking ask)

-- a Give with these calls, this fuel and this halt is a turn of process 1's program, started as process 1 was
pub record IsTurnOfFirst {P : Type 0} (setting : Setting P) (calls : List Call) (fuel : ℕ) (halt : Halt) : Type 0 where
  pub program : P
  pub found : slice_get setting.programs setting.first.«module» ≡ Some program
  pub process : Process
  pub start : process.start ≡ setting.first
  pub turn : IsTurnOf (setting.at program setting.first) process calls (fuel - process.fuel) halt

-- the entry ends process 1 so: by the halt of its turn; by a Stall or an Idle, which come only where its program asks
-- something; or for want of memory
abbrev pub EndsFirst : {P : Type 0} → Setting P → End → Entry → Type 0
EndsFirst setting end (EntryIs.Take worker pid) = ⊥
EndsFirst setting end (EntryIs.Give worker pid calls fuel halt side) =
    (want_of halt ≡ Ends end) × IsTurnOfFirst setting calls fuel halt
EndsFirst setting end (EntryIs.Tick worker now) = ⊥
EndsFirst setting end (EntryIs.Stall worker) = (end ≡ EndIs.Stalled) × AsksSomething setting
EndsFirst setting end (EntryIs.Idle worker) = (end ≡ EndIs.Idle) × AsksSomething setting
EndsFirst setting end (EntryIs.Starve worker) = end ≡ EndIs.NoMemory

-- no entry is a Stall, an Idle or a Starve
pub record NoneEndsAll (entries : List Entry) : Type 0 where
  pub stall : list_any is_stall entries ≡ false
  pub idle : list_any is_idle entries ≡ false
  pub starve : list_any is_starve entries ≡ false

-- process 1 ended by the last of these entries, and no entry before it is a Stall, an Idle or a Starve
pub record EndsByLast {P : Type 0} (setting : Setting P) (w : World) (entries : List Entry) : Type 0 where
  pub earlier : List Entry
  pub last : Entry
  pub entries_are : entries ≡ earlier ++ last ∷ []
  pub none_earlier : NoneEndsAll earlier
  pub end : End
  pub ended : (w.process 1).stage ≡ Ended end
  pub by : EndsFirst setting end last
