-- A run of one worker between two rounds.
use Rattle.std.specs.Prelude.{◌≡◌, ◌≢◌, ℕ, ◌+◌, ◌-◌, ◌*◌, ◌<◌, ◌≤◌, length, List, [], ◌∷◌, ◌++◌, All, Option}
use Rattle.std.specs.Prelude.{true, false, cond, is_some}
use Rattle.host_port.specs.declared.call.Call.{Call}
use Rattle.host_port.specs.declared.request.Request.{Request}
use Rattle.host_port.specs.declared.start.Start.{Start}
use Rattle.host_port.specs.declared.start.StartRefusal.{StartRefusal}
use Rattle.host_port.specs.Standing.{Standing}
use Rattle.world_rules.specs.declared.entry.Entry.{Entry}
use Rattle.world_rules.specs.declared.life.Birth.{Birth}
use Rattle.world_rules.specs.Views.{worker_of}
use Rattle.world_rules.specs.World.{World, Unborn, Waiting, first_world, is_away, is_live, is_ready}
use Rattle.world_rules.specs.Legal.{AllKeepRounds, TakesWhereReady, can_take}
use Rattle.world_rules.specs.Lives.{Setting}
use Rattle.process_table.specs.Seen.{Seen, setting_of, world_of}
use Rattle.process_table.specs.Takes.{IsTimed}
use Rattle.lunatic_cli.specs.Statuses.{AsksSomething, NoneEndsAll, EndsByLast}

-- Nobody but process 1 was born, it is at home, and it alone can be ready; it waits only where its program asks
-- something; and it is live while the run goes on.
pub record IsAtHome {P : Type 0} (setting : Setting P) (w : World) : Type 0 where
  pub drawn : w.numbers_drawn ≡ 1
  pub start : (w.process 1).start ≡ setting.first
  pub others : (pid : ℕ) → pid ≢ 1 → (w.process pid).stage ≡ Unborn
  pub home : is_away (w.process 1).stage ≡ false
  pub ready : w.ready ≡ cond (is_ready (w.process 1).stage) (1 ∷ []) []
  pub waits : (request : Request) → (w.process 1).stage ≡ Waiting request → AsksSomething setting
  pub live : w.over ≡ false → is_live (w.process 1).stage ≡ true

-- The entries are by worker 0, each Take has its Give, and what was ready after a Tick was taken. While the run goes
-- on, its row has reached the idle limit only where process 1's program asks something, and no entry ended all; a run
-- that is over ended by its last entry.
pub record IsResting {P : Type 0} (setting : Setting P) (births : List Birth) (w : World) (entries : List Entry)
    : Type 0 where
  pub at_home : IsAtHome setting w
  pub rounds : (more : List Entry) → AllKeepRounds births w more
      → AllKeepRounds births (first_world births) (entries ++ more)
  pub workers : All (λ entry. worker_of entry ≡ 0) entries
  pub asks : w.over ≡ false → setting.idle ≤ w.row → AsksSomething setting
  pub none_ended : w.over ≡ false → NoneEndsAll entries
  pub ended : w.over ≡ true → EndsByLast setting w entries

-- The same, where the worker has just read the clock: what is ready now is taken next.
pub record IsAwake {P : Type 0} (setting : Setting P) (births : List Birth) (w : World) (entries : List Entry)
    : Type 0 where
  pub at_home : IsAtHome setting w
  pub rounds : (more : List Entry) → TakesWhereReady (can_take w) 0 more → AllKeepRounds births w more
      → AllKeepRounds births (first_world births) (entries ++ more)
  pub workers : All (λ entry. worker_of entry ≡ 0) entries
  pub asks : w.over ≡ false → setting.idle ≤ w.row → AsksSomething setting
  pub none_ended : w.over ≡ false → NoneEndsAll entries
  pub ended : w.over ≡ true → EndsByLast setting w entries

-- the same of what contracts see of a node
abbrev pub NodeRests : {P S : Type 0} → (P → Start → Option StartRefusal)
    → (P → Start → List Call → ℕ → Option Standing) → Seen P S → Type 0
NodeRests begin at node =
    IsResting (setting_of begin at node) node.book.births (world_of node) node.book.entries

abbrev pub NodeWakes : {P S : Type 0} → (P → Start → Option StartRefusal)
    → (P → Start → List Call → ℕ → Option Standing) → Seen P S → Type 0
NodeWakes begin at node =
    IsAwake (setting_of begin at node) node.book.births (world_of node) node.book.entries

-- The worker has read the clock, where somebody waits with a deadline. The fuel stays, and no request is owed besides;
-- where nothing is ready after it, the row is longer by one, and a quiet Tick more was recorded; where a request is
-- owed, the row is no shorter.
pub record HasRead (was w : World) (quiet_before quiet : ℕ) : Type 0 where
  pub fuel : (w.process 1).fuel ≡ (was.process 1).fuel
  pub owes : cond {A = ℕ} (is_some (w.process 1).owed) 1 0 ≤ cond {A = ℕ} (is_some (was.process 1).owed) 1 0
  pub owing : is_some (w.process 1).owed ≡ true → was.row ≤ w.row
  pub over : w.over ≡ was.over
  pub early : w.ready ≡ [] → IsTimed w → w.row ≡ was.row + 1
  pub one_more : quiet ≤ quiet_before + 1
  pub no_fewer : quiet_before ≤ quiet
  pub waking : 0 < length w.ready → quiet ≡ quiet_before

-- what process 1 may still do: two for each instruction that its fuel allows, and one for a request that it owes
abbrev pub steps_left : {P : Type 0} → Setting P → World → ℕ
steps_left setting w =
    (setting.first.limits.fuel - (w.process 1).fuel) * 2 + cond (is_some (w.process 1).owed) 1 0

-- At most so many rounds are to come. Each executes an instruction of process 1, or answers the request that it owes,
-- which both break the row; or lengthens the row; or ends the run.
abbrev pub rounds_left : {P : Type 0} → Setting P → World → ℕ
rounds_left setting w = cond w.over 0 (steps_left setting w * (setting.idle + 1) + (setting.idle - w.row) + 1)
