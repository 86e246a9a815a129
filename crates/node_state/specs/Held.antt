use Rattle.std.specs.Prelude.{◌≡◌, ◌≢◌, ℕ, zero, suc, ◌+◌, ◌≤◌, List, [], ◌∷◌, Option, None, Bool, true, false, cond, nat_eq, length}
use Rattle.std.specs.List.{list_any}
use Rattle.world_rules.specs.Book.{Book}
use Rattle.world_rules.specs.Mail.{MailItem}
use Rattle.world_rules.specs.World.{World, Process, Unborn, Exit, is_live, is_ready, is_away, is_ended}
use Rattle.world_rules.specs.Lives.{Setting, IsRun}
use Rattle.node_state.specs.Seats.{Meaning}
use Rattle.node_state.specs.Slots.{Slot, SlotFits}

-- What a node holds, and when that stands for a journal.

-- what a node holds: the slot, the mailbox and the deadline of each process number; the ready list; how many sends were
-- answered 0; the time; how many Pending gives and early Ticks the last entries are, in a row; whether the run is over;
-- how many processes workers have; how many stream numbers were drawn; and the closed streams, in order
pub record Held (E : Type 0) : Type 0 where
  pub slots : ℕ → Slot E
  pub mail : ℕ → List MailItem
  pub deadlines : ℕ → Option ℕ
  pub ready : List ℕ
  pub sends : ℕ
  pub time : ℕ
  pub row : ℕ
  pub over : Bool
  pub out : ℕ
  pub streams : ℕ
  pub closed : List ℕ

-- the number is in the list
abbrev pub is_in : ℕ → List ℕ → Bool
is_in pid pids = list_any (nat_eq pid) pids

-- each in the list is ready, and stands there once
abbrev pub AreReady : (ℕ → Process) → List ℕ → Type 0
AreReady processes [] = Unit {0}
AreReady processes (pid ∷ pids) =
    (is_ready (processes pid).stage ≡ true) × (is_in pid pids ≡ false) × AreReady processes pids

-- of the processes 1 to n, how many workers have
abbrev pub away_count : (ℕ → Process) → ℕ → ℕ
away_count processes zero = 0
away_count processes (suc n) = away_count processes n + cond (is_away (processes (suc n)).stage) 1 0

-- the ready list is the world's: exactly the processes that are ready, each once
pub record ListsReady (w : World) (ready : List ℕ) : Type 0 where
  pub same : w.ready ≡ ready
  pub each : AreReady w.process ready
  pub all : (pid : ℕ) → is_ready (w.process pid).stage ≡ true → is_in pid ready ≡ true

-- MIRRORS. What a node holds is what the world says. No two processes are linked yet.
pub record Mirrors {E P : Type 0} (engines : Meaning E P) (programs : List P) (w : World) (held : Held E) : Type 0 where
  pub ready : ListsReady w held.ready
  pub slots : (pid : ℕ) → SlotFits engines programs (w.process pid) (held.slots pid)
  pub mail : (pid : ℕ) → (w.process pid).mail ≡ held.mail pid
  pub deadlines : (pid : ℕ) → (w.process pid).deadline ≡ held.deadlines pid
  pub sends : w.sends ≡ held.sends
  pub time : w.time ≡ held.time
  pub row : w.row ≡ held.row
  pub over : w.over ≡ held.over
  pub out : away_count w.process w.numbers_drawn ≡ held.out
  pub streams : w.streams ≡ held.streams
  pub closed : w.closed ≡ held.closed
  pub unlinked : (a b : ℕ) → w.links a b ≡ None

-- the places that stay reserved: one for each Give that is to come, and Starve's while the run goes on
abbrev pub kept_places : ℕ → Bool → ℕ
kept_places out over = out + cond over 0 1

-- each of these ends is that of a process that has ended
abbrev pub HaveEnded : (ℕ → Process) → List Exit → Type 0
HaveEnded processes [] = Unit {0}
HaveEnded processes (exit ∷ exits) = (is_ended (processes exit.pid).stage ≡ true) × HaveEnded processes exits

-- no process but the first is born yet: no call that is served draws a number. It has its number, no end before it has
-- ended, and is live while the run goes on.
pub record IsFirstAlone (w : World) : Type 0 where
  pub numbered : (w.process 1).start.pid ≡ 1
  pub drawn : w.numbers_drawn ≡ 1
  pub others : (pid : ℕ) → pid ≢ 1 → (w.process pid).stage ≡ Unborn
  pub ends : is_ended (w.process 1).stage ≡ false → w.exits ≡ []
  pub going : w.over ≡ false → is_live (w.process 1).stage ≡ true

-- STANDS. What a node holds is what the world w of its journal says, the journal is a run, and its reserved places are
-- there. After the run is over nobody is live. The row is no longer than the journal.
pub record StandsFor {E P : Type 0} (engines : Meaning E P) (setting : Setting P) (book : Book) (w : World)
    (held : Held E) : Type 0 where
  pub run : IsRun setting book
  pub mirrors : Mirrors engines setting.programs w held
  pub quiet : held.over ≡ true → (pid : ℕ) → is_live (w.process pid).stage ≡ false
  pub room : kept_places held.out held.over ≤ book.entry_room
  pub row_bound : held.row ≤ length book.entries
  pub ended : HaveEnded w.process w.exits
  pub first : IsFirstAlone w
