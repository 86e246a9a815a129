use Rattle.std.specs.Prelude.{◌≡◌, ℕ, zero, suc, ◌+◌, ◌≤◌, List, [], ◌∷◌, Option, Some, Bool, true, false, cond, length, slice_get}
use Rattle.host_port.specs.declared.start.Start.{Start}
use Rattle.world_rules.specs.declared.life.Ended.{Ended as EndMemory}
use Rattle.world_rules.specs.Book.{Book}
use Rattle.world_rules.specs.Mail.{MailItem}
use Rattle.world_rules.specs.World.{World, Process, Exit, unended_count, is_away, is_ended}
use Rattle.world_rules.specs.Sound.{AreInOrder, is_born}
use Rattle.world_rules.specs.Unmet.{AllUnmet}
use Rattle.world_rules.specs.Lives.{Setting, IsRun, EndsAreMemories}
use Rattle.node_state.specs.Seats.{Meaning}
use Rattle.node_mirror.specs.Slots.{Slot, SlotFits, is_giving}

-- What a node holds, and when that mirrors a world. A mirror holds also while an entry is performed, of the worlds
-- through which the rules go.

-- what a node holds: the slot, the mailbox and the deadline of each process number; the process that each name names;
-- the ready list; how many process numbers were drawn, and how many births the journal has; how many processes haven't
-- ended, and how many workers have; how many sends were answered 0; the time; how many Pending gives and early Ticks
-- the last entries are, in a row; whether the run is over; how many stream numbers were drawn; and the closed streams,
-- in order
pub record Held (E : Type 0) : Type 0 where
  pub slots : ℕ → Slot E
  pub mail : ℕ → List MailItem
  pub deadlines : ℕ → Option ℕ
  pub names : List ℕ → Option ℕ
  pub ready : List ℕ
  pub numbers : ℕ
  pub births : ℕ
  pub unended : ℕ
  pub out : ℕ
  pub sends : ℕ
  pub time : ℕ
  pub row : ℕ
  pub over : Bool
  pub streams : ℕ
  pub closed : List ℕ

-- of the processes 1 to n, how many workers have
abbrev pub away_count : (ℕ → Process) → ℕ → ℕ
away_count processes zero = 0
away_count processes (suc n) = away_count processes n + cond (is_away (processes (suc n)).stage) 1 0

-- each of these ends is that of a process that has ended
abbrev pub HaveEnded : (ℕ → Process) → List Exit → Type 0
HaveEnded processes [] = Unit {0}
HaveEnded processes (exit ∷ exits) = (is_ended (processes exit.pid).stage ≡ true) × HaveEnded processes exits

-- the program of a start is there
abbrev pub HasProgram : {P : Type 0} → List P → Start → Type 0
HasProgram {P = P} programs start = (program : P) × (slice_get programs start.«module» ≡ Some program)

-- MIRRORS. What a node holds is what this world says, but for the ready list, the row and the links, and the memories
-- that it keeps of the ended are theirs. The world is in order, nobody waits for what lies in its mailbox, each process
-- has its program, and no more numbers were drawn than births are told.
pub record Mirrors {E P : Type 0} (engines : Meaning E P) (setting : Setting P) (w : World) (held : Held E)
    (ends : List EndMemory) : Type 0 where
  pub order : AreInOrder w
  pub unmet : AllUnmet w
  pub programs : (pid : ℕ) → is_born (w.process pid).stage ≡ true →
      HasProgram setting.programs (w.process pid).start
  pub slots : (pid : ℕ) → SlotFits engines setting.programs (w.process pid) (held.slots pid)
  pub mail : (pid : ℕ) → (w.process pid).mail ≡ held.mail pid
  pub deadlines : (pid : ℕ) → (w.process pid).deadline ≡ held.deadlines pid
  pub names : (name : List ℕ) → w.names name ≡ held.names name
  pub numbers : w.numbers_drawn ≡ held.numbers
  pub births : w.spawns + 1 ≡ held.births
  pub drawn : w.numbers_drawn ≤ w.spawns + 1
  pub unended : unended_count w ≡ held.unended
  pub out : away_count w.process w.numbers_drawn ≡ held.out
  pub sends : w.sends ≡ held.sends
  pub time : w.time ≡ held.time
  pub over : w.over ≡ held.over
  pub streams : w.streams ≡ held.streams
  pub closed : w.closed ≡ held.closed
  pub ended : HaveEnded w.process w.exits
  pub memories : EndsAreMemories setting w.process w.exits ends
  pub room : length ends + held.unended ≡ held.numbers

-- the places that stay reserved: one for each Give that is to come, and Starve's while the run goes on
abbrev pub kept_places : ℕ → Bool → ℕ
kept_places out over = out + cond over 0 1

-- STANDS. What a node holds is what the world of its journal says, the journal is a run, and its reserved places are
-- there. No Give is being performed. The row is no longer than the journal.
pub record StandsFor {E P : Type 0} (engines : Meaning E P) (setting : Setting P) (book : Book) (w : World)
    (held : Held E) : Type 0 where
  pub run : IsRun setting book
  pub mirrors : Mirrors engines setting w held book.ends
  pub ready : w.ready ≡ held.ready
  pub row : w.row ≡ held.row
  pub performed : (pid : ℕ) → is_giving (held.slots pid) ≡ false
  pub room : kept_places held.out held.over ≤ book.entry_room
  pub row_bound : held.row ≤ length book.entries
