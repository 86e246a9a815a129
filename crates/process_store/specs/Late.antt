use Rattle.std.specs.Prelude.{◌≡◌, ℕ, Option, Some, None}
use Rattle.std.specs.Ordering.{nat_cmp}
use Rattle.std.specs.FinMap.{FinMap, insert}
use Rattle.host_port.specs.declared.ask.Ask.{Ask}
use Rattle.host_port.specs.Areas.{request_of}
use Rattle.world_rules.specs.Calls.{call_of}
use Rattle.world_rules.specs.Time.{late_reply}
use Rattle.node_state.specs.Fits.{IsAnswered}
use Rattle.node_state.specs.Seats.{Meaning, Seat}
use Rattle.node_mirror.specs.Slots.{Asleep}
use Rattle.node_mirror.specs.Steps.{home}
use Rattle.process_store.specs.declared.store.Store.{Store}
use Rattle.process_store.specs.Holds.{Becomes, held_of, place_at}

-- Waits, and waits that are over.

-- LATE. The process of this number waited; it was told that its time is over, and is at home.
pub record ComesLate {E O P S L : Type 0} (engines : Meaning E P) (old new : Store E O P S L) (pid : ℕ) : Type 0 where
  pub seat : Seat E
  pub ask : Ask
  pub engine : E
  pub waited : place_at old pid ≡ Asleep seat ask
  pub told : IsAnswered engines seat.engine (late_reply (call_of (request_of (engines.memory seat.engine) ask))) engine
  pub held : Becomes new (home (held_of old) pid (record seat { engine = engine }))

-- the deadline of a process that waits is set; a wait without end has none
abbrev pub SetsDeadline : (old new : FinMap nat_cmp ℕ) (pid : ℕ) → Option ℕ → Type 0
SetsDeadline old new pid None = new ≡ old
SetsDeadline old new pid (Some at) = new ≡ insert old pid at
