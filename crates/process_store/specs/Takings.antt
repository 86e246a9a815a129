use Rattle.std.specs.Prelude.{◌≡◌, ℕ, List, [], ◌∷◌, ◌++◌, Option, Some, None, IfSome, true, false}
use Rattle.std.specs.Option.{option_to_list}
use Rattle.world_rules.specs.Part.{is_among}
use Rattle.node_mirror.specs.Slots.{Slot, Home, is_home}
use Rattle.node_mirror.specs.Steps.{replaced, taken}
use Rattle.host_calls.specs.Shown.{seat_of, hands_of}
use Rattle.host_calls.specs.declared.proc.Proc.{Proc}
use Rattle.process_store.specs.declared.store.Store.{Store}
use Rattle.process_store.specs.Holds.{held_of, kept_of, place_at, ready_of}

-- What a store hands out to a worker.

-- SKIPS. Those of the queue that stood before the next aren't at home, and have left it; the next is at home, and has
-- left it too; where there is none, the queue is empty.
pub record Skips {E O P S L : Type 0} (old new : Store E O P S L) (next : Option ℕ) : Type 0 where
  pub skipped : List ℕ
  pub queue : old.queue.ready ≡ skipped ++ (option_to_list next ++ new.queue.ready)
  pub absent : (pid : ℕ) → is_among skipped pid ≡ true → is_home (place_at old pid) ≡ false
  pub next_home : IfSome next (λ pid. is_home (place_at old pid) ≡ true)
  pub none : next ≡ None → new.queue.ready ≡ []

-- TAKES. This process is the first that is ready; it leaves its home for this worker, with all that it has in hand, and
-- the others stay as they were.
pub record TakesOut {E O P S L : Type 0} (old new : Store E O P S L) (worker pid : ℕ) (proc : Proc E O P S L)
    : Type 0 where
  pub home : place_at old pid ≡ Home (seat_of proc)
  pub rest : List ℕ
  pub ready : ready_of old ≡ pid ∷ rest
  pub held : held_of new ≡ record (taken (held_of old) pid worker) { ready = rest }
  pub hands : (kept_of old).hands pid ≡ hands_of proc
  pub kept : kept_of new ≡ record (kept_of old) { hands = replaced (kept_of old).hands pid [] }
  pub shed : proc.shed ≡ []

-- nobody is ready, and what is held stays
pub record TakesNobody {E O P S L : Type 0} (old new : Store E O P S L) : Type 0 where
  pub ready : ready_of old ≡ []
  pub held : held_of new ≡ held_of old
  pub kept : kept_of new ≡ kept_of old

abbrev pub IsTakenOut : {E O P S L : Type 0} → Store E O P S L → Store E O P S L → (worker : ℕ)
    → Option (ℕ × Proc E O P S L) → Type 0
IsTakenOut old new worker None = TakesNobody old new
IsTakenOut old new worker (Some taken) = TakesOut old new worker taken.0 taken.1
