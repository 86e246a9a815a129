use Rattle.std.specs.Prelude.{◌≡◌, ◌||◌, ◌&&◌, ℕ, List, ◌++◌, filter, not, Bool, true}
use Rattle.world_rules.specs.Part.{is_among}
use Rattle.world_rules.specs.Touches.{is_there}
use Rattle.world_rules.specs.World.{Process, is_ready, up_to}
use Rattle.plain_world.specs.declared.process.PlainProcess.{PlainProcess}
use Rattle.plain_world.specs.ShownProcess.{process_in}

-- the ready list, the front first, and the process of each number, from 0 on; past the last one nobody was born
pub record Population : Type 0 where
  pub ready : List ℕ
  pub list : List PlainProcess

-- each process that was born and has not ended is among these numbers, and each that is ready is in the ready list or
-- among the woken
pub record AreWatched (listed : List ℕ) (process : ℕ → Process) (unended woken : List ℕ) : Type 0 where
  pub there : (pid : ℕ) → is_there (process pid).stage ≡ true → is_among unended pid ≡ true
  pub ready : (pid : ℕ) → is_ready (process pid).stage ≡ true → (is_among listed pid || is_among woken pid) ≡ true

-- those of these processes that are ready
abbrev pub ready_in : Population → List ℕ → List ℕ
ready_in all pids = filter (λ pid. is_ready (process_in all.list pid).stage) pids

-- a process is ready, and neither in the ready list nor the giver
abbrev pub is_made_ready : Population → List ℕ → ℕ → Bool
is_made_ready all giver pid = is_ready (process_in all.list pid).stage && not (is_among (all.ready ++ giver) pid)

-- of so many processes those that were made ready, by rising number
abbrev pub made_ready : Population → List ℕ → ℕ → List ℕ
made_ready all giver drawn = ready_in all (filter (λ pid. not (is_among (all.ready ++ giver) pid)) (up_to drawn))

-- the ready list after an entry: those that are still ready, those that were made ready, and the giver
abbrev pub ready_after : Population → List ℕ → ℕ → List ℕ
ready_after all giver drawn = ready_in all all.ready ++ made_ready all giver drawn ++ ready_in all giver
