use Rattle.std.specs.Prelude.{◌≡◌, ℕ, List, [], ◌∷◌, Bool, true, false, nat_eq, if◌then◌else◌}
use Rattle.world_rules.specs.declared.entry.Entry.{Entry}
use Rattle.world_rules.specs.declared.life.Birth.{Birth}
use Rattle.world_rules.specs.Part.{is_among}
use Rattle.world_rules.specs.Views.{Taking, deed_of}
use Rattle.world_rules.specs.World.{World, is_ready}
use Rattle.world_rules.specs.Rules.{next}

-- The ready list is a queue: who became ready earlier is taken earlier.

-- in a list of numbers the first of the two stands before the second
abbrev pub goes_before : ℕ → ℕ → List ℕ → Bool
goes_before first second [] = false
goes_before first second (number ∷ rest) =
    if nat_eq number first then is_among rest second else goes_before first second rest

-- a process is ready, and before another: the other isn't ready, or is behind it in the ready list
pub record IsAhead (w : World) (first second : ℕ) : Type 0 where
  pub ready : is_ready (w.process first).stage ≡ true
  pub before : is_ready (w.process second).stage ≡ true → goes_before first second w.ready ≡ true

-- a process is ready after each of these entries
abbrev pub StaysReady : List Birth → World → ℕ → List Entry → Type 0
StaysReady births w pid [] = Unit {0}
StaysReady births w pid (entry ∷ entries) =
    (is_ready ((next births w entry).process pid).stage ≡ true) × StaysReady births (next births w entry) pid entries

-- none of these entries takes a process
abbrev pub NoneTakes : ℕ → List Entry → Type 0
NoneTakes pid [] = Unit {0}
NoneTakes pid (entry ∷ entries) = ((worker : ℕ) → deed_of entry ≡ Taking worker pid → ⊥) × NoneTakes pid entries
