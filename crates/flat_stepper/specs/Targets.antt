-- The targets of a body's map, by its lists.
use Rattle.std.specs.Prelude.{ℕ, ◌+◌, slice_get, Option, option_and_then}
use Rattle.code_map.specs.declared.target.Target.{Target}
use Rattle.flat_stepper.specs.declared.within.Within.{Within}

-- the target at this place
abbrev pub target_of : (within : Within) → (pc : ℕ) → Option Target
target_of within pc = option_and_then (slice_get within.targets.now) (slice_get within.slots.now pc)

-- the target with this number of the br_table at this place
abbrev pub entry_of : (within : Within) → (pc number : ℕ) → Option Target
entry_of within pc number =
    option_and_then (λ first. slice_get within.tables.now (first + number)) (slice_get within.slots.now pc)
