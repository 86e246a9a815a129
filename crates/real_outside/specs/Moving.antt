-- How many bytes a call on a socket moved.
use Rattle.std.specs.Prelude.{ℕ, ◌≤◌}
use Rattle.outside.specs.declared.stream.IoStep.{IoStep}
use Rattle.outside.specs.declared.stream.IoStep.TheVariants.{Done, NotReady, Failed}

-- no more bytes were moved than there are
abbrev pub IsWithin : ℕ → IoStep → Type 0
IsWithin size (Done n) = n ≤ size
IsWithin size NotReady = Unit {0}
IsWithin size Failed = Unit {0}
