use Rattle.std.specs.Prelude.{ℕ, List, slice_get, Option, nat_eq, if◌then◌else◌}
use Rattle.std.specs.Option.{option_flatten}
use Rattle.host_port.specs.Allowance.{Allowance}

-- The configs of a process, which are kept in a list.

-- the limits of the config of each number: what stands at its place, and none past the last
abbrev pub config_at : List (Option Allowance) → ℕ → Option Allowance
config_at configs number = option_flatten (slice_get configs number)

-- the configs, these limits, or none, at one number
abbrev pub put_config : ℕ → Option Allowance → (ℕ → Option Allowance) → ℕ → Option Allowance
put_config number limits configs other = if nat_eq other number then limits else configs other
