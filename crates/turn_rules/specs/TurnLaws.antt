use Rattle.std.specs.Prelude.{◌≡◌, ℕ, List}
use Rattle.host_port.specs.declared.call.Call.{Call}
use Rattle.turn_rules.specs.Turn.{Ending}

-- two turns are one: the same calls, the same fuel burnt and the same ending
pub record IsSameTurn (calls also : List Call) (used again : ℕ) (ending other : Ending) : Type 0 where
  pub same_calls : calls ≡ also
  pub same_used : used ≡ again
  pub same_ending : ending ≡ other
