-- The asks of a script that a test runs.
use Rattle.std.specs.Prelude.{Bool, List, nat_eq}
use Rattle.std.specs.List.{list_all, list_any}
use Rattle.host_port.specs.declared.ask.Ask.{Ask}
use Rattle.host_port.specs.HostTable.{served}

-- the host serves the call of each of these asks
abbrev pub are_served : List Ask → Bool
are_served asks = list_all (λ ask. list_any (λ number. nat_eq number ask.call) served) asks
