use Rattle.std.specs.Prelude.{ℕ, List}
use Rattle.host_port.specs.declared.call.Call.{Call}
use Rattle.world_rules.specs.declared.entry.Side.{Side}
use Rattle.world_rules.specs.declared.halt.Halt.{Halt}
use Rattle.world_rules.specs.Views.{Given}

-- a process that a worker gives back: its calls, its fuel, why its turn ended, and what came from outside
abbrev pub give_of : (worker pid : ℕ) → List Call → (fuel : ℕ) → Halt → Side → Given
give_of worker pid calls fuel halt side =
    record { worker = worker; pid = pid; calls = calls; fuel = fuel; halt = halt; side = side }
