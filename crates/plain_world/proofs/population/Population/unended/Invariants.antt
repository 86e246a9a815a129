use Rattle.std.proofs.Common.{◌≡◌, ◌&&◌, nat_lt, nat_le, filter, take}
use Rattle.world_rules.specs.Touches.{is_there}
use Rattle.plain_world.specs.ShownProcess.{process_in}
use Rattle.plain_world.proofs.population.Population.unended.Given as goal

abbrev pub invariant-loop-pid : goal.invariant-loop-pid
invariant-loop-pid l =
    l.pids.items
    ≡ filter (λ pid. (nat_lt 0 pid && nat_le pid l.drawn) && is_there (process_in l.self.list pid).stage) (take l.pid-index l.pid-items)
