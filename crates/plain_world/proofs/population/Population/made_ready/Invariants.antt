use Rattle.std.proofs.Common.{◌≡◌, ◌&&◌, nat_lt, nat_le, filter, take}
use Rattle.std.specs.Option.{option_to_list}
use Rattle.plain_world.specs.Population.{is_made_ready}
use Rattle.plain_world.proofs.population.Population.made_ready.Given as goal

abbrev pub invariant-loop-pid : goal.invariant-loop-pid
invariant-loop-pid l =
    l.pids.items
    ≡ filter (λ pid. (nat_lt 0 pid && nat_le pid l.drawn) && is_made_ready l.self (option_to_list l.giver) pid) (take l.pid-index l.pid-items)
