use Rattle.std.proofs.Common.{◌≡◌, filter, take}
use Rattle.world_rules.specs.World.{is_live}
use Rattle.plain_world.specs.Shown.{shown_world}
use Rattle.plain_world.proofs.world.PlainWorld.live_processes.Given as goal

abbrev pub invariant-loop-pid : goal.invariant-loop-pid
invariant-loop-pid l =
    l.pids.items ≡ filter (λ pid. is_live ((shown_world l.self).process pid).stage) (take l.pid-index l.pid-items)
