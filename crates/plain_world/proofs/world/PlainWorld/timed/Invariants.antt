use Rattle.std.proofs.Common.{◌≡◌, filter, take}
use Rattle.world_rules.specs.Time.{has_deadline}
use Rattle.plain_world.specs.Shown.{shown_world}
use Rattle.plain_world.proofs.world.PlainWorld.timed.Given as goal

abbrev pub invariant-loop-pid : goal.invariant-loop-pid
invariant-loop-pid l =
    l.timed.items ≡ filter (λ pid. has_deadline ((shown_world l.self).process pid)) (take l.pid-index l.pid-items)
