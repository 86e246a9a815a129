use Rattle.std.proofs.Common.{◌≡◌, ◌&&◌, nat_lt, nat_le, not, filter, take}
use Rattle.world_rules.specs.Part.{is_among}
use Rattle.world_rules.specs.World.{is_live}
use Rattle.plain_world.specs.Shown.{shown_world}
use Rattle.plain_world.proofs.world.PlainWorld.outsiders.Given as goal

abbrev pub invariant-loop-pid : goal.invariant-loop-pid
invariant-loop-pid l =
    l.others.items
    ≡ filter (λ pid. (nat_lt 0 pid && nat_le pid l.self.numbers_drawn) && (not (is_among l.members pid) && is_live ((shown_world l.self).process pid).stage))
    (take l.pid-index l.pid-items)
