use Rattle.std.proofs.Common.{◌≡◌, ◌&&◌, ◌||◌, nat_lt, nat_le, filter, take}
use Rattle.world_rules.specs.Part.{is_among}
use Rattle.world_rules.specs.Links.{falls_with}
use Rattle.plain_world.specs.Shown.{shown_world}
use Rattle.plain_world.proofs.world.PlainWorld.spread.Given as goal

abbrev pub invariant-loop-pid : goal.invariant-loop-pid
invariant-loop-pid l =
    l.more.items
    ≡ filter (λ pid. (nat_lt 0 pid && nat_le pid l.self.numbers_drawn) && (is_among l.members pid || falls_with (shown_world l.self) l.members pid))
    (take l.pid-index l.pid-items)
