use Rattle.std.proofs.Common.{◌≡◌, [], ◌∷◌}
use Rattle.world_rules.specs.Links.{spread_times}
use Rattle.plain_world.specs.Shown.{shown_world}
use Rattle.plain_world.proofs.world.PlainWorld.spread_from.Given as goal

abbrev pub invariant-loop-round : goal.invariant-loop-round
invariant-loop-round l =
    l.members.items ≡ spread_times l._round (shown_world l.self) (l.pid ∷ [])
