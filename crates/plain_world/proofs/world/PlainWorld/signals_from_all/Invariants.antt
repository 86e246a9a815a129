use Rattle.std.proofs.Common.{◌≡◌, flat_map, take}
use Rattle.world_rules.specs.Links.{signals_from}
use Rattle.plain_world.specs.Shown.{shown_world}
use Rattle.plain_world.proofs.world.PlainWorld.signals_from_all.Given as goal

abbrev pub invariant-loop-member : goal.invariant-loop-member
invariant-loop-member l =
    l.told.items ≡ flat_map (signals_from (shown_world l.self) l.members) (take l.member-index l.members)
