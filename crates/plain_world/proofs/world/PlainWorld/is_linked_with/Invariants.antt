use Rattle.std.proofs.Common.{◌≡◌, drop}
use Rattle.std.specs.List.{list_any}
use Rattle.world_rules.specs.Links.{are_linked}
use Rattle.plain_world.specs.Shown.{shown_world}
use Rattle.plain_world.proofs.world.PlainWorld.is_linked_with.Given as goal

abbrev pub invariant-loop-member : goal.invariant-loop-member
invariant-loop-member l =
    list_any (λ member. are_linked (shown_world l.self) member l.pid) (drop l.member-index l.members)
    ≡ list_any (λ member. are_linked (shown_world l.self) member l.pid) l.members
