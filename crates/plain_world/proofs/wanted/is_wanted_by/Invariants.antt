use Rattle.std.proofs.Common.{◌≡◌, length, nat_eq, ◌≤◌}
use Rattle.std.specs.List.{list_any}
use Rattle.world_rules.specs.Mail.{tags_in}
use Rattle.plain_world.proofs.wanted.is_wanted_by.Given as goal

abbrev pub invariant-loop-rest : goal.invariant-loop-rest
invariant-loop-rest l = (8 ≤ length l.tags) × (list_any (nat_eq l.tag) (tags_in l.tags) ≡ list_any (nat_eq l.tag) (tags_in l.rest))

abbrev pub decreases-loop-rest : goal.decreases-loop-rest
decreases-loop-rest l = length l.rest
