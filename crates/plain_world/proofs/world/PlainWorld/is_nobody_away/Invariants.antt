use Rattle.std.proofs.Common.{◌≡◌, ℕ, true, false, take}
use Rattle.world_rules.specs.Part.{is_among}
use Rattle.world_rules.specs.World.{is_away}
use Rattle.plain_world.specs.Shown.{shown_world}
use Rattle.plain_world.proofs.world.PlainWorld.is_nobody_away.Given as goal

abbrev pub invariant-loop-pid : goal.invariant-loop-pid
invariant-loop-pid l =
    (q : ℕ) → is_among (take l.pid-index l.pid-items) q ≡ true → is_away ((shown_world l.self).process q).stage ≡ false
