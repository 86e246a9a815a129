use Rattle.std.proofs.Common.{◌≡◌, drop}
use Rattle.world_rules.specs.Links.{all_told}
use Rattle.plain_world.specs.Shown.{shown_world}
use Rattle.plain_world.proofs.world.PlainWorld.tell_all.Given as goal

abbrev pub invariant-loop-signal : goal.invariant-loop-signal
invariant-loop-signal l =
    all_told (shown_world l.self) (drop l.signal-index l.told) ≡ all_told (shown_world l.initial.self) l.told
