use Rattle.std.proofs.Common.{◌≡◌, drop}
use Rattle.world_rules.specs.Ends.{all_struck}
use Rattle.plain_world.specs.Shown.{shown_world}
use Rattle.plain_world.proofs.world.PlainWorld.strike_all.Given as goal

abbrev pub invariant-loop-pid : goal.invariant-loop-pid
invariant-loop-pid l =
    all_struck (shown_world l.self) (drop l.pid-index l.pids) l.end ≡ all_struck (shown_world l.initial.self) l.pids l.end
