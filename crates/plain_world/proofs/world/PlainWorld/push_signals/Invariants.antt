use Rattle.std.proofs.Common.{◌≡◌, ◌++◌, take}
use Rattle.plain_world.specs.Fall.{signals_to}
use Rattle.plain_world.specs.Shown.{shown_world}
use Rattle.plain_world.proofs.world.PlainWorld.push_signals.Given as goal

abbrev pub invariant-loop-pid : goal.invariant-loop-pid
invariant-loop-pid l =
    l.told.items ≡ l.fn.told.items ++ signals_to (shown_world l.self) l.member (take l.pid-index l.outsiders)
