use Rattle.std.proofs.Common.{◌≡◌, drop}
use Rattle.world_rules.specs.Time.{all_timed_out}
use Rattle.plain_world.specs.Shown.{shown_world}
use Rattle.plain_world.proofs.world.PlainWorld.time_out_all.Given as goal

abbrev pub invariant-loop-pid : goal.invariant-loop-pid
invariant-loop-pid l = all_timed_out (shown_world l.self) (drop l.pid-index l.pids) ≡ all_timed_out (shown_world l.initial.self) l.pids
