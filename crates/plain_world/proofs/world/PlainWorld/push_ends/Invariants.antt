use Rattle.std.proofs.Common.{◌≡◌, ◌++◌, drop}
use Rattle.world_rules.specs.Report.{end_lines}
use Rattle.plain_world.specs.Shown.{shown_world}
use Rattle.plain_world.proofs.world.PlainWorld.push_ends.Given as goal

abbrev pub invariant-loop-place : goal.invariant-loop-place
invariant-loop-place l =
    l.text.items ++ end_lines (shown_world l.self).process (drop l.place (shown_world l.self).exits) (drop l.place l.ends)
    ≡ l.fn.text.items ++ end_lines (shown_world l.self).process (drop l.told (shown_world l.self).exits) (drop l.told l.ends)
