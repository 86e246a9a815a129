use Rattle.std.proofs.Common.{◌≡◌, ◌++◌, take}
use Rattle.world_rules.specs.Report.{printed}
use Rattle.plain_world.proofs.report_lines.push_printed.Given as goal

abbrev pub invariant-loop-call : goal.invariant-loop-call
invariant-loop-call l = l.text.items ≡ l.fn.text.items ++ printed (take l.call-index l.calls)
