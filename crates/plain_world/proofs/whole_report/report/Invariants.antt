use Rattle.std.proofs.Common.{drop}
use Rattle.plain_world.specs.Shown.{shown_world}
use Rattle.plain_world.proofs.ReportSteps.{IsReported}
use Rattle.plain_world.proofs.whole_report.report.Given as goal

abbrev pub invariant-loop-entry : goal.invariant-loop-entry
invariant-loop-entry l =
    IsReported l.births (shown_world l.world) l.text.items l.entries (drop l.entry-index l.entries) l.ends
