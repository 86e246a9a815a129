use Rattle.std.proofs.Common.{◌≡◌, sym, ◌∙◌, ap, subst}
use Rattle.world_rules.specs.Report.{IsReportable}
use Rattle.plain_world.specs.Journal.{book_of}
use Rattle.plain_world.specs.Kept.{empty_ends}
use Rattle.plain_world.specs.Shown.{shown_world}
use Rattle.plain_world.proofs.RunLaws.{run_reportable}
use Rattle.plain_world.proofs.run.PlainRun.report.Goals as goal

pub report-requires : goal.report-requires
report-requires c =
    let births : c.self.inside.births.items ≡ c.as_slice-2.result.now = sym c.as_slice-2.ensures.value in
    let entries : c.self.inside.entries.items ≡ c.as_slice-3.result.now = sym c.as_slice-3.ensures.value in
    let ends : empty_ends c.self.inside.world.exits.items ≡ c.as_slice-4.result.now =
    sym (c.as_slice-4.ensures.value ∙ c.in_ok-ends.ensures ∙ ap empty_ends c.as_slice.ensures.value) in
    subst IsReportable (λ k. book_of (births k) (entries k) (ends k))
    (run_reportable c.self.inside.births.items c.self.inside.entries.items (shown_world c.self.inside.world) c.self.invariant)
