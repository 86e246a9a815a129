use Rattle.std.proofs.Common.{◌≡◌, ℕ, List, ◌∙◌, sym, subst}
use Rattle.std.specs.Prelude.{IfOk}
use Rattle.world_rules.specs.Report.{IsReportable, report_text}
use Rattle.plain_world.specs.Journal.{book_of}
use Rattle.journal.proofs.SameLists.{reportable_bare, report_bare}
use Rattle.journal.proofs.report_text.report.Goals as goal

pub report-requires : goal.report-requires
report-requires c =
    subst IsReportable
    (λ k. book_of (sym c.births.ensures k) (sym c.entries.ensures k) (sym c.ends.ensures k))
    (reportable_bare c.args.journal.now c.requires)

pub returns : goal.returns
returns c =
    let same : report_text (book_of c.births.result.now c.entries.result.now c.ends.result.now) ≡ report_text c.args.journal.now =
    (λ k. report_text (book_of (c.births.ensures k) (c.entries.ensures k) (c.ends.ensures k)))
    ∙ report_bare c.args.journal.now in
    subst (λ (bytes : List ℕ). IfOk c.report.result (λ text. text.items ≡ bytes)) same c.report.ensures
