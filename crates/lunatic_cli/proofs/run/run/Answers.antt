use Rattle.std.proofs.Common.{map, subst, inl, inr, refl}
use Rattle.world_rules.specs.laws.LifeLaws.{run_reportable}
use Rattle.world_rules.specs.Lives.{Setting}
use Rattle.world_rules.specs.Told.{told}
use Rattle.module_validator.specs.ValidModule.{ValidModule}
use Rattle.lunatic_cli.specs.Statuses.{is_stall, EndsByLast}
use Rattle.lunatic_cli.proofs.FirstNode.{setting-valid}
use Rattle.lunatic_cli.proofs.OneModule.{journal-of-first}
use Rattle.lunatic_cli.proofs.Outsides.{falls-refl, goes-refl}
use Rattle.lunatic_cli.proofs.Returned.{done-or-memory, unstarted-memory}
use Rattle.lunatic_cli.proofs.LastEntries.{stall-or-idle}
use Rattle.lunatic_cli.proofs.Told.{reports-told, told-ran, unstarted-blank}
use Rattle.lunatic_cli.proofs.run.run.Goals as goal

-- process 1 can't start

pub returns-in-Err-clause-runs : goal.returns-in-Err-clause-runs
returns-in-Err-clause-runs g c = inr (c.end_unstarted.ensures.ends c.args.options.now c.args.valid.parts c.in-Err.ensures.refused)

pub returns-in-Err-clause-one_cause : goal.returns-in-Err-clause-one_cause
returns-in-Err-clause-one_cause g c stall =
    unstarted-blank is_stall c.args.options.now c.args.valid.parts _ c.end_unstarted.result
    (c.end_unstarted.ensures.ends c.args.options.now c.args.valid.parts c.in-Err.ensures.refused) stall

pub returns-in-Err-clause-returned : goal.returns-in-Err-clause-returned
returns-in-Err-clause-returned g c returns stayed =
    inr (unstarted-memory c.args.options.now c.args.valid.parts _ c.end_unstarted.result returns (c.end_unstarted.ensures.ends c.args.options.now c.args.valid.parts c.in-Err.ensures.refused))

pub returns-in-Err-clause-clocks : goal.returns-in-Err-clause-clocks
returns-in-Err-clause-clocks g c = goes-refl (map g.O.Outside.clock c.args.outsides.now.items)

pub returns-in-Err-clause-faults : goal.returns-in-Err-clause-faults
returns-in-Err-clause-faults g c = falls-refl (map g.O.Outside.faults c.args.outsides.now.items)

pub returns-in-Err-clause-waits : goal.returns-in-Err-clause-waits
returns-in-Err-clause-waits g c = falls-refl (map g.O.Outside.waits c.args.outsides.now.items)

pub returns-in-Err-clause-rests : goal.returns-in-Err-clause-rests
returns-in-Err-clause-rests g c = falls-refl (map g.O.Outside.rests c.args.outsides.now.items)

-- the run is over

pub write_report-status-requires-clause-reportable : goal.write_report-status-requires-clause-reportable
write_report-status-requires-clause-reportable g c =
    run_reportable _ c.run_first-journal.result.journal c.run_first-journal.ensures.journal.journal_is_run

pub returns-clause-runs : goal.returns-clause-runs
returns-clause-runs g c =
    inl (record {
      begun = refl;
      journal = journal-of-first c.args.options.now c.args.valid c.in-Ok.node _ _ c.run_first-journal.result.journal c.run_first-journal.result.closed.items
          c.in-Ok.ensures.made c.run_first-journal.ensures.journal;
      writes = c.write_report-status.ensures.writes;
    })

pub returns-clause-returned : goal.returns-clause-returned
returns-clause-returned g c returns stayed =
    let ended = subst (λ (s : Setting ValidModule). EndsByLast s (told c.run_first-journal.result.journal) c.run_first-journal.result.journal.entries)
    (setting-valid c.args.options.now c.args.valid c.in-Ok.node c.in-Ok.ensures.made) c.run_first-journal.ensures.ended in
    done-or-memory c.args.options.now c.args.valid c.run_first-journal.result.journal c.write_report-status.result _ _ _ _ returns ended
    c.write_report-status.ensures.writes c.write_report-status.ensures.unwritten stayed

pub returns-clause-one_cause : goal.returns-clause-one_cause
returns-clause-one_cause g c = stall-or-idle _ c.run_first-journal.result.journal c.run_first-journal.ensures.ended

pub returns-clause-refused : goal.returns-clause-refused
returns-clause-refused g c = (
  λ three. absurd ((told-ran c.write_report-status.result (reports-told _ _ c.run_first-journal.result.journal c.write_report-status.result c.write_report-status.ensures.writes)).0 three),
  λ some. absurd (cc),
)
