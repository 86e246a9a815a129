use Rattle.std.proofs.Common.{◌<◌, ◌≤◌, length, arith}
use Rattle.lunatic_cli.specs.Times.{times_of}
use Rattle.lunatic_cli.specs.Causes.{failures_of, waits_of}
use Rattle.lunatic_cli.specs.Quiet.{quiet_in}
use Rattle.lunatic_cli.proofs.Births.{first-is-born}
use Rattle.lunatic_cli.proofs.Outsides.{none-falls, none-goes-back, all-within-first, have-rested-first, have-grown-first}
use Rattle.lunatic_cli.proofs.run.run_first.Goals as goal

pub returns-clause-journal : goal.returns-clause-journal
returns-clause-journal g c =
    let run = c.run_alone.ensures in
    let some : 0 < length c.args.outsides.now.items = omega (arith, c.requires.some, c.args.outsides.now.ok.0) in
    record {
      begins = first-is-born c.run_alone.result.journal.births _ run.run.legal.first;
      journal_is_run = run.run;
      is_over = run.over;
      nobody_away = run.home;
      rounds = run.rounds;
      times = all-within-first g.O.Outside.clock c.args.outsides.now.items c.index_mut.result.now c.run_alone.new.outside (times_of c.run_alone.result.journal.entries) some c.index_mut.ensures.value
          run.times;
      rested = have-rested-first g.O.Outside.rests c.args.outsides.now.items c.index_mut.result.now c.run_alone.new.outside (quiet_in c.run_alone.result.journal) some c.index_mut.ensures.value
          run.rested;
      failed = have-grown-first g.O.Outside.faults c.args.outsides.now.items c.index_mut.result.now c.run_alone.new.outside (failures_of c.run_alone.result.journal) some c.index_mut.ensures.value
          run.failed;
      waited = have-grown-first g.O.Outside.waits c.args.outsides.now.items c.index_mut.result.now c.run_alone.new.outside (waits_of c.run_alone.result.journal) some c.index_mut.ensures.value
          run.waited;
      handles = run.handles;
    }

pub returns-clause-clocks : goal.returns-clause-clocks
returns-clause-clocks g c =
    let some : 0 < length c.args.outsides.now.items = omega (arith, c.requires.some, c.args.outsides.now.ok.0) in
    none-goes-back g.O.Outside.clock c.args.outsides.now.items c.index_mut.result.now c.run_alone.new.outside some c.index_mut.ensures.value c.run_alone.ensures.clock

pub returns-clause-faults : goal.returns-clause-faults
returns-clause-faults g c =
    let some : 0 < length c.args.outsides.now.items = omega (arith, c.requires.some, c.args.outsides.now.ok.0) in
    let later : g.O.Outside.faults c.index_mut.result.now ≤ g.O.Outside.faults c.run_alone.new.outside = omega (arith, c.run_alone.ensures.failed) in
    none-falls g.O.Outside.faults c.args.outsides.now.items c.index_mut.result.now c.run_alone.new.outside some c.index_mut.ensures.value later

pub returns-clause-waits : goal.returns-clause-waits
returns-clause-waits g c =
    let some : 0 < length c.args.outsides.now.items = omega (arith, c.requires.some, c.args.outsides.now.ok.0) in
    let later : g.O.Outside.waits c.index_mut.result.now ≤ g.O.Outside.waits c.run_alone.new.outside = omega (arith, c.run_alone.ensures.waited) in
    none-falls g.O.Outside.waits c.args.outsides.now.items c.index_mut.result.now c.run_alone.new.outside some c.index_mut.ensures.value later

pub returns-clause-rests : goal.returns-clause-rests
returns-clause-rests g c =
    let some : 0 < length c.args.outsides.now.items = omega (arith, c.requires.some, c.args.outsides.now.ok.0) in
    none-falls g.O.Outside.rests c.args.outsides.now.items c.index_mut.result.now c.run_alone.new.outside some c.index_mut.ensures.value c.run_alone.ensures.rests
