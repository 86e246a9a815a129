use Rattle.std.proofs.Common.{refl, ap, sym, subst, arith, ◌∙◌}
use Rattle.world_rules.specs.Book.{Book}
use Rattle.world_rules.specs.World.{is_away}
use Rattle.world_rules.specs.Told.{told}
use Rattle.process_table.specs.Seen.{setting_of, world_of}
use Rattle.lunatic_cli.specs.Times.{times_of}
use Rattle.lunatic_cli.proofs.Clocks.{between-none, between-both, not-back-refl, not-back-then}
use Rattle.lunatic_cli.specs.Entering.{takes_of}
use Rattle.lunatic_cli.proofs.Entered.{enters-none, enters-both}
use Rattle.world_rules.specs.Lives.{IsRun}
use Rattle.lunatic_cli.specs.Causes.{failures_by, waits_by}
use Rattle.lunatic_cli.proofs.Causing.{counted-none}
use Rattle.lunatic_cli.proofs.Standing.{stands-in-one}
use Rattle.lunatic_cli.proofs.Rounds.{all-home}
use Rattle.lunatic_cli.proofs.Steps.{rest-first, rounds-of, ended-over, same-then}
use Rattle.lunatic_cli.proofs.Ticking.{rested-first, rested-more, rested-last}
use Rattle.lunatic_cli.specs.Quiet.{quiet_in}
use Rattle.world_rules.specs.Legal.{Rounds}
use Rattle.lunatic_cli.proofs.alone.run_alone.Goals as goal

pub loop-alloc-init : goal.loop-alloc-init
loop-alloc-init g c = record {
  same = record { programs = refl; live = refl; idle = refl; births = refl };
  rest = rest-first g.E.Engine.begin g.E.Engine.at c.args.node c.requires.blank c.requires.idle;
  times = rw c.requires.blank (between-none _ _);
  entered = rw c.requires.blank (enters-none _);
  clock = not-back-refl _;
  failed = let none = counted-none failures_by c.args.node.book c.requires.blank in omega (arith, none);
  waited = let none = counted-none waits_by c.args.node.book c.requires.blank in omega (arith, none);
  rests = omega arith;
  rested = rested-first c.args.node.book _ c.requires.blank;
}

pub loop-alloc-preserved : goal.loop-alloc-preserved
loop-alloc-preserved g c =
    let before = c.loop-alloc.invariant in
    let round = c.go_round.ensures in
    record {
      same = same-then c.args.node c.loop-alloc.node c.go_round.new.node before.same round.same;
      rest = round.rest;
      times = rw round.times.1 (between-both _ _ _ (times_of c.loop-alloc.node.book.entries) round.times.0 before.clock round.clock before.times round.times.2);
      entered = rw round.entered.1 (enters-both _ _ _ (takes_of c.loop-alloc.node.book.entries) round.entered.0 before.entered round.entered.2);
      clock = not-back-then _ _ _ before.clock round.clock;
      failed = omega (arith, before.failed, round.failed);
      waited = omega (arith, before.waited, round.waited);
      rests = omega (arith, before.rests, round.rests);
      rested = rw round.rested.1 (rested-more _ _ _ (quiet_in c.loop-alloc.node.book) round.rested.0 before.rested (round.rested.3 c.loop-alloc-test.true));
    }

pub returns-clause-home : goal.returns-clause-home
returns-clause-home g c pid =
    let home = all-home (setting_of g.E.Engine.begin g.E.Engine.at c.go_round.new.node) (world_of c.go_round.new.node) c.go_round.ensures.rest.at_home pid in
    ap (λ (b : Book). is_away ((told b).process pid).stage) c.close-journal.ensures.journal ∙ home

pub returns-clause-rounds : goal.returns-clause-rounds
returns-clause-rounds g c =
    subst (λ (b : Book). Rounds b) (sym c.close-journal.ensures.journal) (rounds-of g.E.Engine.begin g.E.Engine.at c.go_round.new.node c.go_round.ensures.rest)

pub returns-clause-rested : goal.returns-clause-rested
returns-clause-rested g c =
    let before = c.loop-alloc.invariant in
    let round = c.go_round.ensures in
    rw (c.close-journal.ensures.journal, round.rested.1) (rested-last _ _ _ (quiet_in c.loop-alloc.node.book) round.rested.0 before.rested round.rests round.rested.2)

pub returns-clause-ended : goal.returns-clause-ended
returns-clause-ended g c =
    ended-over g.E.Engine.begin g.E.Engine.at c.args.node c.go_round.new.node c.close-journal.result.0
    (same-then c.args.node c.loop-alloc.node c.go_round.new.node c.loop-alloc.invariant.same c.go_round.ensures.same) c.close-journal.ensures.journal
    (c.go_round.ensures.rest.ended (c.go_round.ensures.over c.loop-alloc-test.false))

pub returns-clause-times : goal.returns-clause-times
returns-clause-times g c =
    let before = c.loop-alloc.invariant in
    let round = c.go_round.ensures in
    rw (c.close-journal.ensures.journal, round.times.1) (between-both _ _ _ (times_of c.loop-alloc.node.book.entries) round.times.0 before.clock round.clock before.times round.times.2)

pub returns-clause-entered : goal.returns-clause-entered
returns-clause-entered g c =
    let before = c.loop-alloc.invariant in
    let round = c.go_round.ensures in
    rw (c.close-journal.ensures.journal, round.entered.1) (enters-both _ _ _ (takes_of c.loop-alloc.node.book.entries) round.entered.0 before.entered round.entered.2)

pub returns-clause-clock : goal.returns-clause-clock
returns-clause-clock g c = not-back-then _ _ _ c.loop-alloc.invariant.clock c.go_round.ensures.clock

pub returns-clause-worker : goal.returns-clause-worker
returns-clause-worker g c = rw c.close-journal.ensures.journal c.go_round.ensures.rest.workers

pub returns-clause-failed : goal.returns-clause-failed
returns-clause-failed g c =
    let before = c.loop-alloc.invariant in
    let round = c.go_round.ensures in
    rw c.close-journal.ensures.journal (omega (arith, before.failed, round.failed))

pub returns-clause-waited : goal.returns-clause-waited
returns-clause-waited g c =
    let before = c.loop-alloc.invariant in
    let round = c.go_round.ensures in
    rw c.close-journal.ensures.journal (omega (arith, before.waited, round.waited))

pub returns-clause-handles : goal.returns-clause-handles
returns-clause-handles g c =
    let journal = c.close-journal.ensures.journal in
    let kept = c.close-journal.ensures.streams in
    let home = all-home (setting_of g.E.Engine.begin g.E.Engine.at c.go_round.new.node) (world_of c.go_round.new.node) c.go_round.ensures.rest.at_home in
    rw (journal, c.close-journal.ensures.closed) (stands-in-one c.touches.ensures.touched c.sound.ensures.kept c.sound.ensures.first c.sound.ensures.all_told c.placed.ensures.all_told _
    (setting_of g.E.Engine.begin g.E.Engine.at c.go_round.new.node) c.go_round.new.node.book _ (subst (λ (b : Book). IsRun (setting_of g.E.Engine.begin g.E.Engine.at c.go_round.new.node) b)
    journal c.close-journal.ensures.run) (c.go_round.ensures.over c.loop-alloc-test.false) home kept.owned.closed kept.stand.closed)
