use Rattle.std.proofs.Common.{◌≤◌, ◌+◌, ◌-◌, ◌^◌, min}
use Rattle.outside.specs.Makes.{GoesNotBack}
use Rattle.process_table.specs.Seen.{setting_of, world_of}
use Rattle.process_table.specs.Takes.{SameTerms}
use Rattle.lunatic_cli.specs.Causes.{failures_of, waits_of}
use Rattle.lunatic_cli.specs.Quiet.{quiet_in}
use Rattle.lunatic_cli.specs.Resting.{IsResting, rounds_left}
use Rattle.lunatic_cli.specs.Times.{times_of, AreBetween}
use Rattle.lunatic_cli.specs.Entering.{takes_of, EntersAll}
use Rattle.lunatic_cli.proofs.alone.run_alone.Given as goal

abbrev pub invariant-loop-alloc : goal.invariant-loop-alloc
invariant-loop-alloc g l = record {
  same : SameTerms l.fn.node l.node;
  rest : IsResting (setting_of g.E.Engine.begin g.E.Engine.at l.node) l.node.book.births (world_of l.node) l.node.book.entries;
  times : AreBetween (g.O.Outside.clock l.fn.outside) (g.O.Outside.clock l.outside) (times_of l.node.book.entries);
  entered : EntersAll (g.O.Outside.entered l.fn.outside) (g.O.Outside.entered l.outside) (takes_of l.node.book.entries);
  clock : GoesNotBack (g.O.Outside.clock l.fn.outside) (g.O.Outside.clock l.outside);
  failed : g.O.Outside.faults l.fn.outside + failures_of l.node.book ≤ g.O.Outside.faults l.outside;
  waited : g.O.Outside.waits l.fn.outside + waits_of l.node.book ≤ g.O.Outside.waits l.outside;
  rests : g.O.Outside.rests l.fn.outside ≤ g.O.Outside.rests l.outside;
  rested : min (g.O.Outside.rests l.fn.outside + quiet_in l.node.book) (2 ^ 64 - 1) ≤ g.O.Outside.rests l.outside;
}

abbrev pub decreases-loop-alloc : goal.decreases-loop-alloc
decreases-loop-alloc g l = rounds_left (setting_of g.E.Engine.begin g.E.Engine.at l.node) (world_of l.node)
