use Rattle.std.proofs.Common.{take}
use Rattle.run_queue.specs.Schedule.{NoneBefore}
use Rattle.run_queue.proofs.deadlines.earliest_of.Given as goal

abbrev pub invariant-loop-at : goal.invariant-loop-at
invariant-loop-at l = NoneBefore l.earliest (take l.at-index l.entries)
