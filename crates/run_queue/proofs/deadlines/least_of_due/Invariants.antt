use Rattle.std.proofs.Common.{take}
use Rattle.run_queue.specs.Schedule.{IsLeastOf, due_numbers}
use Rattle.run_queue.proofs.deadlines.least_of_due.Given as goal

abbrev pub invariant-loop-pid : goal.invariant-loop-pid
invariant-loop-pid l = IsLeastOf l.least (due_numbers l.now (take l.pid-index l.entries))
