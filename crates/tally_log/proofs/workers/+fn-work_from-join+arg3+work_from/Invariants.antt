use Rattle.std.proofs.Common.{length}
use Rattle.log_lock.specs.Words.{passes_of}
use Rattle.tally_log.proofs.workers.+fn-work_from-join+arg3+work_from.Given as goal

abbrev pub decreases-join+arg3 : goal.decreases-join+arg3
decreases-join+arg3 g l = length (passes_of l.passes)

abbrev pub decreases-work_from : goal.decreases-work_from
decreases-work_from g l = length (passes_of l.passes)
