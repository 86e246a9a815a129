use Rattle.std.proofs.Common.{length}
use Rattle.host_calls.proofs.tests.count_out.Given as goal

abbrev pub decreases-loop-handle : goal.decreases-loop-handle
decreases-loop-handle l = length l.shed
