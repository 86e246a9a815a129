use Rattle.std.proofs.Common.{vec_len}
use Rattle.host_calls.proofs.listeners.Listeners.shut_all.Given as goal

abbrev pub decreases-loop-last : goal.decreases-loop-last
decreases-loop-last g l = vec_len l.bound
