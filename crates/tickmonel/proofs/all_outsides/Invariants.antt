use Rattle.std.proofs.Common.{◌≡◌, vec_len}
use Rattle.tickmonel.proofs.all_outsides.Given as goal

abbrev pub invariant-loop-worker : goal.invariant-loop-worker
invariant-loop-worker g l = vec_len l.outsides ≡ l._worker
