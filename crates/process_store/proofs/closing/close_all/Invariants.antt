use Rattle.std.proofs.Common.{◌≡◌, ◌++◌, ◌+◌, ◌≤◌, length, vec_len, vec_capacity}
use Rattle.process_store.proofs.closing.close_all.Given as goal

abbrev pub invariant-loop-handle : goal.invariant-loop-handle
invariant-loop-handle g l = record {
  moved : l.closed.items ++ l.shed ≡ l.fn.closed.items ++ l.fn.shed;
  room : vec_len l.closed + length l.shed ≤ vec_capacity l.closed;
  capacity : vec_capacity l.closed ≡ vec_capacity l.fn.closed;
}

abbrev pub decreases-loop-handle : goal.decreases-loop-handle
decreases-loop-handle g l = length l.shed
