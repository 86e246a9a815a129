use Rattle.std.proofs.Common.{◌≡◌, ◌+◌, ◌≤◌, length, vec_len, vec_capacity}
use Rattle.resource_table.specs.Steps.{told}
use Rattle.resource_table.proofs.Closings.{IsClosing}
use Rattle.resource_table.proofs.resources.shut_all.Given as goal

abbrev pub invariant-loop-handle : goal.invariant-loop-handle
invariant-loop-handle g l = record {
  closing : IsClosing
      (told g.S.Stream.taken g.S.Stream.put g.S.Stream.faults g.S.Stream.waits g.S.Stream.empties g.S.Stream.down)
      l.fn.handles.items l.fn.shed l.handles.items l.shed;
  room : length l.shed + vec_len l.handles ≤ 320;
  capacity : vec_capacity l.handles ≡ vec_capacity l.fn.handles;
}

abbrev pub decreases-loop-handle : goal.decreases-loop-handle
decreases-loop-handle g l = vec_len l.handles
