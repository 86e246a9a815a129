use Rattle.std.proofs.Common.{◌≡◌, ◌+◌, ◌≤◌, [], length, vec_len, vec_capacity}
use Rattle.resource_table.specs.Steps.{told}
use Rattle.process_store.specs.Holds.{streams_of}
use Rattle.process_store.proofs.Letting.{IsClosing}
use Rattle.process_store.proofs.closing.close_mail.Given as goal

abbrev pub invariant-loop-item : goal.invariant-loop-item
invariant-loop-item g l = record {
  closing : IsClosing
      (told g.S.Stream.taken g.S.Stream.put g.S.Stream.faults g.S.Stream.waits g.S.Stream.empties g.S.Stream.down)
      l.fn.mail.items l.fn.closed.items l.items.items l.closed.items;
  empty : l.shed ≡ [];
  room : vec_len l.closed + length (streams_of l.items) ≤ vec_capacity l.closed;
  capacity : vec_capacity l.closed ≡ vec_capacity l.fn.closed;
}

abbrev pub decreases-loop-item : goal.decreases-loop-item
decreases-loop-item g l = length l.items.items
