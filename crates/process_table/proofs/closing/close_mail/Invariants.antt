use Rattle.std.proofs.Common.{◌≡◌, ◌+◌, ◌≤◌, [], length, vec_len, vec_capacity}
use Rattle.resource_table.specs.Steps.{told}
use Rattle.process_table.specs.Holds.{streams_of}
use Rattle.process_table.proofs.Letting.{IsClosing}
use Rattle.process_table.proofs.closing.close_mail.Given as goal

abbrev pub invariant-loop-letter : goal.invariant-loop-letter
invariant-loop-letter g l = record {
  closing : IsClosing
      (told g.S.Stream.taken g.S.Stream.put g.S.Stream.faults g.S.Stream.waits g.S.Stream.empties g.S.Stream.down)
      l.fn.mail.items l.fn.closed.items l.letters.items l.closed.items;
  empty : l.shed ≡ [];
  room : vec_len l.closed + length (streams_of l.letters) ≤ vec_capacity l.closed;
  capacity : vec_capacity l.closed ≡ vec_capacity l.fn.closed;
}

abbrev pub decreases-loop-letter : goal.decreases-loop-letter
decreases-loop-letter g l = length l.letters.items
