use Rattle.std.proofs.Common.{◌+◌, ◌≤◌, length, vec_len}
use Rattle.resource_table.specs.Steps.{told}
use Rattle.message_scratch.specs.Messages.{handles_in}
use Rattle.message_scratch.proofs.Closings.{IsClosing}
use Rattle.message_scratch.proofs.message.shut_slots.Given as goal

abbrev pub invariant-loop-slot : goal.invariant-loop-slot
invariant-loop-slot g l = record {
  closing : IsClosing
      (told g.S.Stream.taken g.S.Stream.put g.S.Stream.faults g.S.Stream.waits g.S.Stream.empties g.S.Stream.down)
      l.fn.slots.items l.fn.shed l.slots.items l.shed;
  room : length l.shed + length (handles_in l.slots.items) ≤ 320;
}

abbrev pub decreases-loop-slot : goal.decreases-loop-slot
decreases-loop-slot g l = vec_len l.slots
