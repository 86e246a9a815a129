use Rattle.std.proofs.Common.{length, arith, ◌≡◌, ◌+◌, ◌≤◌, length-append}
use Rattle.message_scratch.specs.Messages.{slots_of, handles_in}
use Rattle.resource_table.specs.Steps.{told}
use Rattle.resource_table.proofs.Closings.{sheds_length, sheds_more}
use Rattle.host_calls.proofs.proc.Proc.end.Goals as goal

pub drain-requires-2-clause-room : goal.drain-requires-2-clause-room
drain-requires-2-clause-room g c =
    let proc = c.args.self in
    let more = sheds_length (told g.O.Stream.Stream.taken g.O.Stream.Stream.put g.O.Stream.Stream.faults g.O.Stream.Stream.waits g.O.Stream.Stream.empties g.O.Stream.Stream.down) proc.table
    proc.shed c.drain.new.shed c.drain.ensures.shed in
    let whole = length-append proc.table (handles_in (slots_of proc.scratch)) in
    let room = c.requires in
    omega (arith, more, whole, room)

pub returns : goal.returns
returns g c =
    let proc = c.args.self in
    record {
      shed = sheds_more (told g.O.Stream.Stream.taken g.O.Stream.Stream.put g.O.Stream.Stream.faults g.O.Stream.Stream.waits g.O.Stream.Stream.empties g.O.Stream.Stream.down) proc.table
          (handles_in (slots_of proc.scratch)) proc.shed c.drain.new.shed c.drain-2.new.shed c.drain.ensures.shed c.drain-2.ensures.shed;
    }
