use Rattle.std.proofs.Common.{length, arith, ap, length-append}
use Rattle.message_scratch.specs.Messages.{slots_of, handles_in}
use Rattle.host_calls.specs.Shown.{hands_of}
use Rattle.resource_table.proofs.Closings.{sheds_length}
use Rattle.process_store.proofs.Letting.{scratch_few}
use Rattle.process_store.proofs.closing.close_proc.Goals as goal

pub end-shed-requires-clause-room : goal.end-shed-requires-clause-room
end-shed-requires-clause-room g c κs within =
    let p = c.args.proc in
    let empty = ap length c.requires.shed in
    let count = c.count-count.ensures.count in
    let most = c.count-count.ensures.bounded in
    let few = scratch_few p.scratch c.size-size.ensures.bounds in
    let both = length-append p.table (handles_in (slots_of p.scratch)) in
    omega (arith, empty, count, most, few, both)

pub close_all-requires-clause-room : goal.close_all-requires-clause-room
close_all-requires-clause-room g c κs within =
    let p = c.args.proc in
    let empty = ap length c.requires.shed in
    let shut = sheds_length _ (hands_of p) p.shed c.end-shed.result c.end-shed.ensures.shed in
    let room = c.requires.room in
    omega (arith, empty, shut, room)
