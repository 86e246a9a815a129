use Rattle.std.proofs.Common.{◌≡◌, ◌+◌, ◌≤◌, length, [], ap, arith}
use Rattle.message_scratch.proofs.Bounds.{scratch_bounded}
use Rattle.message_scratch.proofs.tests.let_all_go.Goals as goal

pub drain-requires-clause-room : goal.drain-requires-clause-room
drain-requires-clause-room c =
    let few = scratch_bounded c.args.scratch c.size-size.ensures.bounds in
    let none = ap length c.requires in
    omega (arith, few, none)
