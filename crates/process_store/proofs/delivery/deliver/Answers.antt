use Rattle.std.proofs.Common.{length, arith, ap}
use Rattle.process_store.proofs.Letting.{scratch_few}
use Rattle.process_store.proofs.delivery.deliver.Goals as goal

pub hold-requires-clause-room : goal.hold-requires-clause-room
hold-requires-clause-room g c κs within =
    let empty = ap length c.requires.empty in
    let few = scratch_few c.args.scratch.now c.size-size.ensures.bounds in
    omega (arith, empty, few)

pub create-requires-clause-room : goal.create-requires-clause-room
create-requires-clause-room g c κs within =
    let empty = ap length c.requires.empty in
    let few = scratch_few c.args.scratch.now c.size-size.ensures.bounds in
    omega (arith, empty, few)
