use Rattle.std.proofs.Common.{arith}
use Rattle.flat_stepper.proofs.StackFacts.{stack_length}
use Rattle.flat_stepper.proofs.replies.resume.Goals as goal

pub lengthen-requires-clause-within : goal.lengthen-requires-clause-within
lengthen-requires-clause-within c =
    let room = rw c.in-Some.is at c.requires.writable.room in
    omega (arith, stack_length c.args.state.now.values.items c.args.state.now.sp, room)
