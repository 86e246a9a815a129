use Rattle.std.proofs.Common.{◌-◌, arith}
use Rattle.straight_code.proofs.Effects.{binary_done, binary_fails}
use Rattle.straight_code.proofs.numeric.binary_top.Goals as goal

pub returns-in-Err-clause-trap : goal.returns-in-Err-clause-trap
returns-in-Err-clause-trap c =
    let two = c.requires.takes.two in
    binary_fails c.args.code c.args.values.now c.args.sp (c.args.sp - 2) (c.args.sp - 1) _ (omega (arith, two)) (omega (arith, two)) c.in-Err.ensures.value

pub returns-in-Ok-clause-value : goal.returns-in-Ok-clause-value
returns-in-Ok-clause-value c =
    let two = c.requires.takes.two in
    binary_done c.args.code c.args.values.now c.args.sp (c.args.sp - 2) (c.args.sp - 1) _ (omega (arith, two)) (omega (arith, two)) c.requires.within c.in-Ok.ensures.value
