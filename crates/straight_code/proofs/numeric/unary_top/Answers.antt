use Rattle.std.proofs.Common.{◌-◌, arith}
use Rattle.straight_code.proofs.Effects.{unary_done}
use Rattle.straight_code.proofs.numeric.unary_top.Goals as goal

pub returns : goal.returns
returns c = unary_done c.args.code c.args.values.now c.args.sp (c.args.sp - 1) _ (omega (arith, c.requires.takes.one)) c.requires.within c.unary.ensures.value
