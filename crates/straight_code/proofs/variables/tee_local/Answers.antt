use Rattle.std.proofs.Common.{◌-◌, arith}
use Rattle.straight_code.proofs.Effects.{local_teed}
use Rattle.straight_code.proofs.variables.tee_local.Goals as goal

pub returns : goal.returns
returns c =
    let below = c.requires.takes.below in
    local_teed c.args.values.now c.args.sp (c.args.sp - 1) c.args.base c.args.x (omega (arith, below)) (omega (arith, below)) c.requires.within
