use Rattle.std.proofs.Common.{◌-◌, arith}
use Rattle.straight_code.proofs.Effects.{local_set}
use Rattle.straight_code.proofs.variables.set_local.Goals as goal

pub returns-clause-sets : goal.returns-clause-sets
returns-clause-sets c =
    let below = c.requires.takes.below in
    local_set c.args.values.now c.args.sp (c.args.sp - 1) c.args.base c.args.x (omega (arith, below)) (omega (arith, below)) c.requires.within
