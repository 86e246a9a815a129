use Rattle.std.proofs.Common.{◌-◌, arith}
use Rattle.straight_code.proofs.Effects.{selected}
use Rattle.straight_code.proofs.operands.select_top.Goals as goal

pub returns-clause-selects : goal.returns-clause-selects
returns-clause-selects c =
    selected c.args.values.now c.args.sp (c.args.sp - 3) (c.args.sp - 2) (c.args.sp - 1) _ (omega arith) (omega arith) (omega arith) c.requires.within c.chosen.ensures
