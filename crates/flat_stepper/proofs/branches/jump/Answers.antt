use Rattle.std.proofs.Common.{◌+◌}
use Rattle.flat_stepper.proofs.Tops.{jump_carries, jump_drops}
use Rattle.flat_stepper.proofs.branches.jump.Goals as goal

pub returns-then-to-clause-values : goal.returns-then-to-clause-values
returns-then-to-clause-values c = jump_carries c.args.values.now c.args.sp (c.args.within.now.base + c.args.to.height) c.args.to.carries c.if-to.true c.requires.height c.requires.within

pub returns-clause-values : goal.returns-clause-values
returns-clause-values c = jump_drops c.args.values.now c.args.sp (c.args.within.now.base + c.args.to.height) c.args.to.carries c.if-to.false c.requires.height
