use Rattle.module_validator.specs.Constants.{IsConstantGlobal}
use Rattle.module_validator.proofs.constant.is_constant_global.Goals as goal

pub returns : goal.returns
unfolding IsConstantGlobal
returns c = c.is_constant_expr.ensures
