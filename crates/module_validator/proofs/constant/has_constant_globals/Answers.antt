use Rattle.module_validator.specs.Constants.{IsConstantGlobal}
use Rattle.module_validator.proofs.constant.has_constant_globals.Goals as goal

pub returns : goal.returns
unfolding IsConstantGlobal
returns c = c.are_constant_globals.ensures
