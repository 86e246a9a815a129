use Rattle.std.proofs.Common.{refl}
use Rattle.straight_code.proofs.Stacks.{stack_push}
use Rattle.straight_code.proofs.operands.push.Goals as goal

pub returns-clause-pushed : goal.returns-clause-pushed
returns-clause-pushed c = stack_push _ _ _ _ c.requires.room refl
