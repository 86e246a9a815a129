use Rattle.std.proofs.Common.{arith}
use Rattle.straight_code.proofs.Effects.{local_got}
use Rattle.straight_code.proofs.variables.get_local.Goals as goal

pub returns-clause-gets : goal.returns-clause-gets
returns-clause-gets c =
    local_got c.args.values.now c.args.sp c.args.base c.args.x _ c.requires.there (omega (arith, c.requires.room)) c.push.ensures.pushed
