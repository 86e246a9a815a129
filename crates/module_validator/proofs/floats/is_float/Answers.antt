use Rattle.module_validator.proofs.Codes.{float_kind}
use Rattle.module_validator.proofs.floats.is_float.Goals as goal

pub returns-in-Float : goal.returns-in-Float
returns-in-Float c = float_kind c.args.code _ c.in-Some.ensures.row.kind c.in-Float.is
