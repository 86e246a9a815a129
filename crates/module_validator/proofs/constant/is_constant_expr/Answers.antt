use Rattle.module_validator.proofs.FunctionsAlone.{constant_expr, constant_only}
use Rattle.module_validator.proofs.constant.is_constant_expr.Goals as goal

pub returns-in-Some : goal.returns-in-Some
returns-in-Some c =
    let m = c.args.module.now in
    let e = c.args.expr.now in
    let flat = c.in-Some.ensures in (
      λ t. constant_expr m c.requires e c.args.ty c.in-Some.instr flat (c.is_constant.ensures.0 t),
      λ h. c.is_constant.ensures.1 (constant_only m c.requires e c.args.ty c.in-Some.instr flat h),
    )
