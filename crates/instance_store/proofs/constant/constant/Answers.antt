use Rattle.std.proofs.Common.{◌∙◌}
use Rattle.instance_store.proofs.Values.{i32_value, i64_value}
use Rattle.instance_store.proofs.constant.constant.Goals as goal

pub returns-in-65 : goal.returns-in-65
returns-in-65 c = λ h. c.i32_in.ensures ∙ i32_value c.args.expr.now h c.as_slice.result.now _ c.as_slice.ensures c.in-65.is

pub returns-in-66 : goal.returns-in-66
returns-in-66 c = λ h. c.i64_in.ensures ∙ i64_value c.args.expr.now h c.as_slice.result.now _ c.as_slice.ensures c.in-66.is
