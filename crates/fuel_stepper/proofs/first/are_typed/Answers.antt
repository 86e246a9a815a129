use Rattle.std.proofs.Common.{◌<◌, ◌^◌, ℕ, subst}
use Rattle.host_port.specs.TypedValue.{IsInRange}
use Rattle.fuel_stepper.proofs.TypedParams.{one_more}
use Rattle.fuel_stepper.proofs.first.are_typed.Goals as goal

pub loop-param-preserved : goal.loop-param-preserved
loop-param-preserved c =
    let value = c.value-value in
    let x = c.param-item.result in
    one_more c.args.params.now c.loop-param.param-index x c.loop-param-test.true c.param-item.is c.loop-param.invariant
    (subst (λ (n : ℕ). IsInRange x.num n) value.ensures.value value.ensures.in_range)
    (subst (λ (n : ℕ). n < 2 ^ 64) value.ensures.value value.type_inv)
