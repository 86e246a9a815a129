use Rattle.std.proofs.Common.{◌≡◌, map, take}
use Rattle.host_port.specs.TypedValue.{TypedValue}
use Rattle.instance_store.proofs.params.values.Given as goal

abbrev pub invariant-loop-param : goal.invariant-loop-param
invariant-loop-param l = l.values.items ≡ map (λ (p : TypedValue). p.value) (take l.param-index l.params)
