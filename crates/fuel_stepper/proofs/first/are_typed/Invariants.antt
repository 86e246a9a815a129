use Rattle.std.proofs.Common.{map, take}
use Rattle.host_port.specs.TypedValue.{TypedValue}
use Rattle.wasm_form.specs.Typing.{value_type}
use Rattle.tree_machine.specs.Typed.{AreValues}
use Rattle.fuel_stepper.proofs.first.are_typed.Given as goal

abbrev pub invariant-loop-param : goal.invariant-loop-param
invariant-loop-param l =
    AreValues (map (λ (p : TypedValue). value_type p.num) (take l.param-index l.params)) (map (λ (p : TypedValue). p.value) (take l.param-index l.params))
