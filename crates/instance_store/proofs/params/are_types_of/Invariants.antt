use Rattle.std.proofs.Common.{◌≡◌, map, take}
use Rattle.host_port.specs.TypedValue.{TypedValue}
use Rattle.wasm_form.specs.Typing.{value_type}
use Rattle.instance_store.proofs.params.are_types_of.Given as goal

abbrev pub invariant-loop-place : goal.invariant-loop-place
invariant-loop-place l = take l.place l.types ≡ map (λ (p : TypedValue). value_type p.num) (take l.place l.params)
