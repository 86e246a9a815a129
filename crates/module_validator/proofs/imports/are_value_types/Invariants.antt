use Rattle.std.proofs.Common.{◌≡◌, map, take}
use Rattle.wasm_form.specs.Typing.{value_type}
use Rattle.module_validator.proofs.imports.are_value_types.Given as goal

abbrev pub invariant-loop-place : goal.invariant-loop-place
invariant-loop-place l = take l.place l.types ≡ map value_type (take l.place l.nums)
