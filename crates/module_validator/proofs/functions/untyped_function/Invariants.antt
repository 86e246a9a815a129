use Rattle.std.proofs.Common.{ℕ, ◌<◌}
use Rattle.wasm_form.specs.Validity.{IsValidFunction}
use Rattle.module_validator.proofs.functions.untyped_function.Given as goal

abbrev pub invariant-loop-place : goal.invariant-loop-place
invariant-loop-place l = (place : ℕ) → place < l.place → IsValidFunction l.fn.module place
