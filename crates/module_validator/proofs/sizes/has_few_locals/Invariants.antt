use Rattle.std.proofs.Common.{ℕ, ◌<◌}
use Rattle.module_validator.specs.Sizes.{HasFewLocalsAt}
use Rattle.module_validator.proofs.sizes.has_few_locals.Given as goal

abbrev pub invariant-loop-place : goal.invariant-loop-place
invariant-loop-place l = (place : ℕ) → place < l.place → HasFewLocalsAt l.fn.module place
