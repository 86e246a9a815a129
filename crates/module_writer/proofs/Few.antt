-- A number has few bytes.
use Rattle.std.proofs.Common.{ℕ, ◌≤◌, arith}
use Rattle.std.proofs.lemmas.Bool.Decides.{nat_tests}
use Rattle.wasm_form.specs.Least.{least_unsigned}

pub short : (n : ℕ) → least_unsigned n ≤ 5
unfolding least_unsigned
short n = grind (arith, nat_tests)
