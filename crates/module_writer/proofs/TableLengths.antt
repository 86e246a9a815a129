-- Table types take a byte more than their limits.
use Rattle.std.proofs.Common.{◌≡◌, ◌+◌, ◌≤◌, List, [], ◌∷◌, length, sum_by, arith}
use Rattle.std.proofs.lemmas.List.Sums.{sum_by-cons}
use Rattle.wasm_form.specs.Least.{least_vector, least_limits, least_table_type}
use Rattle.wasm_form.specs.declared.types.Bounds.{Bounds}

types_sum : (xs : List Bounds) → sum_by least_table_type xs ≡ sum_by least_limits xs + length xs
types_sum [] = omega arith
types_sum (x ∷ xs) = omega (arith, types_sum xs, sum_by-cons least_table_type x xs, sum_by-cons least_limits x xs)

limits_count : (xs : List Bounds) → length xs ≤ sum_by least_limits xs
limits_count [] = omega arith
limits_count (x ∷ xs) = omega (arith, limits_count xs, sum_by-cons least_limits x xs)

pub tables_sum : (xs : List Bounds) → least_vector least_table_type xs ≡ least_vector least_limits xs + length xs
tables_sum xs = omega (arith, types_sum xs)

pub tables_count : (xs : List Bounds) → length xs ≤ least_vector least_limits xs
tables_count xs = omega (arith, limits_count xs)
