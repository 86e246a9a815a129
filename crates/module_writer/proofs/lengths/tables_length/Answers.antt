use Rattle.std.proofs.Common.{◌≡◌, ◌≤◌, ◌+◌, ◌^◌, ℕ, subst, arith}
use Rattle.std.specs.Prelude.{⊤}
use Rattle.wasm_form.specs.Lengths.{IsLength}
use Rattle.wasm_form.specs.Least.{least_vector, least_table_type}
use Rattle.module_writer.proofs.TableLengths.{tables_sum, tables_count}
use Rattle.module_writer.proofs.lengths.tables_length.Goals as goal

pub overflow_cast-len : goal.overflow_cast-len
overflow_cast-len c = omega (arith, tables_count c.args.tables.now, c.in_ok-limits.ensures.0, c.len.ensures)

pub returns-in_err-limits : goal.returns-in_err-limits
returns-in_err-limits c =
    let long : 2 ^ 32 ≤ least_vector least_table_type c.args.tables.now = omega (arith, tables_sum c.args.tables.now, c.in_err-limits.ensures) in
    rw c.from_residual.ensures long

pub returns : goal.returns
returns c =
    let same : c.in_ok-limits.limits + c.len.result ≡ least_vector least_table_type c.args.tables.now =
    omega (arith, tables_sum c.args.tables.now, c.in_ok-limits.ensures.0, c.len.ensures) in
    subst (λ (n : ℕ). IsLength n ⊤ c.together.result) same c.together.ensures
