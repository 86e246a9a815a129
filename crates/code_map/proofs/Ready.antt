-- What a module has that is spelled, valid and inside the profile.
use Rattle.std.proofs.Common.{◌+◌, ◌≤◌, length, get_or, arith}
use Rattle.std.proofs.lemmas.List.Sums.{get_or-le-sum_by}
use Rattle.wasm_form.specs.declared.instr.Instr.{Instr}
use Rattle.wasm_form.specs.declared.expr.Expr.{Expr}
use Rattle.wasm_form.specs.declared.parts.Parts.{Parts}
use Rattle.wasm_form.specs.Modules.{IsSpelled}
use Rattle.wasm_form.specs.Least.{least_unsigned, least_func_type, least_instr, least_expr, least_body}
use Rattle.wasm_form.specs.Spellable.{HasSizes}
use Rattle.wasm_form.specs.Validity.{KeepsRules, SingleResults, FunctionTypes}
use Rattle.wasm_form.specs.Profile.{HasFewLocals, HasFewParameters}
use Rattle.wasm_form.proofs.Unspelled as unspelled
use Rattle.wasm_form.proofs.Shortest.{count_items, some_number}
use Rattle.wasm_form.proofs.ShortestSections.{some_body}
use Rattle.code_map.specs.Ready.{IsReady}

some_instr : (i : Instr) → 1 ≤ least_instr i
some_instr i = omega arith

-- the instructions and labels of an expression are not more than its bytes
short_expr : (e : Expr) → length e.code + length e.labels ≤ least_expr e
short_expr e = omega (arith, count_items least_instr some_instr e.code, count_items least_unsigned some_number e.labels)

pub ready : (m : Parts) → KeepsRules m → HasFewLocals m → HasFewParameters m → IsSpelled m → IsReady m
ready m rules locals parameters is =
    let sizes : HasSizes m = unspelled.sizes m is.bytes is.spelled in
    record {
      results = rules SingleResults;
      typed = rules FunctionTypes;
      parameters = parameters;
      few_locals = locals;
      counts = is.spelled.counts;
      types = omega (arith, sizes.types, count_items least_func_type (λ t. omega arith) m.types);
      bodies = omega (arith, sizes.bodies, count_items least_body some_body m.bodies);
      trees = (unspelled.trees m is.bytes is.spelled).bodies;
      short = λ k d low. omega (arith, sizes.bodies, get_or-le-sum_by least_body m.bodies k d low, short_expr (get_or m.bodies k d).expr);
      locals = unspelled.few_locals m is.bytes is.spelled;
    }
