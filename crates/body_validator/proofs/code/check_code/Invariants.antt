use Rattle.std.specs.Prelude.{◌↔◌, option_to_list}
use Rattle.std.proofs.Common.{List, [], length}
use Rattle.wasm_form.specs.Trees.{Code, IsFlat}
use Rattle.wasm_form.specs.Matching.{HasPlain}
use Rattle.wasm_form.specs.Context.{Context}
use Rattle.wasm_form.specs.Typing.{Types}
use Rattle.body_validator.specs.Functions.{IsBodyContext}
use Rattle.body_validator.specs.Levels.{Level, Stands, IsLeftTyped}
use Rattle.body_validator.proofs.code.check_code.Given as goal

abbrev pub invariant-loop-instr : goal.invariant-loop-instr
invariant-loop-instr l = record {
  as_much : (context : Context) (tree : Code) → IsBodyContext l.fn.function context → HasPlain tree → IsFlat l.fn.expr tree
      → (levels : List Level) × Stands l.fn.expr.labels l.left levels
      × (Types context tree [] (option_to_list l.fn.function.results) ↔ IsLeftTyped context levels l.checker);
}

abbrev pub decreases-loop-instr : goal.decreases-loop-instr
decreases-loop-instr l = length l.left
