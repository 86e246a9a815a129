-- Constant expressions of a module that imports no global.
use Rattle.wasm_form.specs.declared.value_type.ValType.{ValType}
use Rattle.wasm_form.specs.declared.instr.Instr.{Instr}
use Rattle.wasm_form.specs.declared.expr.Expr.{Expr}
use Rattle.wasm_form.specs.Trees.{Then, Empty, IsFlat}
use Rattle.wasm_form.specs.Typing.{IsConstant}

-- the expression is one constant
pub record IsOneConstant (e : Expr) : Type 0 where
  pub instr : Instr
  pub ty : ValType
  pub flat : IsFlat e (Then instr Empty)
  pub constant : IsConstant instr ty
