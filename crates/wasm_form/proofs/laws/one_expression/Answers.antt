use Rattle.wasm_form.proofs.OneCode.{one_expr}
use Rattle.wasm_form.proofs.laws.one_expression.Goals as goal

pub returns : goal.returns
returns c s t x y v w h k e =
    (one_expr (record { one = λ s t x y v w. c.one_spelling.ensures.unsigned 32 s t x y v w })
    (λ N. record { one = λ s t x y v w. c.one_spelling.ensures.signed N s t x y v w })).one s t x y v w h k e
