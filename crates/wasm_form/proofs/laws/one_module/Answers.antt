use Rattle.wasm_form.proofs.OneModule.{one_module}
use Rattle.wasm_form.proofs.laws.one_module.Goals as goal

pub returns : goal.returns
returns c =
    one_module (record { one = λ s t x y v w. c.one_spelling.ensures.unsigned 32 s t x y v w })
    (λ N. record { one = λ s t x y v w. c.one_spelling.ensures.signed N s t x y v w })
