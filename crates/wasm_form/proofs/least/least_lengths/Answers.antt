use Rattle.wasm_form.proofs.LeastParts as parts
use Rattle.wasm_form.proofs.LeastModule.{whole}
use Rattle.wasm_form.proofs.least.least_lengths.Goals as goal

pub returns-clause-number : goal.returns-clause-number
returns-clause-number c = parts.number.at

pub returns-clause-expr : goal.returns-clause-expr
returns-clause-expr c = parts.expr.at

pub returns-clause-function : goal.returns-clause-function
returns-clause-function c = parts.function.at

pub returns-clause-body : goal.returns-clause-body
returns-clause-body c = parts.body.at

pub returns-clause-whole : goal.returns-clause-whole
returns-clause-whole c = whole
