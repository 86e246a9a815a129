use Rattle.std.proofs.Common.{ap}
use Rattle.wasm_form.specs.declared.body.Body.{Body}
use Rattle.wasm_form.proofs.matched.BodyHasExpr.match_anew.Goals as goal

pub returns-clause-unmatched : goal.returns-clause-unmatched
returns-clause-unmatched c fault x same tree = c.match_anew.ensures.unmatched fault x.expr (ap (λ (y : Body). y.expr) same) tree
