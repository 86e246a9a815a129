use Rattle.std.proofs.Common.{ap}
use Rattle.wasm_form.specs.declared.parts.GlobalDef.{GlobalDef}
use Rattle.wasm_form.proofs.matched.GlobalDefHasExpr.match_anew.Goals as goal

pub returns-clause-unmatched : goal.returns-clause-unmatched
returns-clause-unmatched c fault x same tree = c.match_anew.ensures.unmatched fault x.init (ap (λ (y : GlobalDef). y.init) same) tree
