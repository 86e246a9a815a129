use Rattle.std.proofs.Common.{sym, ◌∙◌, FitsSigned, w64, rules, arith}
use Rattle.std.specs.Prelude.{int_div}
use Rattle.std.proofs.lemmas.Grind.{common_steps}
use Rattle.std.proofs.lemmas.Int.{quot_is}
use Rattle.wasm_ops.proofs.Division.{div_s-ok}
use Rattle.wasm_ops.proofs.integer.Int.div_s.Goals as goal

pub returns-clause-quotient : goal.returns-clause-quotient
returns-clause-quotient g c =
    let dividend : FitsSigned w64 c.signed.result = search rules in
    let divisor : FitsSigned w64 c.signed-2.result = search rules in
    let fits : FitsSigned w64 (int_div c.signed.result c.signed-2.result) = grind (arith, common_steps) in
    div_s-ok g.row.W c.args.self.value c.args.other.value c.signed.result c.signed-2.result _ c.of_signed.result.value
    c.if-other-eq0.false (sym c.overflows.ensures ∙ c.if-overflows.false) c.signed.ensures c.signed-2.ensures
    (quot_is w64 _ _ dividend divisor fits) c.of_signed.ensures
