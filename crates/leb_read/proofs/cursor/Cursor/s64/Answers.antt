use Rattle.std.proofs.Common.{refl, ap, sym, ◌∙◌, arith, Err}
use Rattle.std.proofs.lemmas.Result.{err_from_is_err_and}
use Rattle.leb_read.specs.Place.{Place}
use Rattle.leb_read.specs.Numbers.{SpellsSigned, MayEndS64}
use Rattle.leb_read.proofs.Answering.{answers_same, answers_refused}
use Rattle.leb_read.proofs.Signed.{same64, s64_spelled}
use Rattle.leb_read.proofs.cursor.Cursor.s64.Goals as goal

pub returns-in_err-value : goal.returns-in_err-value
returns-in_err-value c =
    let p = err_from_is_err_and c.from_residual.result c.from_residual.ensures.1 in
    answers_refused (SpellsSigned 64) 9 MayEndS64 _ _ _ _ s64_spelled (ap (λ (q : Place). q.left) (sym c.self.view_is)) (p.1 ∙ ap Err p.2) c.in_err-value.ensures

pub returns : goal.returns
returns c =
    answers_same (SpellsSigned 64) 9 MayEndS64 _ _ _ _ _ _ s64_spelled (ap (λ (q : Place). q.left) (sym c.self.view_is)) refl
    (omega (arith, ap (λ (q : Place). q.at) c.self.view_is)) (same64 64 _ c.in_ok-value.ensures.0 (omega arith) (omega arith) c.in_ok-value.ensures.1) c.in_ok-value.ensures
