use Rattle.std.proofs.Common.{refl, ap, sym, ◌∙◌, arith, Err}
use Rattle.std.proofs.lemmas.Result.{err_from_is_err_and}
use Rattle.leb_read.specs.Place.{Place}
use Rattle.leb_read.specs.Numbers.{SpellsUnsigned, MayEndU32}
use Rattle.leb_read.proofs.Answering.{answers_ok, answers_refused}
use Rattle.leb_read.proofs.Unsigned.{fits, u32_spelled}
use Rattle.leb_read.proofs.cursor.Cursor.u32.Goals as goal

pub returns-in_err-value : goal.returns-in_err-value
returns-in_err-value c =
    let p = err_from_is_err_and c.from_residual.result c.from_residual.ensures.1 in
    answers_refused (SpellsUnsigned 32) 4 MayEndU32 _ _ _ _ u32_spelled (ap (λ (q : Place). q.left) (sym c.self.view_is)) (p.1 ∙ ap Err p.2) c.in_err-value.ensures

pub overflow_cast-result : goal.overflow_cast-result
overflow_cast-result c = omega (arith, fits 32 _ _ c.in_ok-value.ensures.1)

pub returns : goal.returns
returns c =
    answers_ok (SpellsUnsigned 32) 4 MayEndU32 _ _ _ _ _ u32_spelled (ap (λ (q : Place). q.left) (sym c.self.view_is)) refl
    (omega (arith, ap (λ (q : Place). q.at) c.self.view_is)) c.in_ok-value.ensures
