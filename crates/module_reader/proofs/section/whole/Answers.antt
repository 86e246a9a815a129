use Rattle.std.proofs.Common.{arith}
use Rattle.std.proofs.lemmas.List.{nil_from_length}
use Rattle.std.proofs.lemmas.Result.{err_from_is_err_and}
use Rattle.body_reader.proofs.Pieces.{refused_with}
use Rattle.body_reader.proofs.Bodies.{all_read, none_read, not_all}
use Rattle.module_reader.proofs.section.whole.Goals as goal

pub returns : goal.returns
returns g c = all_read _ _ _ _ _ c.new-cursor.ensures.bytes (nil_from_length _ (omega (arith, c.left.ensures, c.if-left-gt0.false))) c.in_ok-items.ensures

pub returns-in_err-items : goal.returns-in_err-items
returns-in_err-items g c =
    let p = err_from_is_err_and c.from_residual.result c.from_residual.ensures.1 in
    refused_with _ _ _ _ _ p.1 p.2 (λ m. none_read _ _ c.new-cursor.result c.new-cursor.ensures.bytes (c.in_err-items.ensures m))

pub returns-then-left-gt0 : goal.returns-then-left-gt0
returns-then-left-gt0 g c m = not_all _ _ _ _ _ c.new-cursor.ensures.bytes (omega (arith, c.left.ensures, c.if-left-gt0.true)) c.in_ok-items.ensures
