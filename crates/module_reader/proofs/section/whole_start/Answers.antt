use Rattle.std.proofs.Common.{arith}
use Rattle.std.proofs.lemmas.Result.{err_from_is_err_and}
use Rattle.body_reader.proofs.Pieces.{refused_with}
use Rattle.body_reader.proofs.Bodies.{none_read, not_all}
use Rattle.module_reader.proofs.Boxed.{start_seen}
use Rattle.body_reader.proofs.Pieces.{none_seen, read_seen}
use Rattle.module_reader.proofs.section.whole_start.Goals as goal

pub returns-in_err-function : goal.returns-in_err-function
returns-in_err-function c =
    let p = err_from_is_err_and c.from_residual.result c.from_residual.ensures.1 in
    refused_with _ _ _ _ _ p.1 p.2 (λ m. none_read _ _ c.new-cursor.result c.new-cursor.ensures.bytes (none_seen _ _ _ c.new-cursor.result start_seen (c.in_err-function.ensures m)))

pub returns-then-left-gt0 : goal.returns-then-left-gt0
returns-then-left-gt0 c m = not_all _ _ _ _ _ c.new-cursor.ensures.bytes (omega (arith, c.left.ensures, c.if-left-gt0.true)) (read_seen _ _ _ _ _ _ start_seen c.in_ok-function.ensures)
