use Rattle.std.proofs.lemmas.Result.{err_from_is_err_and}
use Rattle.body_reader.proofs.Pieces.{read_both, none_second, refused}
use Rattle.body_reader.proofs.Forms.{memory}
use Rattle.body_reader.proofs.immediates.memory_at.Goals as goal

pub returns : goal.returns
returns c = read_both _ _ _ _ _ _ _ _ _ (memory c.in_ok-align.align) c.in_ok-align.ensures c.in_ok-offset.ensures

pub returns-in_err-offset : goal.returns-in_err-offset
returns-in_err-offset c =
    let p = err_from_is_err_and c.from_residual-in_err-offset.result c.from_residual-in_err-offset.ensures.1 in
    refused _ _ _ _ _ _ p.1 p.2 (λ m. none_second _ _ _ _ _ _ _ (memory c.in_ok-align.align) c.in_ok-align.ensures (c.in_err-offset.ensures m))
