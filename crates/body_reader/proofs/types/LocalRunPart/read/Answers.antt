use Rattle.std.proofs.lemmas.Result.{err_from_is_err_and}
use Rattle.body_reader.proofs.Pieces.{read_both, none_second, refused}
use Rattle.body_reader.proofs.Forms.{run}
use Rattle.body_reader.proofs.types.LocalRunPart.read.Goals as goal

pub returns : goal.returns
returns c = read_both _ _ _ _ _ _ _ _ _ (run c.in_ok-count.count) c.in_ok-count.ensures c.in_ok-ty.ensures

pub returns-in_err-ty : goal.returns-in_err-ty
returns-in_err-ty c =
    let p = err_from_is_err_and c.from_residual-in_err-ty.result c.from_residual-in_err-ty.ensures.1 in
    refused _ _ _ _ _ _ p.1 p.2 (λ m. none_second _ _ _ _ _ _ _ (run c.in_ok-count.count) c.in_ok-count.ensures (c.in_err-ty.ensures m))
