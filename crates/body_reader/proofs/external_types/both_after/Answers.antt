use Rattle.std.proofs.lemmas.Result.{err_from_is_err_and}
use Rattle.body_reader.proofs.Pieces.{read_both, none_second, refused}
use Rattle.body_reader.proofs.Fields.{both_limits}
use Rattle.body_reader.proofs.external_types.both_after.Goals as goal

pub returns : goal.returns
returns c = read_both _ _ _ _ _ _ _ _ _ (both_limits c.in_ok-min.min) c.in_ok-min.ensures c.in_ok-max.ensures

pub returns-in_err-max : goal.returns-in_err-max
returns-in_err-max c =
    let p = err_from_is_err_and c.from_residual-in_err-max.result c.from_residual-in_err-max.ensures.1 in
    refused _ _ _ _ _ _ p.1 p.2 (λ m. none_second _ _ _ _ _ _ _ (both_limits c.in_ok-min.min) c.in_ok-min.ensures (c.in_err-max.ensures m))
