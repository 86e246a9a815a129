use Rattle.std.proofs.lemmas.Result.{err_from_is_err_and}
use Rattle.body_reader.proofs.Pieces.{none_first, refused}
use Rattle.body_reader.proofs.Fields.{limits_told, answers_same}
use Rattle.body_reader.proofs.external_types.limits_at.Goals as goal

pub returns-in-0 : goal.returns-in-0
returns-in-0 c = answers_same _ _ _ _ _ _ _ _ (limits_told 0x00) (rw c.in-0.is at c.in_ok-byte_at.ensures) c.least_after.ensures

pub returns-in-1 : goal.returns-in-1
returns-in-1 c = answers_same _ _ _ _ _ _ _ _ (limits_told 0x01) (rw c.in-1.is at c.in_ok-byte_at.ensures) c.both_after.ensures

pub returns-in_err-byte_at : goal.returns-in_err-byte_at
returns-in_err-byte_at c =
    let p = err_from_is_err_and c.from_residual.result c.from_residual.ensures.1 in
    refused _ _ _ _ _ _ p.1 p.2 (λ m. none_first _ _ _ _ _ c.args.cursor.now (limits_told 0) (c.in_err-byte_at.ensures m))
