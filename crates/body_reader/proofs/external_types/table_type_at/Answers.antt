use Rattle.std.proofs.lemmas.Result.{err_from_is_err_and}
use Rattle.body_reader.proofs.Pieces.{none_first, refused}
use Rattle.body_reader.proofs.Fields.{table_type, answers_same}
use Rattle.body_reader.proofs.external_types.table_type_at.Goals as goal

pub returns : goal.returns
returns c = answers_same _ _ _ _ _ _ _ _ table_type c.in_ok-expect_byte.ensures c.limits_at.ensures

pub returns-in_err-expect_byte : goal.returns-in_err-expect_byte
returns-in_err-expect_byte c =
    let p = err_from_is_err_and c.from_residual.result c.from_residual.ensures.1 in
    refused _ _ _ _ _ _ p.1 p.2 (λ m. none_first _ _ _ _ _ c.args.cursor.now table_type (c.in_err-expect_byte.ensures m))
