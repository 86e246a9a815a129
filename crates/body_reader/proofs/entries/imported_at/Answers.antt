use Rattle.std.proofs.lemmas.Result.{err_from_is_err_and}
use Rattle.body_reader.proofs.Pieces.{none_first, refused}
use Rattle.body_reader.proofs.Fields.{imported_told, answers_same}
use Rattle.body_reader.proofs.entries.imported_at.Goals as goal

pub returns : goal.returns
returns c = answers_same _ _ _ _ _ _ _ _ (imported_told c.in_ok-kind.kind) c.in_ok-kind.ensures c.imported_after.ensures

pub returns-in_err-kind : goal.returns-in_err-kind
returns-in_err-kind c =
    let p = err_from_is_err_and c.from_residual.result c.from_residual.ensures.1 in
    refused _ _ _ _ _ _ p.1 p.2 (λ m. none_first _ _ _ _ _ c.args.cursor.now (imported_told 0) (c.in_err-kind.ensures m))
