use Rattle.std.proofs.lemmas.Result.{err_from_is_err_and}
use Rattle.body_reader.proofs.Pieces.{read_seen, none_seen, refused}
use Rattle.module_reader.proofs.Boxed.{table_seen}
use Rattle.module_reader.proofs.bounds.TableTypePart.read.Goals as goal

pub returns : goal.returns
returns c = read_seen _ _ _ _ _ _ table_seen c.in_ok-bounds.ensures

pub returns-in_err-bounds : goal.returns-in_err-bounds
returns-in_err-bounds c =
    let p = err_from_is_err_and c.from_residual.result c.from_residual.ensures.1 in
    refused _ _ _ _ _ _ p.1 p.2 (λ m. none_seen _ _ _ c.args.cursor.now table_seen (c.in_err-bounds.ensures m))
