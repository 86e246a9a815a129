use Rattle.std.proofs.lemmas.Result.{err_from_is_err_and}
use Rattle.body_reader.proofs.Pieces.{read_both, none_second, refused}
use Rattle.body_reader.proofs.Fields.{element, both, none_both}
use Rattle.body_reader.proofs.entries.ElementPart.read.Goals as goal

pub returns : goal.returns
returns c =
    read_both _ _ _ _ _ _ _ _ _ (element c.in_ok-table.table) c.in_ok-table.ensures (read_both _ _ _ _ _ _ _ _ _ (both _ _ c.in_ok-offset.offset) c.in_ok-offset.ensures c.in_ok-functions.ensures)

pub returns-in_err-offset : goal.returns-in_err-offset
returns-in_err-offset c =
    let p = err_from_is_err_and c.from_residual-in_err-offset.result c.from_residual-in_err-offset.ensures.1 in
    refused _ _ _ _ _ _ p.1 p.2 (λ m. none_second _ _ _ _ _ _ _ (element c.in_ok-table.table) c.in_ok-table.ensures (none_both _ _ _ (c.in_err-offset.ensures m)))

pub returns-in_err-functions : goal.returns-in_err-functions
returns-in_err-functions c =
    let p = err_from_is_err_and c.from_residual-in_err-functions.result c.from_residual-in_err-functions.ensures.1 in
    refused _ _ _ _ _ _ p.1 p.2 (λ m. none_second _ _ _ _ _ _ _ (element c.in_ok-table.table) c.in_ok-table.ensures (none_second _ _ _ _ _ _ _ (both _ _ c.in_ok-offset.offset) c.in_ok-offset.ensures (c.in_err-functions.ensures m)))
