use Rattle.std.proofs.lemmas.Result.{err_from_is_err_and}
use Rattle.body_reader.proofs.Pieces.{read_seen, none_seen, refused}
use Rattle.body_reader.proofs.Fields.{imported_table, imported_memory, imported_global}
use Rattle.body_reader.proofs.entries.imported_after.Goals as goal

pub returns-in_ok-table_type_at-in-1 : goal.returns-in_ok-table_type_at-in-1
returns-in_ok-table_type_at-in-1 c = read_seen _ _ _ _ _ _ (imported_table c.args.kind c.in-1.is) c.in_ok-table_type_at-in-1.ensures

pub returns-in_ok-limits_at-in-2 : goal.returns-in_ok-limits_at-in-2
returns-in_ok-limits_at-in-2 c = read_seen _ _ _ _ _ _ (imported_memory c.args.kind c.in-2.is) c.in_ok-limits_at-in-2.ensures

pub returns-in_err-table_type_at-in-1 : goal.returns-in_err-table_type_at-in-1
returns-in_err-table_type_at-in-1 c =
    let p = err_from_is_err_and c.from_residual-in_err-table_type_at-in-1.result c.from_residual-in_err-table_type_at-in-1.ensures.1 in
    refused _ _ _ _ _ _ p.1 p.2 (λ m. none_seen _ _ _ c.args.cursor.now (imported_table c.args.kind c.in-1.is) (c.in_err-table_type_at-in-1.ensures m))

pub returns-in_err-limits_at-in-2 : goal.returns-in_err-limits_at-in-2
returns-in_err-limits_at-in-2 c =
    let p = err_from_is_err_and c.from_residual-in_err-limits_at-in-2.result c.from_residual-in_err-limits_at-in-2.ensures.1 in
    refused _ _ _ _ _ _ p.1 p.2 (λ m. none_seen _ _ _ c.args.cursor.now (imported_memory c.args.kind c.in-2.is) (c.in_err-limits_at-in-2.ensures m))

pub returns-in_err-read-in-3 : goal.returns-in_err-read-in-3
returns-in_err-read-in-3 c =
    let p = err_from_is_err_and c.from_residual-in_err-read-in-3.result c.from_residual-in_err-read-in-3.ensures.1 in
    refused _ _ _ _ _ _ p.1 p.2 (λ m. none_seen _ _ _ c.args.cursor.now (imported_global c.args.kind c.in-3.is) (c.in_err-read-in-3.ensures m))
