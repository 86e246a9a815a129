use Rattle.std.proofs.Common.{[], ◌++◌, ◌∙◌, ap, arith, refl}
use Rattle.std.proofs.lemmas.Result.{err_from_is_err_and}
use Rattle.body_reader.proofs.Pieces.{none_first, none_second}
use Rattle.body_reader.proofs.Marks.{table}
use Rattle.body_reader.proofs.Single.{item_refused, table_item, no_more}
use Rattle.body_reader.proofs.instr.table_after.Goals as goal

pub returns : goal.returns
returns c =
    table_item _ _ _ _ _ c.in_ok-table.table _ _ _ _ c.in_ok-table.ensures c.in_ok-last.ensures (c.in_ok-extend.ensures.ok ∙ ap (λ l. c.args.labels.now ++ l) c.as_slice.ensures) c.len-first.ensures c.len-count.ensures refl

pub returns-in_err-table : goal.returns-in_err-table
returns-in_err-table c =
    let p = err_from_is_err_and c.from_residual.result c.from_residual.ensures.1 in
    item_refused _ _ _ _ _ _ _ _ p.1 p.2 (λ m. none_first _ _ _ _ _ c.args.cursor.now (table []) (c.in_err-table.ensures m))

pub returns-in_err-last : goal.returns-in_err-last
returns-in_err-last c =
    let p = err_from_is_err_and c.from_residual-in_err-last.result c.from_residual-in_err-last.ensures.1 in
    item_refused _ _ _ _ _ _ _ _ p.1 p.2 (λ m. none_second _ _ _ _ _ _ _ (table c.in_ok-table.table) c.in_ok-table.ensures (c.in_err-last.ensures m))

pub overflow_cast-count : goal.overflow_cast-count
overflow_cast-count c = omega (arith, no_more _ _ _ c.in_ok-table.ensures, c.requires)
