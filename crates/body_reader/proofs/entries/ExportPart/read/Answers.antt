use Rattle.std.proofs.Common.{[]}
use Rattle.std.proofs.lemmas.Result.{err_from_is_err_and}
use Rattle.body_reader.proofs.Pieces.{read_both, none_first, none_second, refused}
use Rattle.body_reader.proofs.Fields.{export, both, none_both}
use Rattle.body_reader.proofs.entries.ExportPart.read.Goals as goal

pub returns : goal.returns
returns c =
    read_both _ _ _ _ _ _ _ _ _ (export c.in_ok-name.name) c.in_ok-name.ensures (read_both _ _ _ _ _ _ _ _ _ (both _ _ c.in_ok-kind.kind) c.in_ok-kind.ensures c.in_ok-index.ensures)

pub returns-in_err-kind : goal.returns-in_err-kind
returns-in_err-kind c =
    let p = err_from_is_err_and c.from_residual-in_err-kind.result c.from_residual-in_err-kind.ensures.1 in
    refused _ _ _ _ _ _ p.1 p.2 (λ m. none_second _ _ _ _ _ _ _ (export c.in_ok-name.name) c.in_ok-name.ensures (none_both _ _ _ (c.in_err-kind.ensures m)))

pub returns-in_err-index : goal.returns-in_err-index
returns-in_err-index c =
    let p = err_from_is_err_and c.from_residual-in_err-index.result c.from_residual-in_err-index.ensures.1 in
    refused _ _ _ _ _ _ p.1 p.2 (λ m. none_second _ _ _ _ _ _ _ (export c.in_ok-name.name) c.in_ok-name.ensures (none_second _ _ _ _ _ _ _ (both _ _ c.in_ok-kind.kind) c.in_ok-kind.ensures (c.in_err-index.ensures m)))

pub returns-in_err-name : goal.returns-in_err-name
returns-in_err-name c =
    let p = err_from_is_err_and c.from_residual.result c.from_residual.ensures.1 in
    refused _ _ _ _ _ _ p.1 p.2 (λ m. none_first _ _ _ _ _ c.args.cursor.now (export []) (c.in_err-name.ensures m))
