use Rattle.std.proofs.Common.{[]}
use Rattle.std.proofs.lemmas.Result.{err_from_is_err_and}
use Rattle.body_reader.proofs.Pieces.{read_both, none_first, none_second, refused}
use Rattle.body_reader.proofs.Fields.{import, both, none_both}
use Rattle.body_reader.proofs.entries.ImportPart.read.Goals as goal

pub returns : goal.returns
returns c =
    read_both _ _ _ _ _ _ _ _ _ (import c.in_ok-module.«module») c.in_ok-module.ensures (read_both _ _ _ _ _ _ _ _ _ (both _ _ c.in_ok-name.name) c.in_ok-name.ensures c.in_ok-what.ensures)

pub returns-in_err-name : goal.returns-in_err-name
returns-in_err-name c =
    let p = err_from_is_err_and c.from_residual-in_err-name.result c.from_residual-in_err-name.ensures.1 in
    refused _ _ _ _ _ _ p.1 p.2 (λ m. none_second _ _ _ _ _ _ _ (import c.in_ok-module.«module») c.in_ok-module.ensures (none_both _ _ _ (c.in_err-name.ensures m)))

pub returns-in_err-what : goal.returns-in_err-what
returns-in_err-what c =
    let p = err_from_is_err_and c.from_residual-in_err-what.result c.from_residual-in_err-what.ensures.1 in
    refused _ _ _ _ _ _ p.1 p.2 (λ m. none_second _ _ _ _ _ _ _ (import c.in_ok-module.«module») c.in_ok-module.ensures (none_second _ _ _ _ _ _ _ (both _ _ c.in_ok-name.name) c.in_ok-name.ensures (c.in_err-what.ensures m)))

pub returns-in_err-module : goal.returns-in_err-module
returns-in_err-module c =
    let p = err_from_is_err_and c.from_residual.result c.from_residual.ensures.1 in
    refused _ _ _ _ _ _ p.1 p.2 (λ m. none_first _ _ _ _ _ c.args.cursor.now (import []) (c.in_err-module.ensures m))
