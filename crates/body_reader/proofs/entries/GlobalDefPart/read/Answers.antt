use Rattle.std.proofs.lemmas.Result.{err_from_is_err_and}
use Rattle.body_reader.proofs.Pieces.{read_both, none_first, none_second, refused}
use Rattle.body_reader.proofs.Fields.{some_type, global}
use Rattle.body_reader.proofs.entries.GlobalDefPart.read.Goals as goal

pub returns : goal.returns
returns c = read_both _ _ _ _ _ _ _ _ _ (global c.in_ok-ty.ty) c.in_ok-ty.ensures c.in_ok-init.ensures

pub returns-in_err-init : goal.returns-in_err-init
returns-in_err-init c =
    let p = err_from_is_err_and c.from_residual-in_err-init.result c.from_residual-in_err-init.ensures.1 in
    refused _ _ _ _ _ _ p.1 p.2 (λ m. none_second _ _ _ _ _ _ _ (global c.in_ok-ty.ty) c.in_ok-ty.ensures (c.in_err-init.ensures m))

pub returns-in_err-ty : goal.returns-in_err-ty
returns-in_err-ty c =
    let p = err_from_is_err_and c.from_residual.result c.from_residual.ensures.1 in
    refused _ _ _ _ _ _ p.1 p.2 (λ m. none_first _ _ _ _ _ c.args.cursor.now (global some_type) (c.in_err-ty.ensures m))
