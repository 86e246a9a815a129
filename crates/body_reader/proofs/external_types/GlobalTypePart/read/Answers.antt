use Rattle.std.proofs.lemmas.Result.{err_from_is_err_and}
use Rattle.body_reader.proofs.Pieces.{read_both, none_second, refused}
use Rattle.body_reader.proofs.Fields.{global_type}
use Rattle.body_reader.proofs.external_types.GlobalTypePart.read.Goals as goal

pub returns : goal.returns
returns c = read_both _ _ _ _ _ _ _ _ _ (global_type c.in_ok-ty.ty) c.in_ok-ty.ensures c.in_ok-mutable.ensures

pub returns-in_err-mutable : goal.returns-in_err-mutable
returns-in_err-mutable c =
    let p = err_from_is_err_and c.from_residual-in_err-mutable.result c.from_residual-in_err-mutable.ensures.1 in
    refused _ _ _ _ _ _ p.1 p.2 (λ m. none_second _ _ _ _ _ _ _ (global_type c.in_ok-ty.ty) c.in_ok-ty.ensures (c.in_err-mutable.ensures m))
