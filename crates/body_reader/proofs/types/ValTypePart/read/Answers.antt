use Rattle.std.proofs.lemmas.Result.{err_from_is_err_and}
use Rattle.body_reader.proofs.Pieces.{refused}
use Rattle.body_reader.proofs.Fields.{no_val_type}
use Rattle.body_reader.proofs.types.ValTypePart.read.Goals as goal

pub returns-in_err-byte_at : goal.returns-in_err-byte_at
returns-in_err-byte_at c =
    let p = err_from_is_err_and c.from_residual.result c.from_residual.ensures.1 in
    refused _ _ _ _ _ _ p.1 p.2 (λ m. no_val_type _ (c.in_err-byte_at.ensures m))
