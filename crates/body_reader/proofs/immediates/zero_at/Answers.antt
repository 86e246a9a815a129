use Rattle.std.proofs.lemmas.Result.{err_from_is_err_and}
use Rattle.body_reader.proofs.Pieces.{none_seen, refused}
use Rattle.body_reader.proofs.Forms.{zero_byte}
use Rattle.body_reader.proofs.immediates.zero_at.Goals as goal

pub returns-in_err-expect_byte : goal.returns-in_err-expect_byte
returns-in_err-expect_byte c =
    let p = err_from_is_err_and c.from_residual.result c.from_residual.ensures.1 in
    refused _ _ _ _ _ _ p.1 p.2 (λ m. none_seen _ _ _ c.args.cursor.now zero_byte (c.in_err-expect_byte.ensures m))
