use Rattle.std.proofs.lemmas.Result.{err_from_is_err_and}
use Rattle.body_reader.proofs.Pieces.{read_both, none_second, refused}
use Rattle.body_reader.proofs.Forms.{type_and_zero}
use Rattle.body_reader.proofs.immediates.type_and_zero_at.Goals as goal

pub returns : goal.returns
returns c = read_both _ _ _ _ _ _ _ _ _ (type_and_zero c.in_ok-index.index) c.in_ok-index.ensures c.in_ok-expect_byte.ensures

pub returns-in_err-expect_byte : goal.returns-in_err-expect_byte
returns-in_err-expect_byte c =
    let p = err_from_is_err_and c.from_residual-in_err-expect_byte.result c.from_residual-in_err-expect_byte.ensures.1 in
    refused _ _ _ _ _ _ p.1 p.2 (λ m. none_second _ _ _ _ _ _ _ (type_and_zero c.in_ok-index.index) c.in_ok-index.ensures (c.in_err-expect_byte.ensures m))
