use Rattle.std.proofs.lemmas.Result.{err_from_is_err_and}
use Rattle.body_reader.proofs.Pieces.{refused}
use Rattle.body_reader.proofs.Fields.{name_of, no_bytes, no_text}
use Rattle.body_reader.proofs.names.name_at.Goals as goal

pub returns-in_err-bytes : goal.returns-in_err-bytes
returns-in_err-bytes c =
    let p = err_from_is_err_and c.from_residual.result c.from_residual.ensures.1 in
    refused _ _ _ _ _ _ p.1 p.2 (λ m. no_bytes _ (c.in_err-bytes.ensures m))

pub returns-in_ok-from_str-in-Ok : goal.returns-in_ok-from_str-in-Ok
returns-in_ok-from_str-in-Ok c =
    let text = c.in-Ok.ensures.cases in
    rw (c.new.ensures, c.in_ok-from_str-in-Ok.ensures.ok, text.0) (name_of _ _ _ text.1 c.in_ok-bytes.ensures)

pub returns-in-Err : goal.returns-in-Err
returns-in-Err c m = no_text _ _ _ c.in-Err.ensures.cases.0 c.in_ok-bytes.ensures
