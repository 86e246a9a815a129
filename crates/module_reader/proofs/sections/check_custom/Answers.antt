use Rattle.std.proofs.lemmas.Result.{err_from_is_err_and}
use Rattle.body_reader.proofs.Pieces.{refused_with}
use Rattle.module_reader.proofs.SectionsSeen.{custom_of, no_custom, no_name}
use Rattle.module_reader.proofs.sections.check_custom.Goals as goal

pub returns-in_err-name : goal.returns-in_err-name
returns-in_err-name c =
    let p = err_from_is_err_and c.from_residual.result c.from_residual.ensures.1 in
    refused_with _ _ _ _ _ p.1 p.2 (λ m. no_custom _ c.new-cursor.result c.new-cursor.ensures.bytes (c.in_err-name.ensures m))

pub returns-in-Ok : goal.returns-in-Ok
returns-in-Ok c = custom_of _ _ _ _ c.new-cursor.ensures.bytes c.in-Ok.ensures.cases.1 c.in_ok-name.ensures

pub returns-in-Err : goal.returns-in-Err
returns-in-Err c m = no_name _ _ _ _ c.new-cursor.ensures.bytes c.in-Err.ensures.cases.0 c.in_ok-name.ensures
