use Rattle.std.proofs.lemmas.Result.{err_from_is_err_and}
use Rattle.body_reader.proofs.Pieces.{none_first, none_second, refused_with}
use Rattle.module_reader.proofs.SectionsSeen.{section_pieces, section_read}
use Rattle.module_reader.proofs.sections.section_at.Goals as goal

pub returns : goal.returns
returns c = section_read _ _ _ _ _ c.in_ok-id.ensures c.in_ok-contents.ensures

pub returns-in_err-id : goal.returns-in_err-id
returns-in_err-id c =
    let p = err_from_is_err_and c.from_residual.result c.from_residual.ensures.1 in
    refused_with _ _ _ _ _ p.1 p.2 (λ m. none_first _ _ _ _ 0 c.args.cursor.now (section_pieces 0) (c.in_err-id.ensures m))

pub returns-in_err-contents : goal.returns-in_err-contents
returns-in_err-contents c =
    let p = err_from_is_err_and c.from_residual-in_err-contents.result c.from_residual-in_err-contents.ensures.1 in
    refused_with _ _ _ _ _ p.1 p.2 (λ m. none_second _ _ _ _ _ _ _ (section_pieces c.in_ok-id.id) c.in_ok-id.ensures (c.in_err-contents.ensures m))
