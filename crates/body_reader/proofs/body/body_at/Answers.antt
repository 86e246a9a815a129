use Rattle.std.proofs.Common.{ap, Err}
use Rattle.std.proofs.lemmas.Result.{err_from_is_err_and}
use Rattle.wasm_form.specs.Sections.{SpellsFunction}
use Rattle.body_reader.proofs.Pieces.{none_second, refused}
use Rattle.body_reader.proofs.Bodies.{sized, too_short, sized_answers}
use Rattle.body_reader.proofs.body.body_at.Goals as goal

pub returns : goal.returns
returns c = sized_answers SpellsFunction c.in_ok-size.size _ _ _ _ _ c.in_ok-size.ensures c.in_ok-contents.ensures.ok.0 c.in_ok-contents.ensures.ok.1 c.function_of.ensures

pub returns-in_err-contents : goal.returns-in_err-contents
returns-in_err-contents c =
    let p = err_from_is_err_and c.from_residual-in_err-contents.result c.from_residual-in_err-contents.ensures.1 in
    refused _ _ _ _ _ _ p.1 p.2
    (λ m. none_second _ _ _ _ _ _ _ (sized SpellsFunction c.in_ok-size.size) c.in_ok-size.ensures (too_short SpellsFunction c.in_ok-size.size _ (c.in_err-contents.ensures.malformed (ap Err m))))
