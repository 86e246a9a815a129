use Rattle.std.proofs.Common.{arith}
use Rattle.std.proofs.lemmas.Result.{err_from_is_err_and}
use Rattle.body_reader.proofs.Pieces.{refused_with}
use Rattle.module_reader.proofs.SectionsSeen.{no_section, not_next, section_seen, all_seen}
use Rattle.module_reader.proofs.sections.read_sections.Goals as goal

pub returns-in_err-id : goal.returns-in_err-id
returns-in_err-id c =
    let p = err_from_is_err_and c.from_residual.result c.from_residual.ensures.1 in
    refused_with _ _ _ _ _ p.1 p.2 (λ m. no_section _ _ _ _ c.loop-cursor.invariant (omega (arith, c.left.ensures, c.loop-cursor-test.true)) (c.in_err-id.ensures m))

pub returns-in_err-last : goal.returns-in_err-last
returns-in_err-last c =
    let p = err_from_is_err_and c.from_residual-in_err-last.result c.from_residual-in_err-last.ensures.1 in
    refused_with _ _ _ _ _ p.1 p.2 (λ m. not_next _ _ _ _ _ _ _ c.loop-cursor.invariant c.in_ok-id.ensures.0 (c.in_err-last.ensures m))

pub loop-cursor-preserved : goal.loop-cursor-preserved
loop-cursor-preserved c = section_seen _ _ _ _ _ _ _ _ _ c.loop-cursor.invariant c.in_ok-id.ensures.0 c.in_ok-last.ensures

pub returns : goal.returns
returns c =
    all_seen (record { one = λ s t x y v w. c.one_spelling.ensures.unsigned 32 s t x y v w })
    (λ N. record { one = λ s t x y v w. c.one_spelling.ensures.signed N s t x y v w }) _ _ _ _ (omega (arith, c.left.ensures, c.loop-cursor-test.false)) c.loop-cursor.invariant
