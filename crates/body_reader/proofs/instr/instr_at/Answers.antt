use Rattle.std.proofs.lemmas.Result.{err_from_is_err_and}
use Rattle.body_reader.specs.Items.{SpellsItem}
use Rattle.body_reader.proofs.Pieces.{none_first}
use Rattle.body_reader.proofs.Marks.{code_first}
use Rattle.body_reader.proofs.Single.{item_after, item_refused}
use Rattle.body_reader.proofs.instr.instr_at.Goals as goal

pub returns : goal.returns
returns c = item_after c.in_ok-code.code _ _ _ _ _ _ c.in_ok-code.ensures c.instr_after.ensures

pub returns-in_err-code : goal.returns-in_err-code
returns-in_err-code c =
    let p = err_from_is_err_and c.from_residual.result c.from_residual.ensures.1 in
    item_refused SpellsItem _ _ _ _ _ _ _ p.1 p.2 (λ m. none_first _ _ SpellsItem _ 0 c.args.cursor.now (code_first 0) (c.in_err-code.ensures m))
