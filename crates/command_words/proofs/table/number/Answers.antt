use Rattle.std.proofs.Common.{◌∙◌, sym}
use Rattle.command_words.proofs.NumberTexts.{parsed_is, signed_none}
use Rattle.command_words.proofs.table.number.Goals as goal

pub returns-then-has_plus : goal.returns-then-has_plus
returns-then-has_plus c = signed_none c.args.text.now (sym c.has_plus.ensures ∙ c.if-has_plus.true)

pub returns : goal.returns
returns c = c.ok.ensures.value ∙ parsed_is c.args.text.now c.parse.result (sym c.has_plus.ensures ∙ c.if-has_plus.false) c.parse.ensures.value.0
