use Rattle.std.proofs.Common.{sym, subst}
use Rattle.wasm_form.specs.Typing.{Applies}
use Rattle.body_validator.specs.Covering.{IsImage, IsStuck}
use Rattle.body_validator.proofs.Types.{listed_is}
use Rattle.body_validator.proofs.operand_types.OperandTypes.listed.Goals as goal

pub returns-clause-yes : goal.returns-clause-yes
returns-clause-yes c e =
    subst (λ t. IsImage (Applies t) c.args.self.now c.apply_two.new.self)
    (sym (listed_is c.args.row.now.code _ _ _ _ _ _ c.requires.first c.requires.second c.requires.result c.value_types.ensures c.value_types-2.ensures c.value_types-3.ensures))
    (c.apply_two.ensures.yes e)

pub returns-clause-no : goal.returns-clause-no
returns-clause-no c e =
    subst (λ t. IsStuck (Applies t) c.args.self.now)
    (sym (listed_is c.args.row.now.code _ _ _ _ _ _ c.requires.first c.requires.second c.requires.result c.value_types.ensures c.value_types-2.ensures c.value_types-3.ensures))
    (c.apply_two.ensures.no e)
