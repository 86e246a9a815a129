use Rattle.std.proofs.Common.{sym, ap, subst, ◌∙◌}
use Rattle.wasm_form.specs.Typing.{listed_type, Applies}
use Rattle.body_validator.specs.Rules.{rule_of}
use Rattle.body_validator.specs.Covering.{IsImage, IsStuck}
use Rattle.body_validator.proofs.Codes.{operation_kind}
use Rattle.body_validator.proofs.Rules.{only_image, only_stuck}
use Rattle.body_validator.proofs.Types.{operation_only}
use Rattle.body_validator.proofs.operand_types.OperandTypes.numeric.Goals as goal

pub returns-clause-yes : goal.returns-clause-yes
returns-clause-yes c e context i same =
    only_image context i (listed_type i.code) c.args.self.now c.listed.new.self
    (operation_only context i (ap rule_of same ∙ c.requires.operation) (operation_kind i.code (ap rule_of same ∙ c.requires.operation)))
    (subst (λ t. IsImage (Applies (listed_type t)) c.args.self.now c.listed.new.self) (sym same) (c.listed.ensures.yes e))

pub returns-clause-no : goal.returns-clause-no
returns-clause-no c e context i same =
    only_stuck context i (listed_type i.code) c.args.self.now
    (operation_only context i (ap rule_of same ∙ c.requires.operation) (operation_kind i.code (ap rule_of same ∙ c.requires.operation)))
    (subst (λ t. IsStuck (Applies (listed_type t)) c.args.self.now) (sym same) (c.listed.ensures.no e))
