use Rattle.body_validator.proofs.Verdicts.{one_verdict}
use Rattle.body_validator.proofs.laws.one_verdict.Goals as goal

pub returns : goal.returns
returns c host bytes v w = one_verdict host bytes v w (c.one_module.ensures bytes)
