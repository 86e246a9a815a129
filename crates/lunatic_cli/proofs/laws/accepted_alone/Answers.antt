use Rattle.module_validator.specs.Host.{host}
use Rattle.lunatic_cli.proofs.AcceptedAlone as lemma
use Rattle.lunatic_cli.proofs.laws.accepted_alone.Goals as goal

pub returns : goal.returns
returns c bytes said = lemma.accepted_alone c.one_module.ensures host bytes said
