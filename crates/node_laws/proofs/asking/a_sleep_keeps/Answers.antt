use Rattle.node_laws.proofs.Sleeps.{keeps-slept}
use Rattle.node_laws.proofs.asking.a_sleep_keeps.Goals as goal

pub returns : goal.returns
returns g c = λ setting. keeps-slept
