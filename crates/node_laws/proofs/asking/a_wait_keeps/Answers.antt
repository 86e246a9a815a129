use Rattle.node_laws.proofs.Receives.{keeps-waits}
use Rattle.node_laws.proofs.asking.a_wait_keeps.Goals as goal

pub returns : goal.returns
returns g c = λ setting. keeps-waits
