use Rattle.node_laws.proofs.Receives.{keeps-received}
use Rattle.node_laws.proofs.asking.a_receive_keeps.Goals as goal

pub returns : goal.returns
returns g c = λ setting. keeps-received
