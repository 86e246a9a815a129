use Rattle.node_laws.proofs.Sends.{keeps-send}
use Rattle.node_laws.proofs.asking.a_send_keeps.Goals as goal

pub returns : goal.returns
returns g c = λ setting. keeps-send
