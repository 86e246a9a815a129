use Rattle.node_laws.proofs.Firsts.{keeps-first}
use Rattle.node_laws.proofs.timing.first_node_stands.Goals as goal

pub returns : goal.returns
returns g c = λ setting. keeps-first
