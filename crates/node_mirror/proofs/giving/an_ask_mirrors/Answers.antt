use Rattle.node_mirror.proofs.Asks.{ask-back}
use Rattle.node_mirror.proofs.giving.an_ask_mirrors.Goals as goal

pub returns : goal.returns
returns g c = λ setting. ask-back
