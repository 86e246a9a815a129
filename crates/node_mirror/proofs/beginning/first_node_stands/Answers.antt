use Rattle.node_mirror.proofs.Firsts.{first_stands}
use Rattle.node_mirror.proofs.beginning.first_node_stands.Goals as goal

pub returns : goal.returns
returns g c = λ setting. first_stands _ setting
