use Rattle.node_mirror.proofs.Struck.{struck_mirrors}
use Rattle.node_mirror.proofs.ending.a_strike_mirrors.Goals as goal

pub returns : goal.returns
returns g c = λ setting. struck_mirrors _ setting
