use Rattle.node_mirror.proofs.Struck.{over_mirrors}
use Rattle.node_mirror.proofs.ending.an_over_mirrors.Goals as goal

pub returns : goal.returns
returns g c = λ setting. over_mirrors _ setting
