use Rattle.node_mirror.proofs.OutsideBacks.{opening-back}
use Rattle.node_mirror.proofs.giving.an_opening_mirrors.Goals as goal

pub returns : goal.returns
returns g c = λ setting. opening-back
