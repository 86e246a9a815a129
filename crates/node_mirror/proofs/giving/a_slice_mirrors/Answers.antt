use Rattle.node_mirror.proofs.Asks.{slice-back}
use Rattle.node_mirror.proofs.giving.a_slice_mirrors.Goals as goal

pub returns : goal.returns
returns g c = λ setting. slice-back
