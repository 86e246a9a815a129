use Rattle.node_mirror.proofs.Homes.{lateness_mirrors}
use Rattle.node_mirror.proofs.answering.a_lateness_mirrors.Goals as goal

pub returns : goal.returns
returns g c = λ setting. lateness_mirrors
