use Rattle.node_mirror.proofs.Clocks.{time_mirrors}
use Rattle.node_mirror.proofs.ticking.a_time_mirrors.Goals as goal

pub returns : goal.returns
returns g c = λ setting. time_mirrors _ setting
