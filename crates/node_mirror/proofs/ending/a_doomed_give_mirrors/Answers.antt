use Rattle.node_mirror.proofs.OwnEnds.{doomed_end_mirrors}
use Rattle.node_mirror.proofs.ending.a_doomed_give_mirrors.Goals as goal

pub returns : goal.returns
returns g c = λ setting. doomed_end_mirrors _ setting
