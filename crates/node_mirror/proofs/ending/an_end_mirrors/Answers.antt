use Rattle.node_mirror.proofs.OwnEnds.{own_end_mirrors}
use Rattle.node_mirror.proofs.ending.an_end_mirrors.Goals as goal

pub returns : goal.returns
returns g c = λ setting old was pid worker brought end memory show stands slot ends. own_end_mirrors _ setting old was pid worker brought end memory show stands slot
