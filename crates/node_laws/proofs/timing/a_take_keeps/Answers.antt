use Rattle.node_laws.proofs.Takes.{keeps-take}
use Rattle.node_laws.proofs.timing.a_take_keeps.Goals as goal

pub returns : goal.returns
returns g c = λ setting. keeps-take
