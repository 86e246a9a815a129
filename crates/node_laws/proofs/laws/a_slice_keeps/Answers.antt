use Rattle.node_laws.proofs.Ends.{keeps-slice}
use Rattle.node_laws.proofs.laws.a_slice_keeps.Goals as goal

pub returns : goal.returns
returns g c = λ setting. keeps-slice
