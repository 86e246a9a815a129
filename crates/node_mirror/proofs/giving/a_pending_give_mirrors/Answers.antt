use Rattle.node_mirror.proofs.OutsideBacks.{pending-back}
use Rattle.node_mirror.proofs.giving.a_pending_give_mirrors.Goals as goal

pub returns : goal.returns
returns g c = λ setting. pending-back
