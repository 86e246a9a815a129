use Rattle.node_laws.proofs.OutsideGives.{keeps-pending}
use Rattle.node_laws.proofs.networking.a_pending_give_keeps.Goals as goal

pub returns : goal.returns
returns g c = λ setting. keeps-pending
