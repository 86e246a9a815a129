use Rattle.node_laws.proofs.Sleeps.{keeps-sleeping}
use Rattle.node_laws.proofs.asking.a_sleep_waits_keeps.Goals as goal

pub returns : goal.returns
returns g c = λ setting. keeps-sleeping
