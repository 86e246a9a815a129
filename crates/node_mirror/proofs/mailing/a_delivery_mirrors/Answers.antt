use Rattle.node_mirror.proofs.Mailboxes.{delivery_mirrors}
use Rattle.node_mirror.proofs.mailing.a_delivery_mirrors.Goals as goal

pub returns : goal.returns
returns g c = λ setting w held ends pid seat ask item engine m at call found after. delivery_mirrors w held ends pid seat ask item engine m at found after
