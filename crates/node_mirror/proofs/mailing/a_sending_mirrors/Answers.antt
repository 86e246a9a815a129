use Rattle.node_mirror.proofs.Mailboxes.{sending_mirrors}
use Rattle.node_mirror.proofs.mailing.a_sending_mirrors.Goals as goal

pub returns : goal.returns
returns g c = λ setting. sending_mirrors
