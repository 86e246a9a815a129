use Rattle.node_mirror.proofs.ReplyForms.{asleep-late, asleep-delivered}
use Rattle.node_mirror.proofs.telling.waits_are_answered.Goals as goal

pub returns : goal.returns
returns g c = record {
  late = λ setting. asleep-late;
  delivered = λ setting. asleep-delivered;
}
