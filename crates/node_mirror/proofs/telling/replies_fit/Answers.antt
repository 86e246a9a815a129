use Rattle.node_mirror.proofs.ReplyForms.{giving-number, giving-id, giving-nothing, giving-delivered}
use Rattle.node_mirror.proofs.telling.replies_fit.Goals as goal

pub returns : goal.returns
returns g c = record {
  number = λ setting. giving-number;
  written = λ setting. giving-id;
  nothing = λ setting. giving-nothing;
  delivered = λ setting. giving-delivered;
}
