use Rattle.node_mirror.proofs.Refusals.{brought-allowed, refusal-allowed}
use Rattle.node_mirror.proofs.allowing.a_give_is_allowed.Goals as goal

pub returns : goal.returns
returns g c = record {
  brought = λ setting. brought-allowed;
  refused = λ setting. refusal-allowed;
}
