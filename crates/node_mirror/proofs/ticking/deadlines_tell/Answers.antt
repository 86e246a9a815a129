use Rattle.node_mirror.proofs.Timed.{nobody_timed, somebody_timed}
use Rattle.node_mirror.proofs.ticking.deadlines_tell.Goals as goal

pub returns : goal.returns
returns g c = record {
  none = λ setting. nobody_timed _ setting;
  some = λ setting. somebody_timed _ setting;
}
