use Rattle.node_mirror.proofs.Fallen.{fall_members}
use Rattle.node_mirror.proofs.Told.{fall_signals}
use Rattle.node_mirror.proofs.linking.falls_are_members.Goals as goal

pub returns : goal.returns
returns c = record {
  fallen = fall_members c.falls_are_least.ensures.closed c.falls_are_least.ensures.least;
  signals = λ w processes tags pid end members order net live isnt fall. fall_signals w processes tags end members order net isnt;
}
