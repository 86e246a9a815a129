use Rattle.node_mirror.proofs.Clocks.{told_last}
use Rattle.node_mirror.proofs.linking.signals_follow.Goals as goal

pub returns : goal.returns
returns c = told_last
