use Rattle.node_mirror.proofs.Strikes.{struck_last, struck_all_end}
use Rattle.node_mirror.proofs.ending.strikes_follow.Goals as goal

pub returns : goal.returns
returns c = record {
  next = struck_last;
  all = struck_all_end;
}
