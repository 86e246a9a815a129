use Rattle.std.specs.Prelude.{refl}
use Rattle.node_mirror.proofs.Clocks.{late_last}
use Rattle.node_mirror.proofs.ticking.latenesses_follow.Goals as goal

pub returns : goal.returns
returns c = record {
  next = late_last;
  all = λ w now. refl;
}
