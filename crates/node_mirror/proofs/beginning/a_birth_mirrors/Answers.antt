use Rattle.node_mirror.proofs.Births.{counted_mirrors, child_mirrors}
use Rattle.node_mirror.proofs.beginning.a_birth_mirrors.Goals as goal

pub returns : goal.returns
returns g c = record {
  counted = λ setting. counted_mirrors _ setting;
  born = λ setting. child_mirrors _ setting;
}
