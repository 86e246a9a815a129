use Rattle.node_mirror.proofs.OutsideBacks.{answer-back}
use Rattle.node_mirror.proofs.giving.an_answer_mirrors.Goals as goal

pub returns : goal.returns
returns g c = λ setting. answer-back
