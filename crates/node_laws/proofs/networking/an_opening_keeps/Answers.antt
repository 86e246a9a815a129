use Rattle.node_laws.proofs.Programs.{run-told}
use Rattle.node_laws.proofs.OutsideGives.{keeps-opening}
use Rattle.node_laws.proofs.networking.an_opening_keeps.Goals as goal

pub returns : goal.returns
returns g c = λ setting old new was is pid worker brought ask engine keeps.
    keeps-opening old new was is pid worker brought ask engine (c.sound.ensures.all_told old (run-told setting old keeps.run)) keeps
