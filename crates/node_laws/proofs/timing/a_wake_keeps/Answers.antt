use Rattle.node_laws.proofs.Programs.{run-told}
use Rattle.node_laws.proofs.Ticks.{keeps-wake}
use Rattle.node_laws.proofs.timing.a_wake_keeps.Goals as goal

pub returns : goal.returns
returns g c = λ setting old new was is worker now d seat ask engine keeps.
    keeps-wake old new was is worker now d seat ask engine (c.sound.ensures.all_told old (run-told setting old keeps.run)) keeps
