use Rattle.node_laws.proofs.Programs.{run-told}
use Rattle.node_laws.proofs.Ticks.{keeps-early-tick}
use Rattle.node_laws.proofs.timing.an_early_tick_keeps.Goals as goal

pub returns : goal.returns
returns g c = λ setting old new was is worker now d keeps.
    keeps-early-tick old new was is worker now d (c.sound.ensures.all_told old (run-told setting old keeps.run)) keeps
