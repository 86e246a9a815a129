use Rattle.node_laws.proofs.Programs.{keeps-sound, run-told}
use Rattle.node_laws.proofs.AllEnds.{keeps-starve}
use Rattle.node_laws.proofs.timing.a_starve_keeps.Goals as goal

pub returns : goal.returns
returns g c = λ setting old new was is worker more show keeps.
    keeps-starve old new was is worker more
    (keeps-sound c.sound.ensures.first c.sound.ensures.kept c.touches.ensures.stays c.touches.ensures.counts)
    (c.sound.ensures.all_told old (run-told setting old keeps.run)) show keeps
