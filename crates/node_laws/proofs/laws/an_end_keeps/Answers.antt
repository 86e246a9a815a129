use Rattle.node_laws.proofs.Programs.{keeps-sound}
use Rattle.node_laws.proofs.Ends.{keeps-end}
use Rattle.node_laws.proofs.laws.an_end_keeps.Goals as goal

pub returns : goal.returns
returns g c = λ setting. keeps-end (keeps-sound c.sound.ensures.first c.sound.ensures.kept c.touches.ensures.stays c.touches.ensures.counts)
