use Rattle.node_laws.proofs.Programs.{keeps-sound}
use Rattle.node_laws.proofs.Ends.{keeps-doomed}
use Rattle.node_laws.proofs.laws.a_doomed_give_keeps.Goals as goal

pub returns : goal.returns
returns g c = λ setting.
    keeps-doomed (keeps-sound c.sound.ensures.first c.sound.ensures.kept c.touches.ensures.stays c.touches.ensures.counts) c.touches.ensures.touched
