use Rattle.node_mirror.proofs.Taken.{stands-take}
use Rattle.node_mirror.proofs.recording.a_take_stands.Goals as goal

pub returns : goal.returns
returns g c = λ setting old new was rest pid worker.
    stands-take old new was rest pid worker c.sound.ensures.all_told c.sound.ensures.kept
