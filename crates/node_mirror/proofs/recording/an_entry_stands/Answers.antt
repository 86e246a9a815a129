use Rattle.node_mirror.proofs.Recorded.{stands-next}
use Rattle.node_mirror.proofs.recording.an_entry_stands.Goals as goal

pub returns : goal.returns
returns g c = λ setting. stands-next
