use Rattle.node_mirror.proofs.Recorded.{stands-roomier}
use Rattle.node_mirror.proofs.recording.more_room_stands.Goals as goal

pub returns : goal.returns
returns g c = λ setting. stands-roomier
