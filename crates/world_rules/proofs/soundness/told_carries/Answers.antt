use Rattle.world_rules.proofs.SoundLaws.{told_carry}
use Rattle.world_rules.proofs.soundness.told_carries.Goals as goal

pub returns-clause-core : goal.returns-clause-core
returns-clause-core c book births entry pid is other away = (told_carry book births entry pid is other away).0

pub returns-clause-away : goal.returns-clause-away
returns-clause-away c book births entry pid is other away = (told_carry book births entry pid is other away).1
