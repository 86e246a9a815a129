use Rattle.world_rules.proofs.Chains.{stays}
use Rattle.world_rules.specs.Rules.{next}
use Rattle.world_rules.proofs.SoundLaws.{entry_touches, entry_counts}
use Rattle.world_rules.proofs.touching.touches.Goals as goal

pub returns-clause-touched : goal.returns-clause-touched
returns-clause-touched c = entry_touches

pub returns-clause-stays : goal.returns-clause-stays
returns-clause-stays c terms births w entry pid is allowed =
    stays pid (w.process pid) ((next births w entry).process pid) (entry_touches terms births w entry pid is allowed)

pub returns-clause-counts : goal.returns-clause-counts
returns-clause-counts c = entry_counts
