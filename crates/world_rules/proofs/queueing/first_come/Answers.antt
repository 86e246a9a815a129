use Rattle.world_rules.proofs.QueueLaws.{ahead_kept, none_taken}
use Rattle.world_rules.proofs.queueing.first_come.Goals as goal

pub returns-clause-kept : goal.returns-clause-kept
returns-clause-kept c = ahead_kept

pub returns-clause-served : goal.returns-clause-served
returns-clause-served c = none_taken
