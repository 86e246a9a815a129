use Rattle.spawn_config.proofs.Unique.{one_list}
use Rattle.spawn_config.proofs.laws.one_spelling.Goals as goal

pub returns : goal.returns
returns c = one_list
