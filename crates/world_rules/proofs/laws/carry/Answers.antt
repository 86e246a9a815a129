use Rattle.world_rules.specs.laws.CarryLaws as laws
use Rattle.world_rules.proofs.laws.carry.Goals as goal

pub returns-clause-core : goal.returns-clause-core
returns-clause-core c births w entry pid fresh other away = (laws.carry births w entry pid fresh other away).0

pub returns-clause-away : goal.returns-clause-away
returns-clause-away c births w entry pid fresh other away = (laws.carry births w entry pid fresh other away).1
