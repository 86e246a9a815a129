use Rattle.world_rules.specs.laws.BirthLaws as births
use Rattle.world_rules.specs.laws.AllowedLaws.{allowed_extends}
use Rattle.world_rules.proofs.laws.next_extends.Goals as goal

pub returns-clause-same : goal.returns-clause-same
returns-clause-same c = births.next_extends

pub returns-clause-allowed : goal.returns-clause-allowed
returns-clause-allowed c = allowed_extends
