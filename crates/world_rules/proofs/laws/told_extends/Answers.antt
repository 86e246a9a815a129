use Rattle.world_rules.specs.laws.BirthLaws as births
use Rattle.world_rules.proofs.laws.told_extends.Goals as goal

pub returns : goal.returns
returns c = births.told_extends
