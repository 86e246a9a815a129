use Rattle.world_rules.specs.laws.AllowedLaws as allowed
use Rattle.world_rules.proofs.laws.allowed_untested.Goals as goal

pub returns : goal.returns
returns c = allowed.allowed_untested
