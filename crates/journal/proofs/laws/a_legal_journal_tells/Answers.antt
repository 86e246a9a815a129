use Rattle.world_rules.specs.laws.LifeLaws.{legal_tells}
use Rattle.journal.proofs.laws.a_legal_journal_tells.Goals as goal

pub returns : goal.returns
returns c = legal_tells
