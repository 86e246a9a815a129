use Rattle.journal.proofs.Goings.{told_with_entry}
use Rattle.journal.proofs.laws.told_goes_on.Goals as goal

pub returns : goal.returns
returns c = told_with_entry
