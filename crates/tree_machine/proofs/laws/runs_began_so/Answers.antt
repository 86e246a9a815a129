use Rattle.tree_machine.specs.CallLaws.{was_ready}
use Rattle.tree_machine.proofs.laws.runs_began_so.Goals as goal

pub returns : goal.returns
returns c m start calls n k p here less = was_ready m start calls n k p here less
