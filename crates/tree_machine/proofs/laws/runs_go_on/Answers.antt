use Rattle.tree_machine.specs.RunLaws.{goes_on}
use Rattle.tree_machine.specs.CallLaws.{takes_reply}
use Rattle.tree_machine.proofs.laws.runs_go_on.Goals as goal

pub returns-clause-steps : goal.returns-clause-steps
returns-clause-steps c m start calls n config here fuel = goes_on m start calls n config here fuel

pub returns-clause-replies : goal.returns-clause-replies
returns-clause-replies c m start calls n ask config reply here = takes_reply m start calls n ask config reply here
