use Rattle.flat_machine.proofs.Returns.{body_end_leaves, return_leaves}
use Rattle.flat_machine.proofs.laws.functions_end.Goals as goal

pub returns-clause-end : goal.returns-clause-end
returns-clause-end c m maps flat config follows typed at last = body_end_leaves m maps flat config follows typed at last

pub returns-clause-caller : goal.returns-clause-caller
returns-clause-caller c m maps flat config caller callers follows typed waits over = return_leaves m maps flat config follows typed caller callers waits over
