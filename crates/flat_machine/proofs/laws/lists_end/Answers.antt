use Rattle.flat_machine.proofs.EndsAgree.{end_leaves, else_leaves}
use Rattle.flat_machine.proofs.laws.lists_end.Goals as goal

pub returns-clause-end : goal.returns-clause-end
returns-clause-end c m maps flat config follows typed at more = end_leaves m maps flat config follows typed at more

pub returns-clause-other : goal.returns-clause-other
returns-clause-other c m maps flat config follows typed at = else_leaves m maps flat config follows typed at
