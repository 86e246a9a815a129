use Rattle.flat_machine.proofs.CallsFollow.{index_called, through_called}
use Rattle.flat_machine.proofs.call_laws.calls_find_their_callees.Goals as goal

pub returns-clause-index : goal.returns-clause-index
returns-clause-index c m map flat config i index module_typed mapped follows typed code number at =
    index_called m map module_typed mapped flat config follows typed i index code number at

pub returns-clause-through : goal.returns-clause-through
returns-clause-through c m map flat config i ty module_typed mapped follows typed code number at =
    through_called m map module_typed mapped flat config follows typed i ty code number at
