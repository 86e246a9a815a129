use Rattle.flat_machine.proofs.CallMoves.{call_agrees, call_through_agrees}
use Rattle.flat_machine.proofs.call_moves.calls_are_steps.Goals as goal

pub returns-clause-index : goal.returns-clause-index
returns-clause-index c m map flat config i index module_typed mapped follows typed at code number =
    call_agrees m map module_typed mapped flat config follows typed i at index code number

pub returns-clause-through : goal.returns-clause-through
returns-clause-through c m map flat config i ty module_typed mapped follows typed at code number =
    call_through_agrees m map module_typed mapped flat config follows typed i at ty code number
