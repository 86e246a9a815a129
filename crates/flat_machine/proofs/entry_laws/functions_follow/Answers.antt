use Rattle.flat_machine.proofs.Enterings.{enters_next, finishes}
use Rattle.flat_machine.proofs.entry_laws.functions_follow.Goals as goal

pub returns-clause-next : goal.returns-clause-next
returns-clause-next c m map flat config i rest module_typed mapped follows typed over alone next_is =
    enters_next m map flat config i rest module_typed mapped follows typed over alone next_is

pub returns-clause-finished : goal.returns-clause-finished
returns-clause-finished c m map flat config follows typed over alone none = finishes m map.bodies flat config follows typed over alone none
