use Rattle.flat_machine.proofs.EveryMove.{every_move}
use Rattle.flat_machine.proofs.Executing.{ready_next, ready_settled}
use Rattle.flat_machine.proofs.run_laws.moves_agree.Goals as goal

pub returns-clause-step : goal.returns-clause-step
returns-clause-step c m map flat config module_typed mapped follows typed = every_move m map module_typed mapped flat config follows typed

pub returns-clause-ready : goal.returns-clause-ready
returns-clause-ready c m map flat config follows typed ready = ready_settled m config (ready_next m map flat config follows typed ready)
