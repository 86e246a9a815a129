use Rattle.flat_machine.proofs.LeaveMoves.{leave_agrees}
use Rattle.flat_machine.proofs.call_moves.leaving_agrees.Goals as goal

pub returns : goal.returns
returns c m map flat config module_typed mapped follows typed over = leave_agrees m map module_typed mapped flat config follows typed over
