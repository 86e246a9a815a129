use Rattle.flat_machine.proofs.ReplyBytes.{reply_taken}
use Rattle.flat_machine.proofs.call_moves.replies_are_taken.Goals as goal

pub returns : goal.returns
returns c m map ask results waits config reply mapped is fits form = reply_taken m map ask results waits config reply mapped is fits form
