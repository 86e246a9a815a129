use Rattle.flat_machine.proofs.RunsCompose.{safe_on}
use Rattle.flat_machine.proofs.runs.runs_are_safe.Goals as goal

pub returns : goal.returns
returns c m map executed from to safe run = safe_on m map executed from to safe run
