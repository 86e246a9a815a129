use Rattle.flat_machine.proofs.RunsCompose.{runs_nothing, runs_executed, runs_passed, runs_joined}
use Rattle.flat_machine.proofs.runs.runs_compose.Goals as goal

pub returns-clause-nothing : goal.returns-clause-nothing
returns-clause-nothing c m map flat = runs_nothing m map flat

pub returns-clause-executes : goal.returns-clause-executes
returns-clause-executes c m map from to is = runs_executed m map from to is

pub returns-clause-passes : goal.returns-clause-passes
returns-clause-passes c m map from to is = runs_passed m map from to is

pub returns-clause-joined : goal.returns-clause-joined
returns-clause-joined c m map first second from mid to one two = runs_joined m map first second from mid to one two
