use Rattle.tree_machine.proofs.StepTyped.{step_kept}
use Rattle.tree_machine.proofs.ReplyTyped.{reply_kept}
use Rattle.tree_machine.proofs.laws.typed_runs_go_on.Goals as goal

pub returns-clause-steps : goal.returns-clause-steps
returns-clause-steps c m config module_typed is = step_kept m module_typed config is.0 is.1

pub returns-clause-replies : goal.returns-clause-replies
returns-clause-replies c m ask given config reply module_typed is fits form result = reply_kept m module_typed ask given config reply is fits form result
