use Rattle.flat_machine.proofs.Rules.{not_stuck, one_target}
use Rattle.flat_machine.proofs.laws.rules_apply.Goals as goal

pub returns-clause-rule : goal.returns-clause-rule
returns-clause-rule c m config module_typed typed = not_stuck m module_typed config typed.0 typed.1

pub returns-clause-target : goal.returns-clause-target
returns-clause-target c maps place t u one two = one_target maps place t u one two
