use Rattle.flat_machine.proofs.RunsStand.{first_stands, first_results}
use Rattle.flat_machine.proofs.run_laws.first_machines_stand.Goals as goal

pub returns-clause-begins : goal.returns-clause-begins
returns-clause-begins c host m map start results offers accepted spelled mapped typed begins has_results =
    first_stands host m map start results offers accepted spelled mapped typed begins has_results

pub returns-clause-results : goal.returns-clause-results
returns-clause-results c m map start mapped begins = first_results m map start mapped begins
