use Rattle.flat_machine.proofs.Starts.{first_body, begins_over, begins_for}
use Rattle.flat_machine.proofs.entry_laws.runs_begin.Goals as goal

pub returns-clause-first : goal.returns-clause-first
returns-clause-first c m map start mapped begins = first_body m map start mapped begins

pub returns-clause-over : goal.returns-clause-over
returns-clause-over c m start flat is = begins_over m start flat is

pub returns-clause-begins : goal.returns-clause-begins
returns-clause-begins c host m map start flat offers accepted spelled mapped typed begins is =
    begins_for m start flat is host map offers accepted spelled mapped typed begins
