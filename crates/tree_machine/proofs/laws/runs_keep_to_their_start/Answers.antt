use Rattle.tree_machine.specs.RunLaws.{begin_wants_no_memory, begun_has_a_run, refused_has_no_run, keeps_to_fuel}
use Rattle.tree_machine.specs.AskLaws.{asks_what_it_may}
use Rattle.tree_machine.proofs.laws.runs_keep_to_their_start.Goals as goal

pub returns-clause-unwanted : goal.returns-clause-unwanted
returns-clause-unwanted c m start = begin_wants_no_memory m start

pub returns-clause-begun : goal.returns-clause-begun
returns-clause-begun c m start begins = begun_has_a_run m start begins

pub returns-clause-refused : goal.returns-clause-refused
returns-clause-refused c m start why calls n refused = refused_has_no_run m start why calls n refused

pub returns-clause-fueled : goal.returns-clause-fueled
returns-clause-fueled c m start calls n some = keeps_to_fuel m start calls n some

pub returns-clause-asks : goal.returns-clause-asks
returns-clause-asks c m start calls n ask at = asks_what_it_may m start calls n ask at
