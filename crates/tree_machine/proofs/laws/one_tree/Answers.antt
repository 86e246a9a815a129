use Rattle.tree_machine.proofs.Reading.{tree_is_read}
use Rattle.tree_machine.proofs.laws.one_tree.Goals as goal

pub returns : goal.returns
returns c e tree plain is = tree_is_read e tree plain is
