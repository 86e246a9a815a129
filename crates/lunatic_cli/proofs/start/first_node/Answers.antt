use Rattle.lunatic_cli.proofs.HostRows.{all-have-rows}
use Rattle.lunatic_cli.proofs.start.first_node.Goals as goal

pub new-requires-clause-rows : goal.new-requires-clause-rows
new-requires-clause-rows g c κs within = all-have-rows _
