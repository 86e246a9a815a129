use Rattle.std.proofs.Common.{rules}
use Rattle.std.specs.FinMap.{gets}
use Rattle.link_signals.proofs.tests.links_change.Goals as goal

pub link-requires-clause-a_added : goal.link-requires-clause-a_added
link-requires-clause-a_added g c = grind (gets, rules)

pub link-requires-clause-b_added : goal.link-requires-clause-b_added
link-requires-clause-b_added g c = grind (gets, rules)

pub link-requires-2-clause-a_added : goal.link-requires-2-clause-a_added
link-requires-2-clause-a_added g c = grind (gets, rules)

pub link-requires-2-clause-b_added : goal.link-requires-2-clause-b_added
link-requires-2-clause-b_added g c = grind (gets, rules)
