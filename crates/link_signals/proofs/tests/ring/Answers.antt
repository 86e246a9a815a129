use Rattle.std.proofs.Common.{rules}
use Rattle.std.specs.FinMap.{gets}
use Rattle.link_signals.proofs.tests.ring.Goals as goal

pub link-requires-clause-a_added : goal.link-requires-clause-a_added
link-requires-clause-a_added c = grind (gets, rules)

pub link-requires-clause-b_added : goal.link-requires-clause-b_added
link-requires-clause-b_added c = grind (gets, rules)

pub link-requires-2-clause-a_added : goal.link-requires-2-clause-a_added
link-requires-2-clause-a_added c = grind (gets, rules)

pub link-requires-2-clause-b_added : goal.link-requires-2-clause-b_added
link-requires-2-clause-b_added c = grind (gets, rules)

pub link-requires-3-clause-a_added : goal.link-requires-3-clause-a_added
link-requires-3-clause-a_added c = grind (gets, rules)

pub link-requires-3-clause-b_added : goal.link-requires-3-clause-b_added
link-requires-3-clause-b_added c = grind (gets, rules)
