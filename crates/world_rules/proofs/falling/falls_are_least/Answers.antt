use Rattle.world_rules.proofs.Least.{falls_closed, falls_least}
use Rattle.world_rules.proofs.falling.falls_are_least.Goals as goal
use Rattle.std.proofs.Common.{refl}

pub returns-clause-nobody : goal.returns-clause-nobody
returns-clause-nobody c w pid = refl

pub returns-clause-closed : goal.returns-clause-closed
returns-clause-closed c w pid end is live isnt = falls_closed w pid end is.processes live isnt

pub returns-clause-least : goal.returns-clause-least
returns-clause-least c = falls_least
