use Rattle.module_writer.proofs.Appending.{limits_as}
use Rattle.module_writer.proofs.types.write_limits.Goals as goal

pub returns-in_ok-write_least-in-None : goal.returns-in_ok-write_least-in-None
returns-in_ok-write_least-in-None c = limits_as _ _ _ _ c.in-None.is c.in_ok-write_least-in-None.ensures

pub returns-in_ok-write_both-in-Some : goal.returns-in_ok-write_both-in-Some
returns-in_ok-write_both-in-Some c = limits_as _ _ _ _ c.in-Some.is c.in_ok-write_both-in-Some.ensures
