use Rattle.std.proofs.Common.{rules}
use Rattle.log_lock.proofs.QueueSteps.{gives_back}
use Rattle.log_lock.proofs.pass.LogLock.leave.Goals as goal

pub fetch_add-requires : goal.fetch_add-requires
fetch_add-requires g c = (search rules, search rules, gives_back _ _ _ _ _ _ _ _ c.args.value c.requires.own.0 (search rules) (search rules) (search rules) (search rules) (search rules) (search rules))
