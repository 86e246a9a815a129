use Rattle.process_store.proofs.Deadlines.{dated_none}
use Rattle.process_store.proofs.store.Store.timed.Goals as goal

pub returns-clause-none : goal.returns-clause-none
returns-clause-none g c = λ untimed pid. dated_none c.args.self.now.queue.deadlines c.timed.result untimed c.timed.ensures pid
