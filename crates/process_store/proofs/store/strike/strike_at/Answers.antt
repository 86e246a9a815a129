use Rattle.process_store.proofs.Emptying.{nothing_closed}
use Rattle.process_store.proofs.store.strike.strike_at.Goals as goal

pub returns-in_default-clause-closed : goal.returns-in_default-clause-closed
returns-in_default-clause-closed g c = nothing_closed _ c.args.place c.args.closed.now.items c.in_default.not-Home c.in_default.not-Asleep c.in_default.not-Giving
