use Rattle.std.specs.FinMap.{len}
use Rattle.resource_table.specs.Steps.{told}
use Rattle.node_state.specs.Seats.{meaning}
use Rattle.process_store.proofs.WakingDue.{WakesDue}
use Rattle.process_store.proofs.store.Store.wake_due.Given as goal

abbrev pub invariant-loop-some : goal.invariant-loop-some
invariant-loop-some g l =
    WakesDue (meaning g.E.Engine.stands g.E.Engine.phase g.E.Engine.memory)
    (told g.O.Stream.Stream.taken g.O.Stream.Stream.put g.O.Stream.Stream.faults g.O.Stream.Stream.waits g.O.Stream.Stream.empties g.O.Stream.Stream.down)
    l.fn.self l.self l.some

abbrev pub decreases-loop-some : goal.decreases-loop-some
decreases-loop-some g l = len l.self.queue.deadlines
