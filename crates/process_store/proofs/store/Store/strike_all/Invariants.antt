use Rattle.std.proofs.Common.{◌≡◌, ◌-◌, length}
use Rattle.resource_table.specs.Steps.{told}
use Rattle.node_state.specs.Seats.{meaning}
use Rattle.process_store.proofs.StrikingAll.{StrikesAll}
use Rattle.process_store.proofs.store.Store.strike_all.Given as goal

abbrev pub invariant-loop-pid : goal.invariant-loop-pid
invariant-loop-pid g l =
    StrikesAll (meaning g.E.Engine.stands g.E.Engine.phase g.E.Engine.memory)
    (told g.O.Stream.Stream.taken g.O.Stream.Stream.put g.O.Stream.Stream.faults g.O.Stream.Stream.waits g.O.Stream.Stream.empties g.O.Stream.Stream.down)
    l.fn.self l.self l.fn.journal l.journal l.fn.end l.pid

abbrev pub decreases-loop-pid : goal.decreases-loop-pid
decreases-loop-pid g l = l.count - l.pid
