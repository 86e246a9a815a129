use Rattle.std.proofs.Common.{◌≡◌, ◌≤◌, ◌+◌, length}
use Rattle.host_port.specs.Standing.{Running}
use Rattle.resource_table.specs.Handles.{numbers_of}
use Rattle.resource_table.specs.Steps.{told}
use Rattle.world_rules.specs.World.{Process}
use Rattle.node_state.specs.Seats.{meaning}
use Rattle.node_state.specs.Rows.{HasRows}
use Rattle.host_calls.specs.Shown.{seat_of}
use Rattle.host_calls.specs.Brings.{IsUnderWay, IsAt, GoesTo}
use Rattle.host_calls.specs.Turning.{KeepsStreams}
use Rattle.host_calls.proofs.whole_turn.run.Given as goal

abbrev pub invariant-loop-answered : goal.invariant-loop-answered
invariant-loop-answered g l = record {
  way : IsUnderWay (meaning g.E.Engine.stands g.E.Engine.phase g.E.Engine.memory) Running (seat_of l.proc);
  same : l.proc.start ≡ l.fn.proc.start;
  owed : l.proc.owed ≡ l.fn.proc.owed;
  from : l.begun ≤ l.proc.fuel;
  within : l.proc.fuel ≤ l.begun + 10000;
  count : length l.calls.items ≡ l.answered;
  goes : (program : _) (p : Process) → HasRows g.E.Engine.may_ask program → IsAt (meaning g.E.Engine.stands g.E.Engine.phase g.E.Engine.memory) program p (seat_of l.fn.proc) →
      GoesTo (meaning g.E.Engine.stands g.E.Engine.phase g.E.Engine.memory) g.E.Engine.at program p (seat_of l.proc) (numbers_of l.proc.shed) l.calls.items;
  streams : KeepsStreams (told g.O.Stream.Stream.taken g.O.Stream.Stream.put g.O.Stream.Stream.faults g.O.Stream.Stream.waits g.O.Stream.Stream.empties g.O.Stream.Stream.down) l.fn.proc l.proc;
}
