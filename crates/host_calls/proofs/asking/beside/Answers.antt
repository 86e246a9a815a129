use Rattle.std.proofs.Common.{sym, ◌∙◌}
use Rattle.resource_table.specs.Steps.{told}
use Rattle.host_port.specs.Areas.{request_of}
use Rattle.host_calls.proofs.Served.{outside_known}
use Rattle.host_calls.proofs.Comings.{come_time}
use Rattle.host_calls.proofs.asking.beside.Goals as goal

pub ask_outside-requires-clause-kind : goal.ask_outside-requires-clause-kind
ask_outside-requires-clause-kind g c κs within =
    outside_known (request_of (g.E.Engine.memory c.args.proc.now.engine) c.args.ask) (sym c.is_outsides.ensures ∙ c.if-is_outsides.true)

pub returns-else-is_outsides-clause-came : goal.returns-else-is_outsides-clause-came
returns-else-is_outsides-clause-came g c =
    come_time (told g.O.Stream.Stream.taken g.O.Stream.Stream.put g.O.Stream.Stream.faults g.O.Stream.Stream.waits g.O.Stream.Stream.empties g.O.Stream.Stream.down) (g.O.Outside.clock
    c.args.outside.now) (g.E.Engine.memory c.args.proc.now.engine) c.args.ask c.args.proc.now c.time_for.result c.time_for.ensures.side
    (sym c.is_outsides.ensures ∙ c.if-is_outsides.false) c.requires.unowed
