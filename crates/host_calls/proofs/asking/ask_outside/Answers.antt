use Rattle.std.proofs.Common.{None, Some}
use Rattle.resource_table.specs.Steps.{told}
use Rattle.world_rules.specs.declared.entry.Side.TheVariants.{Opened}
use Rattle.host_calls.proofs.Comings.{come_outside, time_outside}
use Rattle.host_calls.proofs.asking.ask_outside.Goals as goal

pub returns-in-Side-clause-came : goal.returns-in-Side-clause-came
returns-in-Side-clause-came g c =
    come_outside (told g.O.Stream.Stream.taken g.O.Stream.Stream.put g.O.Stream.Stream.faults g.O.Stream.Stream.waits g.O.Stream.Stream.empties g.O.Stream.Stream.down) (g.E.Engine.memory
    c.args.proc.now.engine) c.args.ask c.args.proc.now c.outside_step.new.proc c.in-Side.side None
    c.requires.kind c.in-Side.ensures.step

pub returns-in-Side-clause-time : goal.returns-in-Side-clause-time
returns-in-Side-clause-time g c =
    time_outside (told g.O.Stream.Stream.taken g.O.Stream.Stream.put g.O.Stream.Stream.faults g.O.Stream.Stream.waits g.O.Stream.Stream.empties g.O.Stream.Stream.down) (g.O.Outside.clock
    c.args.outside.now) (g.E.Engine.memory c.args.proc.now.engine) c.args.ask c.args.proc.now c.outside_step.new.proc c.in-Side.side None
    c.requires.kind c.in-Side.ensures.step

pub returns-in-Opened-clause-came : goal.returns-in-Opened-clause-came
returns-in-Opened-clause-came g c =
    come_outside (told g.O.Stream.Stream.taken g.O.Stream.Stream.put g.O.Stream.Stream.faults g.O.Stream.Stream.waits g.O.Stream.Stream.empties g.O.Stream.Stream.down) (g.E.Engine.memory
    c.args.proc.now.engine) c.args.ask c.args.proc.now c.outside_step.new.proc Opened (Some c.in-Opened.stream)
    c.requires.kind c.in-Opened.ensures.step
