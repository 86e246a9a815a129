use Rattle.std.proofs.Common.{sym, ◌∙◌, ap, arith}
use Rattle.world_rules.specs.World.{Process, put}
use Rattle.plain_world.specs.ShownProcess.{process_in, shown_process}
use Rattle.plain_world.proofs.ProcessList.{process_past, process_none, process_set}
use Rattle.plain_world.proofs.processes.take_at.Goals as goal

pub returns-then-at-len-clause-left : goal.returns-then-at-len-clause-left
returns-then-at-len-clause-left c =
    process_set c.args.processes.now.items c.args.pid c.replace.new.dest (omega (arith, c.len.ensures, c.if-at-len.true))
    ∙ ap (λ (p : Process). put (process_in c.args.processes.now.items) c.args.pid p)
    (ap shown_process c.replace.ensures.after ∙ c.unborn-nobody.ensures)

pub returns-clause-taken : goal.returns-clause-taken
returns-clause-taken c =
    c.unborn-nobody.ensures
    ∙ sym (process_past c.args.processes.now.items c.args.pid (omega (arith, c.len.ensures, c.if-at-len.false)))

pub returns-clause-left : goal.returns-clause-left
returns-clause-left c =
    process_none c.args.processes.now.items c.args.pid (omega (arith, c.len.ensures, c.if-at-len.false))
