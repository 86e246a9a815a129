use Rattle.std.proofs.Common.{arith}
use Rattle.plain_world.proofs.ProcessList.{process_replaced, process_pushed}
use Rattle.plain_world.proofs.processes.put_at.Goals as goal

pub returns-then-at-len-clause-put_in : goal.returns-then-at-len-clause-put_in
returns-then-at-len-clause-put_in c =
    process_replaced c.args.processes.now.items c.fill.new.processes.items c.args.pid c.args.process c.replace-earlier.new.dest
    (omega (arith, c.len.ensures, c.if-at-len.true)) c.fill.ensures.same c.replace-earlier.ensures.after

pub returns-clause-put_in : goal.returns-clause-put_in
returns-clause-put_in c =
    process_pushed c.args.processes.now.items c.fill.new.processes.items c.push.new.self.items c.args.pid c.args.process
    c.in_ok-push.ensures.items (omega (arith, c.len.ensures, c.if-at-len.false, c.in_ok-fill.ensures.long)) c.fill.ensures.same
