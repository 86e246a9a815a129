use Rattle.std.proofs.Common.{arith}
use Rattle.plain_world.specs.Shown.{shown_world}
use Rattle.plain_world.proofs.Falling.{signal_pushed}
use Rattle.plain_world.proofs.world.PlainWorld.push_signals.Goals as goal

pub loop-pid-preserved : goal.loop-pid-preserved
loop-pid-preserved c =
    signal_pushed (shown_world c.args.self.now) c.args.member c.args.outsiders.now c.loop-pid.pid-index
    c.args.told.now.items c.loop-pid.told.items c.push_signal.new.told.items c.signal_to.result (omega arith)
    c.loop-pid.invariant c.signal_to.ensures c.in_ok-push_signal.ensures
