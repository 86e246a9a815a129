use Rattle.std.proofs.Common.{ap}
use Rattle.world_rules.specs.Part.{Part}
use Rattle.world_rules.specs.World.{Process}
use Rattle.world_rules.specs.Settled.{settled, ListenerBound}
use Rattle.plain_world.specs.ShownProcess.{shown_process}
use Rattle.plain_world.specs.Shown.{shown_world}
use Rattle.plain_world.proofs.ProcessList.{put_changed_ok}
use Rattle.plain_world.proofs.world.PlainWorld.settle_listener.Goals as goal

pub returns : goal.returns
returns c =
    put_changed_ok c.put_process.result (shown_world c.args.self.now) (shown_world c.take_process-process.new.self)
    (shown_world c.put_process.new.self) c.args.pid (shown_process c.take_process-process.result) _
    (λ (p : Process). record p { part = settled p.part ListenerBound })
    c.take_process-process.ensures.taken c.take_process-process.ensures.left
    (ap (λ (part : Part). record (shown_process c.take_process-process.result) { part = part }) c.in_ok-bind_listener.ensures) c.put_process.ensures
