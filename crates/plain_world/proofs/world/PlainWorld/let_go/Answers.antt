use Rattle.std.proofs.Common.{ap}
use Rattle.world_rules.specs.Part.{Part}
use Rattle.world_rules.specs.World.{Process}
use Rattle.world_rules.specs.Settled.{settled, SentOff}
use Rattle.plain_world.specs.ShownProcess.{shown_process}
use Rattle.plain_world.specs.Shown.{shown_world}
use Rattle.plain_world.proofs.ProcessList.{put_changed}
use Rattle.plain_world.proofs.world.PlainWorld.let_go.Goals as goal

pub returns-clause-left : goal.returns-clause-left
returns-clause-left c =
    put_changed (shown_world c.args.self.now) (shown_world c.take_process-process.new.self)
    (shown_world c.put_process.new.self) c.args.pid (shown_process c.take_process-process.result) _
    (λ (p : Process). record p { part = settled p.part SentOff })
    c.take_process-process.ensures.taken c.take_process-process.ensures.left
    (ap (λ (part : Part). record (shown_process c.take_process-process.result) { part = part }) c.take_message-message.ensures.left) c.in_ok-put_process.ensures
