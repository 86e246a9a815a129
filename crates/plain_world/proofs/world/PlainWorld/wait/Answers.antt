use Rattle.std.proofs.Common.{ap}
use Rattle.world_rules.specs.World.{Process}
use Rattle.host_port.specs.declared.request.Request.{Request}
use Rattle.world_rules.specs.World.{Waiting}
use Rattle.plain_world.specs.ShownProcess.{shown_process}
use Rattle.plain_world.specs.Shown.{shown_world}
use Rattle.plain_world.proofs.ProcessList.{put_changed_ok}
use Rattle.plain_world.proofs.world.PlainWorld.wait.Goals as goal

pub returns : goal.returns
returns c =
    put_changed_ok c.put_process.result (shown_world c.args.self.now) (shown_world c.take_process-process.new.self)
    (shown_world c.put_process.new.self) c.args.pid (shown_process c.take_process-process.result) _ (λ (p : Process). record p { stage = Waiting c.args.request.now; deadline = c.args.deadline })
    c.take_process-process.ensures.taken c.take_process-process.ensures.left
    (ap (λ (r : Request). record (shown_process c.take_process-process.result) {
      stage = Waiting r;
      deadline = c.args.deadline;
    })
    c.in_ok-awaited.ensures)
    c.put_process.ensures
