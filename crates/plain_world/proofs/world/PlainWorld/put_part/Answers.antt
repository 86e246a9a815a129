use Rattle.std.proofs.Common.{refl}
use Rattle.world_rules.specs.World.{Process}
use Rattle.plain_part.specs.Shown.{shown_part}
use Rattle.plain_world.specs.ShownProcess.{shown_process}
use Rattle.plain_world.specs.Shown.{shown_world}
use Rattle.plain_world.proofs.ProcessList.{put_changed_ok}
use Rattle.plain_world.proofs.world.PlainWorld.put_part.Goals as goal

pub returns : goal.returns
returns c =
    put_changed_ok c.put_process.result (shown_world c.args.self.now) (shown_world c.take_process-process.new.self)
    (shown_world c.put_process.new.self) c.args.pid (shown_process c.take_process-process.result) _ (λ (p : Process). record p { part = shown_part c.args.part })
    c.take_process-process.ensures.taken c.take_process-process.ensures.left refl c.put_process.ensures
