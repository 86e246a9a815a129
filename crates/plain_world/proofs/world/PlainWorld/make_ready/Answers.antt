use Rattle.std.proofs.Common.{◌∙◌, ap, None, List, [], ◌∷◌, ◌++◌}
use Rattle.world_rules.specs.World.{Process}
use Rattle.host_port.specs.declared.call.Call.{Call}
use Rattle.host_port.specs.declared.request.Request.{Request}
use Rattle.world_rules.specs.World.{Ready}
use Rattle.world_rules.specs.Changes.{readied}
use Rattle.plain_world.specs.ShownProcess.{shown_process}
use Rattle.plain_world.specs.Shown.{shown_world}
use Rattle.plain_world.proofs.ProcessList.{put_changed_ok}
use Rattle.plain_world.proofs.world.PlainWorld.make_ready.Goals as goal

pub returns : goal.returns
returns c =
    put_changed_ok c.put_process.result (shown_world c.args.self.now) (shown_world c.take_process-process.new.self)
    (shown_world c.put_process.new.self) c.args.pid (shown_process c.take_process-process.result) _ (λ (p : Process). readied p c.args.request.now c.args.reply)
    c.take_process-process.ensures.taken c.take_process-process.ensures.left
    (ap (λ (calls : List Call). record (shown_process c.take_process-process.result) {
      stage = Ready;
      calls = calls;
      owed = None;
      deadline = None;
    })
    (c.in_ok-push.ensures.ok
    ∙ ap (λ (r : Request). c.take_process-process.result.calls ++ record { request = r; reply = c.args.reply } ∷ [])
    c.in_ok-request.ensures))
    c.put_process.ensures
