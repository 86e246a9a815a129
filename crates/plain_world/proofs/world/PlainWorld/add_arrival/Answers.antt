use Rattle.std.proofs.Common.{◌∙◌, ap, List, [], ◌∷◌, ◌++◌}
use Rattle.world_rules.specs.World.{Process}
use Rattle.world_rules.specs.Arrivals.{Arrival}
use Rattle.world_rules.specs.Changes.{reached}
use Rattle.plain_world.specs.What.{shown_what}
use Rattle.plain_world.specs.ShownProcess.{shown_process}
use Rattle.plain_world.specs.Shown.{shown_world}
use Rattle.plain_world.proofs.ProcessList.{put_changed_ok}
use Rattle.plain_world.proofs.world.PlainWorld.add_arrival.Goals as goal

pub returns : goal.returns
returns c =
    put_changed_ok c.put_process.result (shown_world c.args.self.now) (shown_world c.take_process-process.new.self)
    (shown_world c.put_process.new.self) c.args.pid (shown_process c.take_process-process.result) _ (λ (p : Process). reached p (shown_what c.args.what))
    c.take_process-process.ensures.taken c.take_process-process.ensures.left
    (ap (λ (arrivals : List Arrival). record (shown_process c.take_process-process.result) { arrivals = arrivals })
    (c.in_ok-push.ensures.items
    ∙ ap (λ (arrival : Arrival). c.take_process-process.result.arrivals.items ++ arrival ∷ []) c.new.ensures))
    c.put_process.ensures
