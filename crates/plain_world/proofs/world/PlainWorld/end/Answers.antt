use Rattle.std.proofs.Common.{◌∙◌, ap, [], ◌∷◌, ◌++◌}
use Rattle.world_rules.specs.World.{Exit}
use Rattle.plain_world.specs.ShownProcess.{shown_process}
use Rattle.plain_world.specs.Shown.{shown_world}
use Rattle.plain_world.proofs.EndSteps.{ended_back}
use Rattle.plain_world.proofs.world.PlainWorld.end.Goals as goal

pub returns : goal.returns
returns c =
    ended_back (shown_world c.args.self.now) (shown_world c.take_process-process.new.self) (shown_world c.put_parted.new.self)
    (shown_world c.add_closed.new.self) (shown_world c.add_move.new.self) c.args.pid c.args.end
    (shown_process c.take_process-process.result) (shown_process c.strip.new.self) c.deref.result.now c.push.new.self.items
    c.take_process-process.ensures.taken c.take_process-process.ensures.left c.strip.ensures c.in_ok-put_parted.ensures
    c.in_ok-add_closed.ensures (c.deref.ensures.value ∙ c.in_ok-handles.ensures) c.in_ok-add_move.ensures
    (c.in_ok-push.ensures.items
    ∙ ap (λ (exit : Exit). c.add_move.new.self.exits.items ++ exit ∷ []) c.new.ensures)
