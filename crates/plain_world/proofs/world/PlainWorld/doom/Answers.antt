use Rattle.std.proofs.Common.{◌∙◌, ap, List, ℕ, ◌++◌}
use Rattle.world_rules.specs.Mail.{mail_handles}
use Rattle.plain_world.specs.ShownProcess.{shown_process}
use Rattle.plain_world.specs.Shown.{shown_world}
use Rattle.plain_world.proofs.EndSteps.{doomed_back}
use Rattle.plain_world.proofs.world.PlainWorld.doom.Goals as goal

pub returns : goal.returns
returns c =
    doomed_back c.add_move.result (shown_world c.args.self.now) (shown_world c.take_process-process.new.self)
    (shown_world c.put_parted.new.self) (shown_world c.add_closed.new.self) (shown_world c.add_move.new.self) c.args.pid
    c.args.worker c.args.end (shown_process c.take_process-process.result) (shown_process c.doom.new.self) c.deref.result.now
    c.take_process-process.ensures.taken c.take_process-process.ensures.left c.doom.ensures c.in_ok-put_parted.ensures
    c.in_ok-add_closed.ensures
    (c.deref.ensures.value ∙ c.in_ok-push_handles.ensures
    ∙ ap (λ (hs : List ℕ). hs ++ mail_handles c.take_process-process.result.mail) c.new-handles.ensures.items)
    c.add_move.ensures
