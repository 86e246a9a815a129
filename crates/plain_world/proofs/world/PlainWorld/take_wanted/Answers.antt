use Rattle.std.proofs.Common.{ℕ, List, ap, ◌∙◌}
use Rattle.world_rules.specs.Mail.{MailItem, tags_in, unpicked}
use Rattle.world_rules.specs.World.{Process}
use Rattle.plain_world.specs.ShownProcess.{shown_process}
use Rattle.plain_world.specs.Shown.{shown_world}
use Rattle.plain_world.proofs.ProcessList.{put_changed}
use Rattle.plain_world.proofs.world.PlainWorld.take_wanted.Goals as goal

pub returns-clause-left : goal.returns-clause-left
returns-clause-left c =
    put_changed (shown_world c.args.self.now) (shown_world c.take_process-process.new.self)
    (shown_world c.put_process.new.self) c.args.pid (shown_process c.take_process-process.result) _
    (λ (p : Process). record p { mail = unpicked (tags_in c.args.request.now.first) p.mail })
    c.take_process-process.ensures.taken c.take_process-process.ensures.left
    (ap (λ (mail : List MailItem). record (shown_process c.take_process-process.result) { mail = mail })
    (c.pick-found.ensures.left
    ∙ ap (λ (bytes : List ℕ). unpicked (tags_in bytes) c.take_process-process.result.mail) c.as_slice.ensures))
    c.in_ok-put_process.ensures
