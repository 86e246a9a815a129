use Rattle.std.proofs.Common.{◌≡◌, ◌++◌, take}
use Rattle.world_rules.specs.Mail.{mail_handles}
use Rattle.plain_part.specs.Shown.{shown_mail}
use Rattle.plain_world.proofs.mailbox.Mailbox.push_handles.Given as goal

abbrev pub invariant-loop-item : goal.invariant-loop-item
invariant-loop-item l =
    l.handles.items ≡ l.fn.handles.items ++ mail_handles (shown_mail (take l.item-index l.item-items))
