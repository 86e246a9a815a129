use Rattle.std.proofs.Common.{◌≡◌, ◌≤◌, take}
use Rattle.plain_part.specs.Shown.{shown_mail}
use Rattle.world_rules.specs.Mail.{message_count}
use Rattle.plain_world.proofs.mailbox.count_messages.Given as goal

abbrev pub invariant-loop-item : goal.invariant-loop-item
invariant-loop-item l = (l.count ≡ message_count (shown_mail (take l.item-index l.items))) × (l.count ≤ l.item-index)
