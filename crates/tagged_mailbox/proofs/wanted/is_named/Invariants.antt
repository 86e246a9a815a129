use Rattle.std.proofs.Common.{◌≡◌, length}
use Rattle.tagged_mailbox.specs.Pick.{is_named}
use Rattle.tagged_mailbox.proofs.wanted.is_named.Given as goal

abbrev pub invariant-loop-left : goal.invariant-loop-left
invariant-loop-left l = is_named l.tags l.tag ≡ is_named l.left l.tag

abbrev pub decreases-loop-left : goal.decreases-loop-left
decreases-loop-left l = length l.left
