use Rattle.std.specs.Prelude.{◌≡◌, ℕ, List, Some, None}
use Rattle.world_rules.specs.Calls.{HostCall, call_of}
use Rattle.world_rules.specs.Calls as CallIs
use Rattle.world_rules.specs.Mail.{MailItem, tags_in, pick}
use Rattle.world_rules.specs.World.{World, Stage, Unborn, Ready, Out, Waiting, Doomed, Ended}

-- A process that waits in receive finds nothing that it wants in its mailbox.

-- what a wait in receive asks of the mailbox: that no item of it is wanted
abbrev pub NothingWanted : Stage → List MailItem → Type 0
NothingWanted Unborn mail = Unit {0}
NothingWanted Ready mail = Unit {0}
NothingWanted (Out worker) mail = Unit {0}
NothingWanted (Waiting request) mail =
    call_of request ≡ Some CallIs.Receive → pick (tags_in request.first) mail ≡ None
NothingWanted (Doomed worker end) mail = Unit {0}
NothingWanted (Ended end) mail = Unit {0}

-- UNMET. No process waits in receive for what lies in its mailbox already.
abbrev pub AllUnmet : World → Type 0
AllUnmet w = (pid : ℕ) → NothingWanted (w.process pid).stage (w.process pid).mail
