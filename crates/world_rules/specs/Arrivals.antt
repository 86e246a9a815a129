use Rattle.std.specs.Prelude.{ℕ, List, Option}
use Rattle.host_port.specs.declared.reply.Reply.{Reply}
use Rattle.world_rules.specs.declared.halt.End.{End}
use Rattle.world_rules.specs.Mail.{MailItem, Letter, Signal}

-- What reaches one process from outside its own turns.

-- a message or a signal was delivered to it; its request was answered; a stream was opened for it; an end came to it
-- that is not of its own turn; its turn ended for want of memory, after so many calls
pub data What : Type 0 where
  Delivered : (tag : ℕ) (bytes : List ℕ) (slots : List (Option ℕ)) → What
  Signalled : (tag : ℕ) → What
  Answered : (reply : Reply) → What
  Opened : (reply : Reply) → What
  Doomed : (end : End) → What
  Starved : (calls : ℕ) → What

-- what arrived, after so many of the process's own turns
pub record Arrival : Type 0 where
  pub turns : ℕ
  pub what : What

-- the arrival of an item of the mailbox: of a message with its tag, its bytes and its slots, or of a signal with its
-- tag
abbrev pub arrival_of : MailItem → What
arrival_of (Letter number message) = Delivered message.tag message.bytes message.slots
arrival_of (Signal tag) = Signalled tag
