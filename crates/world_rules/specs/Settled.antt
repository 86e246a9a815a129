use Rattle.std.specs.Prelude.{ℕ, ◌+◌, [], ◌∷◌, ◌++◌, Some, None}
use Rattle.world_rules.specs.Part.{Part, Message, blank_message, unread, with_number}
use Rattle.world_rules.specs.Mail.{MailItem, Letter, Signal}

-- What a call of the world or of the outside does to the caller's part.

-- the scratch message was sent; an item of the mailbox was delivered; a stream was opened; a listener was bound
pub data Outcome : Type 0 where
  SentOff : Outcome
  Delivered : (item : MailItem) → Outcome
  StreamOpened : (handle : ℕ) → Outcome
  ListenerBound : Outcome

-- a delivered message becomes the scratch message; a delivered signal makes an empty one with its tag
abbrev pub message_of : MailItem → Message
message_of (Letter number message) = message
message_of (Signal tag) = blank_message tag

-- SETTLED. A message that was sent leaves the scratch area empty; a delivered item is in it, to be read from its first
-- byte on; an opened stream joins the table; a bound listener has the next number.
abbrev pub settled : Part → Outcome → Part
settled part SentOff = record part { scratch = None }
settled part (Delivered item) = record part { scratch = Some (unread (message_of item)) }
settled part (StreamOpened handle) = record part { handles = with_number handle part.handles }
settled part ListenerBound =
    record part { listeners = part.listeners ++ part.next_listener ∷ []; next_listener = part.next_listener + 1 }
