use Rattle.std.specs.Prelude.{ℕ, List, [], ◌∷◌, Option, Bool, true, false, nat_eq, find, filter, length, flat_map, if◌then◌else◌}
use Rattle.std.specs.List.{list_any}
use Rattle.std.specs.Int.{from_le_bytes, w64}
use Rattle.world_rules.specs.Part.{Message, handles_in}

-- Mailboxes. A mailbox is one list, the oldest first, from which a receive takes the first item that it wants.

-- what lies in a mailbox: a message, by its number among all the sends that were answered 0, or the signal of a link
-- that fell
pub data MailItem : Type 0 where
  Letter : (number : ℕ) (message : Message) → MailItem
  Signal : (tag : ℕ) → MailItem

-- the tag of a message, or of the link whose signal it is
abbrev pub tag_of : MailItem → ℕ
tag_of (Letter number message) = message.tag
tag_of (Signal tag) = tag

-- a signal isn't counted among the messages
abbrev pub is_message : MailItem → Bool
is_message (Letter number message) = true
is_message (Signal tag) = false

-- a mailbox holds 1,024 messages
abbrev pub most_messages : ℕ
most_messages = 1024

abbrev pub message_count : List MailItem → ℕ
message_count mail = length (filter is_message mail)

-- the streams of an item, by rising slot
abbrev pub item_handles : MailItem → List ℕ
item_handles (Letter number message) = handles_in message.slots
item_handles (Signal tag) = []

-- the streams of a mailbox, item by item and slot by slot
abbrev pub mail_handles : List MailItem → List ℕ
mail_handles mail = flat_map item_handles mail

-- the numbers in these bytes, eight bytes each, the lowest byte first
abbrev pub tags_in : List ℕ → List ℕ
tags_in (a ∷ b ∷ c ∷ d ∷ e ∷ f ∷ g ∷ h ∷ rest) = from_le_bytes w64 (a ∷ b ∷ c ∷ d ∷ e ∷ f ∷ g ∷ h ∷ []) ∷ tags_in rest
tags_in _ = []

-- a tag is wanted where it is among the tags; no tags want any
abbrev pub is_wanted : List ℕ → ℕ → Bool
is_wanted [] tag = true
is_wanted (first ∷ rest) tag = list_any (nat_eq tag) (first ∷ rest)

-- PICK. The first item whose tag is wanted, if there is one.
abbrev pub pick : List ℕ → List MailItem → Option MailItem
pick tags mail = find (λ item. is_wanted tags (tag_of item)) mail

-- what is left of the mailbox without that item
abbrev pub unpicked : List ℕ → List MailItem → List MailItem
unpicked tags [] = []
unpicked tags (item ∷ mail) = if is_wanted tags (tag_of item) then mail else (item ∷ unpicked tags mail)
