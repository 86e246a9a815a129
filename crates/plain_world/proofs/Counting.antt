use Rattle.std.proofs.Common.{◌≡◌, ℕ, ◌+◌, List, [], ◌∷◌, ◌++◌, Bool, true, false, length, filter, take, ap, ◌∙◌, sym, cond, length-append, get_or, ◌<◌}
use Rattle.std.proofs.lemmas.List.{take_more, map-append}
use Rattle.std.proofs.lemmas.List.Elements.{filter-append}
use Rattle.plain_part.specs.declared.mail_item.MailItem as Kept
use Rattle.plain_part.specs.Shown.{shown_item, shown_mail}
use Rattle.world_rules.specs.Mail.{MailItem, is_message, message_count}

-- How many messages a mailbox holds.

one_message : (item : MailItem) (b : Bool) → is_message item ≡ b → message_count (item ∷ []) ≡ cond b 1 0
one_message item true e = ap (λ (t : Bool). length (cond t (item ∷ []) [])) e
one_message item false e = ap (λ (t : Bool). length (cond t (item ∷ []) [])) e

message_count-push : (mail : List MailItem) (item : MailItem) → message_count (mail ++ item ∷ []) ≡ message_count mail + message_count (item ∷ [])
message_count-push mail item = ap length (filter-append is_message mail (item ∷ [])) ∙ length-append (filter is_message mail) (filter is_message (item ∷ []))

-- one item more was counted
pub counted-more : (items : List Kept.MailItem) (k : ℕ) (item : Kept.MailItem) (b : Bool) → k < length items → item ≡ get_or items k item → is_message (shown_item item) ≡ b →
    message_count (shown_mail (take (k + 1) items)) ≡ message_count (shown_mail (take k items)) + cond b 1 0
counted-more items k item b within is told =
    let before : take (k + 1) items ≡ take k items ++ item ∷ [] = take_more items k item within ∙ ap (λ (x : Kept.MailItem). take k items ++ x ∷ []) (sym is) in
    ap (λ (xs : List Kept.MailItem). message_count (shown_mail xs)) before
    ∙ ap message_count (map-append shown_item (take k items) (item ∷ []))
    ∙ message_count-push (shown_mail (take k items)) (shown_item item)
    ∙ ap (λ n. message_count (shown_mail (take k items)) + n) (one_message (shown_item item) b told)
