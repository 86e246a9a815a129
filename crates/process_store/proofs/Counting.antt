use Rattle.std.proofs.Common.{◌≡◌, ◌<◌, ◌≤◌, ℕ, suc, ◌+◌, List, ◌∷◌, Bool, true, false, cond, eqb, nat_eq, length, map, slice_get, Option, Some, None, refl, arith, sym, ◌∙◌, ap}
use Rattle.std.proofs.lemmas.List.Recursion.{is_count_by}
use Rattle.std.proofs.lemmas.Bool.Decides.{nat_tests}
use Rattle.tagged_mailbox.specs.Mail.{Mail, counted, is_full}
use Rattle.world_rules.specs.Mail.{MailItem, is_message, message_count}
use Rattle.process_store.specs.Letters.{ItemShown}
use Rattle.process_store.specs.Holds.{item_of, items_in}

-- The messages of a mailbox, counted.

more : (b : Bool) (n : ℕ) → cond b (suc n) n ≡ cond b (1 + n) n
more true n = omega arith
more false n = refl

first : {S : Type 0} (item : ItemShown S) (items : List (ItemShown S)) → message_count (map item_of (item ∷ items)) ≡ cond (is_message (item_of item)) (suc (message_count (map item_of items))) (message_count (map item_of items))
first item items = by (is_message (item_of item)) refl
  where
    by : (b : Bool) → is_message (item_of item) ≡ b → message_count (map item_of (item ∷ items)) ≡ cond (is_message (item_of item)) (suc (message_count (map item_of items))) (message_count (map item_of items))
    by true is = rw is refl
    by false is = rw is refl

pub messages-count : {S : Type 0} (items : List (ItemShown S)) → message_count (map item_of items) ≡ counted (λ (item : ItemShown S). is_message (item_of item)) items
messages-count {S = S} items = is_count_by (λ (xs : List (ItemShown S)). message_count (map item_of xs)) (λ (item : ItemShown S). is_message (item_of item)) refl
    (λ item xs. first item xs ∙ more (is_message (item_of item)) (message_count (map item_of xs))) items

-- a full mailbox has 1,024 messages, and another has fewer
pub full-count : {S : Type 0} (items : List (ItemShown S)) → is_full (λ (item : ItemShown S). is_message (item_of item)) items ≡ true → 1024 ≤ message_count (map item_of items)
full-count items full = let a = messages-count items in grind (arith, nat_tests, full, a)

pub room-count : {S : Type 0} (items : List (ItemShown S)) → is_full (λ (item : ItemShown S). is_message (item_of item)) items ≡ false → counted (λ (item : ItemShown S). is_message (item_of item)) items ≤ 1024
    → message_count (map item_of items) < 1024
room-count items full bounded = let a = messages-count items in grind (arith, nat_tests, full, a, bounded)
