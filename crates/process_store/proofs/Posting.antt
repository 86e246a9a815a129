use Rattle.std.proofs.Common.{◌≡◌, ◌≢◌, ◌<◌, ◌≤◌, ℕ, ◌+◌, List, [], length, sum_by, flat_map, Vec, slice_get, Option, Some, None, Bool, true, false, map, nat_eq, refl, arith, sym, ◌∙◌, ap, subst, ◌⊎◌, inl, inr}
use Rattle.std.proofs.lemmas.Bool.Decides.{eqb_tells}
use Rattle.std.proofs.Math.Path.{fun_ext}
use Rattle.std.specs.declared.alloc.Global.{Global}
use Rattle.resource_table.specs.Handles.{Handle}
use Rattle.tagged_mailbox.specs.Mail.{Mail, reserved, AddsPlace, counted, is_full}
use Rattle.world_rules.specs.Mail.{MailItem, is_message, message_count}
use Rattle.node_mirror.specs.Slots.{is_live_slot}
use Rattle.process_store.specs.Letters.{ItemShown}
use Rattle.process_store.specs.declared.store.Store.{Store}
use Rattle.process_store.specs.Holds.{held_of, item_streams, kept_of, item_of, items_in, place_at, streams_in, streams_of}
use Rattle.process_store.specs.Keeps.{StoreKeeps, link_count, reserved_in, signal_count}
use Rattle.process_store.proofs.Sets.{IsSet, each_set, length_set, read_here, sum_set}

-- A mailbox whose places change, and whose items stay.

module _ {E O P S L : Type 0} (old : Store E O P S L) (mail : Vec (Mail (ItemShown S)) Global) (to : ℕ) (was is : Mail (ItemShown S)) (placed : IsSet old.mail.items mail.items to was is)
    (same : is.items ≡ was.items) where
  same_streams : streams_of is ≡ streams_of was
  same_streams = ap (flat_map item_streams) same

  same_items : map item_of is.items ≡ map item_of was.items
  same_items = ap (map item_of) same

  pub box_items : (q : ℕ) → items_in (slice_get mail.items q) ≡ items_in (slice_get old.mail.items q)
  box_items = each_set placed (λ q (o : Option (Mail (ItemShown S))). items_in o ≡ items_in (slice_get old.mail.items q)) (λ q differs. refl) (same_items ∙ ap items_in (sym placed.there))

  pub box_streams : (q : ℕ) → streams_in (slice_get mail.items q) ≡ streams_in (slice_get old.mail.items q)
  box_streams = each_set placed (λ q (o : Option (Mail (ItemShown S))). streams_in o ≡ streams_in (slice_get old.mail.items q)) (λ q differs. refl) (same_streams ∙ ap streams_in (sym placed.there))

  pub box_held : held_of (record old { mail = mail }) ≡ held_of old
  box_held = ap (λ (f : ℕ → List MailItem). record (held_of old) { mail = f }) (fun_ext box_items)

  pub box_kept : kept_of (record old { mail = mail }) ≡ kept_of old
  box_kept = ap (λ (f : ℕ → List (Handle S)). record (kept_of old) { mail = f }) (fun_ext box_streams)

  box_few : StoreKeeps old → sum_by (λ (box : Mail (ItemShown S)). length (streams_of box)) mail.items ≡ sum_by (λ (box : Mail (ItemShown S)). length (streams_of box)) old.mail.items
  box_few k =
      let s = sum_set placed (λ (box : Mail (ItemShown S)). length (streams_of box)) in
      let here = ap length same_streams in
      omega (arith, s, here)

  box_links : StoreKeeps old → ((tag : ℕ) → reserved was.places tag ≤ reserved is.places tag) → (pid tag : ℕ) → is_live_slot (place_at old pid) ≡ true
      → link_count old.links pid tag + signal_count old.links pid tag ≤ reserved_in (slice_get mail.items pid) tag
  box_links k more pid tag = each_set placed
      (λ q (o : Option (Mail (ItemShown S))). is_live_slot (place_at old q) ≡ true → link_count old.links q tag + signal_count old.links q tag ≤ reserved_in o tag)
      (λ q differs lives. k.links_room q tag lives) here pid
    where
      here : is_live_slot (place_at old to) ≡ true → link_count old.links to tag + signal_count old.links to tag ≤ reserved is.places tag
      here lives =
          let a = k.links_room to tag lives in
          let b = ap (λ (o : Option (Mail (ItemShown S))). reserved_in o tag) placed.there in
          let c = more tag in
          omega (arith, a, b, c)

  pub box_keeps : StoreKeeps old → ((tag : ℕ) → reserved was.places tag ≤ reserved is.places tag) → StoreKeeps (record old { mail = mail })
  box_keeps k more = record {
    some = k.some;
    mail = length_set placed ∙ k.mail;
    shed = k.shed;
    sheds = k.sheds;
    unended = k.unended;
    out = k.out;
    listed = k.listed;
    once = k.once;
    all = k.all;
    room = k.room;
    came_room = k.came_room;
    dated = k.dated;
    numbered = k.numbered;
    few = let a = k.few in let b = box_few k in omega (arith, a, b);
    closed_room = k.closed_room;
    links_room = box_links k more;
    links_of = k.links_of;
  }

  -- one place more, beside those for signals
  pub box_has : (tag : ℕ) → StoreKeeps old → is_live_slot (place_at old to) ≡ true → reserved is.places tag ≡ reserved was.places tag + 1
      → link_count old.links to tag + signal_count old.links to tag + 1 ≤ reserved_in (slice_get mail.items to) tag
  box_has tag k live more =
      let a = k.links_room to tag live in
      let b = ap (λ (o : Option (Mail (ItemShown S))). reserved_in o tag) placed.there in
      let c = ap (λ (o : Option (Mail (ItemShown S))). reserved_in o tag) (read_here placed) in
      omega (arith, a, b, c, more)

-- one place more
pub place_more : (old new : List ℕ) (tag : ℕ) → AddsPlace old new tag → (other : ℕ) → reserved old other ≤ reserved new other
place_more old new tag adds other = by (eqb_tells other tag)
  where
    by : ((nat_eq other tag ≡ true) × (other ≡ tag)) ⊎ ((nat_eq other tag ≡ false) × (other ≢ tag)) → reserved old other ≤ reserved new other
    by (inl same) = let a = adds.added in let b = ap (reserved old) same.1 in let c = ap (reserved new) same.1 in omega (arith, a, b, c)
    by (inr differs) = let a = adds.others other differs.1 in omega (arith, a)
