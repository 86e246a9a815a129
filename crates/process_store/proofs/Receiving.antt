use Rattle.std.proofs.Common.{◌≡◌, ℕ, zero, suc, ◌+◌, ◌≤◌, ◌%◌, List, [], ◌∷◌, ◌++◌, length, length-append, vec_capacity, sum_by, map, Contains, Vec, Option, Some, None, option_map, Bool, true, false, cond, slice_get, slice_set, get_or}
use Rattle.std.proofs.Common.{refl, arith, sym, ◌∙◌, ap, subst, ◌⊎◌, inl, inr, append-nil}
use Rattle.std.proofs.Math.Nat.{ℕ_set}
use Rattle.std.proofs.lemmas.List.{map-append}
use Rattle.std.proofs.lemmas.List.Elements.{Contains-append_cases, Contains-append_left, Contains-append_right}
use Rattle.std.specs.declared.alloc.Global.{Global}
use Rattle.std.specs.List.{flat_map}
use Rattle.std.specs.Vec.{with_item}
use Rattle.host_calls.specs.declared.proc.Proc.{Proc}
use Rattle.host_calls.specs.Shown.{hands_of, seat_of, shown_part, shown_scratch}
use Rattle.message_scratch.specs.Messages as Kept
use Rattle.resource_table.specs.Handles.{Handle, numbers_of}
use Rattle.resource_table.specs.Steps.{Told, Sheds}
use Rattle.resource_table.proofs.Closings.{sheds_length}
use Rattle.tagged_mailbox.specs.Mail.{Mail, reserved}
use Rattle.tagged_mailbox.specs.Pick as Picks
use Rattle.host_port.specs.declared.ask.Ask.{Ask}
use Rattle.host_port.specs.declared.reply.Reply.{Reply}
use Rattle.host_port.specs.Standing.{Phase}
use Rattle.host_port.specs.Steps.{IsAnswerable}
use Rattle.world_rules.specs.Answers.{number_reply}
use Rattle.world_rules.specs.Mail.{MailItem, is_wanted, pick, tag_of, tags_in, unpicked}
use Rattle.world_rules.specs.Mail as MailIs
use Rattle.world_rules.specs.Part.{scratch_handles, unread}
use Rattle.world_rules.specs.Receive.{delivery_reply}
use Rattle.world_rules.specs.Settled.{Delivered, message_of, settled}
use Rattle.node_mirror.specs.Slots.{is_live_slot}
use Rattle.process_store.specs.Letters.{ItemShown}
use Rattle.process_store.specs.declared.place.Place.{Place}
use Rattle.process_store.specs.declared.place.Place.TheVariants as PlaceIs
use Rattle.process_store.specs.declared.store.Store.{Store}
use Rattle.process_store.specs.Holds.{hands_at, hands_in, held_of, item_of, item_streams, items_in, kept_of, place_at, slot_in, slot_of, streams_in, streams_of}
use Rattle.process_store.specs.Keeps.{StoreKeeps, link_count, reserved_in, signal_count}
use Rattle.process_store.specs.PassOn.{PassesOn, Stood}
use Rattle.process_store.specs.Telling.{MayBeTold}
use Rattle.process_store.proofs.Emptying.{numbers_scratch, numbers_shut}
use Rattle.process_store.proofs.Letting.{items_streams}
use Rattle.process_store.proofs.Passing.{closed_shut, stood_at, stood_hand}
use Rattle.process_store.proofs.Sets.{IsSet, each_set, sum_has, within_of}
use Rattle.process_store.proofs.Tags.{same-wanted}

-- An item that comes out of a mailbox, or to a process that waits, into a scratch area.

-- THE MAILBOX, AND THE RULES' OWN

-- the tag by which a mailbox finds an item
abbrev pub shown_tag : {S : Type 0} → ItemShown S → ℕ
shown_tag item = tag_of (item_of item)

-- a mailbox's test of tags is that of the rules
abbrev pub AreSameTests : List ℕ → List ℕ → Type 0
AreSameTests bytes tags = (tag : ℕ) → Picks.is_wanted bytes tag ≡ is_wanted tags tag

picked_at : {S : Type 0} (here there : Bool) (item : ItemShown S) (found : Option MailItem) (later : Option (ItemShown S)) → here ≡ there → found ≡ option_map item_of later
    → cond there (Some (item_of item)) found ≡ option_map item_of (cond here (Some item) later)
picked_at true here item found later is same = rw (← is) refl
picked_at false here item found later is same = rw (← is) same

same_pick : {S : Type 0} (bytes tags : List ℕ) (items : List (ItemShown S)) → AreSameTests bytes tags
    → pick tags (map item_of items) ≡ option_map item_of (Picks.pick shown_tag bytes items)
same_pick bytes tags [] same = refl
same_pick bytes tags (item ∷ items) same = picked_at (Picks.is_wanted bytes (shown_tag item)) (is_wanted tags (shown_tag item)) item _ _ (same (shown_tag item)) (same_pick bytes tags items same)

left_at : {S : Type 0} (here there : Bool) (item : ItemShown S) (items later : List (ItemShown S)) (left : List MailItem) → here ≡ there → left ≡ map item_of later
    → cond there (map item_of items) (item_of item ∷ left) ≡ map item_of (cond here items (item ∷ later))
left_at true there item items later left is same = rw (← is) refl
left_at false there item items later left is same = rw (← is, same) refl

same_left : {S : Type 0} (bytes tags : List ℕ) (items : List (ItemShown S)) → AreSameTests bytes tags
    → unpicked tags (map item_of items) ≡ map item_of (Picks.left_by_pick shown_tag bytes items)
same_left bytes tags [] same = refl
same_left bytes tags (item ∷ items) same =
    left_at (Picks.is_wanted bytes (shown_tag item)) (is_wanted tags (shown_tag item)) item items _ _ (same (shown_tag item)) (same_left bytes tags items same)

-- what was found, and what is left
pub found_item : {S : Type 0} (bytes : List ℕ) (box : Mail (ItemShown S)) (found : Option (ItemShown S)) → length bytes % 8 ≡ 0 → found ≡ Picks.pick shown_tag bytes box.items
    → pick (tags_in bytes) (items_in (Some box)) ≡ option_map item_of found
found_item bytes box found whole is = same_pick bytes (tags_in bytes) box.items (λ tag. same-wanted bytes tag whole) ∙ ap (option_map item_of) (sym is)

pub left_items : {S : Type 0} (bytes : List ℕ) (box after : Mail (ItemShown S)) → length bytes % 8 ≡ 0 → after.items ≡ Picks.left_by_pick shown_tag bytes box.items
    → items_in (Some after) ≡ unpicked (tags_in bytes) (items_in (Some box))
left_items bytes box after whole is = ap (map item_of) is ∙ sym (same_left bytes (tags_in bytes) box.items (λ tag. same-wanted bytes tag whole))

-- where nothing is wanted the mailbox stays
left_whole : {S : Type 0} (bytes : List ℕ) (items : List (ItemShown S)) → None ≡ Picks.pick shown_tag bytes items → Picks.left_by_pick shown_tag bytes items ≡ items
left_whole bytes [] none = refl
left_whole {S = S} bytes (item ∷ items) none = stays (Picks.is_wanted bytes (shown_tag item)) (λ none'. left_whole bytes items none') none
  where
    stays : (b : Bool) → (None ≡ Picks.pick shown_tag bytes items → Picks.left_by_pick shown_tag bytes items ≡ items)
        → None ≡ cond b (Some item) (Picks.pick shown_tag bytes items)
        → cond b items (item ∷ Picks.left_by_pick shown_tag bytes items) ≡ item ∷ items
    stays true rest none' = let h : ⊥ = cc in absurd h
    stays false rest none' = ap (λ (xs : List (ItemShown S)). item ∷ xs) (rest none')

box_parts : {M : Type 0} (xs ys : List M) (ps qs : List ℕ) → xs ≡ ys → ps ≡ qs → ◌≡◌ {A = Mail M} (record { items = xs; places = ps }) (record { items = ys; places = qs })
box_parts xs ys ps qs a b = rw (a, b) refl

pub box_stays : {S : Type 0} (bytes : List ℕ) (box after : Mail (ItemShown S)) → None ≡ Picks.pick shown_tag bytes box.items → after.items ≡ Picks.left_by_pick shown_tag bytes box.items
    → after.places ≡ box.places → after ≡ box
box_stays bytes box after none left places = box_parts after.items box.items after.places box.places (left ∙ left_whole bytes box.items none) places

-- an item that is written where it stands changes nothing
same_item : {X : Type 0} (xs : List X) (i : ℕ) (x : X) → x ≡ get_or xs i x → slice_set xs i x ≡ xs
same_item [] i x e = refl
same_item (y ∷ xs) zero x e = ap (λ z. z ∷ xs) e
same_item (y ∷ xs) (suc i) x e = ap (λ ys. y ∷ ys) (same_item xs i x e)

same_vec : {X Z : Type 0} (v : Vec X Z) (items : List X) (ok : v.len ≡ length items) → v.items ≡ items → ◌≡◌ {A = Vec X Z} (record v { items = items; ok = (ok, v.ok.1) }) v
same_vec {X = X} {Z = Z} v items ok same =
    subst (λ (xs : List X). (h : v.len ≡ length xs) → ◌≡◌ {A = Vec X Z} (record v { items = xs; ok = (h, v.ok.1) }) v) same
    (λ h. ap (λ o. record v { ok = (o, v.ok.1) }) (ℕ_set v.len (length v.items) h v.ok.0)) ok

pub same_with : {X Z : Type 0} (v : Vec X Z) (i : ℕ) (x : X) → x ≡ get_or v.items i x → with_item v i x ≡ v
same_with v i x e = same_vec v (slice_set v.items i x) (with_item v i x).ok.0 (sym (same_item v.items i x e))

pub store_stays : {E O P S L : Type 0} (old : Store E O P S L) (pid : ℕ) (bytes : List ℕ) (box after : Mail (ItemShown S)) → box ≡ get_or old.mail.items pid box
    → None ≡ Picks.pick shown_tag bytes box.items → after.items ≡ Picks.left_by_pick shown_tag bytes box.items → after.places ≡ box.places
    → record old { mail = with_item old.mail pid after } ≡ old
store_stays {S = S} old pid bytes box after read none left places =
    ap (λ m. record old { mail = m })
    (same_with old.mail pid after (subst (λ (b : Mail (ItemShown S)). b ≡ get_or old.mail.items pid b) (sym (box_stays bytes box after none left places)) read))

-- THE STREAMS OF A MAILBOX

-- those of the item that was found stood there
picked_from : {S : Type 0} (bytes : List ℕ) (items : List (ItemShown S)) (item : ItemShown S) → Some item ≡ Picks.pick shown_tag bytes items → (h : Handle S)
    → Contains (item_streams item) h → Contains (items_streams items) h
picked_from bytes [] item found h has = let f : ⊥ = cc in absurd f
picked_from {S = S} bytes (first ∷ items) item found h has = by (Picks.is_wanted bytes (shown_tag first)) (λ found'. picked_from bytes items item found' h has) found
  where
    by : (b : Bool) → (Some item ≡ Picks.pick shown_tag bytes items → Contains (items_streams items) h) → Some item ≡ cond b (Some first) (Picks.pick shown_tag bytes items)
        → Contains (item_streams first ++ items_streams items) h
    by true rest found' =
        let is : item ≡ first = cc in
        Contains-append_left (item_streams first) (items_streams items) h (subst (λ (i : ItemShown S). Contains (item_streams i) h) is has)
    by false rest found' = Contains-append_right (item_streams first) (items_streams items) h (rest found')

-- and so did those of the items that are left
left_from : {S : Type 0} (bytes : List ℕ) (items : List (ItemShown S)) (h : Handle S) → Contains (items_streams (Picks.left_by_pick shown_tag bytes items)) h → Contains (items_streams items) h
left_from bytes [] h has = has
left_from {S = S} bytes (first ∷ items) h has = by (Picks.is_wanted bytes (shown_tag first)) (λ has'. left_from bytes items h has') has
  where
    either : (Contains (items_streams (Picks.left_by_pick shown_tag bytes items)) h → Contains (items_streams items) h)
        → Contains (item_streams first) h ⊎ Contains (items_streams (Picks.left_by_pick shown_tag bytes items)) h → Contains (item_streams first ++ items_streams items) h
    either rest (inl x) = Contains-append_left (item_streams first) (items_streams items) h x
    either rest (inr x) = Contains-append_right (item_streams first) (items_streams items) h (rest x)

    by : (b : Bool) → (Contains (items_streams (Picks.left_by_pick shown_tag bytes items)) h → Contains (items_streams items) h)
        → Contains (items_streams (cond b items (first ∷ Picks.left_by_pick shown_tag bytes items))) h → Contains (item_streams first ++ items_streams items) h
    by true rest has' = Contains-append_right (item_streams first) (items_streams items) h has'
    by false rest has' = either rest (Contains-append_cases (item_streams first) (items_streams (Picks.left_by_pick shown_tag bytes items)) h has')

-- there are as many as before
picked_count : {S : Type 0} (bytes : List ℕ) (items : List (ItemShown S)) (item : ItemShown S) → Some item ≡ Picks.pick shown_tag bytes items
    → length (items_streams items) ≡ length (item_streams item) + length (items_streams (Picks.left_by_pick shown_tag bytes items))
picked_count bytes [] item found = let f : ⊥ = cc in absurd f
picked_count {S = S} bytes (first ∷ items) item found = by (Picks.is_wanted bytes (shown_tag first)) (λ found'. picked_count bytes items item found') found
  where
    by : (b : Bool) → (Some item ≡ Picks.pick shown_tag bytes items → length (items_streams items) ≡ length (item_streams item) + length (items_streams (Picks.left_by_pick shown_tag bytes items)))
        → Some item ≡ cond b (Some first) (Picks.pick shown_tag bytes items)
        → length (item_streams first ++ items_streams items) ≡ length (item_streams item) + length (items_streams (cond b items (first ∷ Picks.left_by_pick shown_tag bytes items)))
    by true rest found' =
        let is : item ≡ first = cc in
        let n = ap (λ (i : ItemShown S). length (item_streams i)) is in
        let a = length-append (item_streams first) (items_streams items) in
        omega (arith, n, a)
    by false rest found' =
        let r = rest found' in
        let a = length-append (item_streams first) (items_streams items) in
        let b = length-append (item_streams first) (items_streams (Picks.left_by_pick shown_tag bytes items)) in
        omega (arith, r, a, b)

module _ {E O P S L : Type 0} (old new : Store E O P S L) (pid : ℕ) (bytes : List ℕ) (box after : Mail (ItemShown S)) (item : ItemShown S) (mailed : IsSet old.mail.items new.mail.items pid box after)
    (left : after.items ≡ Picks.left_by_pick shown_tag bytes box.items) where
  pub item_stood : Some item ≡ Picks.pick shown_tag bytes box.items → (h : Handle S) → Contains (item_streams item) h → Contains (streams_in (slice_get old.mail.items pid)) h
  item_stood found h has = subst (λ o. Contains (streams_in o) h) (sym mailed.there) (picked_from bytes box.items item found h has)

  pub mail_stood : (q : ℕ) (h : Handle S) → Contains (streams_in (slice_get new.mail.items q)) h → Contains (streams_in (slice_get old.mail.items q)) h
  mail_stood = each_set mailed (λ q (o : Option (Mail (ItemShown S))). (h : Handle S) → Contains (streams_in o) h → Contains (streams_in (slice_get old.mail.items q)) h)
      (λ q differs h has. has)
      (λ h has. subst (λ o. Contains (streams_in o) h) (sym mailed.there) (left_from bytes box.items h (subst (λ xs. Contains (items_streams xs) h) left has)))

  pub streams_left : Some item ≡ Picks.pick shown_tag bytes box.items → length (streams_of box) ≡ length (item_streams item) + length (streams_of after)
  streams_left found = picked_count bytes box.items item found ∙ ap (λ xs. length (item_streams item) + length (items_streams xs)) (sym left)

-- THE PLACES OF MAILBOXES

-- nobody comes to life
pub lives_before : {E O P S L : Type 0} (old new : Store E O P S L) (pid : ℕ) (was is : Place E O P S L) → IsSet old.places.items new.places.items pid was is
    → (is_live_slot (slot_of is) ≡ true → is_live_slot (slot_of was) ≡ true) → (q : ℕ) → is_live_slot (place_at new q) ≡ true → is_live_slot (place_at old q) ≡ true
lives_before {E = E} {O = O} {P = P} {S = S} {L = L} old new pid was is placed live =
    each_set placed (λ q (o : Option (Place E O P S L)). is_live_slot (slot_in o) ≡ true → is_live_slot (place_at old q) ≡ true) (λ q differs lives. lives)
    (λ lives. ap (λ o. is_live_slot (slot_in o)) placed.there ∙ live lives)

-- where one mailbox changed, and keeps the places for signals
pub links_boxed : {E O P S L : Type 0} (old new : Store E O P S L) (to : ℕ) (box after : Mail (ItemShown S)) → StoreKeeps old → IsSet old.mail.items new.mail.items to box after
    → new.links ≡ old.links → ((q : ℕ) → is_live_slot (place_at new q) ≡ true → is_live_slot (place_at old q) ≡ true)
    → ((tag : ℕ) → link_count old.links to tag + signal_count old.links to tag ≤ reserved box.places tag → link_count old.links to tag + signal_count old.links to tag ≤ reserved after.places tag)
    → (q tag : ℕ) → is_live_slot (place_at new q) ≡ true → link_count new.links q tag + signal_count new.links q tag ≤ reserved_in (slice_get new.mail.items q) tag
links_boxed {S = S} old new to box after k mailed links lives more q tag =
    rw links (each_set mailed
    (λ n (o : Option (Mail (ItemShown S))). is_live_slot (place_at new n) ≡ true → link_count old.links n tag + signal_count old.links n tag ≤ reserved_in o tag)
    (λ n differs live. k.links_room n tag (lives n live))
    (λ live. more tag (subst (λ o. link_count old.links to tag + signal_count old.links to tag ≤ reserved_in o tag) mailed.there (k.links_room to tag (lives to live)))) q)

-- THE ITEM COMES

-- its seat
pub came_seat : {E O P S L : Type 0} (proc : Proc E O P S L) (engine : E) (scratch : Option (Kept.Scratch S)) (item : MailItem) → shown_scratch scratch ≡ Some (unread (message_of item))
    → seat_of (record proc { engine = engine; scratch = scratch }) ≡ record (seat_of proc) { engine = engine; part = settled (shown_part proc) (Delivered item) }
came_seat proc engine scratch item is = rw is refl

-- what it is told
pub told_reply : (item : MailItem) (code : ℕ) → (delivery_reply item).result ≡ Some code → number_reply code ≡ delivery_reply item
told_reply (MailIs.Letter number message) code is = let same : code ≡ 0 = cc in ap number_reply same
told_reply (MailIs.Signal tag) code is = let same : code ≡ 1 = cc in ap number_reply same

pub may_deliver : (phase : Phase) (memory : List ℕ) (item : MailItem) → IsAnswerable phase memory (number_reply 0) → IsAnswerable phase memory (number_reply 1)
    → IsAnswerable phase memory (delivery_reply item)
may_deliver phase memory (MailIs.Letter number message) zeroth first = zeroth
may_deliver phase memory (MailIs.Signal tag) zeroth first = first

-- the Give of a process that may be told something is being performed
pub none_giving : {E O P S L : Type 0} (phase : E → Phase) (memory : E → List ℕ) (reply : Reply) (place : Place E O P S L) → MayBeTold phase memory (slot_of place) reply
    → ((proc : Proc E O P S L) (ask : Ask) → place ≡ PlaceIs.Giving proc ask → ⊥) → ⊥
none_giving phase memory reply PlaceIs.Nobody may never = may
none_giving phase memory reply (PlaceIs.Home proc) may never = may
none_giving phase memory reply (PlaceIs.Asleep proc ask) may never = may
none_giving phase memory reply (PlaceIs.Giving proc ask) may never = never proc ask refl
none_giving phase memory reply (PlaceIs.Away worker) may never = may
none_giving phase memory reply (PlaceIs.Fated worker end) may never = may
none_giving phase memory reply PlaceIs.Gone may never = may

-- there is room for the streams of a process among the closed ones
pub hands_few : {E O P S L : Type 0} (store : Store E O P S L) (pid : ℕ) (place : Place E O P S L) → StoreKeeps store → slice_get store.places.items pid ≡ Some place
    → length store.closed.items + length (hands_at place) ≤ vec_capacity store.closed
hands_few {E = E} {O = O} {P = P} {S = S} {L = L} store pid place k there =
    let found : IsSet store.places.items (slice_set store.places.items pid place) pid place place = record { within = within_of store.places.items pid place there; there = there; set = refl } in
    let has = sum_has found (λ (p : Place E O P S L). length (hands_at p)) in
    let few = k.few in
    let room = k.closed_room in
    omega (arith, has, few, room)

-- an item came into the scratch area of the process at this number, and the streams of the message before were closed
pub record Comes {E O P S L : Type 0} (tells : Told S) (old new : Store E O P S L) (pid : ℕ) (was is : Place E O P S L) (table before : List (Handle S)) (item : ItemShown S) : Type 0 where
  pub placed : IsSet old.places.items new.places.items pid was is
  pub had : hands_at was ≡ table ++ before
  pub has : hands_at is ≡ table ++ item_streams item
  pub closed : Sheds tells before old.closed.items new.closed.items

-- what was shed from an empty shed moved behind the closed ones
pub shed_closed : {S : Type 0} (tells : Told S) (before empty shed closed next : List (Handle S)) → empty ≡ [] → Sheds tells before empty shed → next ≡ closed ++ shed → Sheds tells before closed next
shed_closed tells before empty shed closed next none sheds is =
    record { closed = sheds.closed; shut = sheds.shut; behind = is ∙ ap (λ ks. closed ++ ks) (sheds.behind ∙ ap (λ ks. ks ++ sheds.closed) none) }

module _ {E O P S L : Type 0} {tells : Told S} {old new : Store E O P S L} {pid : ℕ} {was is : Place E O P S L} {table before : List (Handle S)} {item : ItemShown S}
    (c : Comes tells old new pid was is table before item) where
  -- how many streams there are
  pub came_count : length new.closed.items + length (hands_at is) ≡ length old.closed.items + length (hands_at was) + length (item_streams item)
  came_count =
      let a = sheds_length tells before old.closed.items new.closed.items c.closed in
      let b = ap length c.had in
      let d = ap length c.has in
      let e = length-append table before in
      let f = length-append table (item_streams item) in
      omega (arith, a, b, d, e, f)

  -- the closed ones by number
  pub came_numbers : numbers_of new.closed.items ≡ numbers_of old.closed.items ++ numbers_of before
  came_numbers =
      ap numbers_of c.closed.behind ∙ map-append (λ h. h.number) old.closed.items c.closed.closed
      ∙ ap (λ ns. numbers_of old.closed.items ++ ns) (numbers_shut tells before c.closed.closed c.closed.shut)

  -- they are passed on
  pub passes_item : (pool : List (Handle S)) → ((h : Handle S) → Contains (item_streams item) h → Stood (kept_of old) pool h)
      → ((q : ℕ) (h : Handle S) → Contains (streams_in (slice_get new.mail.items q)) h → Stood (kept_of old) pool h) → PassesOn tells (kept_of old) (kept_of new) pool []
  passes_item pool stood mail = record {
    in_hand = each_set c.placed (λ q (o : Option (Place E O P S L)). (handle : Handle S) → Contains (hands_in o) handle → Stood (kept_of old) pool handle)
        (λ q differs handle has. stood_hand (kept_of old) pool q handle has)
        (λ handle has. either handle (Contains-append_cases table (item_streams item) handle (subst (λ hs. Contains hs handle) c.has has)));
    in_mail = mail;
    more = c.closed.closed;
    closed = c.closed.behind;
    shut = closed_shut tells (kept_of old) pool [] before c.closed.closed c.closed.shut
        (λ h has. stood_at old pool pid was h c.placed.there (subst (λ hs. Contains hs h) (sym c.had) (Contains-append_right table before h has)));
  }
    where
      either : (handle : Handle S) → Contains table handle ⊎ Contains (item_streams item) handle → Stood (kept_of old) pool handle
      either handle (inl x) = stood_at old pool pid was handle c.placed.there (subst (λ hs. Contains hs handle) (sym c.had) (Contains-append_left table before handle x))
      either handle (inr x) = stood handle x
