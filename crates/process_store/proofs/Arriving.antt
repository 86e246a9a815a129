use Rattle.std.proofs.Common.{◌≡◌, ◌≢◌, ◌<◌, ◌≤◌, ℕ, ◌+◌, ◌&&◌, List, [], ◌∷◌, ◌++◌, length, length-append, map, Contains, slice_get, Option, Some, None, Bool, true, false, nat_eq, refl, arith, sym, ◌∙◌, ap, subst, ◌⊎◌, inl, inr, append-nil, append_assoc, Vec}
use Rattle.std.proofs.Math.Logic.{∥∥₁_elim}
use Rattle.std.proofs.Math.Nat.{ℕ_set}
use Rattle.std.proofs.lemmas.Bool.Decides.{eqb_tells}
use Rattle.std.proofs.lemmas.Grind.{flat_map-append}
use Rattle.std.proofs.lemmas.List.{map-append}
use Rattle.std.proofs.lemmas.List.Elements.{Contains-append_cases}
use Rattle.std.specs.List.{flat_map}
use Rattle.std.specs.declared.alloc.Global.{Global}
use Rattle.host_calls.specs.declared.proc.Proc.{Proc}
use Rattle.host_port.specs.declared.ask.Ask.{Ask}
use Rattle.host_port.specs.Standing.{Phase}
use Rattle.resource_table.specs.Handles.{Handle}
use Rattle.resource_table.specs.Steps.{Told}
use Rattle.tagged_mailbox.specs.Mail.{Mail, UsesPlace, is_full, reserved}
use Rattle.world_rules.specs.Mail.{MailItem, is_message, is_wanted, message_count, most_messages, tag_of}
use Rattle.node_state.specs.Seats.{Seat}
use Rattle.node_mirror.specs.Slots.{Slot, Nobody, Home, Asleep, Giving, Away, Fated, Gone, is_asleep, is_giving, is_live_slot}
use Rattle.node_mirror.specs.Steps.{posted, replaced}
use Rattle.process_store.specs.Letters.{ItemShown}
use Rattle.process_store.specs.declared.place.Place.{Place}
use Rattle.process_store.specs.declared.place.Place.TheVariants as PlaceIs
use Rattle.process_store.specs.declared.store.Store.{Store}
use Rattle.process_store.specs.Holds.{Becomes, held_of, item_of, item_streams, items_in, kept_of, place_at, slot_in, slot_of, streams_in, streams_of}
use Rattle.process_store.specs.Keeps.{StoreKeeps, link_count, reserved_in, signal_count, stream_count}
use Rattle.process_store.specs.PassOn.{PassesOn, Stood}
use Rattle.process_store.specs.Performing.{MayBeWoken, MayWait}
use Rattle.process_store.specs.Telling.{HasPlace, tags_of, wakes_for}
use Rattle.process_store.proofs.Counting.{full-count}
use Rattle.process_store.proofs.Passing.{in_none, stood_hand, stood_mail, stood_pool}
use Rattle.process_store.proofs.Receiving.{links_boxed}
use Rattle.process_store.proofs.Sets.{IsSet, each_set, length_set, read_set, sum_set}
use Rattle.process_store.proofs.Showing.{becomes, replaced_same}

-- An item that arrives.

-- WHO IS WOKEN

both : (a : ℕ) (b : Bool) → (nat_eq a 9 && b) ≡ true → (a ≡ 9) × (b ≡ true)
both a b e = by (eqb_tells a 9)
  where
    by : ((nat_eq a 9 ≡ true) × (a ≡ 9)) ⊎ ((nat_eq a 9 ≡ false) × (a ≢ 9)) → (a ≡ 9) × (b ≡ true)
    by (inl same) = (same.1, ap (λ (x : Bool). x && b) (sym same.0) ∙ e)
    by (inr other) = let h : false ≡ true = ap (λ (x : Bool). x && b) (sym other.0) ∙ e in let no_one : ⊥ = cc in absurd no_one

-- a receive that wants it
pub woken_by : {E : Type 0} (memory : E → List ℕ) (seat : Seat E) (ask : Ask) (tag : ℕ) → wakes_for memory (Asleep seat ask) tag ≡ true
    → (ask.call ≡ 9) × (is_wanted (tags_of (memory seat.engine) ask) tag ≡ true)
woken_by memory seat ask tag e = both ask.call (is_wanted (tags_of (memory seat.engine) ask) tag) e

pub none_woken : {E O P S L : Type 0} (memory : E → List ℕ) (place : Place E O P S L) (tag : ℕ) → wakes_for memory (slot_of place) tag ≡ true
    → ((proc : Proc E O P S L) (ask : Ask) → place ≡ PlaceIs.Asleep proc ask → ⊥) → ⊥
none_woken memory PlaceIs.Nobody tag e never = let h : ⊥ = cc in h
none_woken memory (PlaceIs.Home proc) tag e never = let h : ⊥ = cc in h
none_woken memory (PlaceIs.Asleep proc ask) tag e never = never proc ask refl
none_woken memory (PlaceIs.Giving proc ask) tag e never = let h : ⊥ = cc in h
none_woken memory (PlaceIs.Away worker) tag e never = let h : ⊥ = cc in h
none_woken memory (PlaceIs.Fated worker end) tag e never = let h : ⊥ = cc in h
none_woken memory PlaceIs.Gone tag e never = let h : ⊥ = cc in h

-- who isn't woken waits in a receive that doesn't want it, or in a sleep, or doesn't wait
abbrev pub Unwoken : {E : Type 0} → (E → List ℕ) → Slot E → ℕ → Type 0
Unwoken {E = E} memory slot tag =
    ((seat : Seat E) × (ask : Ask) × (slot ≡ Asleep seat ask) × (ask.call ≡ 9) × (is_wanted (tags_of (memory seat.engine) ask) tag ≡ false))
    ⊎ (((seat : Seat E) × (ask : Ask) × (slot ≡ Asleep seat ask) × (ask.call ≡ 17)) ⊎ (is_asleep slot ≡ false))

asleep_unwoken : {E : Type 0} (phase : E → Phase) (memory : E → List ℕ) (seat : Seat E) (ask : Ask) (tag : ℕ) → MayWait phase memory seat ask
    → (nat_eq ask.call 9 && is_wanted (tags_of (memory seat.engine) ask) tag) ≡ false → Unwoken memory (Asleep seat ask) tag
asleep_unwoken {E = E} phase memory seat ask tag may e = by (eqb_tells ask.call 9)
  where
    sleeps : (ask.call ≢ 9) → (ask.call ≡ 9) ⊎ (ask.call ≡ 17) → ask.call ≡ 17
    sleeps differs (inl same) = absurd (differs same)
    sleeps differs (inr slept) = slept

    by : ((nat_eq ask.call 9 ≡ true) × (ask.call ≡ 9)) ⊎ ((nat_eq ask.call 9 ≡ false) × (ask.call ≢ 9)) → Unwoken memory (Asleep seat ask) tag
    by (inl same) = inl (seat, ask, refl, same.1, ap (λ (x : Bool). x && is_wanted (tags_of (memory seat.engine) ask) tag) (sym same.0) ∙ e)
    by (inr other) = inr (inl (seat, ask, refl, ∥∥₁_elim may.call (ℕ_set ask.call 17) (sleeps other.1)))

pub unwoken : {E : Type 0} (phase : E → Phase) (memory : E → List ℕ) (slot : Slot E) (tag : ℕ) → MayBeWoken phase memory slot → wakes_for memory slot tag ≡ false → Unwoken memory slot tag
unwoken phase memory Nobody tag may e = inr (inr refl)
unwoken phase memory (Home seat) tag may e = inr (inr refl)
unwoken phase memory (Asleep seat ask) tag may e = asleep_unwoken phase memory seat ask tag may e
unwoken phase memory (Giving seat ask) tag may e = inr (inr refl)
unwoken phase memory (Away worker) tag may e = inr (inr refl)
unwoken phase memory (Fated worker end) tag may e = inr (inr refl)
unwoken phase memory Gone tag may e = inr (inr refl)

pub of_three : {A B C D : Type 0} → A ⊎ (B ⊎ C) → (A → D) → (B → D) → (C → D) → D
of_three (inl a) f g h = f a
of_three (inr (inl b)) f g h = g b
of_three (inr (inr c)) f g h = h c

-- IT IS PUT INTO THE MAILBOX

pub not_full : {S : Type 0} (items : List (ItemShown S)) → message_count (map item_of items) < most_messages → is_full (λ (item : ItemShown S). is_message (item_of item)) items ≡ false
not_full {S = S} items few = by (is_full (λ (item : ItemShown S). is_message (item_of item)) items) refl
  where
    by : (b : Bool) → is_full (λ (item : ItemShown S). is_message (item_of item)) items ≡ b → is_full (λ (item : ItemShown S). is_message (item_of item)) items ≡ false
    by true full = let a = full-count items full in absurd (omega (arith, a, few))
    by false free = free

streams_behind : {S : Type 0} (items : List (ItemShown S)) (item : ItemShown S) → flat_map item_streams (items ++ item ∷ []) ≡ flat_map item_streams items ++ item_streams item
streams_behind items item = flat_map-append item_streams items (item ∷ []) ∙ ap (λ hs. flat_map item_streams items ++ hs) (append-nil (item_streams item))

-- the mailbox of this number has the item behind the others, in one of its places
pub record Puts {E O P S L : Type 0} (old new : Store E O P S L) (to : ℕ) (box after : Mail (ItemShown S)) (item : ItemShown S) : Type 0 where
  pub mailed : IsSet old.mail.items new.mail.items to box after
  pub behind : after.items ≡ box.items ++ item ∷ []
  pub used : UsesPlace box.places after.places (tag_of (item_of item))

module _ {E O P S L : Type 0} {old : Store E O P S L} (mail : Vec (Mail (ItemShown S)) Global) {to : ℕ} {box after : Mail (ItemShown S)} {item : ItemShown S}
    (p : Puts old (record old { mail = mail }) to box after item) where
  all_streams : streams_of after ≡ streams_of box ++ item_streams item
  all_streams = ap (flat_map item_streams) p.behind ∙ streams_behind box.items item

  put_links : HasPlace old to (tag_of (item_of item)) → (tag : ℕ) → link_count old.links to tag + signal_count old.links to tag ≤ reserved box.places tag
      → link_count old.links to tag + signal_count old.links to tag ≤ reserved after.places tag
  put_links has tag room = by (eqb_tells tag (tag_of (item_of item)))
    where
      here : link_count old.links to (tag_of (item_of item)) + signal_count old.links to (tag_of (item_of item)) ≤ reserved after.places (tag_of (item_of item))
      here =
          let a = subst (λ o. link_count old.links to (tag_of (item_of item)) + signal_count old.links to (tag_of (item_of item)) + 1 ≤ reserved_in o (tag_of (item_of item))) p.mailed.there has in
          let b = p.used.used in
          omega (arith, a, b)

      by : ((nat_eq tag (tag_of (item_of item)) ≡ true) × (tag ≡ tag_of (item_of item))) ⊎ ((nat_eq tag (tag_of (item_of item)) ≡ false) × (tag ≢ tag_of (item_of item)))
          → link_count old.links to tag + signal_count old.links to tag ≤ reserved after.places tag
      by (inl same) = subst (λ (t : ℕ). link_count old.links to t + signal_count old.links to t ≤ reserved after.places t) (sym same.1) here
      by (inr other) = let a = p.used.others tag other.1 in omega (arith, a, room)

  pub put_keeps : StoreKeeps old → HasPlace old to (tag_of (item_of item)) → stream_count old + length (item_streams item) ≤ old.streams → StoreKeeps (record old { mail = mail })
  put_keeps k has few = record {
    some = k.some;
    mail = length_set p.mailed ∙ k.mail;
    shed = k.shed;
    sheds = k.sheds;
    unended = k.unended;
    out = k.out;
    listed = k.listed;
    once = k.once;
    all = k.all;
    room = k.room;
    came_room = k.came_room;
    dated = k.dated;
    numbered = k.numbered;
    few =
        let s = sum_set p.mailed (λ (box : Mail (ItemShown S)). length (streams_of box)) in
        let a = ap length all_streams in
        let b = length-append (streams_of box) (item_streams item) in
        omega (arith, s, a, b, few);
    closed_room = k.closed_room;
    links_room = links_boxed old (record old { mail = mail }) to box after k p.mailed refl (λ q live. live) (put_links has);
    links_of = k.links_of;
  }

  put_items : items_in (Some after) ≡ (held_of old).mail to ++ item_of item ∷ []
  put_items = ap (map item_of) p.behind ∙ map-append item_of box.items (item ∷ []) ∙ ap (λ o. items_in o ++ item_of item ∷ []) (sym p.mailed.there)

  pub put_becomes : Becomes (record old { mail = mail }) (posted (held_of old) to (item_of item))
  put_becomes = becomes (record old { mail = mail }) (posted (held_of old) to (item_of item)) (record {
    slots = replaced_same (place_at old) to (place_at old to) refl;
    mail = λ q. read_set p.mailed items_in q ∙ ap (λ items. replaced (held_of old).mail to items q) put_items;
    deadlines = replaced_same (held_of old).deadlines to ((held_of old).deadlines to) refl;
    names = λ name. refl;
    numbers = refl;
    births = refl;
    unended = refl;
    out = refl;
    sends = refl;
    time = refl;
    row = refl;
    over = refl;
    streams = refl;
    closed = refl;
  })

  pub put_passes : (tells : Told S) → PassesOn tells (kept_of old) (kept_of (record old { mail = mail })) (item_streams item) []
  put_passes tells = record {
    in_hand = λ q handle has. stood_hand (kept_of old) (item_streams item) q handle has;
    in_mail = each_set p.mailed (λ q (o : Option (Mail (ItemShown S))). (handle : Handle S) → Contains (streams_in o) handle → Stood (kept_of old) (item_streams item) handle)
        (λ q differs handle has. stood_mail (kept_of old) (item_streams item) q handle has)
        (λ handle has. either handle (Contains-append_cases (streams_of box) (item_streams item) handle (subst (λ hs. Contains hs handle) all_streams has)));
    more = [];
    closed = sym (append-nil old.closed.items);
    shut = λ handle has. absurd (in_none handle has);
  }
    where
      either : (handle : Handle S) → Contains (streams_of box) handle ⊎ Contains (item_streams item) handle → Stood (kept_of old) (item_streams item) handle
      either handle (inl x) = stood_mail (kept_of old) (item_streams item) to handle (subst (λ o. Contains (streams_in o) handle) (sym p.mailed.there) x)
      either handle (inr x) = stood_pool (kept_of old) (item_streams item) handle x

-- IT WAKES

-- the number comes home in this entry
pub came_listed : (ready now came came_now giver : List ℕ) (to : ℕ) → now ≡ ready → came_now ≡ came ++ to ∷ [] → (now ++ came_now) ++ giver ≡ (ready ++ came) ++ (to ∷ [] ++ giver)
came_listed ready now came came_now giver to a b = rw (a, b) (ap (λ xs. xs ++ giver) (sym (append_assoc ready came (to ∷ []))) ∙ append_assoc (ready ++ came) (to ∷ []) giver)

module _ {E O P S L : Type 0} (old new : Store E O P S L) (to : ℕ) (was is : Place E O P S L) (placed : IsSet old.places.items new.places.items to was is) where
  pub gives_before : (is_giving (slot_of is) ≡ true → ⊥) → (q : ℕ) → is_giving (place_at new q) ≡ true → is_giving (place_at old q) ≡ true
  gives_before never = each_set placed (λ q (o : Option (Place E O P S L)). is_giving (slot_in o) ≡ true → is_giving (place_at old q) ≡ true) (λ q differs gives. gives)
      (λ gives. absurd (never gives))

  pub gone_after : (slot_of was ≡ Gone → ⊥) → (q : ℕ) → place_at old q ≡ Gone → place_at new q ≡ Gone
  gone_after never = each_set placed (λ q (o : Option (Place E O P S L)). place_at old q ≡ Gone → slot_in o ≡ Gone) (λ q differs gone. gone)
      (λ gone. absurd (never (sym (ap slot_in placed.there) ∙ gone)))
