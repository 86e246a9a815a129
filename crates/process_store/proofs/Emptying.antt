use Rattle.std.proofs.Common.{◌≡◌, ◌≢◌, ℕ, ◌+◌, ◌-◌, ◌≤◌, List, [], ◌∷◌, ◌++◌, length, sum_by, Contains, Option, Some, None, Bool, true, false, nat_eq, eqb, if◌then◌else◌, cond, slice_get, map}
use Rattle.std.proofs.Common.{refl, arith, sym, ◌∙◌, ap, subst, ◌⊎◌, inl, inr, length-append, append_assoc}
use Rattle.std.specs.Prelude.{◌==◌}
use Rattle.std.specs.List.{flat_map}
use Rattle.std.specs.FinMap.{FinMap, get, remove, get-remove}
use Rattle.std.specs.Ordering.{nat_cmp}
use Rattle.std.specs.Cmp.{nat_cmp_total}
use Rattle.std.proofs.lemmas.List.{map-append}
use Rattle.std.proofs.lemmas.List.Elements.{Contains-append_cases}
use Rattle.std.proofs.lemmas.Bool.Decides.{nat_tests, eqb_tells}
use Rattle.message_scratch.specs.Messages as Kept
use Rattle.message_scratch.proofs.Numbers.{numbers_of-handles_in}
use Rattle.host_port.specs.declared.ask.Ask.{Ask}
use Rattle.name_registry.specs.Names.{unless}
use Rattle.resource_table.specs.Handles.{Handle, numbers_of}
use Rattle.resource_table.specs.Steps.{Told, AreShut, Sheds}
use Rattle.resource_table.proofs.Closings.{sheds_length, sheds_none}
use Rattle.tagged_mailbox.specs.Mail.{Mail}
use Rattle.world_rules.specs.Ends.{unless_process}
use Rattle.world_rules.specs.Mail.{MailItem, mail_handles, item_handles}
use Rattle.world_rules.specs.Part as PartIs
use Rattle.node_state.specs.Seats.{part_handles}
use Rattle.node_mirror.specs.Slots.{Slot, is_live_slot}
use Rattle.node_mirror.specs.Steps.{replaced}
use Rattle.node_mirror.proofs.NetMaps.{number_tells}
use Rattle.host_calls.specs.declared.proc.Proc.{Proc}
use Rattle.host_calls.specs.Shown.{hands_of, shown_part, shown_scratch}
use Rattle.process_store.specs.Letters.{ItemShown}
use Rattle.process_store.specs.declared.item.Letter.{Letter}
use Rattle.process_store.specs.declared.place.Place.{Place}
use Rattle.process_store.specs.declared.place.Place.TheVariants as PlaceIs
use Rattle.process_store.specs.declared.store.Store.{Store}
use Rattle.process_store.specs.Holds.{hands_at, hands_in, held_of, item_by, item_of, item_streams, items_in, kept_of, place_at, slot_in, slot_of, streams_by, streams_in, streams_of}
use Rattle.process_store.specs.Keeps.{StoreKeeps, HasShedAll, IsVacant, link_count, reserved_in, signal_count, stream_count}
use Rattle.process_store.specs.PassOn.{PassesOn, Stood, WasClosed}
use Rattle.process_store.proofs.Sets.{IsSet, each_set, read_other, read_set, sum_set}
use Rattle.process_store.proofs.Showing.{replaced_by}
use Rattle.process_store.proofs.Passing.{closed_shut, in_none, stood_at, stood_hand, stood_mail}

-- A process that ends or is doomed: nothing is left at its place, its mailbox is emptied, and the streams are closed.

-- STREAMS BY NUMBER

pub numbers_scratch : {S : Type 0} (scratch : Option (Kept.Scratch S)) → numbers_of (Kept.handles_in (Kept.slots_of scratch)) ≡ PartIs.handles_in (PartIs.slots_of (shown_scratch scratch))
numbers_scratch None = refl
numbers_scratch (Some scratch) = numbers_of-handles_in scratch.message.slots

-- those in hand of a process
pub numbers_hands : {E O P S L : Type 0} (proc : Proc E O P S L) → numbers_of (hands_of proc) ≡ part_handles (shown_part proc)
numbers_hands proc =
    map-append (λ h. h.number) proc.table (Kept.handles_in (Kept.slots_of proc.scratch)) ∙ ap (λ ns. numbers_of proc.table ++ ns) (numbers_scratch proc.scratch)

numbers_letter : {S : Type 0} (letter : Option (Letter S)) (tag : ℕ) → numbers_of (streams_by letter) ≡ item_handles (item_by letter tag)
numbers_letter None tag = refl
numbers_letter (Some letter) tag = numbers_of-handles_in letter.message.slots

numbers_items : {S : Type 0} (items : List (ItemShown S)) → numbers_of (flat_map item_streams items) ≡ mail_handles (map item_of items)
numbers_items [] = refl
numbers_items (item ∷ items) =
    map-append (λ h. h.number) (item_streams item) (flat_map item_streams items)
    ∙ ap (λ ns. ns ++ numbers_of (flat_map item_streams items)) (numbers_letter item.letter item.tag)
    ∙ ap (λ ns. item_handles (item_of item) ++ ns) (numbers_items items)

-- those of a mailbox
pub numbers_mail : {S : Type 0} (mail : Mail (ItemShown S)) → numbers_of (streams_of mail) ≡ mail_handles (items_in (Some mail))
numbers_mail mail = numbers_items mail.items

-- those that were shut have the numbers that they had
pub numbers_shut : {S : Type 0} (tells : Told S) (hs ks : List (Handle S)) → AreShut tells hs ks → numbers_of ks ≡ numbers_of hs
numbers_shut tells [] [] shut = refl
numbers_shut tells [] (k ∷ ks) shut = absurd shut
numbers_shut tells (h ∷ hs) [] shut = absurd shut
numbers_shut tells (h ∷ hs) (k ∷ ks) shut = ap (λ n. n ∷ numbers_of ks) shut.0.number ∙ ap (λ ns. h.number ∷ ns) (numbers_shut tells hs ks shut.1)

-- NAMES AND DEADLINES

tests : (a b : ℕ) → eqb a b ≡ nat_eq a b
tests a b = grind (arith, nat_tests)

-- the registry without a process, as the rules have it
pub unnamed : (pid : ℕ) (named : Option ℕ) → unless pid named ≡ unless_process pid named
unnamed pid None = refl
unnamed pid (Some other) = ap (λ (b : Bool). if b then None else Some other) (tests other pid)

unequal : (a b : ℕ) → a ≢ b → nat_eq a b ≡ false
unequal a b differs = by (eqb_tells a b)
  where
    by : ((nat_eq a b ≡ true) × (a ≡ b)) ⊎ ((nat_eq a b ≡ false) × (a ≢ b)) → nat_eq a b ≡ false
    by (inl same) = absurd (differs same.1)
    by (inr other) = other.0

equal : (a : ℕ) → nat_eq a a ≡ true
equal a = by (eqb_tells a a)
  where
    by : ((nat_eq a a ≡ true) × (a ≡ a)) ⊎ ((nat_eq a a ≡ false) × (a ≢ a)) → nat_eq a a ≡ true
    by (inl same) = same.0
    by (inr other) = absurd (other.1 refl)

-- deadlines of which that of one number is taken away
pub date_gone : (dates : FinMap nat_cmp ℕ) (pid : ℕ) → get (remove dates pid) pid ≡ None
date_gone dates pid = get-remove nat_cmp_total dates pid pid ∙ ap (λ (b : Bool). cond b None (get dates pid)) (number_tells pid pid ∙ equal pid)

pub date_other : (dates : FinMap nat_cmp ℕ) (pid q : ℕ) → q ≢ pid → get (remove dates pid) q ≡ get dates q
date_other dates pid q differs = get-remove nat_cmp_total dates pid q ∙ ap (λ (b : Bool). cond b None (get dates q)) (number_tells q pid ∙ unequal q pid differs)

pub undated_by : (dates : FinMap nat_cmp ℕ) (pid : ℕ) (deadline : Option ℕ) → deadline ≡ None → (q : ℕ) → get (remove dates pid) q ≡ replaced (λ n. get dates n) pid deadline q
undated_by dates pid deadline none =
    replaced_by (λ n. get dates n) (λ n. get (remove dates pid) n) pid deadline (date_gone dates pid ∙ sym none) (λ q differs. date_other dates pid q differs)

-- the last of two values counts
pub replaced_twice : {X : Type 0} (f : ℕ → X) (pid : ℕ) (x y : X) (q : ℕ) → replaced f pid y q ≡ replaced (replaced f pid x) pid y q
replaced_twice {X = X} f pid x y q = by (nat_eq q pid)
  where
    by : (b : Bool) → (if b then y else f q) ≡ (if b then y else (if b then x else f q))
    by true = refl
    by false = refl

-- PLACES

pub vacant_hands : {E O P S L : Type 0} (place : Place E O P S L) → IsVacant place → hands_at place ≡ []
vacant_hands PlaceIs.Nobody vacant = refl
vacant_hands (PlaceIs.Home proc) vacant = absurd vacant
vacant_hands (PlaceIs.Asleep proc ask) vacant = absurd vacant
vacant_hands (PlaceIs.Giving proc ask) vacant = absurd vacant
vacant_hands (PlaceIs.Away worker) vacant = refl
vacant_hands (PlaceIs.Fated worker end) vacant = refl
vacant_hands PlaceIs.Gone vacant = refl

pub vacant_shed : {E O P S L : Type 0} (place : Place E O P S L) → IsVacant place → HasShedAll place
vacant_shed PlaceIs.Nobody vacant = tt
vacant_shed (PlaceIs.Home proc) vacant = absurd vacant
vacant_shed (PlaceIs.Asleep proc ask) vacant = absurd vacant
vacant_shed (PlaceIs.Giving proc ask) vacant = absurd vacant
vacant_shed (PlaceIs.Away worker) vacant = tt
vacant_shed (PlaceIs.Fated worker end) vacant = tt
vacant_shed PlaceIs.Gone vacant = tt

-- where no process is at home nothing is shut
pub nothing_closed : {E O P S L : Type 0} (tells : Told S) (place : Place E O P S L) (closed : List (Handle S)) → ((proc : Proc E O P S L) → place ≡ PlaceIs.Home proc → ⊥)
    → ((proc : Proc E O P S L) (ask : Ask) → place ≡ PlaceIs.Asleep proc ask → ⊥) → ((proc : Proc E O P S L) (ask : Ask) → place ≡ PlaceIs.Giving proc ask → ⊥) → Sheds tells (hands_at
    place) closed closed
nothing_closed tells PlaceIs.Nobody closed home asleep giving = sheds_none tells closed
nothing_closed tells (PlaceIs.Home proc) closed home asleep giving = absurd (home proc refl)
nothing_closed tells (PlaceIs.Asleep proc ask) closed home asleep giving = absurd (asleep proc ask refl)
nothing_closed tells (PlaceIs.Giving proc ask) closed home asleep giving = absurd (giving proc ask refl)
nothing_closed tells (PlaceIs.Away worker) closed home asleep giving = sheds_none tells closed
nothing_closed tells (PlaceIs.Fated worker end) closed home asleep giving = sheds_none tells closed
nothing_closed tells PlaceIs.Gone closed home asleep giving = sheds_none tells closed

-- EMPTIED. At the place of one number no process is now, and its mailbox is empty. What was shed is closed, and then
-- these streams and those of the mailbox are shut, and closed.
pub record Empties {E O P S L : Type 0} (tells : Told S) (old new : Store E O P S L) (pid : ℕ) (was is : Place E O P S L) (from to : Mail (ItemShown S)) (shed hs : List (Handle S)) : Type 0 where
  pub placed : IsSet old.places.items new.places.items pid was is
  pub mailed : IsSet old.mail.items new.mail.items pid from to
  pub vacant : IsVacant is
  pub empty : to.items ≡ []
  pub closed : Sheds tells (hs ++ streams_of from) (old.closed.items ++ shed) new.closed.items

module _ {E O P S L : Type 0} {tells : Told S} {old new : Store E O P S L} {pid : ℕ} {was is : Place E O P S L} {from to : Mail (ItemShown S)} {shed hs : List (Handle S)}
    (e : Empties tells old new pid was is from to shed hs) where
  no_streams_left : streams_of to ≡ []
  no_streams_left = ap (λ items. flat_map item_streams items) e.empty

  -- the mailbox of this number is empty, all others stay
  pub mail_emptied : (q : ℕ) → items_in (slice_get new.mail.items q) ≡ replaced (held_of old).mail pid [] q
  mail_emptied q =
      subst (λ (items : List MailItem). items_in (slice_get new.mail.items q) ≡ replaced (held_of old).mail pid items q) (ap (λ items. map item_of items) e.empty) (read_set e.mailed items_in q)

  -- how many streams are closed
  pub closed_length : length new.closed.items ≡ length old.closed.items + length shed + length hs + length (streams_of from)
  closed_length =
      let a = sheds_length tells (hs ++ streams_of from) (old.closed.items ++ shed) new.closed.items e.closed in
      let b = length-append old.closed.items shed in
      let c = length-append hs (streams_of from) in
      omega (arith, a, b, c)

  pub mail_sum : sum_by (λ mail. length (streams_of mail)) new.mail.items + length (streams_of from) ≡ sum_by (λ mail. length (streams_of mail)) old.mail.items
  mail_sum =
      let a = sum_set e.mailed (λ mail. length (streams_of mail)) in
      let b = ap length no_streams_left in
      omega (arith, a, b)

  pub hands_sum : sum_by (λ place. length (hands_at place)) new.places.items + length (hands_at was) ≡ sum_by (λ place. length (hands_at place)) old.places.items
  hands_sum =
      let a = sum_set e.placed (λ place. length (hands_at place)) in
      let b = ap length (vacant_hands is e.vacant) in
      omega (arith, a, b)

  -- there are as many streams as there were, and those that came
  pub stream_sum : stream_count new + length (hands_at was) ≡ stream_count old + length shed + length hs
  stream_sum =
      let a = closed_length in
      let b = mail_sum in
      let c = hands_sum in
      omega (arith, a, b, c)

  -- the closed ones by number
  pub closed_numbers : numbers_of new.closed.items ≡ (numbers_of old.closed.items ++ numbers_of shed) ++ (numbers_of hs ++ mail_handles ((held_of old).mail pid))
  closed_numbers =
      ap numbers_of e.closed.behind ∙ map-append (λ h. h.number) (old.closed.items ++ shed) e.closed.closed
      ∙ ap (λ ns. ns ++ numbers_of e.closed.closed) (map-append (λ h. h.number) old.closed.items shed)
      ∙ ap (λ ns. (numbers_of old.closed.items ++ numbers_of shed) ++ ns)
      (numbers_shut tells (hs ++ streams_of from) e.closed.closed e.closed.shut ∙ map-append (λ h. h.number) hs (streams_of from)
      ∙ ap (λ ns. numbers_of hs ++ ns) (numbers_mail from ∙ ap (λ o. mail_handles (items_in o)) (sym e.mailed.there)))

  -- of the places of mailboxes none is needed for who isn't live
  pub links_emptied : StoreKeeps old → new.links ≡ old.links → is_live_slot (slot_of is) ≡ false
      → (q tag : ℕ) → is_live_slot (place_at new q) ≡ true → link_count new.links q tag + signal_count new.links q tag ≤ reserved_in (slice_get new.mail.items q) tag
  links_emptied k links dead q tag =
      rw links (each_set e.placed
      (λ n (o : Option (Place E O P S L)). is_live_slot (slot_in o) ≡ true → link_count old.links n tag + signal_count old.links n tag ≤ reserved_in (slice_get new.mail.items n) tag)
      (λ n differs live. subst (λ o. link_count old.links n tag + signal_count old.links n tag ≤ reserved_in o tag) (sym (read_other e.mailed n differs)) (k.links_room n tag live))
      (λ live. let h : true ≡ false = sym live ∙ dead in let no : ⊥ = cc in absurd no) q)

  -- the streams are passed on
  pub passes_emptied : (pool : List (Handle S)) → ((h : Handle S) → Contains hs h → Stood (kept_of old) pool h) → PassesOn tells (kept_of old) (kept_of new) pool shed
  passes_emptied pool stood = record {
    in_hand = each_set e.placed (λ q (o : Option (Place E O P S L)). (handle : Handle S) → Contains (hands_in o) handle → Stood (kept_of old) pool handle)
        (λ q differs handle has. stood_hand (kept_of old) pool q handle has) (λ handle has. absurd (in_none handle (subst (λ xs. Contains xs handle) (vacant_hands is e.vacant) has)));
    in_mail = each_set e.mailed (λ q (o : Option (Mail (ItemShown S))). (handle : Handle S) → Contains (streams_in o) handle → Stood (kept_of old) pool handle)
        (λ q differs handle has. stood_mail (kept_of old) pool q handle has) (λ handle has. absurd (in_none handle (subst (λ xs. Contains xs handle) no_streams_left has)));
    more = shed ++ e.closed.closed;
    closed = e.closed.behind ∙ append_assoc old.closed.items shed e.closed.closed;
    shut = λ handle has. by handle (Contains-append_cases shed e.closed.closed handle has);
  }
    where
      of_either : (h : Handle S) → Contains hs h ⊎ Contains (streams_of from) h → Stood (kept_of old) pool h
      of_either h (inl hand) = stood h hand
      of_either h (inr mail) = stood_mail (kept_of old) pool pid h (subst (λ o. Contains (streams_in o) h) (sym e.mailed.there) mail)

      by : (handle : Handle S) → Contains shed handle ⊎ Contains e.closed.closed handle → WasClosed tells (kept_of old) pool shed handle
      by handle (inl has) = ∣ inl has ∣₁
      by handle (inr has) = closed_shut tells (kept_of old) pool shed (hs ++ streams_of from) e.closed.closed e.closed.shut
          (λ h in_them. of_either h (Contains-append_cases hs (streams_of from) h in_them)) handle has
