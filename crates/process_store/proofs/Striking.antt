use Rattle.std.proofs.Common.{◌≡◌, ℕ, ◌+◌, ◌-◌, ◌≤◌, List, [], ◌∷◌, ◌++◌, length, Option, Some, None, Bool, true, false, slice_get, vec_capacity}
use Rattle.std.proofs.Common.{refl, arith, sym, ◌∙◌, ap, subst, append-nil, length-append}
use Rattle.std.specs.FinMap.{get, remove}
use Rattle.link_signals.specs.Links.{Net}
use Rattle.name_registry.specs.Names.{unless}
use Rattle.resource_table.specs.Handles.{Handle, numbers_of}
use Rattle.resource_table.specs.Steps.{Told, Sheds}
use Rattle.resource_table.proofs.Closings.{sheds_more}
use Rattle.tagged_mailbox.specs.Mail.{Mail}
use Rattle.world_rules.specs.declared.halt.End.{End}
use Rattle.world_rules.specs.declared.life.Ended.{Ended as EndMemory}
use Rattle.world_rules.specs.Book.{Book}
use Rattle.world_rules.specs.Mail.{mail_handles}
use Rattle.node_state.specs.Seats.{Meaning, part_handles}
use Rattle.node_mirror.specs.Slots.{Slot, Nobody, Home, Asleep, Giving, Away, Fated, Gone, IsLastAlone, IsLastAt, is_live_slot}
use Rattle.node_mirror.specs.Held.{Held}
use Rattle.node_mirror.specs.Steps.{fated, gone, replaced, struck, struck_at}
use Rattle.host_calls.specs.Shown.{hands_of, seat_of, shown_part}
use Rattle.host_calls.specs.declared.proc.Proc.{Proc}
use Rattle.process_store.specs.Letters.{ItemShown}
use Rattle.process_store.specs.declared.place.Place.{Place}
use Rattle.process_store.specs.declared.place.Place.TheVariants as PlaceIs
use Rattle.process_store.specs.declared.store.Store.{Store}
use Rattle.process_store.specs.Holds.{Becomes, hands_at, held_of, place_at, slot_in, slot_of, streams_of}
use Rattle.process_store.specs.Keeps.{StoreKeeps, IsListed, IsWaiting, is_absent, is_here, is_out, is_present, listed_of}
use Rattle.process_store.specs.Telling.{AddsLast, HasEndRoom, after_strike}
use Rattle.process_store.proofs.Sets.{length_set, sum_has}
use Rattle.process_store.proofs.Showing.{Shows, becomes, numbers_set, slots_set, undated}
use Rattle.process_store.proofs.Keeping.{lists_stay, settled_keeps}
use Rattle.process_store.proofs.Emptying.{Empties, closed_numbers, date_gone, date_other, links_emptied, mail_emptied, numbers_hands, stream_sum, undated_by, unnamed, vacant_shed}

-- An end that comes to a process from outside its turn.

-- COUNTED BY SLOT

abbrev pub slot_present : {E : Type 0} → Slot E → ℕ
slot_present Nobody = 0
slot_present (Home seat) = 1
slot_present (Asleep seat ask) = 1
slot_present (Giving seat ask) = 1
slot_present (Away worker) = 1
slot_present (Fated worker end) = 1
slot_present Gone = 0

abbrev pub slot_out : {E : Type 0} → Slot E → ℕ
slot_out Nobody = 0
slot_out (Home seat) = 0
slot_out (Asleep seat ask) = 0
slot_out (Giving seat ask) = 0
slot_out (Away worker) = 1
slot_out (Fated worker end) = 1
slot_out Gone = 0

abbrev pub slot_absent : {E : Type 0} → Slot E → ℕ
slot_absent Nobody = 0
slot_absent (Home seat) = 0
slot_absent (Asleep seat ask) = 1
slot_absent (Giving seat ask) = 0
slot_absent (Away worker) = 1
slot_absent (Fated worker end) = 1
slot_absent Gone = 0

pub present_by : {E O P S L : Type 0} (place : Place E O P S L) → is_present place ≡ slot_present (slot_of place)
present_by PlaceIs.Nobody = refl
present_by (PlaceIs.Home proc) = refl
present_by (PlaceIs.Asleep proc ask) = refl
present_by (PlaceIs.Giving proc ask) = refl
present_by (PlaceIs.Away worker) = refl
present_by (PlaceIs.Fated worker end) = refl
present_by PlaceIs.Gone = refl

pub out_by : {E O P S L : Type 0} (place : Place E O P S L) → is_out place ≡ slot_out (slot_of place)
out_by PlaceIs.Nobody = refl
out_by (PlaceIs.Home proc) = refl
out_by (PlaceIs.Asleep proc ask) = refl
out_by (PlaceIs.Giving proc ask) = refl
out_by (PlaceIs.Away worker) = refl
out_by (PlaceIs.Fated worker end) = refl
out_by PlaceIs.Gone = refl

pub absent_by : {E O P S L : Type 0} (place : Place E O P S L) → is_absent place ≡ slot_absent (slot_of place)
absent_by PlaceIs.Nobody = refl
absent_by (PlaceIs.Home proc) = refl
absent_by (PlaceIs.Asleep proc ask) = refl
absent_by (PlaceIs.Giving proc ask) = refl
absent_by (PlaceIs.Away worker) = refl
absent_by (PlaceIs.Fated worker end) = refl
absent_by PlaceIs.Gone = refl

pub present_few : {E O P S L : Type 0} (place : Place E O P S L) → is_present place ≤ 1
present_few PlaceIs.Nobody = omega arith
present_few (PlaceIs.Home proc) = omega arith
present_few (PlaceIs.Asleep proc ask) = omega arith
present_few (PlaceIs.Giving proc ask) = omega arith
present_few (PlaceIs.Away worker) = omega arith
present_few (PlaceIs.Fated worker end) = omega arith
present_few PlaceIs.Gone = omega arith

-- who is live is present
pub live_present : {E : Type 0} (slot : Slot E) → is_live_slot slot ≡ true → slot_present slot ≡ 1
live_present Nobody live = let h : ⊥ = cc in absurd h
live_present (Home seat) live = refl
live_present (Asleep seat ask) live = refl
live_present (Giving seat ask) live = refl
live_present (Away worker) live = refl
live_present (Fated worker end) live = let h : ⊥ = cc in absurd h
live_present Gone live = let h : ⊥ = cc in absurd h

-- AFTER IT

pub after_dead : {E : Type 0} (slot : Slot E) (end : End) → is_live_slot (after_strike slot end) ≡ false
after_dead Nobody end = refl
after_dead (Home seat) end = refl
after_dead (Asleep seat ask) end = refl
after_dead (Giving seat ask) end = refl
after_dead (Away worker) end = refl
after_dead (Fated worker earlier) end = refl
after_dead Gone end = refl

out_after : {E : Type 0} (slot : Slot E) (end : End) → slot_out (after_strike slot end) ≡ slot_out slot
out_after Nobody end = refl
out_after (Home seat) end = refl
out_after (Asleep seat ask) end = refl
out_after (Giving seat ask) end = refl
out_after (Away worker) end = refl
out_after (Fated worker earlier) end = refl
out_after Gone end = refl

absent_after : {E : Type 0} (slot : Slot E) (end : End) → slot_absent (after_strike slot end) ≤ slot_absent slot
absent_after Nobody end = omega arith
absent_after (Home seat) end = omega arith
absent_after (Asleep seat ask) end = omega arith
absent_after (Giving seat ask) end = omega arith
absent_after (Away worker) end = omega arith
absent_after (Fated worker earlier) end = omega arith
absent_after Gone end = omega arith

listed_after : {E : Type 0} (slot : Slot E) (end : End) → IsListed slot → IsListed (after_strike slot end)
listed_after Nobody end listed = absurd listed
listed_after (Home seat) end listed = tt
listed_after (Asleep seat ask) end listed = absurd listed
listed_after (Giving seat ask) end listed = tt
listed_after (Away worker) end listed = absurd listed
listed_after (Fated worker earlier) end listed = absurd listed
listed_after Gone end listed = tt

here_after : {E : Type 0} (slot : Slot E) (end : End) → is_here (after_strike slot end) ≡ false
here_after Nobody end = refl
here_after (Home seat) end = refl
here_after (Asleep seat ask) end = refl
here_after (Giving seat ask) end = refl
here_after (Away worker) end = refl
here_after (Fated worker earlier) end = refl
here_after Gone end = refl

-- WHAT IS RECORDED

-- of who isn't live nothing is kept
pub nothing_last : {E P : Type 0} (engines : Meaning E P) (pid : ℕ) (slot : Slot E) (book : Book) → is_live_slot slot ≡ false → AddsLast engines pid slot book book
nothing_last engines pid slot book dead = record { more = []; last = by slot dead; ends = sym (append-nil book.ends); entries = refl; births = refl; entry_room = refl }
  where
    by : (s : Slot _) → is_live_slot s ≡ false → IsLastAt engines pid s []
    by Nobody isnt = refl
    by (Home seat) isnt = let h : ⊥ = cc in absurd h
    by (Asleep seat ask) isnt = let h : ⊥ = cc in absurd h
    by (Giving seat ask) isnt = let h : ⊥ = cc in absurd h
    by (Away worker) isnt = let h : ⊥ = cc in absurd h
    by (Fated worker end) isnt = refl
    by Gone isnt = refl

alone_one : {E P : Type 0} (engines : Meaning E P) (pid : ℕ) (engine : E) (more : List EndMemory) → IsLastAlone engines pid engine more → length more ≡ 1
alone_one engines pid engine [] last = absurd last
alone_one engines pid engine (memory ∷ []) last = refl
alone_one engines pid engine (memory ∷ other ∷ more) last = absurd last

-- who is live is recorded, or is present afterwards
last_count : {E P : Type 0} (engines : Meaning E P) (pid : ℕ) (slot : Slot E) (end : End) (more : List EndMemory) → is_live_slot slot ≡ true → IsLastAt engines pid slot more
    → slot_present (after_strike slot end) + length more ≡ 1
last_count engines pid Nobody end more live last = let h : ⊥ = cc in absurd h
last_count engines pid (Home seat) end more live last = let one = alone_one engines pid seat.engine more last in omega (arith, one)
last_count engines pid (Asleep seat ask) end more live last = let one = alone_one engines pid seat.engine more last in omega (arith, one)
last_count engines pid (Giving seat ask) end more live last = let one = alone_one engines pid seat.engine more last in omega (arith, one)
last_count engines pid (Away worker) end more live last = let none = ap (λ (xs : List EndMemory). length xs) last in omega (arith, none)
last_count engines pid (Fated worker earlier) end more live last = let h : ⊥ = cc in absurd h
last_count engines pid Gone end more live last = let h : ⊥ = cc in absurd h

-- STRUCK. An end has come to the process of one number, which was live: its place and its mailbox are emptied, no name
-- names it, and it has no deadline; all else stays.
pub record Strikes {E O P S L : Type 0} (tells : Told S) (old new : Store E O P S L) (pid : ℕ) (end : End) (was is : Place E O P S L) (from to : Mail (ItemShown S)) : Type 0 where
  pub emptied : Empties tells old new pid was is from to [] (hands_at was)
  pub live : is_live_slot (slot_of was) ≡ true
  pub slot : slot_of is ≡ after_strike (slot_of was) end
  pub unended : new.unended ≡ old.unended - (1 - is_present is)
  pub shed : new.shed ≡ []
  pub listed : listed_of new ≡ listed_of old
  pub room : new.queue.room ≡ old.queue.room
  pub came_room : vec_capacity new.came ≡ vec_capacity old.came
  pub dates : new.queue.deadlines ≡ remove old.queue.deadlines pid
  pub names : (name : List ℕ) → get new.names name ≡ unless pid (get old.names name)
  pub capacity : vec_capacity new.closed ≡ vec_capacity old.closed
  pub links : new.links ≡ old.links
  pub births : new.births ≡ old.births
  pub out : new.out ≡ old.out
  pub sends : new.sends ≡ old.sends
  pub time : new.time ≡ old.time
  pub row : new.row ≡ old.row
  pub over : new.over ≡ old.over
  pub streams : new.streams ≡ old.streams

-- the streams in hand were shut, and then those of the mailbox
pub sheds_both : {S : Type 0} (tells : Told S) (hs ms closed mid new : List (Handle S)) → Sheds tells hs closed mid → Sheds tells ms mid new → Sheds tells (hs ++ ms) (closed ++ []) new
sheds_both tells hs ms closed mid new first second = subst (λ cs. Sheds tells (hs ++ ms) cs new) (sym (append-nil closed)) (sheds_more tells hs ms closed mid new first second)

no_date : (deadline : ℕ) (o : Option ℕ) → o ≡ None → o ≡ Some deadline → ⊥
no_date deadline o none some = cc

not_true : (b : Bool) → b ≡ false → b ≡ true → ⊥
not_true b isnt is = cc

-- one process is counted no more where it is present no more
unended_after : (was is old new before : ℕ) → was ≡ 1 → is ≤ 1 → was ≤ before → before ≡ old → new ≡ old - (1 - is) → new + was ≡ old + is
unended_after was is old new before a b c d e = omega (arith, a, b, c, d, e)

pub struck_keeps : {E O P S L : Type 0} (tells : Told S) (old new : Store E O P S L) (pid : ℕ) (end : End) (was is : Place E O P S L) (from to : Mail (ItemShown S))
    → StoreKeeps old → Strikes tells old new pid end was is from to → StoreKeeps new
struck_keeps tells old new pid end was is from to k s =
    let e = s.emptied in
    let there = e.placed.there in
    settled_keeps old new pid was is k (record {
      placed = e.placed;
      mail = length_set e.mailed;
      shed = s.shed;
      sheds = vacant_shed is e.vacant;
      unended = unended_after (is_present was) (is_present is) old.unended new.unended _ (present_by was ∙ live_present (slot_of was) s.live) (present_few is) (sum_has e.placed is_present)
          k.unended s.unended;
      out = let a = s.out in let b = out_by is ∙ ap slot_out s.slot ∙ out_after (slot_of was) end ∙ sym (out_by was) in omega (arith, a, b);
      listed = lists_stay old new pid was is k there s.listed (λ listed. subst IsListed (sym s.slot) (listed_after (slot_of was) end listed))
          (λ here. absurd (not_true (is_here (slot_of is)) (ap is_here s.slot ∙ here_after (slot_of was) end) here));
      long =
          let a = ap length s.listed in
          let b = absent_after (slot_of was) end in
          let c = absent_by is ∙ ap slot_absent s.slot in
          let d = absent_by was in
          omega (arith, a, b, c, d);
      room = let a = s.room in omega (arith, a);
      came_room = let a = s.came_room in omega (arith, a);
      dates = λ q differs. ap (λ dates. get dates q) s.dates ∙ date_other old.queue.deadlines pid q differs;
      dated = λ deadline at. absurd (no_date deadline (get new.queue.deadlines pid) (ap (λ dates. get dates pid) s.dates ∙ date_gone old.queue.deadlines pid) at);
      closed_room = let a = s.streams in let b = s.out in let c = s.capacity in let d = k.closed_room in omega (arith, a, b, c, d);
      links_room = links_emptied e k s.links (ap is_live_slot s.slot ∙ after_dead (slot_of was) end);
      links_of = λ a b tag at. ap (λ (net : Net). get net.tags (a, b)) (sym s.links) ∙ at;
    }) (let a = stream_sum e in let b = k.few in let c = s.streams in omega (arith, a, b, c))

-- what the store holds then

module _ {E O P S L : Type 0} (tells : Told S) (old new : Store E O P S L) (pid : ℕ) (end : End) (is : Place E O P S L) (from to : Mail (ItemShown S)) (k : StoreKeeps old) where
  gone_shows : (was : Place E O P S L) (handles : List ℕ) → slot_of is ≡ Gone → numbers_of (hands_at was) ≡ handles → Strikes tells old new pid end was is from to → Shows new (gone (held_of
      old) pid handles)
  gone_shows was handles there hands s = record {
    slots = λ q. slots_set old new pid was is s.emptied.placed q ∙ ap (λ slot. replaced (place_at old) pid slot q) there;
    mail = mail_emptied s.emptied;
    deadlines = λ q. ap (λ dates. get dates q) s.dates ∙ undated_by old.queue.deadlines pid None refl q;
    names = λ name. s.names name ∙ unnamed pid (get old.names name);
    numbers = numbers_set old new pid was is s.emptied.placed;
    births = s.births;
    unended = let a = s.unended in let b = present_by is ∙ ap slot_present there in omega (arith, a, b);
    out = s.out;
    sends = s.sends;
    time = s.time;
    row = s.row;
    over = s.over;
    streams = s.streams;
    closed = closed_numbers s.emptied ∙ ap (λ ns. ns ++ (numbers_of (hands_at was) ++ mail_handles ((held_of old).mail pid))) (append-nil (numbers_of old.closed.items))
        ∙ ap (λ ns. numbers_of old.closed.items ++ (ns ++ mail_handles ((held_of old).mail pid))) hands;
  }

  fated_shows : (worker : ℕ) → Strikes tells old new pid end (PlaceIs.Away worker) is from to → Shows new (fated (held_of old) pid worker end)
  fated_shows worker s = record {
    slots = λ q. slots_set old new pid (PlaceIs.Away worker) is s.emptied.placed q ∙ ap (λ slot. replaced (place_at old) pid slot q) s.slot;
    mail = mail_emptied s.emptied;
    deadlines = λ q. ap (λ dates. get dates q) s.dates
        ∙ undated_by old.queue.deadlines pid (get old.queue.deadlines pid) (undated old pid (PlaceIs.Away worker) k s.emptied.placed.there (λ waits. waits)) q;
    names = λ name. s.names name ∙ unnamed pid (get old.names name);
    numbers = numbers_set old new pid (PlaceIs.Away worker) is s.emptied.placed;
    births = s.births;
    unended = let a = s.unended in let b = present_by is ∙ ap slot_present s.slot in omega (arith, a, b);
    out = s.out;
    sends = s.sends;
    time = s.time;
    row = s.row;
    over = s.over;
    streams = s.streams;
    closed = closed_numbers s.emptied ∙ ap (λ ns. ns ++ mail_handles ((held_of old).mail pid)) (append-nil (numbers_of old.closed.items));
  }

  struck_by : (was : Place E O P S L) → Strikes tells old new pid end was is from to → Becomes new (struck_at (slot_of was) (held_of old) pid end)
  struck_by PlaceIs.Nobody s = let live = s.live in let h : ⊥ = cc in absurd h
  struck_by (PlaceIs.Home proc) s = becomes new (gone (held_of old) pid (part_handles (shown_part proc))) (gone_shows (PlaceIs.Home proc) (part_handles (shown_part proc)) s.slot
      (numbers_hands proc) s)
  struck_by (PlaceIs.Asleep proc ask) s = becomes new (gone (held_of old) pid (part_handles (shown_part proc))) (gone_shows (PlaceIs.Asleep proc ask) (part_handles (shown_part proc)) s.slot
      (numbers_hands proc) s)
  struck_by (PlaceIs.Giving proc ask) s = becomes new (gone (held_of old) pid (part_handles (shown_part proc))) (gone_shows (PlaceIs.Giving proc ask) (part_handles (shown_part proc)) s.slot
      (numbers_hands proc) s)
  struck_by (PlaceIs.Away worker) s = becomes new (fated (held_of old) pid worker end) (fated_shows worker s)
  struck_by (PlaceIs.Fated worker earlier) s = let live = s.live in let h : ⊥ = cc in absurd h
  struck_by PlaceIs.Gone s = let live = s.live in let h : ⊥ = cc in absurd h

  pub struck_becomes : (was : Place E O P S L) → Strikes tells old new pid end was is from to → Becomes new (struck (held_of old) pid end)
  struck_becomes was s = subst (λ slot. Becomes new (struck_at slot (held_of old) pid end)) (sym (ap slot_in s.emptied.placed.there)) (struck_by was s)

-- each that hasn't ended has room for its end
end_room : (ends more births unended left before : ℕ) → left + more ≡ 1 → 1 ≤ before → before ≡ unended → ends + unended ≤ births → ends + more + (unended - (1 - left)) ≤ births
end_room ends more births unended left before a b c d = omega (arith, a, b, c, d)

pub struck_room : {E O P S L : Type 0} (engines : Meaning E P) (tells : Told S) (old new : Store E O P S L) (pid : ℕ) (end : End) (was is : Place E O P S L) (from to : Mail (ItemShown S))
    (book next : Book) → StoreKeeps old → Strikes tells old new pid end was is from to → AddsLast engines pid (slot_of was) book next → HasEndRoom old book → HasEndRoom new next
struck_room engines tells old new pid end was is from to book next k s last room =
    let one = ap (λ (n : ℕ). n + length last.more) (present_by is ∙ ap slot_present s.slot) ∙ last_count engines pid (slot_of was) end last.more s.live last.last in
    let has = sum_has s.emptied.placed is_present in
    let present = present_by was ∙ live_present (slot_of was) s.live in
    let held = k.unended in
    let ends = ap length last.ends ∙ length-append book.ends last.more in
    let births = ap length last.births in
    let left = s.unended in
    let all = end_room (length book.ends) (length last.more) (length book.births) old.unended (is_present is) old.unended one (omega (arith, has, present, held)) refl room in
    omega (arith, ends, births, left, all)
