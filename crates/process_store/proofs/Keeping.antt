use Rattle.std.proofs.Common.{◌≡◌, ◌≢◌, ◌<◌, ◌≤◌, ℕ, ◌+◌, List, [], ◌∷◌, ◌++◌, length, All, sum_by, vec_capacity, slice_get, Option, Some, None, Bool, true, false, nat_eq}
use Rattle.std.proofs.Common.{refl, arith, sym, ◌∙◌, ap, subst, ◌⊎◌, inl, inr}
use Rattle.std.proofs.lemmas.Bool.Decides.{eqb_tells}
use Rattle.std.specs.FinMap.{get}
use Rattle.world_rules.specs.Part.{is_among}
use Rattle.world_rules.specs.Sound.{times}
use Rattle.node_mirror.specs.Slots.{Slot, Nobody, Home, Asleep, Giving, Away, Fated, Gone, is_live_slot}
use Rattle.process_store.specs.declared.place.Place.{Place}
use Rattle.process_store.specs.declared.store.Store.{Store}
use Rattle.process_store.specs.Holds.{hands_at, place_at, slot_of, slot_in, streams_of}
use Rattle.process_store.specs.Keeps.{StoreKeeps, HasShedAll, IsListed, IsWaiting, is_here, is_present, is_out, is_absent, link_count, listed_of, reserved_in, signal_count, stream_count}
use Rattle.node_mirror.proofs.Members.{among_of_times}
use Rattle.process_store.proofs.Sets.{IsSet, all_set, each_set, length_set, read_here, read_other, sum_set}
use Rattle.process_store.proofs.Listing.{IsBut, among_same, none_among, not_among}

-- What a store keeps after what stands at one number was replaced.

-- the lists of those in the queue, or on their way into it, and whoever is listed now at this number
pub record Lists (old new : List ℕ) (pid : ℕ) {E : Type 0} (was is : Slot E) : Type 0 where
  pub others : (q : ℕ) → q ≢ pid → times q new ≡ times q old
  pub once : times pid new ≤ 1
  pub here : is_among new pid ≡ true → IsListed is
  pub all : is_here is ≡ true → is_among new pid ≡ true

-- a change of a store: what stands at one number was replaced, and all else is as this place needs it
pub record Moves {E O P S L : Type 0} (old new : Store E O P S L) (pid : ℕ) (was is : Place E O P S L) : Type 0 where
  pub placed : IsSet old.places.items new.places.items pid was is
  pub mail : length new.mail.items ≡ length old.mail.items
  pub shed : new.shed ≡ []
  pub sheds : HasShedAll is
  pub unended : new.unended + is_present was ≡ old.unended + is_present is
  pub out : new.out + is_out was ≡ old.out + is_out is
  pub listed : Lists (listed_of old) (listed_of new) pid (slot_of was) (slot_of is)
  pub long : length (listed_of new) + is_absent is ≤ length (listed_of old) + is_absent was
  pub room : old.queue.room ≤ new.queue.room
  pub came_room : vec_capacity old.came ≤ vec_capacity new.came
  pub dates : (q : ℕ) → q ≢ pid → get new.queue.deadlines q ≡ get old.queue.deadlines q
  pub dated : (deadline : ℕ) → get new.queue.deadlines pid ≡ Some deadline → IsWaiting (slot_of is)
  pub few : length new.closed.items + length (hands_at is) + sum_by (λ mail. length (streams_of mail)) new.mail.items + old.streams
      ≤ length old.closed.items + length (hands_at was) + sum_by (λ mail. length (streams_of mail)) old.mail.items + new.streams
  pub closed_room : new.streams + new.out ≤ vec_capacity new.closed
  pub links_room : (q tag : ℕ) → is_live_slot (place_at new q) ≡ true →
      link_count new.links q tag + signal_count new.links q tag ≤ reserved_in (slice_get new.mail.items q) tag
  pub links_of : (a b tag : ℕ) → get new.links.tags (a, b) ≡ Some tag → get old.links.tags (a, b) ≡ Some tag

-- the same, but for the streams
pub record Settles {E O P S L : Type 0} (old new : Store E O P S L) (pid : ℕ) (was is : Place E O P S L) : Type 0 where
  pub placed : IsSet old.places.items new.places.items pid was is
  pub mail : length new.mail.items ≡ length old.mail.items
  pub shed : new.shed ≡ []
  pub sheds : HasShedAll is
  pub unended : new.unended + is_present was ≡ old.unended + is_present is
  pub out : new.out + is_out was ≡ old.out + is_out is
  pub listed : Lists (listed_of old) (listed_of new) pid (slot_of was) (slot_of is)
  pub long : length (listed_of new) + is_absent is ≤ length (listed_of old) + is_absent was
  pub room : old.queue.room ≤ new.queue.room
  pub came_room : vec_capacity old.came ≤ vec_capacity new.came
  pub dates : (q : ℕ) → q ≢ pid → get new.queue.deadlines q ≡ get old.queue.deadlines q
  pub dated : (deadline : ℕ) → get new.queue.deadlines pid ≡ Some deadline → IsWaiting (slot_of is)
  pub closed_room : new.streams + new.out ≤ vec_capacity new.closed
  pub links_room : (q tag : ℕ) → is_live_slot (place_at new q) ≡ true →
      link_count new.links q tag + signal_count new.links q tag ≤ reserved_in (slice_get new.mail.items q) tag
  pub links_of : (a b tag : ℕ) → get new.links.tags (a, b) ≡ Some tag → get old.links.tags (a, b) ≡ Some tag

lists_listed : {E : Type 0} (old new : List ℕ) (pid : ℕ) (was is : Slot E) → Lists old new pid was is → (q : ℕ) → q ≢ pid → is_among new q ≡ true → is_among old q ≡ true
lists_listed old new pid was is l q differs among = among_same q new old (l.others q differs) among

lists_once : {E : Type 0} (old new : List ℕ) (pid : ℕ) (was is : Slot E) → Lists old new pid was is → ((q : ℕ) → times q old ≤ 1) → (q : ℕ) → times q new ≤ 1
lists_once old new pid was is l once q = by (eqb_tells q pid)
  where
    by : ((nat_eq q pid ≡ true) × (q ≡ pid)) ⊎ ((nat_eq q pid ≡ false) × (q ≢ pid)) → times q new ≤ 1
    by (inl same) = subst (λ (n : ℕ). times n new ≤ 1) (sym same.1) l.once
    by (inr differs) = let a = l.others q differs.1 in let b = once q in omega (arith, a, b)

count_sums : (closed_new hands_new mail_new streams_new closed_old hands_old mail_old streams_old here_new here_old : ℕ)
    → closed_new + here_new + mail_new + streams_old ≤ closed_old + here_old + mail_old + streams_new → hands_new + here_old ≡ hands_old + here_new
    → closed_old + hands_old + mail_old ≤ streams_old → closed_new + hands_new + mail_new ≤ streams_new
count_sums cn hn mn sn co ho mo so n o a b c = omega (arith, a, b, c)

pub settled_keeps : {E O P S L : Type 0} (old new : Store E O P S L) (pid : ℕ) (was is : Place E O P S L) → StoreKeeps old → Settles old new pid was is → stream_count new ≤ new.streams → StoreKeeps new
settled_keeps {E = E} {O = O} {P = P} {S = S} {L = L} old new pid was is k m few =
    let long = length_set m.placed in
    record {
      some = let a = k.some in omega (arith, a, long);
      mail = m.mail ∙ k.mail ∙ sym long;
      shed = m.shed;
      sheds = all_set m.placed HasShedAll k.sheds m.sheds;
      unended = let s = sum_set m.placed is_present in let a = k.unended in let b = m.unended in omega (arith, s, a, b);
      out = let s = sum_set m.placed is_out in let a = k.out in let b = m.out in omega (arith, s, a, b);
      listed = each_set m.placed (λ q (o : Option (Place E O P S L)). is_among (listed_of new) q ≡ true → IsListed (slot_in o))
          (λ q differs among. k.listed q (lists_listed (listed_of old) (listed_of new) pid (slot_of was) (slot_of is) m.listed q differs among)) m.listed.here;
      once = lists_once (listed_of old) (listed_of new) pid (slot_of was) (slot_of is) m.listed k.once;
      all = each_set m.placed (λ q (o : Option (Place E O P S L)). is_here (slot_in o) ≡ true → is_among (listed_of new) q ≡ true)
          (λ q differs here. among_same q (listed_of old) (listed_of new) (sym (m.listed.others q differs)) (k.all q here)) m.listed.all;
      room = let s = sum_set m.placed is_absent in let a = k.room in let b = m.long in let r = m.room in omega (arith, s, a, b, r);
      came_room = let s = sum_set m.placed is_absent in let a = k.came_room in let b = m.long in let r = m.came_room in omega (arith, s, a, b, r);
      dated = each_set m.placed (λ q (o : Option (Place E O P S L)). (deadline : ℕ) → get new.queue.deadlines q ≡ Some deadline → IsWaiting (slot_in o))
          (λ q differs deadline at. k.dated q deadline (sym (m.dates q differs) ∙ at)) m.dated;
      numbered = let a = k.numbered in let r = m.room in omega (arith, a, r, long);
      few = few;
      closed_room = m.closed_room;
      links_room = m.links_room;
      links_of = λ a b tag at.
          let both = k.links_of a b tag (m.links_of a b tag at) in
          let x = both.0 in
          let y = both.1 in
          (omega (arith, x, long), omega (arith, y, long));
    }

pub moved_keeps : {E O P S L : Type 0} (old new : Store E O P S L) (pid : ℕ) (was is : Place E O P S L) → StoreKeeps old → Moves old new pid was is → StoreKeeps new
moved_keeps {E = E} {O = O} {P = P} {S = S} {L = L} old new pid was is k m =
    settled_keeps old new pid was is k (record {
      placed = m.placed;
      mail = m.mail;
      shed = m.shed;
      sheds = m.sheds;
      unended = m.unended;
      out = m.out;
      listed = m.listed;
      long = m.long;
      room = m.room;
      came_room = m.came_room;
      dates = m.dates;
      dated = m.dated;
      closed_room = m.closed_room;
      links_room = m.links_room;
      links_of = m.links_of;
    }) (count_sums (length new.closed.items) (sum_by (λ place. length (hands_at place)) new.places.items) (sum_by (λ mail. length (streams_of mail)) new.mail.items) new.streams
    (length old.closed.items) (sum_by (λ place. length (hands_at place)) old.places.items) (sum_by (λ mail. length (streams_of mail)) old.mail.items) old.streams
    (length (hands_at is)) (length (hands_at was)) m.few (sum_set m.placed (λ place. length (hands_at place))) k.few)

-- the places of mailboxes, where links and mailboxes stay and nobody comes to life
pub links_stay : {E O P S L : Type 0} (old new : Store E O P S L) (pid : ℕ) (was is : Place E O P S L) → StoreKeeps old → IsSet old.places.items new.places.items pid was is
    → new.links ≡ old.links → new.mail ≡ old.mail → (is_live_slot (slot_of is) ≡ true → is_live_slot (slot_of was) ≡ true)
    → (q tag : ℕ) → is_live_slot (place_at new q) ≡ true → link_count new.links q tag + signal_count new.links q tag ≤ reserved_in (slice_get new.mail.items q) tag
links_stay {E = E} {O = O} {P = P} {S = S} {L = L} old new pid was is k placed links mail live q tag =
    rw (links, mail) (each_set placed
    (λ q (o : Option (Place E O P S L)). is_live_slot (slot_in o) ≡ true → link_count old.links q tag + signal_count old.links q tag ≤ reserved_in (slice_get old.mail.items q) tag)
    (λ q differs is_live. k.links_room q tag is_live) (λ lives. k.links_room pid tag (ap (λ o. is_live_slot (slot_in o)) placed.there ∙ live lives)) q)

-- THE LISTS, as they may change

-- the lists stay
pub lists_stay : {E O P S L : Type 0} (old new : Store E O P S L) (pid : ℕ) (was is : Place E O P S L) → StoreKeeps old → slice_get old.places.items pid ≡ Some was → listed_of new ≡ listed_of old
    → (IsListed (slot_of was) → IsListed (slot_of is)) → (is_here (slot_of is) ≡ true → is_here (slot_of was) ≡ true) → Lists (listed_of old) (listed_of new) pid (slot_of was) (slot_of is)
lists_stay old new pid was is k there same listed here = record {
  others = λ q differs. ap (times q) same;
  once = let a = k.once pid in let b = ap (times pid) same in omega (arith, a, b);
  here = λ among. listed (subst (λ o. IsListed (slot_in o)) there (k.listed pid (ap (λ (xs : List ℕ). is_among xs pid) (sym same) ∙ among)));
  all = λ at. ap (λ (xs : List ℕ). is_among xs pid) same ∙ k.all pid (ap (λ o. is_here (slot_in o)) there ∙ here at);
}

-- a number that wasn't there joins them
pub lists_more : {E O P S L : Type 0} (old new : Store E O P S L) (pid : ℕ) (was is : Place E O P S L) → StoreKeeps old → slice_get old.places.items pid ≡ Some was
    → IsBut (listed_of old) (listed_of new) pid → times pid (listed_of new) ≡ times pid (listed_of old) + 1 → (IsListed (slot_of was) → ⊥) → IsListed (slot_of is)
    → Lists (listed_of old) (listed_of new) pid (slot_of was) (slot_of is)
lists_more old new pid was is k there but more absent listed =
    let none = not_among pid (listed_of old) (λ among. absent (subst (λ o. IsListed (slot_in o)) there (k.listed pid among))) in
    record {
      others = but.others;
      once = omega (arith, none, more);
      here = λ among. listed;
      all = λ here. among_of_times pid (listed_of new) (omega (arith, none, more));
    }

-- a number leaves them
pub lists_less : {E O P S L : Type 0} (old new : Store E O P S L) (pid : ℕ) (was is : Place E O P S L) → StoreKeeps old
    → IsBut (listed_of old) (listed_of new) pid → times pid (listed_of old) ≡ times pid (listed_of new) + 1 → (is_here (slot_of is) ≡ true → ⊥)
    → Lists (listed_of old) (listed_of new) pid (slot_of was) (slot_of is)
lists_less old new pid was is k but less away =
    let one = k.once pid in
    let none : times pid (listed_of new) ≡ 0 = omega (arith, one, less) in
    record {
      others = but.others;
      once = omega (arith, none);
      here = λ among. absurd (none_among pid (listed_of new) none among);
      all = λ here. absurd (away here);
    }
