use Rattle.std.proofs.Common.{◌≡◌, ◌≢◌, ◌<◌, ◌≤◌, ℕ, ◌+◌, List, [], ◌∷◌, ◌++◌, length, length-append, sum_by, vec_capacity, slice_get, slice_set, Option, Some, None}
use Rattle.std.proofs.Common.{IsSomeAnd, refl, arith, sym, ◌∙◌, ap, subst, append_assoc}
use Rattle.std.specs.FinMap.{get, remove}
use Rattle.std.specs.Option.{option_to_list}
use Rattle.host_port.specs.declared.ask.Ask.{Ask}
use Rattle.host_port.specs.Standing.{Phase}
use Rattle.link_signals.specs.Links.{Net, ends}
use Rattle.resource_table.specs.Handles.{numbers_of}
use Rattle.run_queue.specs.Schedule.{IsDue}
use Rattle.node_mirror.specs.Steps.{home}
use Rattle.host_calls.specs.Shown.{seat_of, hands_of}
use Rattle.host_calls.specs.declared.proc.Proc.{Proc}
use Rattle.process_store.specs.declared.place.Place.{Place}
use Rattle.process_store.specs.declared.place.Place.TheVariants as PlaceIs
use Rattle.process_store.specs.declared.store.Store.{Store}
use Rattle.process_store.specs.Holds.{Becomes, held_of, items_in, place_at, slot_in, slot_of, streams_of}
use Rattle.process_store.specs.Keeps.{StoreKeeps, HasShedAll, IsWaiting, is_absent, listed_of}
use Rattle.process_store.specs.Performing.{MayBeWoken, MayWait}
use Rattle.process_store.proofs.Sets.{IsSet, is_at, sum_has, within_of}
use Rattle.process_store.proofs.Listing.{IsBut, but_more, came_more}
use Rattle.process_store.proofs.Showing.{becomes, numbers_set, replaced_same, slots_set}
use Rattle.process_store.proofs.Emptying.{date_gone, date_other, undated_by}
use Rattle.process_store.proofs.Keeping.{links_stay, lists_more, moved_keeps}

-- A process that waited comes home.

-- whose deadline has come waits
pub due_waits : {E O P S L : Type 0} (store : Store E O P S L) → StoreKeeps store → (now pid : ℕ) → IsDue store.queue.deadlines now pid → IsWaiting (place_at store pid)
due_waits store k now pid due = by (get store.queue.deadlines pid) refl due
  where
    by : (o : Option ℕ) → get store.queue.deadlines pid ≡ o → IsSomeAnd o (λ at. at ≤ now) → IsWaiting (place_at store pid)
    by None e is = absurd is
    by (Some deadline) e is = k.dated pid deadline e

-- a place at which a process waits
pub waits_asleep : {E O P S L : Type 0} (place : Place E O P S L) → IsWaiting (slot_of place) → ((proc : Proc E O P S L) (ask : Ask) → place ≡ PlaceIs.Asleep proc ask → ⊥) → ⊥
waits_asleep PlaceIs.Nobody waits never = waits
waits_asleep (PlaceIs.Home proc) waits never = waits
waits_asleep (PlaceIs.Asleep proc ask) waits never = never proc ask refl
waits_asleep (PlaceIs.Giving proc ask) waits never = waits
waits_asleep (PlaceIs.Away worker) waits never = waits
waits_asleep (PlaceIs.Fated worker end) waits never = waits
waits_asleep PlaceIs.Gone waits never = waits

-- it may be told that its time is over
pub woken_at : {E O P S L : Type 0} (phase : E → Phase) (memory : E → List ℕ) (old : Store E O P S L) (pid : ℕ) (proc : Proc E O P S L) (ask : Ask)
    → slice_get old.places.items pid ≡ Some (PlaceIs.Asleep proc ask) → MayBeWoken phase memory (place_at old pid) → MayWait phase memory (seat_of proc) ask
woken_at phase memory old pid proc ask there may = subst (λ o. MayBeWoken phase memory (slot_in o)) there may

-- those that came have room for it
pub came_place : {E O P S L : Type 0} (old : Store E O P S L) (pid : ℕ) (proc : Proc E O P S L) (ask : Ask) → StoreKeeps old → slice_get old.places.items pid ≡ Some (PlaceIs.Asleep proc ask)
    → length old.came.items < vec_capacity old.came
came_place {E = E} {O = O} {P = P} {S = S} {L = L} old pid proc ask k there =
    let was : Place E O P S L = PlaceIs.Asleep proc ask in
    let found : IsSet old.places.items (slice_set old.places.items pid was) pid was was = record { within = within_of old.places.items pid was there; there = there; set = refl } in
    let has = sum_has found is_absent in
    let room = k.came_room in
    let a = length-append (old.queue.ready ++ old.came.items) (option_to_list old.giver) in
    let b = length-append old.queue.ready old.came.items in
    omega (arith, has, room, a, b)

-- WAKES. The process of one number waited, and is at home; its deadline is gone, and it is the last of those that came;
-- all else stays.
pub record Wakes {E O P S L : Type 0} (old new : Store E O P S L) (pid : ℕ) (proc after : Proc E O P S L) (ask : Ask) : Type 0 where
  pub placed : IsSet old.places.items new.places.items pid (PlaceIs.Asleep proc ask) (PlaceIs.Home after)
  pub same_shed : after.shed ≡ proc.shed
  pub same_hands : hands_of after ≡ hands_of proc
  pub ready : new.queue.ready ≡ old.queue.ready
  pub dates : new.queue.deadlines ≡ remove old.queue.deadlines pid
  pub room : new.queue.room ≡ old.queue.room
  pub came : new.came.items ≡ old.came.items ++ pid ∷ []
  pub came_room : vec_capacity new.came ≡ vec_capacity old.came
  pub giver : new.giver ≡ old.giver
  pub mail : new.mail ≡ old.mail
  pub shed : new.shed ≡ old.shed
  pub closed : new.closed ≡ old.closed
  pub links : new.links ≡ old.links
  pub names : new.names ≡ old.names
  pub births : new.births ≡ old.births
  pub unended : new.unended ≡ old.unended
  pub out : new.out ≡ old.out
  pub sends : new.sends ≡ old.sends
  pub time : new.time ≡ old.time
  pub row : new.row ≡ old.row
  pub over : new.over ≡ old.over
  pub streams : new.streams ≡ old.streams

module _ {E O P S L : Type 0} (old new : Store E O P S L) (pid : ℕ) (proc after : Proc E O P S L) (ask : Ask) (w : Wakes old new pid proc after ask) where
  listed_more : listed_of new ≡ (old.queue.ready ++ old.came.items) ++ (pid ∷ [] ++ option_to_list old.giver)
  listed_more =
      ap (λ (xs : List ℕ). (xs ++ new.came.items) ++ option_to_list new.giver) w.ready
      ∙ ap (λ (xs : List ℕ). (old.queue.ready ++ xs) ++ option_to_list new.giver) w.came
      ∙ ap (λ (o : Option ℕ). (old.queue.ready ++ (old.came.items ++ pid ∷ [])) ++ option_to_list o) w.giver
      ∙ ap (λ (xs : List ℕ). xs ++ option_to_list old.giver) (sym (append_assoc old.queue.ready old.came.items (pid ∷ [])))
      ∙ append_assoc (old.queue.ready ++ old.came.items) (pid ∷ []) (option_to_list old.giver)

  joins : IsBut (listed_of old) (listed_of new) pid
  joins = but_more pid (old.queue.ready ++ old.came.items) (option_to_list old.giver) (listed_of old) (listed_of new) refl listed_more

  pub wakes_keeps : StoreKeeps old → StoreKeeps new
  wakes_keeps k =
      let was : Place E O P S L = PlaceIs.Asleep proc ask in
      let is : Place E O P S L = PlaceIs.Home after in
      let more = came_more pid (old.queue.ready ++ old.came.items) (option_to_list old.giver) (listed_of old) (listed_of new) refl listed_more in
      let dated : get new.queue.deadlines pid ≡ None = ap (λ m. get m pid) w.dates ∙ date_gone old.queue.deadlines pid in
      moved_keeps old new pid was is k (record {
        placed = w.placed;
        mail = ap (λ m. length m.items) w.mail;
        shed = w.shed ∙ k.shed;
        sheds = w.same_shed ∙ is_at w.placed HasShedAll k.sheds;
        unended = let a = w.unended in omega (arith, a);
        out = let a = w.out in omega (arith, a);
        listed = lists_more old new pid was is k w.placed.there joins more (λ listed. listed) tt;
        long = let a = joins.long in omega (arith, a, more);
        room = let a = w.room in omega (arith, a);
        came_room = let a = w.came_room in omega (arith, a);
        dates = λ q differs. ap (λ m. get m q) w.dates ∙ date_other old.queue.deadlines pid q differs;
        dated = λ deadline at. let h : ⊥ = cc in absurd h;
        few =
            let a = ap (λ c. length c.items) w.closed in
            let b = ap (λ m. sum_by (λ mail. length (streams_of mail)) m.items) w.mail in
            let s = w.streams in
            let h = ap length w.same_hands in
            omega (arith, a, b, s, h);
        closed_room =
            let a = ap vec_capacity w.closed in
            let s = w.streams in
            let o = w.out in
            let r = k.closed_room in
            omega (arith, a, s, o, r);
        links_room = links_stay old new pid was is k w.placed w.links w.mail (λ live. refl);
        links_of = λ a b tag at. ap (λ (net : Net). get net.tags (a, b)) (sym w.links) ∙ at;
      })

  pub wakes_home : Becomes new (home (held_of old) pid (seat_of after))
  wakes_home = becomes new (home (held_of old) pid (seat_of after)) (record {
    slots = slots_set old new pid (PlaceIs.Asleep proc ask) (PlaceIs.Home after) w.placed;
    mail = λ q. ap (λ m. items_in (slice_get m.items q)) w.mail ∙ replaced_same (held_of old).mail pid ((held_of old).mail pid) refl q;
    deadlines = λ q. ap (λ m. get m q) w.dates ∙ undated_by old.queue.deadlines pid None refl q;
    names = λ name. ap (λ names. get names name) w.names;
    numbers = numbers_set old new pid (PlaceIs.Asleep proc ask) (PlaceIs.Home after) w.placed;
    births = w.births;
    unended = w.unended;
    out = w.out;
    sends = w.sends;
    time = w.time;
    row = w.row;
    over = w.over;
    streams = w.streams;
    closed = ap (λ c. numbers_of c.items) w.closed;
  })
