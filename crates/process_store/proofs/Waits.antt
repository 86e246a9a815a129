use Rattle.std.proofs.Common.{◌≡◌, ◌≢◌, ◌⊎◌, ◌<◌, ◌≤◌, ℕ, zero, suc, ◌+◌, ◌-◌, List, [], ◌∷◌, ◌++◌, length, length-append, slice_get, Option, Some, None, IsSome, Bool, true, false, cond, is_some, nat_eq, refl, arith, sym, ◌∙◌, ap, subst, inl, inr}
use Rattle.std.proofs.lemmas.Bool.Decides.{eqb_tells, nat_tests}
use Rattle.std.specs.Cmp.{nat_cmp_total}
use Rattle.std.specs.Ordering.{nat_cmp, eq_by_cmp}
use Rattle.std.specs.FinMap.{FinMap, get, insert, remove, len, contains_key, get-insert, get-remove, len-insert, len-remove}
use Rattle.run_queue.proofs.Dues.{has_deadlines}
use Rattle.node_mirror.specs.Slots.{Slot, Nobody, Home, Asleep, Giving, Away, Fated, Gone}
use Rattle.std.specs.Option.{option_to_list}
use Rattle.host_port.specs.declared.ask.Ask.{Ask}
use Rattle.node_state.specs.Seats.{Seat}
use Rattle.node_mirror.specs.Steps.{asleep}
use Rattle.host_calls.specs.declared.proc.Proc.{Proc}
use Rattle.host_calls.specs.Shown.{seat_of}
use Rattle.process_store.specs.declared.place.Place.{Place}
use Rattle.process_store.specs.declared.place.Place.TheVariants as PlaceIs
use Rattle.process_store.specs.Late.{SetsDeadline}
use Rattle.process_store.specs.declared.store.Store.{Store}
use Rattle.process_store.specs.Holds.{Becomes, held_of, place_at, slot_in}
use Rattle.process_store.specs.Keeps.{HasShedAll, IsWaiting, StoreKeeps, listed_of}
use Rattle.process_store.proofs.Sets.{IsSet, is_at, is_within}
use Rattle.process_store.proofs.Listing.{but_less, came_more}
use Rattle.process_store.proofs.Keeping.{links_stay, lists_less, moved_keeps}
use Rattle.process_store.proofs.Showing.{becomes, numbers_set, replaced_by, replaced_same, slots_set, undated}

-- How many deadlines there may be.

eq_same : (pid : ℕ) → eq_by_cmp nat_cmp pid pid ≡ true
eq_same pid = grind (arith, nat_tests)

eq_other : (q pid : ℕ) → q ≢ pid → eq_by_cmp nat_cmp q pid ≡ false
eq_other q pid different = grind (arith, nat_tests, different)

-- what a number has after another deadline was set
pub dated_here : (dates : FinMap nat_cmp ℕ) (pid at : ℕ) → get (insert dates pid at) pid ≡ Some at
dated_here dates pid at = get-insert nat_cmp_total dates pid at pid ∙ ap (λ (b : Bool). cond b (Some at) (get dates pid)) (eq_same pid)

pub dated_other : (dates : FinMap nat_cmp ℕ) (pid at q : ℕ) → q ≢ pid → get (insert dates pid at) q ≡ get dates q
dated_other dates pid at q differs = get-insert nat_cmp_total dates pid at q ∙ ap (λ (b : Bool). cond b (Some at) (get dates q)) (eq_other q pid differs)

removed_here : (dates : FinMap nat_cmp ℕ) (pid : ℕ) → get (remove dates pid) pid ≡ None
removed_here dates pid = get-remove nat_cmp_total dates pid pid ∙ ap (λ (b : Bool). cond b None (get dates pid)) (eq_same pid)

removed_other : (dates : FinMap nat_cmp ℕ) (pid q : ℕ) → q ≢ pid → get (remove dates pid) q ≡ get dates q
removed_other dates pid q differs = get-remove nat_cmp_total dates pid q ∙ ap (λ (b : Bool). cond b None (get dates q)) (eq_other q pid differs)

-- where nobody has a deadline there are none
none_dated : (dates : FinMap nat_cmp ℕ) → ((q : ℕ) → get dates q ≡ None) → len dates ≡ 0
none_dated dates none = by (nat_eq (len dates) 0) (λ t. grind (arith, nat_tests, t)) (λ z. grind (arith, nat_tests, z))
  where
    by : (b : Bool) → (b ≡ true → len dates ≡ 0) → (len dates ≡ 0 → b ≡ true) → len dates ≡ 0
    by true there back = there refl
    by false there back =
        let some = (has_deadlines dates false (there, back)).0 refl in
        let off = ap (λ (o : Option ℕ). o) (none some.0) in
        let h : ⊥ = cc in
        absurd h

none_unless : (o : Option ℕ) → ((d : ℕ) → o ≡ Some d → ⊥) → o ≡ None
none_unless None never = refl
none_unless (Some d) never = absurd (never d refl)

removed_len : (dates : FinMap nat_cmp ℕ) (pid : ℕ) → len dates ≤ len (remove dates pid) + 1
removed_len dates pid = by (contains_key dates pid) (len-remove nat_cmp_total dates pid)
  where
    by : (b : Bool) → len (remove dates pid) ≡ cond b (len dates - 1) (len dates) → len dates ≤ len (remove dates pid) + 1
    by true e = omega (arith, e)
    by false e = omega (arith, e)

-- where only numbers below this have one, there are at most so many
few_dated : (n : ℕ) (dates : FinMap nat_cmp ℕ) → ((q d : ℕ) → get dates q ≡ Some d → q < n) → len dates ≤ n
few_dated zero dates below = let none = none_dated dates (λ q. none_unless (get dates q) (λ d is. let h = below q d is in let never : ⊥ = omega (arith, h) in never)) in omega (arith, none)
few_dated (suc n) dates below =
    let rest = few_dated n (remove dates n) (λ q d is. lower n dates below q d is (eqb_tells q n)) in
    let more = removed_len dates n in
    omega (arith, rest, more)
  where
    lower : (n : ℕ) (dates : FinMap nat_cmp ℕ) → ((q d : ℕ) → get dates q ≡ Some d → q < suc n) → (q d : ℕ) → get (remove dates n) q ≡ Some d
        → ((nat_eq q n ≡ true) × (q ≡ n)) ⊎ ((nat_eq q n ≡ false) × (q ≢ n)) → q < n
    lower n dates below q d is (inl same) =
        let e : None ≡ Some d = sym (removed_here dates n) ∙ ap (λ (k : ℕ). get (remove dates n) k) (sym same.1) ∙ is in
        let h : ⊥ = cc in
        absurd h
    lower n dates below q d is (inr other) =
        let differs = other.1 in
        let low = below q d (sym (removed_other dates n q differs) ∙ is) in
        omega (arith, low, differs)

-- and one fewer, where another below it has none
pub one_undated : (n pid : ℕ) (dates : FinMap nat_cmp ℕ) → ((q d : ℕ) → get dates q ≡ Some d → q < n) → get dates pid ≡ None → pid < n → len dates < n
one_undated n pid dates below none within =
    let all = few_dated n (insert dates pid 0) (λ q d is. by q d is (eqb_tells q pid)) in
    let grown = len-insert nat_cmp_total dates pid 0 ∙ ap (λ (o : Option ℕ). cond (is_some o) (len dates) (len dates + 1)) none in
    omega (arith, all, grown)
  where
    by : (q d : ℕ) → get (insert dates pid 0) q ≡ Some d → ((nat_eq q pid ≡ true) × (q ≡ pid)) ⊎ ((nat_eq q pid ≡ false) × (q ≢ pid)) → q < n
    by q d is (inl same) = subst (λ (k : ℕ). k < n) (sym same.1) within
    by q d is (inr other) = below q d (sym (dated_other dates pid 0 q other.1) ∙ is)

-- who waits has a place
waits_within : {E O P S L : Type 0} (store : Store E O P S L) (q : ℕ) → IsWaiting (place_at store q) → q < length store.places.items
waits_within store q waits = is_within (λ o. IsWaiting (slot_in o)) store.places.items q waits (λ none. none)

-- so there is room for the deadline of one who has none
pub date_room : {E O P S L : Type 0} (store : Store E O P S L) (pid : ℕ) → StoreKeeps store → get store.queue.deadlines pid ≡ None → pid < length store.places.items → len store.queue.deadlines < store.queue.room
date_room store pid k none within =
    let few = one_undated (length store.places.items) pid store.queue.deadlines (λ q d is. waits_within store q (k.dated q d is)) none within in
    let room = k.numbered in
    omega (arith, few, room)

-- THE DEADLINE OF A WAIT

pub sets_here : (dates after : FinMap nat_cmp ℕ) (pid : ℕ) (deadline : Option ℕ) → SetsDeadline dates after pid deadline → get dates pid ≡ None → get after pid ≡ deadline
sets_here dates after pid None sets none = ap (λ (m : FinMap nat_cmp ℕ). get m pid) sets ∙ none
sets_here dates after pid (Some at) sets none = ap (λ (m : FinMap nat_cmp ℕ). get m pid) sets ∙ dated_here dates pid at

pub sets_other : (dates after : FinMap nat_cmp ℕ) (pid : ℕ) (deadline : Option ℕ) → SetsDeadline dates after pid deadline → (q : ℕ) → q ≢ pid → get after q ≡ get dates q
sets_other dates after pid None sets q differs = ap (λ (m : FinMap nat_cmp ℕ). get m q) sets
sets_other dates after pid (Some at) sets q differs = ap (λ (m : FinMap nat_cmp ℕ). get m q) sets ∙ dated_other dates pid at q differs

-- THE WAIT

module _ {E O P S L : Type 0} (old new : Store E O P S L) (pid : ℕ) (proc : Proc E O P S L) (ask : Ask) (deadline : Option ℕ) (k : StoreKeeps old)
    (placed : IsSet old.places.items new.places.items pid (PlaceIs.Giving proc ask) (PlaceIs.Asleep proc ask)) (giver : old.giver ≡ Some pid)
    (sets : SetsDeadline old.queue.deadlines new.queue.deadlines pid deadline) (ready : new.queue.ready ≡ old.queue.ready) (room : new.queue.room ≡ old.queue.room)
    (same : new ≡ record old { places = new.places; queue = new.queue; giver = None }) where
  earlier : List ℕ
  earlier = old.queue.ready ++ old.came.items

  undated_is : get old.queue.deadlines pid ≡ None
  undated_is = undated old pid (PlaceIs.Giving proc ask) k placed.there (λ waits. waits)

  abbrev pub waiting : Store E O P S L
  waiting = record old { places = new.places; queue = new.queue; giver = None }

  was_listed : listed_of old ≡ earlier ++ (pid ∷ [] ++ [])
  unfolding earlier
  was_listed = ap (λ (g : Option ℕ). (old.queue.ready ++ old.came.items) ++ option_to_list g) giver

  is_listed : listed_of waiting ≡ earlier ++ []
  unfolding earlier
  is_listed = ap (λ (xs : List ℕ). (xs ++ old.came.items) ++ []) ready

  pub waiting_keeps : StoreKeeps new
  waiting_keeps =
      let but = but_less pid earlier [] (listed_of old) (listed_of waiting) was_listed is_listed in
      let less = came_more pid earlier [] (listed_of waiting) (listed_of old) is_listed was_listed in
      let a = ap length was_listed in
      let b = length-append earlier (pid ∷ [] ++ []) in
      let c = ap length is_listed in
      let d = length-append earlier [] in
      subst (λ (s : Store E O P S L). StoreKeeps s) (sym same) (moved_keeps old waiting pid (PlaceIs.Giving proc ask) (PlaceIs.Asleep proc ask) k (record {
        placed = placed;
        mail = refl;
        shed = k.shed;
        sheds = is_at placed HasShedAll k.sheds;
        unended = refl;
        out = refl;
        listed = lists_less old waiting pid (PlaceIs.Giving proc ask) (PlaceIs.Asleep proc ask) k but less (λ here. let h : ⊥ = cc in h);
        long = omega (arith, a, b, c, d);
        room = omega (arith, room);
        came_room = omega arith;
        dates = λ q differs. sets_other old.queue.deadlines new.queue.deadlines pid deadline sets q differs;
        dated = λ at is. tt;
        few = omega arith;
        closed_room = k.closed_room;
        links_room = links_stay old waiting pid (PlaceIs.Giving proc ask) (PlaceIs.Asleep proc ask) k placed refl refl (λ live. refl);
        links_of = λ a b tag at. at;
      }))

  pub waiting_held : (seat : Seat E) (its : Ask) → place_at old pid ≡ Giving seat its → Becomes new (asleep (held_of old) pid seat its deadline)
  waiting_held seat its at =
      let there : Giving (seat_of proc) ask ≡ Giving seat its = sym (ap slot_in placed.there) ∙ at in
      let seats : seat_of proc ≡ seat = cc in
      let asks : ask ≡ its = cc in
      subst (λ (a : Ask). Becomes new (asleep (held_of old) pid seat a deadline)) asks (subst (λ (x : Seat E). Becomes new (asleep (held_of old) pid x ask deadline)) seats
      (subst (λ (s : Store E O P S L). Becomes s (asleep (held_of old) pid (seat_of proc) ask deadline)) (sym same)
      (becomes waiting (asleep (held_of old) pid (seat_of proc) ask deadline) (record {
        slots = slots_set old waiting pid (PlaceIs.Giving proc ask) (PlaceIs.Asleep proc ask) placed;
        mail = replaced_same (held_of old).mail pid ((held_of old).mail pid) refl;
        deadlines = replaced_by (held_of old).deadlines (λ q. get new.queue.deadlines q) pid deadline (sets_here old.queue.deadlines new.queue.deadlines pid deadline sets undated_is)
            (λ q differs. sets_other old.queue.deadlines new.queue.deadlines pid deadline sets q differs);
        names = λ name. refl;
        numbers = numbers_set old waiting pid (PlaceIs.Giving proc ask) (PlaceIs.Asleep proc ask) placed;
        births = refl;
        unended = refl;
        out = refl;
        sends = refl;
        time = refl;
        row = refl;
        over = refl;
        streams = refl;
        closed = refl;
      }))))
