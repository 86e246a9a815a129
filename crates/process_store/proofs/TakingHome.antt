use Rattle.std.proofs.Common.{◌≡◌, ◌≢◌, ◌⊎◌, ◌<◌, ◌≤◌, ℕ, ◌+◌, ◌-◌, List, [], ◌∷◌, ◌++◌, length, length-append, filter, get_or, slice_get, slice_set, Option, Some, None, Bool, true, false, nat_eq, if◌then◌else◌, vec_capacity, refl, arith, sym, ◌∙◌, ap, subst, inl, inr}
use Rattle.std.proofs.lemmas.List.Elements.{filter-append}
use Rattle.std.proofs.lemmas.Bool.Decides.{eqb_tells}
use Rattle.std.proofs.lemmas.Option.{slice_get_read}
use Rattle.std.proofs.Math.Path.{fun_ext}
use Rattle.std.specs.Option.{option_to_list}
use Rattle.std.specs.FinMap.{get}
use Rattle.run_queue.specs.Schedule.{Schedule}
use Rattle.world_rules.specs.Part.{is_among}
use Rattle.world_rules.specs.Sound.{times}
use Rattle.node_laws.proofs.Numbers.{times-append}
use Rattle.node_mirror.specs.Slots.{Slot, Nobody, Home, Asleep, Giving, Away, Fated, Gone, is_giving, is_home}
use Rattle.node_mirror.specs.Held.{Held}
use Rattle.node_mirror.specs.Steps.{replaced, taken}
use Rattle.node_mirror.proofs.Members.{times_none, times_some, among_of_times, among_first, among_rest}
use Rattle.host_calls.specs.declared.proc.Proc.{Proc}
use Rattle.host_calls.specs.Shown.{hands_of, seat_of}
use Rattle.process_store.specs.declared.place.Place.{Place}
use Rattle.process_store.specs.declared.place.Place.TheVariants as PlaceIs
use Rattle.process_store.specs.declared.store.Store.{Store}
use Rattle.process_store.specs.Holds.{held_of, hands_in, kept_of, place_at, ready_of, slot_in}
use Rattle.process_store.specs.Keeps.{HasShedAll, StoreKeeps, is_here, listed_of}
use Rattle.process_store.specs.Takings.{Skips, TakesNobody, TakesOut}
use Rattle.process_store.proofs.Sets.{IsSet, is_at, is_set_once, is_within, length_set, read_set}
use Rattle.process_store.proofs.Listing.{but_less, came_more, none_among}
use Rattle.process_store.proofs.Keeping.{links_stay, lists_less, moved_keeps}
use Rattle.process_store.proofs.Showing.{becomes, numbers_set, slots_set, undated}
use Rattle.process_store.proofs.TakingOut.{not_home}
use Rattle.process_store.proofs.Requeueing.{joined_length, joined_times, listed_keeps}

-- The next at home leaves the store.

-- LISTS

-- who is here, and gives nothing, is at home
here_home : {E : Type 0} (slot : Slot E) → is_here slot ≡ true → is_giving slot ≡ false → is_home slot ≡ true
here_home Nobody here idle = here
here_home (Home seat) here idle = refl
here_home (Asleep seat ask) here idle = here
here_home (Giving seat ask) here idle = let h : ⊥ = cc in absurd h
here_home (Away worker) here idle = here
here_home (Fated worker end) here idle = here
here_home Gone here idle = here

true_false : (b : Bool) → b ≡ true → b ≡ false → ⊥
true_false b is isnt = let e : true ≡ false = sym is ∙ isnt in let h : ⊥ = cc in h

false_unless : (b : Bool) → (b ≡ true → ⊥) → b ≡ false
false_unless true never = absurd (never refl)
false_unless false never = refl

-- none of these passes
none_pass : (test : ℕ → Bool) (xs : List ℕ) → ((q : ℕ) → is_among xs q ≡ true → test q ≡ false) → filter test xs ≡ []
none_pass test [] none = refl
none_pass test (x ∷ xs) none = rw (none x (among_first x xs x refl)) (none_pass test xs (λ q among. none q (among_rest x xs q among)))

-- the same pass two tests that agree
pass_same : (f g : ℕ → Bool) (xs : List ℕ) → ((q : ℕ) → is_among xs q ≡ true → f q ≡ g q) → filter f xs ≡ filter g xs
pass_same f g [] same = refl
pass_same f g (x ∷ xs) same = by (pass_same f g xs (λ q among. same q (among_rest x xs q among)))
  where
    by : filter f xs ≡ filter g xs → filter f (x ∷ xs) ≡ filter g (x ∷ xs)
    by rest = ap (λ (b : Bool). if b then (x ∷ filter f xs) else filter f xs) (same x (among_first x xs x refl)) ∙ ap (λ (ys : List ℕ). if g x then (x ∷ ys) else ys) rest

-- THE QUEUE WAS LOOKED THROUGH

-- the store whose queue is this, those of it that aren't at home having left
pub skipped_keeps : {E O P S L : Type 0} (old s : Store E O P S L) (next : Option ℕ) → StoreKeeps old → ((pid : ℕ) → is_giving (place_at old pid) ≡ false) → Skips old s next
    → s.queue.deadlines ≡ old.queue.deadlines → s.queue.room ≡ old.queue.room → StoreKeeps (record old { queue = record s.queue { ready = option_to_list next ++ s.queue.ready } })
skipped_keeps {E = E} {O = O} {P = P} {S = S} {L = L} old s next k idle skips deadlines room =
    listed_keeps old mid k (λ n. let a = count n in omega (arith, a)) (λ n here among. among_of_times n (listed_of mid)
    (let a = count n in let b = times_some n (listed_of old) among in let z = skipped_none n here in omega (arith, a, b, z)))
    (let a = long in omega (arith, a)) room refl deadlines
  where
    front : List ℕ
    front = option_to_list next ++ s.queue.ready

    mid : Store E O P S L
    mid = record old { queue = record s.queue { ready = front } }

    count : (n : ℕ) → times n (listed_of old) ≡ times n (listed_of mid) + times n skips.skipped
    count n =
        let a = joined_times n old.queue.ready old.came.items (option_to_list old.giver) in
        let b = joined_times n front old.came.items (option_to_list old.giver) in
        let c = ap (times n) skips.queue in
        let d = times-append n skips.skipped front in
        omega (arith, a, b, c, d)

    long : length (listed_of old) ≡ length (listed_of mid) + length skips.skipped
    long =
        let a = joined_length old.queue.ready old.came.items (option_to_list old.giver) in
        let b = joined_length front old.came.items (option_to_list old.giver) in
        let c = ap length skips.queue in
        let d = length-append skips.skipped front in
        omega (arith, a, b, c, d)

    skipped_none : (n : ℕ) → is_here (place_at old n) ≡ true → times n skips.skipped ≡ 0
    skipped_none n here = times_none n skips.skipped (false_unless (is_among skips.skipped n)
        (λ among. true_false (is_home (place_at old n)) (here_home (place_at old n) here (idle n)) (skips.absent n among)))

-- NOBODY

pub nobody_kept : {E O P S L : Type 0} (old s : Store E O P S L) → StoreKeeps old → ((pid : ℕ) → is_giving (place_at old pid) ≡ false) → Skips old s None
    → s.queue.deadlines ≡ old.queue.deadlines → s.queue.room ≡ old.queue.room → s ≡ record old { queue = s.queue } → StoreKeeps s
nobody_kept old s k idle skips deadlines room same = subst (λ (x : Store _ _ _ _ _). StoreKeeps x) (sym same) (skipped_keeps old s None k idle skips deadlines room)

pub nobody_taken : {E O P S L : Type 0} (old s : Store E O P S L) → Skips old s None → s.queue.deadlines ≡ old.queue.deadlines → s ≡ record old { queue = s.queue } → TakesNobody old s
nobody_taken {E = E} {O = O} {P = P} {S = S} {L = L} old s skips deadlines same =
    let homes = λ (pid : ℕ). is_home (place_at old pid) in
    let none : s.queue.ready ≡ [] = skips.none refl in
    let empty : ready_of old ≡ [] =
    ap (filter homes) skips.queue ∙ filter-append homes skips.skipped s.queue.ready ∙ ap (λ xs. xs ++ filter homes s.queue.ready) (none_pass homes skips.skipped skips.absent) ∙ ap (filter homes) none in
    let now : filter homes s.queue.ready ≡ ready_of old = ap (filter homes) none ∙ sym empty in
    record {
      ready = empty;
      held = ap held_of same ∙ (λ i. record (held_of old) { deadlines = λ pid. get (deadlines i) pid; ready = now i });
      kept = ap kept_of same;
    }

-- THE NEXT

-- who stands at the front isn't behind it
once_front : {E O P S L : Type 0} (old s : Store E O P S L) (pid : ℕ) → StoreKeeps (record old { queue = record s.queue { ready = option_to_list (Some pid) ++ s.queue.ready } }) → times pid s.queue.ready ≡ 0
once_front old s pid k =
    let a = k.once pid in
    let b = joined_times pid (pid ∷ s.queue.ready) old.came.items (option_to_list old.giver) in
    let c = came_more pid [] s.queue.ready s.queue.ready (pid ∷ s.queue.ready) refl refl in
    omega (arith, a, b, c)

module _ {E O P S L : Type 0} (old s new : Store E O P S L) (pid worker : ℕ) (proc : Proc E O P S L) (k : StoreKeeps old) (idle : (q : ℕ) → is_giving (place_at old q) ≡ false)
    (skips : Skips old s (Some pid)) (deadlines : s.queue.deadlines ≡ old.queue.deadlines) (room : s.queue.room ≡ old.queue.room)
    (placed : IsSet old.places.items new.places.items pid (PlaceIs.Home proc) (PlaceIs.Away worker)) where
  abbrev pub mid : Store E O P S L
  mid = record old { queue = record s.queue { ready = option_to_list (Some pid) ++ s.queue.ready } }

  abbrev pub left : Store E O P S L
  left = record old { queue = s.queue; places = new.places; out = old.out + 1 }

  mid_keeps : StoreKeeps mid
  mid_keeps = skipped_keeps old s (Some pid) k idle skips deadlines room

  pub left_keeps : old.streams + old.out + 1 ≤ vec_capacity old.closed → StoreKeeps left
  left_keeps wide =
      let fewer = came_more pid [] ((s.queue.ready ++ old.came.items) ++ option_to_list old.giver) (listed_of left) (listed_of mid) refl refl in
      let but = but_less pid [] ((s.queue.ready ++ old.came.items) ++ option_to_list old.giver) (listed_of mid) (listed_of left) refl refl in
      let awake = undated mid pid (PlaceIs.Home proc) mid_keeps placed.there (λ waits. waits) in
      moved_keeps mid left pid (PlaceIs.Home proc) (PlaceIs.Away worker) mid_keeps (record {
        placed = placed;
        mail = refl;
        shed = k.shed;
        sheds = tt;
        unended = refl;
        out = omega arith;
        listed = lists_less mid left pid (PlaceIs.Home proc) (PlaceIs.Away worker) mid_keeps but fewer (λ here. let h : ⊥ = cc in h);
        long = shorter (length (listed_of left)) (length (listed_of mid)) (length-append (pid ∷ []) ((s.queue.ready ++ old.came.items) ++ option_to_list old.giver));
        room = omega arith;
        came_room = omega arith;
        dates = λ q differs. refl;
        dated = λ deadline at. let none = awake in let h : ⊥ = cc in absurd h;
        few = fewer_streams (length old.closed.items) (length (hands_of proc)) _ old.streams;
        closed_room = omega (arith, wide);
        links_room = links_stay mid left pid (PlaceIs.Home proc) (PlaceIs.Away worker) mid_keeps placed refl refl (λ live. refl);
        links_of = λ a b tag at. at;
      })
    where
      shorter : (n m : ℕ) → m ≡ 1 + n → n + 1 ≤ m + 0
      shorter n m e = omega (arith, e)

      fewer_streams : (a b c d : ℕ) → a + 0 + c + d ≤ a + b + c + d
      fewer_streams a b c d = omega arith

  pub left_taken : TakesOut old left worker pid proc
  left_taken =
      let homes = λ (q : ℕ). is_home (place_at old q) in
      let here : homes pid ≡ true = ap (λ o. is_home (slot_in o)) placed.there in
      let absent : (q : ℕ) → is_among s.queue.ready q ≡ true → q ≢ pid = λ q among same.
      none_among pid s.queue.ready (once_front old s pid mid_keeps) (ap (λ (n : ℕ). is_among s.queue.ready n) (sym same) ∙ among) in
      let now : ready_of left ≡ filter homes s.queue.ready = pass_same (λ q. is_home (place_at left q)) homes s.queue.ready
      (λ q among. ap is_home (slots_set old left pid (PlaceIs.Home proc) (PlaceIs.Away worker) placed q) ∙ other q (absent q among)) in
      record {
        home = ap slot_in placed.there;
        rest = filter homes s.queue.ready;
        ready = ap (filter homes) skips.queue ∙ filter-append homes skips.skipped (pid ∷ s.queue.ready) ∙ ap (λ xs. xs ++ filter homes (pid ∷ s.queue.ready)) (none_pass homes skips.skipped skips.absent)
            ∙ ap (λ (b : Bool). if b then (pid ∷ filter homes s.queue.ready) else filter homes s.queue.ready) here;
        held = becomes left (taken (held_of old) pid worker) (record {
          slots = slots_set old left pid (PlaceIs.Home proc) (PlaceIs.Away worker) placed;
          mail = λ q. refl;
          deadlines = λ q. ap (λ d. get d q) deadlines;
          names = λ name. refl;
          numbers = numbers_set old left pid (PlaceIs.Home proc) (PlaceIs.Away worker) placed;
          births = refl;
          unended = refl;
          out = refl;
          sends = refl;
          time = refl;
          row = refl;
          over = refl;
          streams = refl;
          closed = refl;
        }) ∙ ap (λ (xs : List ℕ). record (taken (held_of old) pid worker) { ready = xs }) now;
        hands = ap hands_in placed.there;
        kept = λ i. record (kept_of old) { hands = fun_ext (λ q. read_set placed hands_in q) i };
        shed = is_at placed HasShedAll k.sheds;
      }
    where
      other : (q : ℕ) → q ≢ pid → is_home (replaced (place_at old) pid (Away worker) q) ≡ is_home (place_at old q)
      other q differs = by (eqb_tells q pid)
        where
          by : ((nat_eq q pid ≡ true) × (q ≡ pid)) ⊎ ((nat_eq q pid ≡ false) × (q ≢ pid)) → is_home (if nat_eq q pid then Away worker else place_at old q) ≡ is_home (place_at old q)
          by (inl same) = absurd (differs same.1)
          by (inr apart) = ap (λ (b : Bool). is_home (if b then Away worker else place_at old q)) apart.0

-- WHAT WAS READ

-- the next is within the places
pub next_within : {E O P S L : Type 0} (old s : Store E O P S L) (pid : ℕ) → Skips old s (Some pid) → pid < length old.places.items
next_within old s pid skips = is_within (λ o. is_home (slot_in o) ≡ true) old.places.items pid skips.next_home (λ none. let h : ⊥ = cc in h)

-- what was read at the number of the next is a process at home
pub next_found : {E O P S L : Type 0} (old s : Store E O P S L) (pid : ℕ) (x y : Place E O P S L) → Skips old s (Some pid) → s.places.items ≡ old.places.items → x ≡ y → y ≡ get_or s.places.items pid y
    → ((proc : Proc E O P S L) → x ≡ PlaceIs.Home proc → ⊥) → ⊥
next_found {E = E} {O = O} {P = P} {S = S} {L = L} old s pid x y skips same xy read other =
    let within = next_within old s pid skips in
    let long = ap length same in
    let there : slice_get s.places.items pid ≡ Some x =
    slice_get_read s.places.items (length s.places.items) pid x refl (omega (arith, within, long)) (subst (λ (w : Place E O P S L). w ≡ get_or s.places.items pid w) (sym xy) read) in
    true_false (is_home (place_at old pid)) skips.next_home
    (ap (λ xs. is_home (slot_in (slice_get xs pid))) (sym same) ∙ ap (λ o. is_home (slot_in o)) there ∙ not_home x other)

-- and it leaves its place to its worker
pub next_placed : {E O P S L : Type 0} (old s new : Store E O P S L) (pid worker : ℕ) (proc : Proc E O P S L) (x y dest : Place E O P S L) → Skips old s (Some pid) → s.places.items ≡ old.places.items
    → x ≡ y → y ≡ get_or s.places.items pid y → x ≡ PlaceIs.Home proc → dest ≡ PlaceIs.Away worker → new.places.items ≡ slice_set s.places.items pid dest
    → IsSet old.places.items new.places.items pid (PlaceIs.Home proc) (PlaceIs.Away worker)
next_placed {E = E} {O = O} {P = P} {S = S} {L = L} old s new pid worker proc x y dest skips same xy read known away set =
    let within = next_within old s pid skips in
    let long = ap length same in
    subst (λ (xs : List (Place E O P S L)). IsSet xs new.places.items pid (PlaceIs.Home proc) (PlaceIs.Away worker)) same
    (is_set_once s.places.items new.places.items pid x y (PlaceIs.Home proc) (PlaceIs.Away worker) (omega (arith, within, long)) xy read known (set ∙ ap (slice_set s.places.items pid) away))

-- THE STORE AFTER IT, as it is written

left_is : {E O P S L : Type 0} (old s new : Store E O P S L) → s ≡ record old { queue = s.queue }
    → ◌≡◌ {A = Store E O P S L} (record s { places = new.places; out = s.out + 1 }) (record old { queue = s.queue; places = new.places; out = old.out + 1 })
left_is {E = E} {O = O} {P = P} {S = S} {L = L} old s new same = ap {A = Store E O P S L} (λ (x : Store E O P S L). record x { places = new.places; out = x.out + 1 }) same

pub keeps_left : {E O P S L : Type 0} (old s new : Store E O P S L) (pid worker : ℕ) (proc : Proc E O P S L) → StoreKeeps old → ((q : ℕ) → is_giving (place_at old q) ≡ false) → Skips old s (Some pid)
    → s.queue.deadlines ≡ old.queue.deadlines → s.queue.room ≡ old.queue.room → IsSet old.places.items new.places.items pid (PlaceIs.Home proc) (PlaceIs.Away worker) → s ≡ record old { queue = s.queue }
    → old.streams + old.out + 1 ≤ vec_capacity old.closed → StoreKeeps (record s { places = new.places; out = s.out + 1 })
keeps_left {E = E} {O = O} {P = P} {S = S} {L = L} old s new pid worker proc k idle skips deadlines room placed same wide =
    subst (λ (x : Store E O P S L). StoreKeeps x) (sym (left_is old s new same)) (left_keeps old s new pid worker proc k idle skips deadlines room placed wide)

pub takes_left : {E O P S L : Type 0} (old s new : Store E O P S L) (pid worker : ℕ) (proc : Proc E O P S L) → StoreKeeps old → ((q : ℕ) → is_giving (place_at old q) ≡ false) → Skips old s (Some pid)
    → s.queue.deadlines ≡ old.queue.deadlines → s.queue.room ≡ old.queue.room → IsSet old.places.items new.places.items pid (PlaceIs.Home proc) (PlaceIs.Away worker) → s ≡ record old { queue = s.queue }
    → TakesOut old (record s { places = new.places; out = s.out + 1 }) worker pid proc
takes_left {E = E} {O = O} {P = P} {S = S} {L = L} old s new pid worker proc k idle skips deadlines room placed same =
    subst (λ (x : Store E O P S L). TakesOut old x worker pid proc) (sym (left_is old s new same)) (left_taken old s new pid worker proc k idle skips deadlines room placed)
