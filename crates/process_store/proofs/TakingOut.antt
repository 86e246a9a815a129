use Rattle.std.proofs.Common.{◌≡◌, ◌≢◌, ◌<◌, ◌≤◌, ℕ, ◌+◌, List, [], ◌∷◌, ◌++◌, filter, length, length-append, slice_get, get_or, vec_capacity, vec_len, Option, Some, None, Bool, true, false, cond, nat_eq, refl, arith, sym, ◌∙◌, ap, subst, ◌⊎◌, inl, inr, append-nil}
use Rattle.std.proofs.lemmas.List.{append_assoc}
use Rattle.std.proofs.lemmas.Option.{slice_get_read}
use Rattle.std.proofs.lemmas.List.Elements.{filter-append}
use Rattle.std.proofs.Math.Path.{fun_ext}
use Rattle.std.specs.Option.{option_to_list}
use Rattle.world_rules.specs.Part.{is_among}
use Rattle.world_rules.specs.Sound.{times}
use Rattle.node_laws.proofs.Numbers.{times-append}
use Rattle.node_mirror.specs.Slots.{Slot, Nobody, Home, Asleep, Giving, Away, Fated, Gone, is_home, is_giving}
use Rattle.node_mirror.specs.Steps.{replaced, taken}
use Rattle.node_mirror.proofs.Members.{among_append, among_cases, among_first, among_rest, among_of_times, times_some}
use Rattle.process_store.specs.declared.store.Store.{Store}
use Rattle.process_store.specs.declared.place.Place.{Place}
use Rattle.process_store.specs.declared.place.Place.TheVariants as PlaceIs
use Rattle.host_calls.specs.declared.proc.Proc.{Proc}
use Rattle.process_store.specs.Holds.{held_of, kept_of, place_at, ready_of, slot_in, slot_of}
use Rattle.process_store.specs.Keeps.{StoreKeeps, IsListed, is_here, listed_of}
use Rattle.process_store.specs.Takings.{Skips, TakesNobody}
use Rattle.process_store.proofs.Listing.{not_among}
use Rattle.process_store.proofs.Requeueing.{joined_times, joined_length, listed_keeps}
use Rattle.process_store.proofs.Sets.{is_within}
use Rattle.process_store.proofs.Showing.{becomes}

-- The first of the queue that is at home leaves it.

-- WHILE IT IS LOOKED FOR

-- those that have left the queue so far aren't at home
pub record Passed {E O P S L : Type 0} (old now : Store E O P S L) : Type 0 where
  pub skipped : List ℕ
  pub queue : old.queue.ready ≡ skipped ++ now.queue.ready
  pub absent : (pid : ℕ) → is_among skipped pid ≡ true → is_home (place_at old pid) ≡ false
  pub deadlines : now.queue.deadlines ≡ old.queue.deadlines
  pub room : now.queue.room ≡ old.queue.room
  pub same : now ≡ record old { queue = now.queue }

pub passed_none : {E O P S L : Type 0} (old : Store E O P S L) → Passed old old
passed_none old = record { skipped = []; queue = refl; absent = λ pid among. let h : ⊥ = cc in absurd h; deadlines = refl; room = refl; same = refl }

-- one more, who isn't at home
pub passed_more : {E O P S L : Type 0} (old now next : Store E O P S L) (pid : ℕ) → Passed old now → now.queue.ready ≡ pid ∷ next.queue.ready → is_home (place_at old pid) ≡ false
    → next.queue.deadlines ≡ now.queue.deadlines → next.queue.room ≡ now.queue.room → next ≡ record now { queue = next.queue } → Passed old next
passed_more {E = E} {O = O} {P = P} {S = S} {L = L} old now next pid p popped away deadlines room same = record {
  skipped = p.skipped ++ pid ∷ [];
  queue = p.queue ∙ ap (λ xs. p.skipped ++ xs) popped ∙ sym (append_assoc p.skipped (pid ∷ []) next.queue.ready);
  absent = λ q among. by q (among_append p.skipped (pid ∷ []) q among);
  deadlines = deadlines ∙ p.deadlines;
  room = room ∙ p.room;
  same = same ∙ ap {A = Store E O P S L} (λ s. record s { queue = next.queue }) p.same;
}
  where
    last : (q : ℕ) → (q ≡ pid) ⊎ (is_among [] q ≡ true) → is_home (place_at old q) ≡ false
    last q (inl is) = ap (λ n. is_home (place_at old n)) is ∙ away
    last q (inr none) = let h : ⊥ = cc in absurd h

    by : (q : ℕ) → (is_among p.skipped q ≡ true) ⊎ (is_among (pid ∷ []) q ≡ true) → is_home (place_at old q) ≡ false
    by q (inl before) = p.absent q before
    by q (inr here) = last q (among_cases pid [] q here)

-- the front of the queue is listed
pub front_listed : {E O P S L : Type 0} (old now : Store E O P S L) (pid : ℕ) (rest : List ℕ) → StoreKeeps old → Passed old now → now.queue.ready ≡ pid ∷ rest → IsListed (place_at old pid)
front_listed old now pid rest k p popped =
    k.listed pid (among_of_times pid (listed_of old) (
    let a = joined_times pid old.queue.ready old.came.items (option_to_list old.giver) in
    let b = ap (times pid) p.queue in
    let c = times-append pid p.skipped now.queue.ready in
    let d = times_some pid now.queue.ready (ap (λ xs. is_among xs pid) popped ∙ among_first pid rest pid refl) in
    omega (arith, a, b, c, d)))

listed_number : {E O P S L : Type 0} (old now : Store E O P S L) (pid : ℕ) → Passed old now → IsListed (place_at old pid) → pid < length now.places.items
listed_number {E = E} {O = O} {P = P} {S = S} {L = L} old now pid p listed =
    let within = is_within (λ o. IsListed (slot_in o)) old.places.items pid listed (λ none. none) in
    let same = ap {A = Store E O P S L} (λ s. length s.places.items) p.same in
    omega (arith, within, same)

pub front_within : {E O P S L : Type 0} (old now : Store E O P S L) (pid : ℕ) (rest : List ℕ) → StoreKeeps old → Passed old now → now.queue.ready ≡ pid ∷ rest → pid < length now.places.items
front_within old now pid rest k p popped = listed_number old now pid p (front_listed old now pid rest k p popped)

-- what stands at a number, where it was read
pub home_found : {E O P S L : Type 0} (old now : Store E O P S L) (pid : ℕ) (place : Place E O P S L) (b : Bool) → Passed old now → pid < length now.places.items
    → place ≡ get_or now.places.items pid place → is_home (slot_of place) ≡ b → is_home (place_at old pid) ≡ b
home_found {E = E} {O = O} {P = P} {S = S} {L = L} old now pid place b p within read is =
    let there = slice_get_read now.places.items (length now.places.items) pid place refl within read in
    let same = ap {A = Store E O P S L} (λ s. slice_get s.places.items pid) p.same in
    ap (λ o. is_home (slot_in o)) (sym same ∙ there) ∙ is

pub not_home : {E O P S L : Type 0} (place : Place E O P S L) → ((proc : Proc E O P S L) → place ≡ PlaceIs.Home proc → ⊥) → is_home (slot_of place) ≡ false
not_home PlaceIs.Nobody none = refl
not_home (PlaceIs.Home proc) none = absurd (none proc refl)
not_home (PlaceIs.Asleep proc ask) none = refl
not_home (PlaceIs.Giving proc ask) none = refl
not_home (PlaceIs.Away worker) none = refl
not_home (PlaceIs.Fated worker end) none = refl
not_home PlaceIs.Gone none = refl

pub skips_found : {E O P S L : Type 0} (old now next : Store E O P S L) (pid : ℕ) → Passed old now → now.queue.ready ≡ pid ∷ next.queue.ready → is_home (place_at old pid) ≡ true
    → Skips old next (Some pid)
skips_found old now next pid p popped home = record {
  skipped = p.skipped;
  queue = p.queue ∙ ap (λ xs. p.skipped ++ xs) popped;
  absent = p.absent;
  next_home = home;
  none = λ e. let h : ⊥ = cc in absurd h;
}

pub skips_nobody : {E O P S L : Type 0} (old now next : Store E O P S L) → Passed old now → now.queue.ready ≡ next.queue.ready → now.queue.ready ≡ [] → Skips old next None
skips_nobody old now next p popped none = record {
  skipped = p.skipped;
  queue = p.queue ∙ ap (λ xs. p.skipped ++ xs) popped;
  absent = p.absent;
  next_home = tt;
  none = λ e. sym popped ∙ none;
}
