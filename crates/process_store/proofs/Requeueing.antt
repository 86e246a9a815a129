use Rattle.std.proofs.Common.{◌≡◌, ◌≢◌, ◌<◌, ◌≤◌, ℕ, ◌+◌, List, [], ◌∷◌, ◌++◌, filter, length, length-append, sum_by, vec_capacity, Option, Some, None, Bool, true, false, cond, eqb, nat_eq, nat_cmp, IsPermutation, IsSorted, refl, arith, sym, ◌∙◌, ap, subst, ◌⊎◌, inl, inr, append-nil}
use Rattle.std.proofs.lemmas.Bool.Decides.{eqb_tells}
use Rattle.std.specs.Cmp.{nat_eq_equiv}
use Rattle.std.specs.List.{IsDistinct, AllByRecursion}
use Rattle.std.specs.FinMap.{get}
use Rattle.std.specs.Option.{option_to_list}
use Rattle.std.proofs.lemmas.List.Elements.{filter-append}
use Rattle.std.proofs.lemmas.List.Sums.{sum_by-cons}
use Rattle.std.proofs.lemmas.List.Sorted.{IsNonDecreasingBy-from_sort, sum_by-IsPermutation}
use Rattle.std.proofs.lemmas.Map.Keys.{IsDistinct-IsPermutation, IsStrictlyIncreasing-from_distinct}
use Rattle.world_rules.specs.Part.{is_among}
use Rattle.world_rules.specs.Sound.{times, Rise}
use Rattle.world_rules.specs.Streams.{one_if}
use Rattle.node_laws.proofs.Numbers.{times-append}
use Rattle.node_mirror.specs.Slots.{Slot, Nobody, Home, Asleep, Giving, Away, Fated, Gone, is_home}
use Rattle.node_mirror.specs.Steps.{Requeued, homes_among}
use Rattle.node_mirror.proofs.Members.{among_append, among_filter, among_left, among_right, among_of_times, filter_among, times_none, times_some}
use Rattle.node_mirror.proofs.Ascents.{increasing_rise, rise_filter}
use Rattle.process_store.specs.declared.store.Store.{Store}
use Rattle.process_store.specs.Holds.{held_of, place_at}
use Rattle.process_store.specs.Keeps.{StoreKeeps, is_here, listed_of}
use Rattle.process_store.proofs.Listing.{none_among}

-- Who came home joins the queue.

-- HOW OFTEN

one_more : (b : Bool) (n m : ℕ) → n ≡ m → one_if b n ≡ one_if b 0 + m
one_more true n m same = omega (arith, same)
one_more false n m same = omega (arith, same)

times_sum : (k : ℕ) (xs : List ℕ) → times k xs ≡ sum_by (λ x. one_if (nat_eq k x) 0) xs
times_sum k [] = refl
times_sum k (x ∷ xs) = one_more (nat_eq k x) (times k xs) (sum_by (λ y. one_if (nat_eq k y) 0) xs) (times_sum k xs) ∙ sym (sum_by-cons (λ y. one_if (nat_eq k y) 0) x xs)

pub times_moved : (k : ℕ) (xs ys : List ℕ) → IsPermutation xs ys → times k ys ≡ times k xs
times_moved k xs ys moved = times_sum k ys ∙ sum_by-IsPermutation (λ x. one_if (nat_eq k x) 0) xs ys moved ∙ sym (times_sum k xs)

ones : (xs : List ℕ) → length xs ≡ sum_by (λ x. 1) xs
ones [] = refl
ones (x ∷ xs) = let rest = ones xs in let more = sum_by-cons (λ (y : ℕ). 1) x xs in omega (arith, rest, more)

pub length_moved : (xs ys : List ℕ) → IsPermutation xs ys → length ys ≡ length xs
length_moved xs ys moved = ones ys ∙ sum_by-IsPermutation (λ x. 1) xs ys moved ∙ sym (ones xs)

rest_less : (b : Bool) (n : ℕ) → one_if b n ≤ 1 → n ≤ 1
rest_less true n most = omega (arith, most)
rest_less false n most = most

first_none : (b : Bool) (n : ℕ) → b ≡ true → one_if b n ≤ 1 → n ≡ 0
first_none true n is most = omega (arith, most)
first_none false n is most = let h : ⊥ = cc in absurd h

not_first : (b : Bool) (n : ℕ) → one_if b n ≡ 0 → (b ≡ false) × (n ≡ 0)
not_first true n none = let h : ⊥ = omega (arith, none) in absurd h
not_first false n none = (refl, none)

itself : (x : ℕ) → nat_eq x x ≡ true
itself x = by (eqb_tells x x)
  where
    by : ((nat_eq x x ≡ true) × (x ≡ x)) ⊎ ((nat_eq x x ≡ false) × (x ≢ x)) → nat_eq x x ≡ true
    by (inl same) = same.0
    by (inr other) = absurd (other.1 refl)

apart : (x : ℕ) (xs : List ℕ) → times x xs ≡ 0 → AllByRecursion (λ y. eqb x y ≡ false) xs
apart x [] none = tt
apart x (y ∷ ys) none = let both = not_first (nat_eq x y) (times x ys) none in (both.0, apart x ys both.1)

pub distinct_once : (xs : List ℕ) → ((k : ℕ) → times k xs ≤ 1) → IsDistinct eqb xs
unfolding IsDistinct
distinct_once [] once = tt
distinct_once (x ∷ xs) once =
    (apart x xs (first_none (nat_eq x x) (times x xs) (itself x) (once x)), distinct_once xs (λ k. rest_less (nat_eq k x) (times k xs) (once k)))

-- numbers that are there once rise where they are sorted
pub sorted_rises : (xs rising : List ℕ) → ((k : ℕ) → times k xs ≤ 1) → IsPermutation xs rising → IsSorted nat_cmp rising → Rise rising
sorted_rises xs rising once moved sorted =
    increasing_rise rising (IsStrictlyIncreasing-from_distinct rising (IsNonDecreasingBy-from_sort (λ x. x) rising sorted)
    (IsDistinct-IsPermutation eqb nat_eq_equiv.symm xs rising moved (distinct_once xs once)))

-- OTHER LISTS

-- the store with the lists of another
abbrev pub listing : {E O P S L : Type 0} → Store E O P S L → Store E O P S L → Store E O P S L
listing old with_lists = record old { queue = with_lists.queue; came = with_lists.came; giver = with_lists.giver }

-- nobody is listed oftener than before, and whoever is here still is
pub listed_keeps : {E O P S L : Type 0} (old s : Store E O P S L) → StoreKeeps old → ((n : ℕ) → times n (listed_of s) ≤ times n (listed_of old))
    → ((n : ℕ) → is_here (place_at old n) ≡ true → is_among (listed_of old) n ≡ true → is_among (listed_of s) n ≡ true) → length (listed_of s) ≤ length (listed_of old)
    → s.queue.room ≡ old.queue.room → vec_capacity s.came ≡ vec_capacity old.came → s.queue.deadlines ≡ old.queue.deadlines → StoreKeeps (listing old s)
listed_keeps old s k fewer here short room came_room deadlines = record {
  some = k.some;
  mail = k.mail;
  shed = k.shed;
  sheds = k.sheds;
  unended = k.unended;
  out = k.out;
  listed = λ n among. k.listed n (among_of_times n (listed_of old) (let a = times_some n (listed_of s) among in let b = fewer n in omega (arith, a, b)));
  once = λ n. let a = fewer n in let b = k.once n in omega (arith, a, b);
  all = λ n is. here n is (k.all n is);
  room = let a = k.room in omega (arith, a, short, room);
  came_room = let a = k.came_room in omega (arith, a, short, came_room);
  dated = λ n deadline at. k.dated n deadline (ap (λ d. get d n) (sym deadlines) ∙ at);
  numbered = let a = k.numbered in omega (arith, a, room);
  few = k.few;
  closed_room = k.closed_room;
  links_room = k.links_room;
  links_of = k.links_of;
}

-- THE QUEUE AT THE END OF AN ENTRY

-- the three lists one behind the other
abbrev pub joined_lists : List ℕ → List ℕ → List ℕ → List ℕ
joined_lists earlier came giver = (earlier ++ came) ++ giver

pub joined_times : (n : ℕ) (earlier came giver : List ℕ) → times n (joined_lists earlier came giver) ≡ times n earlier + times n came + times n giver
joined_times n earlier came giver =
    let a = times-append n (earlier ++ came) giver in
    let b = times-append n earlier came in
    omega (arith, a, b)

pub joined_length : (earlier came giver : List ℕ) → length (joined_lists earlier came giver) ≡ length earlier + length came + length giver
joined_length earlier came giver =
    let a = length-append (earlier ++ came) giver in
    let b = length-append earlier came in
    omega (arith, a, b)

-- who came is at home, or has ended, and joins the queue
pub requeue_keeps : {E O P S L : Type 0} (old s : Store E O P S L) (sorted : List ℕ) → StoreKeeps old → IsPermutation old.came.items sorted
    → s.queue.ready ≡ (old.queue.ready ++ sorted) ++ option_to_list old.giver → s.came.items ≡ [] → s.giver ≡ None
    → s.queue.room ≡ old.queue.room → vec_capacity s.came ≡ vec_capacity old.came → s.queue.deadlines ≡ old.queue.deadlines → StoreKeeps (listing old s)
requeue_keeps old s sorted k moved ready came giver room came_room deadlines =
    listed_keeps old s k (λ n. let a = same n in omega (arith, a)) (λ n is among. among_of_times n (listed_of s) (let a = times_some n (listed_of old) among in let b = same n in omega (arith, a, b)))
    (let a = same_length in omega (arith, a)) room came_room deadlines
  where
    whole : listed_of s ≡ joined_lists ((old.queue.ready ++ sorted) ++ option_to_list old.giver) [] []
    whole = rw (ready, came, giver) refl

    same : (n : ℕ) → times n (listed_of s) ≡ times n (listed_of old)
    same n =
        let a = ap (times n) whole in
        let b = joined_times n ((old.queue.ready ++ sorted) ++ option_to_list old.giver) [] [] in
        let c = joined_times n old.queue.ready sorted (option_to_list old.giver) in
        let d = joined_times n old.queue.ready old.came.items (option_to_list old.giver) in
        let e = times_moved n old.came.items sorted moved in
        omega (arith, a, b, c, d, e)

    same_length : length (listed_of s) ≡ length (listed_of old)
    same_length =
        let a = ap length whole in
        let b = joined_length ((old.queue.ready ++ sorted) ++ option_to_list old.giver) [] [] in
        let c = joined_length old.queue.ready sorted (option_to_list old.giver) in
        let d = joined_length old.queue.ready old.came.items (option_to_list old.giver) in
        let e = length_moved old.came.items sorted moved in
        omega (arith, a, b, c, d, e)

home_here : {E : Type 0} (slot : Slot E) → is_home slot ≡ true → is_here slot ≡ true
home_here Nobody is = is
home_here (Home seat) is = is
home_here (Asleep seat ask) is = is
home_here (Giving seat ask) is = let h : ⊥ = cc in absurd h
home_here (Away worker) is = is
home_here (Fated worker end) is = is
home_here Gone is = is

not_there : (n : ℕ) (xs : List ℕ) → times n xs ≡ 0 → is_among xs n ≡ false
not_there n xs none = by (is_among xs n) refl
  where
    by : (b : Bool) → is_among xs n ≡ b → is_among xs n ≡ false
    by true e = absurd (none_among n xs none e)
    by false e = e

-- of those that join it, who are at home come behind those of the earlier list that still are
pub requeue_queues : {E O P S L : Type 0} (old s : Store E O P S L) (sorted : List ℕ) → StoreKeeps old → IsPermutation old.came.items sorted → IsSorted nat_cmp sorted
    → s.queue.ready ≡ (old.queue.ready ++ sorted) ++ option_to_list old.giver → Requeued old.queue.ready (option_to_list old.giver) (held_of (listing old s))
requeue_queues old s sorted k moved sorts ready = record {
  came = filter home sorted;
  rising = rise_filter home sorted (sorted_rises old.came.items sorted came_once moved sorts);
  ready = ap (filter home) ready ∙ filter-append home (old.queue.ready ++ sorted) giver ∙ ap (λ xs. xs ++ filter home giver) (filter-append home old.queue.ready sorted);
  fresh = λ n among. let both = among_filter home sorted n among in (both.1, not_there n (old.queue.ready ++ giver) (others n both.0));
  all = λ n is. all_there n is (k.all n (home_here (place_at old n) is));
}
  where
    home : ℕ → Bool
    home = λ n. is_home (place_at old n)

    giver : List ℕ
    giver = option_to_list old.giver

    came_once : (n : ℕ) → times n old.came.items ≤ 1
    came_once n = let a = k.once n in let b = joined_times n old.queue.ready old.came.items giver in omega (arith, a, b)

    others : (n : ℕ) → is_among sorted n ≡ true → times n (old.queue.ready ++ giver) ≡ 0
    others n among =
        let a = times_some n sorted among in
        let b = times_moved n old.came.items sorted moved in
        let c = k.once n in
        let d = joined_times n old.queue.ready old.came.items giver in
        let e = times-append n old.queue.ready giver in
        omega (arith, a, b, c, d, e)

    came_there : (n : ℕ) → is_home (place_at old n) ≡ true → is_among old.came.items n ≡ true → is_among ((old.queue.ready ++ giver) ++ filter home sorted) n ≡ true
    came_there n is among =
        among_right (old.queue.ready ++ giver) (filter home sorted) n
        (filter_among home sorted n (among_of_times n sorted (let a = times_some n old.came.items among in let b = times_moved n old.came.items sorted moved in omega (arith, a, b))) is)

    first_there : (n : ℕ) → is_home (place_at old n) ≡ true → (is_among old.queue.ready n ≡ true) ⊎ (is_among old.came.items n ≡ true)
        → is_among ((old.queue.ready ++ giver) ++ filter home sorted) n ≡ true
    first_there n is (inl earlier) = among_left (old.queue.ready ++ giver) (filter home sorted) n (among_left old.queue.ready giver n earlier)
    first_there n is (inr came) = came_there n is came

    by_list : (n : ℕ) → is_home (place_at old n) ≡ true → (is_among (old.queue.ready ++ old.came.items) n ≡ true) ⊎ (is_among giver n ≡ true)
        → is_among ((old.queue.ready ++ giver) ++ filter home sorted) n ≡ true
    by_list n is (inl first) = first_there n is (among_append old.queue.ready old.came.items n first)
    by_list n is (inr last) = among_left (old.queue.ready ++ giver) (filter home sorted) n (among_right old.queue.ready giver n last)

    all_there : (n : ℕ) → is_home (place_at old n) ≡ true → is_among (listed_of old) n ≡ true → is_among ((old.queue.ready ++ giver) ++ filter home sorted) n ≡ true
    all_there n is among = by_list n is (among_append (old.queue.ready ++ old.came.items) giver n among)
