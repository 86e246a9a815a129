use Rattle.std.proofs.Common.{◌≡◌, ◌≢◌, ◌⊎◌, ℕ, zero, suc, ◌+◌, ◌<◌, ◌≤◌, List, [], ◌∷◌, ◌++◌, length, length-append, append-nil, slice_get, Option, Some, None, Bool, true, false, cond, nat_eq, refl, sym, ◌∙◌, ap, subst, inl, inr, arith}
use Rattle.std.specs.Prelude.{nat_lt, nat_le, ◌&&◌, ◌-◌, flat_map, sum_by}
use Rattle.std.proofs.lemmas.Bool.Decides.{eqb_tells, leb_tells}
use Rattle.std.proofs.lemmas.Grind.{flat_map-append}
use Rattle.std.proofs.lemmas.List.Sums.{sum_by-cons}
use Rattle.std.proofs.lemmas.List.{length-map}
use Rattle.resource_table.specs.Handles.{Handle, numbers_of}
use Rattle.tagged_mailbox.specs.Mail.{Mail}
use Rattle.world_rules.specs.Book.{Book}
use Rattle.world_rules.specs.Ends.{held_handles}
use Rattle.world_rules.specs.Lives.{Setting}
use Rattle.world_rules.specs.Mail.{mail_handles}
use Rattle.world_rules.specs.Placed.{all_streams, IsPlaced}
use Rattle.world_rules.specs.Sound.{times, IsSound}
use Rattle.world_rules.specs.Streams.{one_if}
use Rattle.world_rules.specs.Told.{told}
use Rattle.world_rules.specs.World.{World, Process, up_to, is_away}
use Rattle.node_state.specs.Seats.{Meaning, part_handles}
use Rattle.node_state.specs.Fits.{Brought}
use Rattle.node_state.specs.Streaming.{AreOwned}
use Rattle.node_laws.proofs.Apart.{brought-keeps}
use Rattle.node_laws.proofs.Gives.{with-away}
use Rattle.node_laws.proofs.Numbers.{times-append, at-most}
use Rattle.node_mirror.specs.Fits.{TurnFits}
use Rattle.node_mirror.specs.Held.{StandsFor}
use Rattle.node_mirror.proofs.MayGive.{refusing}
use Rattle.process_store.specs.declared.place.Place.{Place}
use Rattle.process_store.specs.declared.store.Store.{Store}
use Rattle.process_store.specs.Letters.{ItemShown}
use Rattle.process_store.specs.Holds.{held_of, kept_of, hands_at, hands_in, streams_of, streams_in}
use Rattle.process_store.specs.Keeps.{stream_count}
use Rattle.process_store.proofs.Streamings.{crowded, fits_crowded}

-- How many streams a store has: no more than numbers were drawn.

-- SUMS over the numbers below n, and over those from 1 to n

abbrev sum_below : (ℕ → ℕ) → ℕ → ℕ
sum_below t zero = 0
sum_below t (suc n) = sum_below t n + t n

abbrev sum_to : (ℕ → ℕ) → ℕ → ℕ
sum_to t zero = 0
sum_to t (suc n) = sum_to t n + t (suc n)

sums_le : (f g : ℕ → ℕ) (n : ℕ) → ((i : ℕ) → f i ≤ g i) → sum_below f n ≤ sum_below g n
sums_le f g zero each = omega arith
sums_le f g (suc n) each = both (sum_below f n) (f n) (sum_below g n) (g n) (sums_le f g n each) (each n)
  where
    both : (a b c d : ℕ) → a ≤ c → b ≤ d → a + b ≤ c + d
    both a b c d e f = omega (arith, e, f)

sums_within : (f : ℕ → ℕ) (n m : ℕ) → n ≤ m → sum_below f n ≤ sum_below f m
sums_within f n zero within = subst (λ (k : ℕ). sum_below f k ≤ 0) (sym (none n within)) (omega arith)
  where
    none : (n : ℕ) → n ≤ 0 → n ≡ 0
    none n e = omega (arith, e)
sums_within f n (suc m) within = by (λ less. sums_within f n m less) (leb_tells n m)
  where
    wider : (a b c : ℕ) → a ≤ b → a ≤ b + c
    wider a b c e = omega (arith, e)

    equal : (a b : ℕ) → a ≤ suc b → b < a → a ≡ suc b
    equal a b e f = omega (arith, e, f)

    same : (a : ℕ) → a ≤ a
    same a = omega arith

    by : (n ≤ m → sum_below f n ≤ sum_below f m) → ((nat_le n m ≡ true) × (n ≤ m)) ⊎ ((nat_le n m ≡ false) × (m < n)) → sum_below f n ≤ sum_below f m + f m
    by rest (inl less) = wider (sum_below f n) (sum_below f m) (f m) (rest less.1)
    by rest (inr more) = subst (λ (k : ℕ). sum_below f k ≤ sum_below f m + f m) (sym (equal n m within more.1)) (same (sum_below f m + f m))

sums_one : (f : ℕ → ℕ) (p n : ℕ) → suc p ≤ n → f p ≤ sum_below f n
sums_one f p n less = part (f p) (sum_below f p) (sum_below f n) (sums_within f (suc p) n less)
  where
    part : (a b c : ℕ) → b + a ≤ c → a ≤ c
    part a b c e = omega (arith, e)

sums_three : (f g h : ℕ → ℕ) (n : ℕ) → sum_below (λ i. f i + g i + h i) n ≡ sum_below f n + sum_below g n + sum_below h n
sums_three f g h zero = refl
sums_three f g h (suc n) =
    all (sum_below (λ i. f i + g i + h i) n) (sum_below f n) (sum_below g n) (sum_below h n) (f n) (g n) (h n) (sums_three f g h n)
  where
    all : (s a b c x y z : ℕ) → s ≡ a + b + c → s + (x + y + z) ≡ (a + x) + (b + y) + (c + z)
    all s a b c x y z e = omega (arith, e)

-- the sum from the front
sums_front : (f : ℕ → ℕ) (n : ℕ) → sum_below f (suc n) ≡ f 0 + sum_below (λ i. f (suc i)) n
sums_front f zero = omega arith
sums_front f (suc n) = next (sum_below f (suc n)) (f 0) (sum_below (λ i. f (suc i)) n) (f (suc n)) (sums_front f n)
  where
    next : (s a b x : ℕ) → s ≡ a + b → s + x ≡ a + (b + x)
    next s a b x e = omega (arith, e)

-- the sum over a list is the sum over its places
abbrev at_place : {X : Type 0} → (X → ℕ) → Option X → ℕ
at_place f None = 0
at_place f (Some x) = f x

sums_list : {X : Type 0} (f : X → ℕ) (xs : List X) → sum_by f xs ≡ sum_below (λ i. at_place f (slice_get xs i)) (length xs)
sums_list f [] = refl
sums_list f (x ∷ xs) =
    sum_by-cons f x xs ∙ ap (λ (n : ℕ). f x + n) (sums_list f xs) ∙ sym (sums_front (λ i. at_place f (slice_get (x ∷ xs) i)) (length xs))

-- what only the numbers from 1 to d have is summed up there
to_within : (h : ℕ → ℕ) (n d : ℕ) → n ≤ d → sum_to h n ≤ sum_to h d
to_within h n zero within = subst (λ (k : ℕ). sum_to h k ≤ 0) (sym (none n within)) (omega arith)
  where
    none : (n : ℕ) → n ≤ 0 → n ≡ 0
    none n e = omega (arith, e)
to_within h n (suc d) within = by (λ less. to_within h n d less) (leb_tells n d)
  where
    wider : (a b c : ℕ) → a ≤ b → a ≤ b + c
    wider a b c e = omega (arith, e)

    equal : (a b : ℕ) → a ≤ suc b → b < a → a ≡ suc b
    equal a b e f = omega (arith, e, f)

    same : (a : ℕ) → a ≤ a
    same a = omega arith

    by : (n ≤ d → sum_to h n ≤ sum_to h d) → ((nat_le n d ≡ true) × (n ≤ d)) ⊎ ((nat_le n d ≡ false) × (d < n)) → sum_to h n ≤ sum_to h d + h (suc d)
    by rest (inl less) = wider (sum_to h n) (sum_to h d) (h (suc d)) (rest less.1)
    by rest (inr more) = subst (λ (k : ℕ). sum_to h k ≤ sum_to h d + h (suc d)) (sym (equal n d within more.1)) (same (sum_to h d + h (suc d)))

to_all : (h : ℕ → ℕ) (n d : ℕ) → ((q : ℕ) → d < q → h q ≡ 0) → sum_to h n ≤ sum_to h d
to_all h zero d none = omega arith
to_all h (suc n) d none = by (to_all h n d none) (leb_tells (suc n) d)
  where
    past : (a b c : ℕ) → a ≤ c → b ≡ 0 → a + b ≤ c
    past a b c e f = omega (arith, e, f)

    by : sum_to h n ≤ sum_to h d → ((nat_le (suc n) d ≡ true) × (suc n ≤ d)) ⊎ ((nat_le (suc n) d ≡ false) × (d < suc n)) → sum_to h n + h (suc n) ≤ sum_to h d
    by rest (inl less) = to_within h (suc n) d less.1
    by rest (inr more) = past (sum_to h n) (h (suc n)) (sum_to h d) rest (none (suc n) more.1)

below_to : (h : ℕ → ℕ) (n : ℕ) → h 0 ≡ 0 → sum_below h n ≤ sum_to h n
below_to h zero none = omega arith
below_to h (suc zero) none = first (h 0) (h 1) none
  where
    first : (a b : ℕ) → a ≡ 0 → 0 + a ≤ 0 + b
    first a b e = omega (arith, e)
below_to h (suc (suc n)) none = further (sum_below h (suc n)) (h (suc n)) (sum_to h n) (h (suc (suc n))) (drop n)
  where
    further : (a b c d : ℕ) → a ≤ c → a + b ≤ c + b + d
    further a b c d e = omega (arith, e)

    drop : (m : ℕ) → sum_below h (suc m) ≤ sum_to h m
    drop zero = zero_first (h 0) none
      where
        zero_first : (a : ℕ) → a ≡ 0 → 0 + a ≤ 0
        zero_first a e = omega (arith, e)
    drop (suc m) = next (sum_below h (suc m)) (sum_to h m) (h (suc m)) (drop m)
      where
        next : (a b c : ℕ) → a ≤ b → a + c ≤ b + c
        next a b c e = omega (arith, e)

-- THE WORLD'S STREAMS

abbrev held_count : ℕ → World → ℕ → ℕ
held_count k w q = times k (held_handles (w.process q))

held_sum : (k : ℕ) (process : ℕ → Process) (n : ℕ) → times k (flat_map (λ pid. held_handles (process pid)) (up_to n)) ≡ sum_to (λ pid. times k (held_handles (process pid))) n
held_sum k process zero = refl
held_sum k process (suc n) =
    ap (λ (xs : List ℕ). times k xs) (flat_map-append (λ (pid : ℕ). held_handles (process pid)) (up_to n) (suc n ∷ []))
    ∙ times-append k (flat_map (λ pid. held_handles (process pid)) (up_to n)) (held_handles (process (suc n)) ++ [])
    ∙ ap (λ (xs : List ℕ). times k (flat_map (λ pid. held_handles (process pid)) (up_to n)) + times k xs) (append-nil (held_handles (process (suc n))))
    ∙ ap (λ (t : ℕ). t + times k (held_handles (process (suc n)))) (held_sum k process n)

all_sum : (k : ℕ) (w : World) → times k (all_streams w) ≡ sum_to (held_count k w) w.numbers_drawn + times k w.closed
all_sum k w =
    times-append k (flat_map (λ pid. held_handles (w.process pid)) (up_to w.numbers_drawn)) w.closed
    ∙ ap (λ (t : ℕ). t + times k w.closed) (held_sum k w.process w.numbers_drawn)

-- who wasn't drawn holds none
none_above : (k : ℕ) (w : World) → IsSound w → (q : ℕ) → w.numbers_drawn < q → held_count k w q ≡ 0
none_above k w sound q above = ap (λ (p : Process). times k (held_handles p)) (sound.processes.undrawn q (undrawn q above (leb_tells q w.numbers_drawn)))
  where
    both : (b c : Bool) → c ≡ false → (b && c) ≡ false
    both true c e = e
    both false c e = refl

    no : (a b : ℕ) → a < b → b ≤ a → ⊥
    no a b e f = omega (arith, e, f)

    undrawn : (n : ℕ) → w.numbers_drawn < n → ((nat_le n w.numbers_drawn ≡ true) × (n ≤ w.numbers_drawn)) ⊎ ((nat_le n w.numbers_drawn ≡ false) × (w.numbers_drawn < n))
        → (nat_lt 0 n && nat_le n w.numbers_drawn) ≡ false
    undrawn n past (inl low) = absurd (no w.numbers_drawn n past low.1)
    undrawn n past (inr high) = both (nat_lt 0 n) (nat_le n w.numbers_drawn) high.0

none_zero : (k : ℕ) (w : World) → IsSound w → held_count k w 0 ≡ 0
none_zero k w sound = ap (λ (p : Process). times k (held_handles p)) (sound.processes.undrawn 0 refl)

-- THE STORE'S STREAMS

-- the numbers of all streams of a list of places or mailboxes
abbrev gathered : {X S : Type 0} → (X → List (Handle S)) → List X → List ℕ
gathered f [] = []
gathered f (x ∷ xs) = numbers_of (f x) ++ gathered f xs

gathered_times : {X S : Type 0} (k : ℕ) (f : X → List (Handle S)) (xs : List X) → times k (gathered f xs) ≡ sum_by (λ x. times k (numbers_of (f x))) xs
gathered_times k f [] = refl
gathered_times k f (x ∷ xs) =
    times-append k (numbers_of (f x)) (gathered f xs) ∙ ap (λ (n : ℕ). times k (numbers_of (f x)) + n) (gathered_times k f xs)
    ∙ sym (sum_by-cons (λ x. times k (numbers_of (f x))) x xs)

numbers_length : {S : Type 0} (hs : List (Handle S)) → length (numbers_of hs) ≡ length hs
numbers_length {S = S} hs = length-map hs (λ (h : Handle S). h.number)

gathered_length : {X S : Type 0} (f : X → List (Handle S)) (xs : List X) → length (gathered f xs) ≡ sum_by (λ x. length (f x)) xs
gathered_length f [] = refl
gathered_length f (x ∷ xs) =
    length-append (numbers_of (f x)) (gathered f xs)
    ∙ (λ i. numbers_length (f x) i + gathered_length f xs i)
    ∙ sym (sum_by-cons (λ x. length (f x)) x xs)

-- what stands at a place, counted
hands_count : {E O P S L : Type 0} (k : ℕ) (o : Option (Place E O P S L)) → at_place (λ place. times k (numbers_of (hands_at place))) o ≡ times k (numbers_of (hands_in o))
hands_count k None = refl
hands_count k (Some place) = refl

mail_count : {S : Type 0} (k : ℕ) (o : Option (Mail (ItemShown S))) → at_place (λ mail. times k (numbers_of (streams_of mail))) o ≡ times k (numbers_of (streams_in o))
mail_count k None = refl
mail_count k (Some mail) = refl

-- each process has no more of a number than the world says, where the one that a worker has brings these
each_held : {E O P S L : Type 0} (w : World) (store : Store E O P S L) (k pid extra : ℕ) → AreOwned w (kept_of store) → is_away (w.process pid).stage ≡ true
    → extra ≡ times k (part_handles (w.process pid).part) → (i : ℕ)
    → at_place (λ (place : Place E O P S L). times k (numbers_of (hands_at place))) (slice_get store.places.items i)
    + at_place (λ (mail : Mail (ItemShown S)). times k (numbers_of (streams_of mail))) (slice_get store.mail.items i) + cond (nat_eq i pid) extra 0 ≤ held_count k w i
each_held {E} {O} {P} {S} {L} w store k pid extra owned away keeps i =
    sum (at_place (λ (place : Place E O P S L). times k (numbers_of (hands_at place))) (slice_get store.places.items i))
    (at_place (λ (mail : Mail (ItemShown S)). times k (numbers_of (streams_of mail))) (slice_get store.mail.items i))
    (cond (nat_eq i pid) extra 0) (times k (numbers_of (hands_in (slice_get store.places.items i)))) (times k (part_handles (w.process i).part)) (times k (mail_handles (w.process i).mail))
    (held_count k w i) (hands_count k (slice_get store.places.items i)) (mail_count k (slice_get store.mail.items i) ∙ ap (times k) (owned.mail i))
    (times-append k (part_handles (w.process i).part) (mail_handles (w.process i).mail)) (by (eqb_tells i pid))
  where
    sum : (a b c h p m t : ℕ) → a ≡ h → b ≡ m → t ≡ p + m → h + c ≤ p → a + b + c ≤ t
    sum a b c h p m t e f g l = omega (arith, e, f, g, l)

    here : (h x c p : ℕ) → h ≡ 0 → c ≡ x → x ≡ p → h + c ≤ p
    here h x c p e f g = omega (arith, e, f, g)

    other_one : (h c p : ℕ) → h ≤ p → c ≡ 0 → h + c ≤ p
    other_one h c p e f = omega (arith, e, f)

    empty : (q : ℕ) → is_away (w.process q).stage ≡ true → times k (numbers_of (hands_in (slice_get store.places.items q))) ≡ 0
    empty q out = ap (λ (hs : List (Handle S)). times k (numbers_of hs)) (owned.away q out)

    low : (a b : ℕ) → a ≡ 0 → a ≤ b
    low a b e = omega (arith, e)

    equal : (a b : ℕ) → a ≡ b → a ≤ b
    equal a b e = omega (arith, e)

    hand : (b : Bool) → is_away (w.process i).stage ≡ b → times k (numbers_of (hands_in (slice_get store.places.items i))) ≤ times k (part_handles (w.process i).part)
    hand true out = low _ _ (empty i out)
    hand false home = equal _ _ (ap (times k) (owned.hands i home))

    by : ((nat_eq i pid ≡ true) × (i ≡ pid)) ⊎ ((nat_eq i pid ≡ false) × (i ≢ pid))
        → times k (numbers_of (hands_in (slice_get store.places.items i))) + cond (nat_eq i pid) extra 0 ≤ times k (part_handles (w.process i).part)
    by (inl same) =
        here (times k (numbers_of (hands_in (slice_get store.places.items i)))) extra (cond (nat_eq i pid) extra 0) (times k (part_handles (w.process i).part))
        (empty i (subst (λ (q : ℕ). is_away (w.process q).stage ≡ true) (sym same.1) away)) (ap (λ (b : Bool). cond b extra 0) same.0)
        (keeps ∙ ap (λ (q : ℕ). times k (part_handles (w.process q).part)) (sym same.1))
    by (inr differs) =
        other_one (times k (numbers_of (hands_in (slice_get store.places.items i)))) (cond (nat_eq i pid) extra 0) (times k (part_handles (w.process i).part))
        (hand (is_away (w.process i).stage) refl) (ap (λ (b : Bool). cond b extra 0) differs.0)

-- of the places, of the mailboxes, and of what is brought, no number is there oftener than in the world
sums_held : {E O P S L : Type 0} (w : World) (store : Store E O P S L) (k pid extra : ℕ) → IsSound w → AreOwned w (kept_of store) → is_away (w.process pid).stage ≡ true
    → extra ≡ times k (part_handles (w.process pid).part)
    → sum_by (λ (place : Place E O P S L). times k (numbers_of (hands_at place))) store.places.items
    + sum_by (λ (mail : Mail (ItemShown S)). times k (numbers_of (streams_of mail))) store.mail.items + extra ≤ sum_to (held_count k w) w.numbers_drawn
sums_held {E} {O} {P} {S} {L} w store k pid extra sound owned away keeps =
    let a : ℕ → ℕ = λ i. at_place (λ (place : Place E O P S L). times k (numbers_of (hands_at place))) (slice_get store.places.items i) in
    let b : ℕ → ℕ = λ i. at_place (λ (mail : Mail (ItemShown S)). times k (numbers_of (streams_of mail))) (slice_get store.mail.items i) in
    let c : ℕ → ℕ = λ i. cond (nat_eq i pid) extra 0 in
    let n : ℕ = length store.places.items + (length store.mail.items + suc pid) in
    total (sum_by (λ (place : Place E O P S L). times k (numbers_of (hands_at place))) store.places.items)
    (sum_by (λ (mail : Mail (ItemShown S)). times k (numbers_of (streams_of mail))) store.mail.items) extra
    (sum_below a (length store.places.items)) (sum_below b (length store.mail.items)) (c pid)
    (sum_below a n) (sum_below b n) (sum_below c n) (sum_below (λ i. a i + b i + c i) n) (sum_below (held_count k w) n) (sum_to (held_count k w) n)
    (sum_to (held_count k w) w.numbers_drawn)
    (sums_list (λ (place : Place E O P S L). times k (numbers_of (hands_at place))) store.places.items)
    (sums_list (λ (mail : Mail (ItemShown S)). times k (numbers_of (streams_of mail))) store.mail.items)
    (own (eqb_tells pid pid))
    (sums_within a (length store.places.items) n (first (length store.places.items) (length store.mail.items) pid))
    (sums_within b (length store.mail.items) n (second (length store.places.items) (length store.mail.items) pid))
    (sums_one c pid n (third (length store.places.items) (length store.mail.items) pid))
    (sums_three a b c n) (sums_le (λ i. a i + b i + c i) (held_count k w) n (each_held w store k pid extra owned away keeps))
    (below_to (held_count k w) n (none_zero k w sound)) (to_all (held_count k w) n w.numbers_drawn (none_above k w sound))
  where
    first : (x y z : ℕ) → x ≤ x + (y + suc z)
    first x y z = omega arith

    second : (x y z : ℕ) → y ≤ x + (y + suc z)
    second x y z = omega arith

    third : (x y z : ℕ) → suc z ≤ x + (y + suc z)
    third x y z = omega arith

    own : ((nat_eq pid pid ≡ true) × (pid ≡ pid)) ⊎ ((nat_eq pid pid ≡ false) × (pid ≢ pid)) → extra ≡ cond (nat_eq pid pid) extra 0
    own (inl same) = ap (λ (b : Bool). cond b extra 0) (sym same.0)
    own (inr other) = absurd (other.1 refl)

    total : (p m x a b c an bn cn s h t d : ℕ) → p ≡ a → m ≡ b → x ≡ c → a ≤ an → b ≤ bn → c ≤ cn → s ≡ an + bn + cn → s ≤ h → h ≤ t → t ≤ d → p + m + x ≤ d
    total p m x a b c an bn cn s h t d e f g i j k l q r u = omega (arith, e, f, g, i, j, k, l, q, r, u)

pub streams_few : {E O P S L : Type 0} (engines : Meaning E P) (setting : Setting P) (book : Book) (store : Store E O P S L) (worker pid : ℕ) (brought : Brought E) (hands shed : List (Handle S))
    → IsSound (told book) → IsPlaced (told book) → StandsFor engines setting book (told book) (held_of store) → AreOwned (told book) (kept_of store)
    → TurnFits engines setting book.births (told book) worker pid brought → numbers_of hands ≡ part_handles brought.seat.part → numbers_of shed ≡ brought.shed
    → stream_count store + length hands + length shed ≤ store.streams
streams_few {E} {O} {P} {S} {L} engines setting book store worker pid brought hands shed sound placed stands owned fits in_hand closed_now =
    let w : World = told book in
    let one = fits_crowded engines setting book worker pid brought stands.run fits in
    let away : is_away (w.process pid).stage ≡ true = with-away (w.process pid).stage worker one.allowed.away in
    let hs : List ℕ = gathered hands_at store.places.items in
    let ms : List ℕ = gathered streams_of store.mail.items in
    let cs : List ℕ = numbers_of store.closed.items in
    let came : List ℕ = numbers_of hands ++ numbers_of shed in
    let all : List ℕ = cs ++ (hs ++ (ms ++ came)) in
    bound (length all) (length cs) (length (hs ++ (ms ++ came))) (length hs) (length (ms ++ came)) (length ms) (length came) (length (numbers_of hands)) (length (numbers_of shed))
    (length store.closed.items) (sum_by (λ (place : Place E O P S L). length (hands_at place)) store.places.items)
    (sum_by (λ (mail : Mail (ItemShown S)). length (streams_of mail)) store.mail.items) (length hands) (length shed) w.streams store.streams
    (length-append cs (hs ++ (ms ++ came))) (length-append hs (ms ++ came)) (length-append ms came) (length-append (numbers_of hands) (numbers_of shed))
    (numbers_length store.closed.items) (gathered_length hands_at store.places.items) (gathered_length streams_of store.mail.items) (numbers_length hands) (numbers_length shed)
    (at-most w.streams all (λ k.
    few (times k all) (times k cs) (times k (hs ++ (ms ++ came))) (times k hs) (times k (ms ++ came)) (times k ms) (times k came)
    (sum_by (λ (place : Place E O P S L). times k (numbers_of (hands_at place))) store.places.items)
    (sum_by (λ (mail : Mail (ItemShown S)). times k (numbers_of (streams_of mail))) store.mail.items)
    (sum_to (held_count k w) w.numbers_drawn) (times k w.closed) (times k (all_streams w)) (one_if (nat_lt k w.streams) 0)
    (times-append k cs (hs ++ (ms ++ came))) (times-append k hs (ms ++ came)) (times-append k ms came) (ap (times k) owned.closed)
    (gathered_times k hands_at store.places.items) (gathered_times k streams_of store.mail.items)
    (sums_held w store k pid (times k came) sound owned away
    (times-append k (numbers_of hands) (numbers_of shed) ∙ (λ i. times k (in_hand i) + times k (closed_now i))
    ∙ brought-keeps engines (crowded setting) (refusing book.births) w worker pid brought sound placed one k))
    (all_sum k w) (placed.once k))) stands.mirrors.streams
  where
    bound : (all c r1 h r2 m r3 n s lc lh lm ln ls t u : ℕ) → all ≡ c + r1 → r1 ≡ h + r2 → r2 ≡ m + r3 → r3 ≡ n + s → c ≡ lc → h ≡ lh → m ≡ lm → n ≡ ln → s ≡ ls → all ≤ t → t ≡ u
        → lc + lh + lm + ln + ls ≤ u
    bound all c r1 h r2 m r3 n s lc lh lm ln ls t u e1 e2 e3 e4 e5 e6 e7 e8 e9 le e10 = omega (arith, e1, e2, e3, e4, e5, e6, e7, e8, e9, le, e10)

    few : (all c r1 h r2 m x sh sm d z every o : ℕ) → all ≡ c + r1 → r1 ≡ h + r2 → r2 ≡ m + x → c ≡ z → h ≡ sh → m ≡ sm → sh + sm + x ≤ d → every ≡ d + z → every ≡ o → all ≤ o
    few all c r1 h r2 m x sh sm d z every o e1 e2 e3 e4 e5 e6 le e7 e8 = omega (arith, e1, e2, e3, e4, e5, e6, le, e7, e8)
