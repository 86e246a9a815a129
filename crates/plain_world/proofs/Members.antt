-- Who is among numbers, and who is among those of a world.
use Rattle.std.specs.Prelude.{◌≡◌, ◌≢◌, ◌⊎◌, ℕ, zero, suc, ◌+◌, ◌<◌, ◌≤◌, List, [], ◌∷◌, ◌++◌, filter, cond, not, Bool, true, false, ◌||◌, ◌&&◌, nat_eq, nat_lt, nat_le, refl}
use Rattle.std.specs.Prelude.{take, length, slice_index}
use Rattle.std.proofs.lemmas.List.{take_more}
use Rattle.std.proofs.Common.{sym, ◌∙◌, ap, inl, inr, arith}
use Rattle.std.proofs.lemmas.Bool.Decides.{eqb_tells, leb_tells, nat_tests}
use Rattle.world_rules.specs.Part.{is_among, with_number, without_number}
use Rattle.world_rules.specs.Touches.{is_there}
use Rattle.world_rules.specs.World.{Stage, Unborn, Ready, Out, Waiting, Doomed, Ended, is_live, is_ready, is_away, is_waiting, up_to}
use Rattle.world_rules.specs.laws.KeepingLaws.{false_is_true}

-- NUMBERS

pub equal : (a b : ℕ) → a ≡ b → nat_eq a b ≡ true
equal a b same = grind (arith, nat_tests)

pub unequal : (a b : ℕ) → a ≢ b → nat_eq a b ≡ false
unequal a b other = grind (arith, nat_tests)

pub both_true : (a b : Bool) → (a && b) ≡ true → (a ≡ true) × (b ≡ true)
both_true true b e = (refl, e)
both_true false b e = false_is_true e

pub first_true : (a b : Bool) → (a && b) ≡ true → a ≡ true
first_true a b e = (both_true a b e).0

pub within : (a b : ℕ) → nat_le a b ≡ true → a ≤ b
within a b is = by (leb_tells a b)
  where
    by : ((nat_le a b ≡ true) × (a ≤ b)) ⊎ ((nat_le a b ≡ false) × (b < a)) → a ≤ b
    by (inl low) = low.1
    by (inr high) = false_is_true (sym high.0 ∙ is)

pub same_truth : (a b : Bool) → (a ≡ true → b ≡ true) → (b ≡ true → a ≡ true) → a ≡ b
same_truth true b f g = sym (f refl)
same_truth false true f g = g refl
same_truth false false f g = refl

-- MEMBERS

-- the one of two, or the other
pub among_cases : (x : ℕ) (xs : List ℕ) (y : ℕ) → is_among (x ∷ xs) y ≡ true → (y ≡ x) ⊎ (is_among xs y ≡ true)
among_cases x xs y is = by (eqb_tells y x)
  where
    by : ((nat_eq y x ≡ true) × (y ≡ x)) ⊎ ((nat_eq y x ≡ false) × (y ≢ x)) → (y ≡ x) ⊎ (is_among xs y ≡ true)
    by (inl same) = inl same.1
    by (inr other) = inr (ap (λ (b : Bool). b || is_among xs y) (sym other.0) ∙ is)

pub among_first : (x : ℕ) (xs : List ℕ) (y : ℕ) → y ≡ x → is_among (x ∷ xs) y ≡ true
among_first x xs y same = ap (λ (b : Bool). b || is_among xs y) (equal y x same)

pub among_rest : (x : ℕ) (xs : List ℕ) (y : ℕ) → is_among xs y ≡ true → is_among (x ∷ xs) y ≡ true
among_rest x xs y is = by (nat_eq y x)
  where
    by : (b : Bool) → (b || is_among xs y) ≡ true
    by true = refl
    by false = is

pub among_append : (xs ys : List ℕ) (y : ℕ) → is_among (xs ++ ys) y ≡ true → (is_among xs y ≡ true) ⊎ (is_among ys y ≡ true)
among_append [] ys y is = inr is
among_append (x ∷ xs) ys y is = by (λ there. among_append xs ys y there) (among_cases x (xs ++ ys) y is)
  where
    behind : (is_among xs y ≡ true) ⊎ (is_among ys y ≡ true) → (is_among (x ∷ xs) y ≡ true) ⊎ (is_among ys y ≡ true)
    behind (inl there) = inl (among_rest x xs y there)
    behind (inr there) = inr there

    by : (is_among (xs ++ ys) y ≡ true → (is_among xs y ≡ true) ⊎ (is_among ys y ≡ true)) → (y ≡ x) ⊎ (is_among (xs ++ ys) y ≡ true)
        → (is_among (x ∷ xs) y ≡ true) ⊎ (is_among ys y ≡ true)
    by rest (inl same) = inl (among_first x xs y same)
    by rest (inr there) = behind (rest there)

pub among_left : (xs ys : List ℕ) (y : ℕ) → is_among xs y ≡ true → is_among (xs ++ ys) y ≡ true
among_left [] ys y is = false_is_true is
among_left (x ∷ xs) ys y is = by (λ there. among_left xs ys y there) (among_cases x xs y is)
  where
    by : (is_among xs y ≡ true → is_among (xs ++ ys) y ≡ true) → (y ≡ x) ⊎ (is_among xs y ≡ true) → is_among (x ∷ xs ++ ys) y ≡ true
    by rest (inl same) = among_first x (xs ++ ys) y same
    by rest (inr there) = among_rest x (xs ++ ys) y (rest there)

pub among_right : (xs ys : List ℕ) (y : ℕ) → is_among ys y ≡ true → is_among (xs ++ ys) y ≡ true
among_right [] ys y is = is
among_right (x ∷ xs) ys y is = among_rest x (xs ++ ys) y (among_right xs ys y is)

-- what a filter keeps
pub among_filter : (test : ℕ → Bool) (xs : List ℕ) (y : ℕ) → is_among (filter test xs) y ≡ true → (is_among xs y ≡ true) × (test y ≡ true)
among_filter test [] y is = false_is_true is
among_filter test (x ∷ xs) y is = by (λ there. among_filter test xs y there) (test x) refl is
  where
    here : (test x ≡ true) → (is_among (filter test xs) y ≡ true → (is_among xs y ≡ true) × (test y ≡ true)) → (y ≡ x) ⊎ (is_among (filter test xs) y ≡ true)
        → (is_among (x ∷ xs) y ≡ true) × (test y ≡ true)
    here e rest (inl same) = (among_first x xs y same, ap (λ (n : ℕ). test n) same ∙ e)
    here e rest (inr there) = (among_rest x xs y (rest there).0, (rest there).1)

    by : (is_among (filter test xs) y ≡ true → (is_among xs y ≡ true) × (test y ≡ true)) → (b : Bool) → test x ≡ b
        → is_among (cond b (x ∷ filter test xs) (filter test xs)) y ≡ true → (is_among (x ∷ xs) y ≡ true) × (test y ≡ true)
    by rest true e is = here e rest (among_cases x (filter test xs) y is)
    by rest false e is = (among_rest x xs y (rest is).0, (rest is).1)

pub filter_among : (test : ℕ → Bool) (xs : List ℕ) (y : ℕ) → is_among xs y ≡ true → test y ≡ true → is_among (filter test xs) y ≡ true
filter_among test [] y is passes = false_is_true is
filter_among test (x ∷ xs) y is passes = by (λ there. filter_among test xs y there passes) (test x) refl (among_cases x xs y is)
  where
    by : (is_among xs y ≡ true → is_among (filter test xs) y ≡ true) → (b : Bool) → test x ≡ b → (y ≡ x) ⊎ (is_among xs y ≡ true)
        → is_among (cond b (x ∷ filter test xs) (filter test xs)) y ≡ true
    by rest true e (inl same) = among_first x (filter test xs) y same
    by rest false e (inl same) = false_is_true (sym (ap (λ (n : ℕ). test n) same ∙ e) ∙ passes)
    by rest true e (inr there) = among_rest x (filter test xs) y (rest there)
    by rest false e (inr there) = rest there

-- who is among a list without a number is another
pub among_without : (n : ℕ) (xs : List ℕ) (y : ℕ) → is_among (without_number n xs) y ≡ true → (is_among xs y ≡ true) × (y ≢ n)
among_without n xs y is =
    let both = among_filter (λ k. not (nat_eq k n)) xs y is in
    (both.0, λ same. false_is_true (sym (ap (λ (b : Bool). not b) (equal y n same)) ∙ both.1))

-- a number more, in its place
pub among_with : (n : ℕ) (xs : List ℕ) (y : ℕ) → is_among (with_number n xs) y ≡ (nat_eq y n || is_among xs y)
among_with n xs y = by (leb_tells (suc y) n) (leb_tells (suc n) y) (eqb_tells y n)
  where
    low : List ℕ
    low = filter (λ k. nat_lt k n) xs

    high : List ℕ
    high = filter (λ k. nat_lt n k) xs

    between : is_among (low ++ n ∷ high) y ≡ true → (is_among xs y ≡ true) ⊎ (y ≡ n)
    between is = at (among_append low (n ∷ high) y is)
      where
        behind : (y ≡ n) ⊎ (is_among high y ≡ true) → (is_among xs y ≡ true) ⊎ (y ≡ n)
        behind (inl same) = inr same
        behind (inr there) = inl (among_filter (λ k. nat_lt n k) xs y there).0

        at : (is_among low y ≡ true) ⊎ (is_among (n ∷ high) y ≡ true) → (is_among xs y ≡ true) ⊎ (y ≡ n)
        at (inl there) = inl (among_filter (λ k. nat_lt k n) xs y there).0
        at (inr there) = behind (among_cases n high y there)

    here : nat_eq y n ≡ true → y ≡ n → is_among (low ++ n ∷ high) y ≡ (nat_eq y n || is_among xs y)
    here e same = among_right low (n ∷ high) y (among_first n high y same) ∙ sym (ap (λ (b : Bool). b || is_among xs y) e)

    other_of : y ≢ n → (is_among xs y ≡ true) ⊎ (y ≡ n) → is_among xs y ≡ true
    other_of other (inl there) = there
    other_of other (inr same) = absurd (other same)

    apart : nat_eq y n ≡ false → y ≢ n → (is_among xs y ≡ true → is_among (low ++ n ∷ high) y ≡ true) → is_among (low ++ n ∷ high) y ≡ (nat_eq y n || is_among xs y)
    apart e other kept =
        same_truth (is_among (low ++ n ∷ high) y) (is_among xs y) (λ is. other_of other (between is)) kept
        ∙ sym (ap (λ (b : Bool). b || is_among xs y) e)

    neither : (a b : ℕ) → b < suc a → a < suc b → a ≡ b
    neither a b x z = omega (arith, x, z)

    by : ((nat_lt y n ≡ true) × (suc y ≤ n)) ⊎ ((nat_lt y n ≡ false) × (n < suc y)) → ((nat_lt n y ≡ true) × (suc n ≤ y)) ⊎ ((nat_lt n y ≡ false) × (y < suc n))
        → ((nat_eq y n ≡ true) × (y ≡ n)) ⊎ ((nat_eq y n ≡ false) × (y ≢ n)) → is_among (low ++ n ∷ high) y ≡ (nat_eq y n || is_among xs y)
    by a b (inl same) = here same.0 same.1
    by (inl less) b (inr other) = apart other.0 other.1 (λ is. among_left low (n ∷ high) y (filter_among (λ k. nat_lt k n) xs y is less.0))
    by (inr x) (inl more) (inr other) =
        apart other.0 other.1 (λ is. among_right low (n ∷ high) y (among_rest n high y (filter_among (λ k. nat_lt n k) xs y is more.0)))
    by (inr x) (inr z) (inr other) = absurd (other.1 (neither y n x.1 z.1))

-- OF A WORLD

pub drawn_among : (n q : ℕ) → 0 < q → q ≤ n → is_among (up_to n) q ≡ true
drawn_among zero q low high = absurd (none q low high)
  where
    none : (q : ℕ) → 0 < q → q ≤ 0 → ⊥
    none q low high = omega (arith, low, high)
drawn_among (suc n) q low high = by (λ less. drawn_among n q low less) (eqb_tells q (suc n))
  where
    lower : (q n : ℕ) → q ≤ suc n → q ≢ suc n → q ≤ n
    lower q n e other = omega (arith, e, other)

    by : (q ≤ n → is_among (up_to n) q ≡ true) → ((nat_eq q (suc n) ≡ true) × (q ≡ suc n)) ⊎ ((nat_eq q (suc n) ≡ false) × (q ≢ suc n)) → is_among (up_to n ++ suc n ∷ []) q ≡ true
    by rest (inl same) = among_right (up_to n) (suc n ∷ []) q (among_first (suc n) [] q same.1)
    by rest (inr other) = among_left (up_to n) (suc n ∷ []) q (rest (lower q n high other.1))

pub live_there : (s : Stage) → is_live s ≡ true → is_there s ≡ true
live_there Unborn e = false_is_true e
live_there Ready e = refl
live_there (Out worker) e = refl
live_there (Waiting request) e = refl
live_there (Doomed worker end) e = false_is_true e
live_there (Ended end) e = false_is_true e

pub ready_there : (s : Stage) → is_ready s ≡ true → is_there s ≡ true
ready_there Unborn e = false_is_true e
ready_there Ready e = refl
ready_there (Out worker) e = false_is_true e
ready_there (Waiting request) e = false_is_true e
ready_there (Doomed worker end) e = false_is_true e
ready_there (Ended end) e = false_is_true e

pub away_there : (s : Stage) → is_away s ≡ true → is_there s ≡ true
away_there Unborn e = false_is_true e
away_there Ready e = false_is_true e
away_there (Out worker) e = refl
away_there (Waiting request) e = false_is_true e
away_there (Doomed worker end) e = refl
away_there (Ended end) e = false_is_true e

pub waiting_there : (s : Stage) → is_waiting s ≡ true → is_there s ≡ true
waiting_there Unborn e = false_is_true e
waiting_there Ready e = false_is_true e
waiting_there (Out worker) e = false_is_true e
waiting_there (Waiting request) e = refl
waiting_there (Doomed worker end) e = false_is_true e
waiting_there (Ended end) e = false_is_true e

-- READ SO FAR

-- who is among those read so far and the next one
pub taken_more : (xs : List ℕ) (k q : ℕ) → k < length xs → is_among (take (k + 1) xs) q ≡ true → (is_among (take k xs) q ≡ true) ⊎ (q ≡ slice_index xs k)
taken_more xs k q within there = by (among_append (take k xs) (slice_index xs k ∷ []) q (sym (ap (λ (ys : List ℕ). is_among ys q) (take_more xs k 0 within)) ∙ there))
  where
    last : (q ≡ slice_index xs k) ⊎ (is_among [] q ≡ true) → (is_among (take k xs) q ≡ true) ⊎ (q ≡ slice_index xs k)
    last (inl same) = inr same
    last (inr none) = false_is_true none

    by : (is_among (take k xs) q ≡ true) ⊎ (is_among (slice_index xs k ∷ []) q ≡ true) → (is_among (take k xs) q ≡ true) ⊎ (q ≡ slice_index xs k)
    by (inl there) = inl there
    by (inr there) = last (among_cases (slice_index xs k) [] q there)

-- what is false if it is true is false
pub never_true : (b : Bool) → (b ≡ true → b ≡ false) → b ≡ false
never_true true f = f refl
never_true false f = refl
