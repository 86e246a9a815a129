-- Who is among numbers, and who is among those of a world.
use Rattle.std.specs.Prelude.{◌≡◌, ◌≢◌, ◌⊎◌, ℕ, zero, suc, ◌+◌, ◌<◌, ◌≤◌, List, [], ◌∷◌, ◌++◌, filter, cond, not, Bool, true, false, ◌||◌, ◌&&◌, nat_eq, nat_lt, nat_le, refl}
use Rattle.std.proofs.Common.{sym, ◌∙◌, ap, inl, inr, arith}
use Rattle.std.proofs.lemmas.Bool.Decides.{eqb_tells, leb_tells, nat_tests}
use Rattle.world_rules.specs.Part.{is_among, without_number}
use Rattle.world_rules.specs.Streams.{one_if}
use Rattle.world_rules.specs.Sound.{times, is_drawn, AreInOrder}
use Rattle.world_rules.specs.Touches.{is_there}
use Rattle.world_rules.specs.World.{World, Process, Stage, Unborn, Ready, Out, Waiting, Doomed, Ended, is_live, is_ready, up_to}
use Rattle.world_rules.specs.laws.KeepingLaws.{false_is_true}

-- NUMBERS

pub equal : (a b : ℕ) → a ≡ b → nat_eq a b ≡ true
equal a b same = grind (arith, nat_tests)

pub unequal : (a b : ℕ) → a ≢ b → nat_eq a b ≡ false
unequal a b other = grind (arith, nat_tests)

pub both_true : (a b : Bool) → (a && b) ≡ true → (a ≡ true) × (b ≡ true)
both_true true b e = (refl, e)
both_true false b e = false_is_true e

pub within : (a b : ℕ) → nat_le a b ≡ true → a ≤ b
within a b is = by (leb_tells a b)
  where
    by : ((nat_le a b ≡ true) × (a ≤ b)) ⊎ ((nat_le a b ≡ false) × (b < a)) → a ≤ b
    by (inl low) = low.1
    by (inr high) = false_is_true (sym high.0 ∙ is)

-- MEMBERS

-- the one of two, or the other
pub among_cases : (x : ℕ) (xs : List ℕ) (y : ℕ) → is_among (x ∷ xs) y ≡ true → (y ≡ x) ⊎ (is_among xs y ≡ true)
among_cases x xs y is = by (eqb_tells y x)
  where
    by : ((nat_eq y x ≡ true) × (y ≡ x)) ⊎ ((nat_eq y x ≡ false) × (y ≢ x)) → (y ≡ x) ⊎ (is_among xs y ≡ true)
    by (inl same) = inl same.1
    by (inr other) = inr (ap (λ (b : Bool). b || is_among xs y) (sym other.0) ∙ is)

pub among_first : (x : ℕ) (xs : List ℕ) (y : ℕ) → y ≡ x → is_among (x ∷ xs) y ≡ true
among_first x xs y same = ap (λ (b : Bool). b || is_among xs y) (equal y x same)

pub among_rest : (x : ℕ) (xs : List ℕ) (y : ℕ) → is_among xs y ≡ true → is_among (x ∷ xs) y ≡ true
among_rest x xs y is = by (nat_eq y x)
  where
    by : (b : Bool) → (b || is_among xs y) ≡ true
    by true = refl
    by false = is

pub among_append : (xs ys : List ℕ) (y : ℕ) → is_among (xs ++ ys) y ≡ true → (is_among xs y ≡ true) ⊎ (is_among ys y ≡ true)
among_append [] ys y is = inr is
among_append (x ∷ xs) ys y is = by (λ there. among_append xs ys y there) (among_cases x (xs ++ ys) y is)
  where
    behind : (is_among xs y ≡ true) ⊎ (is_among ys y ≡ true) → (is_among (x ∷ xs) y ≡ true) ⊎ (is_among ys y ≡ true)
    behind (inl there) = inl (among_rest x xs y there)
    behind (inr there) = inr there

    by : (is_among (xs ++ ys) y ≡ true → (is_among xs y ≡ true) ⊎ (is_among ys y ≡ true)) → (y ≡ x) ⊎ (is_among (xs ++ ys) y ≡ true)
        → (is_among (x ∷ xs) y ≡ true) ⊎ (is_among ys y ≡ true)
    by rest (inl same) = inl (among_first x xs y same)
    by rest (inr there) = behind (rest there)

pub among_left : (xs ys : List ℕ) (y : ℕ) → is_among xs y ≡ true → is_among (xs ++ ys) y ≡ true
among_left [] ys y is = false_is_true is
among_left (x ∷ xs) ys y is = by (λ there. among_left xs ys y there) (among_cases x xs y is)
  where
    by : (is_among xs y ≡ true → is_among (xs ++ ys) y ≡ true) → (y ≡ x) ⊎ (is_among xs y ≡ true) → is_among (x ∷ xs ++ ys) y ≡ true
    by rest (inl same) = among_first x (xs ++ ys) y same
    by rest (inr there) = among_rest x (xs ++ ys) y (rest there)

pub among_right : (xs ys : List ℕ) (y : ℕ) → is_among ys y ≡ true → is_among (xs ++ ys) y ≡ true
among_right [] ys y is = is
among_right (x ∷ xs) ys y is = among_rest x (xs ++ ys) y (among_right xs ys y is)

-- what a filter keeps
pub among_filter : (test : ℕ → Bool) (xs : List ℕ) (y : ℕ) → is_among (filter test xs) y ≡ true → (is_among xs y ≡ true) × (test y ≡ true)
among_filter test [] y is = false_is_true is
among_filter test (x ∷ xs) y is = by (λ there. among_filter test xs y there) (test x) refl is
  where
    here : (test x ≡ true) → (is_among (filter test xs) y ≡ true → (is_among xs y ≡ true) × (test y ≡ true)) → (y ≡ x) ⊎ (is_among (filter test xs) y ≡ true)
        → (is_among (x ∷ xs) y ≡ true) × (test y ≡ true)
    here e rest (inl same) = (among_first x xs y same, ap (λ (n : ℕ). test n) same ∙ e)
    here e rest (inr there) = (among_rest x xs y (rest there).0, (rest there).1)

    by : (is_among (filter test xs) y ≡ true → (is_among xs y ≡ true) × (test y ≡ true)) → (b : Bool) → test x ≡ b
        → is_among (cond b (x ∷ filter test xs) (filter test xs)) y ≡ true → (is_among (x ∷ xs) y ≡ true) × (test y ≡ true)
    by rest true e is = here e rest (among_cases x (filter test xs) y is)
    by rest false e is = (among_rest x xs y (rest is).0, (rest is).1)

pub filter_among : (test : ℕ → Bool) (xs : List ℕ) (y : ℕ) → is_among xs y ≡ true → test y ≡ true → is_among (filter test xs) y ≡ true
filter_among test [] y is passes = false_is_true is
filter_among test (x ∷ xs) y is passes = by (λ there. filter_among test xs y there passes) (test x) refl (among_cases x xs y is)
  where
    by : (is_among xs y ≡ true → is_among (filter test xs) y ≡ true) → (b : Bool) → test x ≡ b → (y ≡ x) ⊎ (is_among xs y ≡ true)
        → is_among (cond b (x ∷ filter test xs) (filter test xs)) y ≡ true
    by rest true e (inl same) = among_first x (filter test xs) y same
    by rest false e (inl same) = false_is_true (sym (ap (λ (n : ℕ). test n) same ∙ e) ∙ passes)
    by rest true e (inr there) = among_rest x (filter test xs) y (rest there)
    by rest false e (inr there) = rest there

-- who is among a list without a number is another
pub among_without : (n : ℕ) (xs : List ℕ) (y : ℕ) → is_among (without_number n xs) y ≡ true → (is_among xs y ≡ true) × (y ≢ n)
among_without n xs y is =
    let both = among_filter (λ k. not (nat_eq k n)) xs y is in
    (both.0, λ same. false_is_true (sym (ap (λ (b : Bool). not b) (equal y n same)) ∙ both.1))

-- HOW OFTEN

pub times_none : (k : ℕ) (xs : List ℕ) → is_among xs k ≡ false → times k xs ≡ 0
times_none k [] none = refl
times_none k (x ∷ xs) none = by (λ rest. times_none k xs rest) (nat_eq k x) none
  where
    by : (is_among xs k ≡ false → times k xs ≡ 0) → (b : Bool) → (b || is_among xs k) ≡ false → one_if b (times k xs) ≡ 0
    by rest true none = false_is_true (sym none)
    by rest false none = rest none

pub times_some : (k : ℕ) (xs : List ℕ) → is_among xs k ≡ true → 0 < times k xs
times_some k [] is = false_is_true is
times_some k (x ∷ xs) is = by (λ rest. times_some k xs rest) (nat_eq k x) is
  where
    more : (n : ℕ) → 0 < n + 1
    more n = omega arith

    by : (is_among xs k ≡ true → 0 < times k xs) → (b : Bool) → (b || is_among xs k) ≡ true → 0 < one_if b (times k xs)
    by rest true is = more (times k xs)
    by rest false is = rest is

pub among_of_times : (k : ℕ) (xs : List ℕ) → 0 < times k xs → is_among xs k ≡ true
among_of_times k xs some = by (is_among xs k) refl
  where
    no : (n : ℕ) → 0 < n → n ≡ 0 → ⊥
    no n some none = omega (arith, some, none)

    by : (b : Bool) → is_among xs k ≡ b → is_among xs k ≡ true
    by true e = e
    by false e = absurd (no (times k xs) some (times_none k xs e))

-- OF A WORLD

pub drawn_among : (n q : ℕ) → 0 < q → q ≤ n → is_among (up_to n) q ≡ true
drawn_among zero q low high = absurd (none q low high)
  where
    none : (q : ℕ) → 0 < q → q ≤ 0 → ⊥
    none q low high = omega (arith, low, high)
drawn_among (suc n) q low high = by (λ less. drawn_among n q low less) (eqb_tells q (suc n))
  where
    lower : (q n : ℕ) → q ≤ suc n → q ≢ suc n → q ≤ n
    lower q n e other = omega (arith, e, other)

    by : (q ≤ n → is_among (up_to n) q ≡ true) → ((nat_eq q (suc n) ≡ true) × (q ≡ suc n)) ⊎ ((nat_eq q (suc n) ≡ false) × (q ≢ suc n)) → is_among (up_to n ++ suc n ∷ []) q ≡ true
    by rest (inl same) = among_right (up_to n) (suc n ∷ []) q (among_first (suc n) [] q same.1)
    by rest (inr other) = among_left (up_to n) (suc n ∷ []) q (rest (lower q n high other.1))

-- the number of who is there was drawn
pub there_drawn : (w : World) (q : ℕ) → AreInOrder w → is_there (w.process q).stage ≡ true → (0 < q) × (q ≤ w.numbers_drawn)
there_drawn w q order there = by (is_drawn w q) refl
  where
    of : is_drawn w q ≡ true → (0 < q) × (q ≤ w.numbers_drawn)
    of e = let both = both_true (nat_lt 0 q) (nat_le q w.numbers_drawn) e in (within 1 q both.0, within q w.numbers_drawn both.1)

    by : (b : Bool) → is_drawn w q ≡ b → (0 < q) × (q ≤ w.numbers_drawn)
    by true e = of e
    by false e = false_is_true (sym (ap (λ (p : Process). is_there p.stage) (order.undrawn q e)) ∙ there)

pub live_there : (s : Stage) → is_live s ≡ true → is_there s ≡ true
live_there Unborn e = false_is_true e
live_there Ready e = refl
live_there (Out worker) e = refl
live_there (Waiting request) e = refl
live_there (Doomed worker end) e = false_is_true e
live_there (Ended end) e = false_is_true e

pub ready_there : (s : Stage) → is_ready s ≡ true → is_there s ≡ true
ready_there Unborn e = false_is_true e
ready_there Ready e = refl
ready_there (Out worker) e = false_is_true e
ready_there (Waiting request) e = false_is_true e
ready_there (Doomed worker end) e = false_is_true e
ready_there (Ended end) e = false_is_true e

pub there_among : (w : World) (q : ℕ) → AreInOrder w → is_there (w.process q).stage ≡ true → is_among (up_to w.numbers_drawn) q ≡ true
there_among w q order there = let both = there_drawn w q order there in drawn_among w.numbers_drawn q both.0 both.1
