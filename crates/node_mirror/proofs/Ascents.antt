-- Lists of rising numbers: where two have the same members, they are the same list.
use Rattle.std.specs.Prelude.{◌≡◌, ◌≢◌, ◌⊎◌, ℕ, zero, suc, ◌+◌, ◌<◌, ◌≤◌, List, [], ◌∷◌, ◌++◌, length, map, filter, cond, T, ◌&&◌, ◌||◌, Bool, true, false, nat_lt, nat_eq, slice_index, refl}
use Rattle.std.specs.declared.cmp.Ordering.TheVariants.{Less, Equal, Greater}
use Rattle.std.specs.Ordering.{nat_cmp, is_lt}
use Rattle.std.specs.List.Sorted.{IsStrictlyIncreasing}
use Rattle.std.specs.FinMap.Entries.{is_sorted, below_all}
use Rattle.std.proofs.Common.{subst, sym, ◌∙◌, ap, inl, inr, arith}
use Rattle.std.proofs.lemmas.Bool.Decides.{eqb_tells, leb_tells}
use Rattle.world_rules.specs.Part.{is_among}
use Rattle.world_rules.specs.Streams.{one_if}
use Rattle.world_rules.specs.Sound.{AllAbove, Rise, times}
use Rattle.world_rules.specs.World.{up_to}
use Rattle.world_rules.specs.laws.KeepingLaws.{false_is_true}
use Rattle.node_mirror.proofs.Members.{among_cases, among_first, among_rest, among_append, times_none}

-- ABOVE

above_numbers : (low : ℕ) (xs : List ℕ) (n : ℕ) → AllAbove low xs → is_among xs n ≡ true → low < n
above_numbers low [] n above is = false_is_true is
above_numbers low (x ∷ xs) n above is = by (λ there. above_numbers low xs n above.1 there) (among_cases x xs n is)
  where
    by : (is_among xs n ≡ true → low < n) → (n ≡ x) ⊎ (is_among xs n ≡ true) → low < n
    by rest (inl same) = subst (λ (m : ℕ). low < m) (sym same) above.0
    by rest (inr there) = rest there

above_last : (low n : ℕ) (xs : List ℕ) → AllAbove low xs → low < n → AllAbove low (xs ++ n ∷ [])
above_last low n [] above less = (less, tt)
above_last low n (x ∷ xs) above less = (above.0, above_last low n xs above.1 less)

rise_last : (n : ℕ) (xs : List ℕ) → Rise xs → ((m : ℕ) → is_among xs m ≡ true → m < n) → Rise (xs ++ n ∷ [])
rise_last n [] rise below = (tt, tt)
rise_last n (x ∷ xs) rise below =
    (above_last x n xs rise.0 (below x (among_first x xs x refl)), rise_last n xs rise.1 (λ m there. below m (among_rest x xs m there)))

-- FILTERS

above_more : (low high : ℕ) (xs : List ℕ) → low < high → AllAbove high xs → AllAbove low xs
above_more low high [] less above = tt
above_more low high (x ∷ xs) less above = (by low high x less above.0, above_more low high xs less above.1)
  where
    by : (a b c : ℕ) → a < b → b < c → a < c
    by a b c x y = omega (arith, x, y)

above_kept : (low x : ℕ) (b : Bool) (xs : List ℕ) → low < x → AllAbove low xs → AllAbove low (cond b (x ∷ xs) xs)
above_kept low x true xs less above = (less, above)
above_kept low x false xs less above = above

above_filter : (low : ℕ) (test : ℕ → Bool) (xs : List ℕ) → AllAbove low xs → AllAbove low (filter test xs)
above_filter low test [] above = tt
above_filter low test (x ∷ xs) above = above_kept low x (test x) (filter test xs) above.0 (above_filter low test xs above.1)

rise_kept : (x : ℕ) (b : Bool) (xs : List ℕ) → AllAbove x xs → Rise xs → Rise (cond b (x ∷ xs) xs)
rise_kept x true xs above rise = (above, rise)
rise_kept x false xs above rise = rise

pub rise_filter : (test : ℕ → Bool) (xs : List ℕ) → Rise xs → Rise (filter test xs)
rise_filter test [] rise = tt
rise_filter test (x ∷ xs) rise = rise_kept x (test x) (filter test xs) (above_filter x test xs rise.0) (rise_filter test xs rise.1)

-- the numbers from 1 to n are at most n, and rise

up_to_within : (n q : ℕ) → is_among (up_to n) q ≡ true → q ≤ n
up_to_within zero q is = false_is_true is
up_to_within (suc n) q is = by (λ there. up_to_within n q there) (among_append (up_to n) (suc n ∷ []) q is)
  where
    last : (q n : ℕ) → q ≡ suc n → q ≤ suc n
    last q n e = omega (arith, e)

    more : (q n : ℕ) → q ≤ n → q ≤ suc n
    more q n e = omega (arith, e)

    at : (q ≡ suc n) ⊎ (is_among [] q ≡ true) → q ≤ suc n
    at (inl same) = last q n same
    at (inr none) = false_is_true none

    by : (is_among (up_to n) q ≡ true → q ≤ n) → (is_among (up_to n) q ≡ true) ⊎ (is_among (suc n ∷ []) q ≡ true) → q ≤ suc n
    by rest (inl there) = more q n (rest there)
    by rest (inr there) = at (among_cases (suc n) [] q there)

pub up_to_rise : (n : ℕ) → Rise (up_to n)
up_to_rise zero = tt
up_to_rise (suc n) = rise_last (suc n) (up_to n) (up_to_rise n) (λ m there. below m n (up_to_within n m there))
  where
    below : (m n : ℕ) → m ≤ n → m < suc n
    below m n e = omega (arith, e)

-- SORTED

first_of : (a b : Bool) → T (a && b) → T a
first_of true b h = tt
first_of false b h = absurd h

second_of : (a b : Bool) → T (a && b) → T b
second_of true b h = h
second_of false b h = absurd h

less_of : (x y : ℕ) → T (is_lt (nat_cmp x y)) → x < y
less_of x y h = by (leb_tells (suc x) y) h
  where
    no : (b : Bool) → T (is_lt (cond b Equal Greater)) → x < y
    no true h = absurd h
    no false h = absurd h

    by : ((nat_lt x y ≡ true) × (suc x ≤ y)) ⊎ ((nat_lt x y ≡ false) × (y < suc x)) → T (is_lt (nat_cmp x y)) → x < y
    by (inl less) h = let e = less.1 in omega (arith, e)
    by (inr more) h = no (nat_eq x y) (subst (λ (b : Bool). T (is_lt (cond b Less (cond (nat_eq x y) Equal Greater)))) more.0 h)

above_of : {X : Type 0} (x : ℕ) (es : List (ℕ × X)) → T (below_all nat_cmp x es) → AllAbove x (map (λ e. e.0) es)
above_of x [] h = tt
above_of x (e ∷ es) h = (less_of x e.0 (first_of (is_lt (nat_cmp x e.0)) (below_all nat_cmp x es) h), above_of x es (second_of (is_lt (nat_cmp x e.0)) (below_all nat_cmp x es) h))

-- the keys of entries in order rise
pub sorted_rise : {X : Type 0} (es : List (ℕ × X)) → T (is_sorted nat_cmp es) → Rise (map (λ e. e.0) es)
sorted_rise [] h = tt
sorted_rise (e ∷ es) h = (above_of e.0 es (first_of (below_all nat_cmp e.0 es) (is_sorted nat_cmp es) h), sorted_rise es (second_of (below_all nat_cmp e.0 es) (is_sorted nat_cmp es) h))

-- where each number is below the next, it is below all that follow
pub increasing_rise : (xs : List ℕ) → IsStrictlyIncreasing xs → Rise xs
increasing_rise [] h = tt
increasing_rise (x ∷ []) h = (tt, tt)
increasing_rise (x ∷ y ∷ ys) h =
    let less : x < y = h 0 (two (length ys)) in
    let rest : Rise (y ∷ ys) = increasing_rise (y ∷ ys) (λ k short. next k (h (suc k) (longer k (length (y ∷ ys)) short))) in
    ((less, above_more x y ys less rest.0), rest)
  where
    two : (n : ℕ) → 0 + 1 < suc (suc n)
    two n = omega arith

    longer : (k n : ℕ) → k + 1 < n → suc k + 1 < suc n
    longer k n e = omega (arith, e)

    moved : (k : ℕ) → suc k + 1 ≡ suc (k + 1)
    moved k = omega arith

    next : (k : ℕ) → slice_index (x ∷ y ∷ ys) (suc k) < slice_index (x ∷ y ∷ ys) (suc k + 1) → slice_index (y ∷ ys) k < slice_index (y ∷ ys) (k + 1)
    next k e = subst (λ (n : ℕ). slice_index (y ∷ ys) k < slice_index (x ∷ y ∷ ys) n) (moved k) e

-- each of rising numbers is there once
pub rise_once : (k : ℕ) (xs : List ℕ) → Rise xs → is_among xs k ≡ true → times k xs ≡ 1
rise_once k [] rise is = false_is_true is
rise_once k (x ∷ xs) rise is = by (λ rest. rise_once k xs rise.1 rest) (eqb_tells k x)
  where
    never : (m n : ℕ) → m < n → n ≡ m → ⊥
    never m n less e = omega (arith, less, e)

    absent : (b : Bool) → is_among xs k ≡ b → k ≡ x → times k xs ≡ 0
    absent true e same = absurd (never x k (above_numbers x xs k rise.0 e) same)
    absent false e same = times_none k xs e

    by : (is_among xs k ≡ true → times k xs ≡ 1) → ((nat_eq k x ≡ true) × (k ≡ x)) ⊎ ((nat_eq k x ≡ false) × (k ≢ x)) → one_if (nat_eq k x) (times k xs) ≡ 1
    by rest (inl same) = ap (λ (b : Bool). one_if b (times k xs)) same.0 ∙ ap (λ (n : ℕ). n + 1) (absent (is_among xs k) refl same.1)
    by rest (inr other) = ap (λ (b : Bool). one_if b (times k xs)) other.0 ∙ rest (ap (λ (b : Bool). b || is_among xs k) (sym other.0) ∙ is)

-- THE SAME

pub rises_same : (xs ys : List ℕ) → Rise xs → Rise ys → ((q : ℕ) → is_among xs q ≡ true → is_among ys q ≡ true) → ((q : ℕ) → is_among ys q ≡ true → is_among xs q ≡ true)
    → xs ≡ ys
rises_same [] [] a b f g = refl
rises_same [] (y ∷ ys) a b f g = false_is_true (g y (among_first y ys y refl))
rises_same (x ∷ xs) [] a b f g = false_is_true (f x (among_first x xs x refl))
rises_same (x ∷ xs) (y ∷ ys) a b f g =
    let rest : xs ≡ ys = rises_same xs ys a.1 b.1 (λ q there. ahead q there (among_cases y ys q (f q (among_rest x xs q there))))
    (λ q there. behind q there (among_cases x xs q (g q (among_rest y ys q there)))) in
    λ i. heads i ∷ rest i
  where
    not_both : (a b : ℕ) → a < b → b < a → ⊥
    not_both a b m n = omega (arith, m, n)

    one : (x ≡ y) ⊎ (is_among ys x ≡ true) → (y ≡ x) ⊎ (is_among xs y ≡ true) → x ≡ y
    one (inl same) other = same
    one (inr there) (inl same) = sym same
    one (inr there) (inr here) = absurd (not_both y x (above_numbers y ys x b.0 there) (above_numbers x xs y a.0 here))

    heads : x ≡ y
    heads = one (among_cases y ys x (f x (among_first x xs x refl))) (among_cases x xs y (g y (among_first y ys y refl)))

    never : (m n : ℕ) → m < n → n ≡ m → ⊥
    never m n less e = omega (arith, less, e)

    ahead : (q : ℕ) → is_among xs q ≡ true → (q ≡ y) ⊎ (is_among ys q ≡ true) → is_among ys q ≡ true
    ahead q there (inl same) = absurd (never x q (above_numbers x xs q a.0 there) (same ∙ sym heads))
    ahead q there (inr is) = is

    behind : (q : ℕ) → is_among ys q ≡ true → (q ≡ x) ⊎ (is_among xs q ≡ true) → is_among xs q ≡ true
    behind q there (inl same) = absurd (never y q (above_numbers y ys q b.0 there) (same ∙ heads))
    behind q there (inr is) = is
