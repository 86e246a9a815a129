-- Lists of rising numbers: where two have the same members, they are the same list.
use Rattle.std.specs.Prelude.{◌≡◌, ◌≢◌, ◌⊎◌, ℕ, zero, suc, ◌+◌, ◌<◌, ◌≤◌, List, [], ◌∷◌, ◌++◌, filter, cond, ◌&&◌, ◌||◌, Bool, true, false, nat_lt, nat_le, nat_eq, slice_get, slice_index_or, length, ◌-◌, Some, refl}
use Rattle.std.specs.declared.cmp.Ordering.TheVariants.{Less, Equal, Greater}
use Rattle.std.specs.Ordering.{nat_cmp, is_lt, is_le}
use Rattle.std.proofs.Common.{subst, sym, ◌∙◌, ap, inl, inr, arith}
use Rattle.std.proofs.Common.{take}
use Rattle.std.proofs.Math.Seq.{take-length}
use Rattle.std.proofs.lemmas.List.Folds.{list_any_at}
use Rattle.std.proofs.lemmas.Bool.Decides.{eqb_tells, leb_tells}
use Rattle.world_rules.specs.Part.{is_among, with_number}
use Rattle.world_rules.specs.Sound.{AllAbove, Rise}
use Rattle.world_rules.specs.World.{up_to}
use Rattle.world_rules.specs.laws.BirthLaws.{same_some}
use Rattle.world_rules.specs.laws.KeepingLaws.{false_is_true}
use Rattle.plain_world.proofs.Members.{among_cases, among_first, among_rest, among_append, among_filter, filter_among, both_true, within, drawn_among, same_truth, equal}

-- ABOVE

pub above_numbers : (low : ℕ) (xs : List ℕ) (n : ℕ) → AllAbove low xs → is_among xs n ≡ true → low < n
above_numbers low [] n above is = false_is_true is
above_numbers low (x ∷ xs) n above is = by (λ there. above_numbers low xs n above.1 there) (among_cases x xs n is)
  where
    by : (is_among xs n ≡ true → low < n) → (n ≡ x) ⊎ (is_among xs n ≡ true) → low < n
    by rest (inl same) = subst (λ (m : ℕ). low < m) (sym same) above.0
    by rest (inr there) = rest there

above_last : (low n : ℕ) (xs : List ℕ) → AllAbove low xs → low < n → AllAbove low (xs ++ n ∷ [])
above_last low n [] above less = (less, tt)
above_last low n (x ∷ xs) above less = (above.0, above_last low n xs above.1 less)

pub rise_last : (n : ℕ) (xs : List ℕ) → Rise xs → ((m : ℕ) → is_among xs m ≡ true → m < n) → Rise (xs ++ n ∷ [])
rise_last n [] rise below = (tt, tt)
rise_last n (x ∷ xs) rise below =
    (above_last x n xs rise.0 (below x (among_first x xs x refl)), rise_last n xs rise.1 (λ m there. below m (among_rest x xs m there)))

-- FILTERS

above_more : (low high : ℕ) (xs : List ℕ) → low < high → AllAbove high xs → AllAbove low xs
above_more low high [] less above = tt
above_more low high (x ∷ xs) less above = (by low high x less above.0, above_more low high xs less above.1)
  where
    by : (a b c : ℕ) → a < b → b < c → a < c
    by a b c x y = omega (arith, x, y)

above_kept : (low x : ℕ) (b : Bool) (xs : List ℕ) → low < x → AllAbove low xs → AllAbove low (cond b (x ∷ xs) xs)
above_kept low x true xs less above = (less, above)
above_kept low x false xs less above = above

above_filter : (low : ℕ) (test : ℕ → Bool) (xs : List ℕ) → AllAbove low xs → AllAbove low (filter test xs)
above_filter low test [] above = tt
above_filter low test (x ∷ xs) above = above_kept low x (test x) (filter test xs) above.0 (above_filter low test xs above.1)

rise_kept : (x : ℕ) (b : Bool) (xs : List ℕ) → AllAbove x xs → Rise xs → Rise (cond b (x ∷ xs) xs)
rise_kept x true xs above rise = (above, rise)
rise_kept x false xs above rise = rise

pub rise_filter : (test : ℕ → Bool) (xs : List ℕ) → Rise xs → Rise (filter test xs)
rise_filter test [] rise = tt
rise_filter test (x ∷ xs) rise = rise_kept x (test x) (filter test xs) (above_filter x test xs rise.0) (rise_filter test xs rise.1)

-- the numbers from 1 to n are at most n, and rise

up_to_within : (n q : ℕ) → is_among (up_to n) q ≡ true → q ≤ n
up_to_within zero q is = false_is_true is
up_to_within (suc n) q is = by (λ there. up_to_within n q there) (among_append (up_to n) (suc n ∷ []) q is)
  where
    last : (q n : ℕ) → q ≡ suc n → q ≤ suc n
    last q n e = omega (arith, e)

    more : (q n : ℕ) → q ≤ n → q ≤ suc n
    more q n e = omega (arith, e)

    at : (q ≡ suc n) ⊎ (is_among [] q ≡ true) → q ≤ suc n
    at (inl same) = last q n same
    at (inr none) = false_is_true none

    by : (is_among (up_to n) q ≡ true → q ≤ n) → (is_among (up_to n) q ≡ true) ⊎ (is_among (suc n ∷ []) q ≡ true) → q ≤ suc n
    by rest (inl there) = more q n (rest there)
    by rest (inr there) = at (among_cases (suc n) [] q there)

pub up_to_rise : (n : ℕ) → Rise (up_to n)
up_to_rise zero = tt
up_to_rise (suc n) = rise_last (suc n) (up_to n) (up_to_rise n) (λ m there. below m n (up_to_within n m there))
  where
    below : (m n : ℕ) → m ≤ n → m < suc n
    below m n e = omega (arith, e)

-- ONE MORE

abbrev AllBelow : ℕ → List ℕ → Type 0
AllBelow high [] = Unit {0}
AllBelow high (x ∷ xs) = (x < high) × AllBelow high xs

pub below_of : (a b : ℕ) → nat_lt a b ≡ true → a < b
below_of a b e = by (leb_tells (suc a) b) e
  where
    by : ((nat_lt a b ≡ true) × (suc a ≤ b)) ⊎ ((nat_lt a b ≡ false) × (b < suc a)) → nat_lt a b ≡ true → a < b
    by (inl h) e = let x = h.1 in omega (arith, x)
    by (inr h) e = false_is_true (sym h.0 ∙ e)

lesser_at : (n x : ℕ) (b : Bool) (xs : List ℕ) → nat_lt x n ≡ b → AllBelow n xs → AllBelow n (cond b (x ∷ xs) xs)
lesser_at n x true xs e below = (below_of x n e, below)
lesser_at n x false xs e below = below

lesser : (n : ℕ) (xs : List ℕ) → AllBelow n (filter (λ k. nat_lt k n) xs)
lesser n [] = tt
lesser n (x ∷ xs) = lesser_at n x (nat_lt x n) (filter (λ k. nat_lt k n) xs) refl (lesser n xs)

greater_at : (n x : ℕ) (b : Bool) (xs : List ℕ) → nat_lt n x ≡ b → AllAbove n xs → AllAbove n (cond b (x ∷ xs) xs)
greater_at n x true xs e above = (below_of n x e, above)
greater_at n x false xs e above = above

greater : (n : ℕ) (xs : List ℕ) → AllAbove n (filter (λ k. nat_lt n k) xs)
greater n [] = tt
greater n (x ∷ xs) = greater_at n x (nat_lt n x) (filter (λ k. nat_lt n k) xs) refl (greater n xs)

above_append : (low n : ℕ) (xs ys : List ℕ) → AllAbove low xs → low < n → AllAbove n ys → AllAbove low (xs ++ n ∷ ys)
above_append low n [] ys above less more = (less, above_more low n ys less more)
above_append low n (x ∷ xs) ys above less more = (above.0, above_append low n xs ys above.1 less more)

rise_between : (n : ℕ) (xs ys : List ℕ) → Rise xs → AllBelow n xs → AllAbove n ys → Rise ys → Rise (xs ++ n ∷ ys)
rise_between n [] ys rise below above behind = (above, behind)
rise_between n (x ∷ xs) ys rise below above behind =
    (above_append x n xs ys rise.0 below.0 above, rise_between n xs ys rise.1 below.1 above behind)

pub with_rise : (n : ℕ) (xs : List ℕ) → Rise xs → Rise (with_number n xs)
with_rise n xs rise =
    rise_between n (filter (λ k. nat_lt k n) xs) (filter (λ k. nat_lt n k) xs) (rise_filter (λ k. nat_lt k n) xs rise) (lesser n xs) (greater n xs) (rise_filter (λ k. nat_lt n k) xs rise)

-- THE SAME

pub rises_same : (xs ys : List ℕ) → Rise xs → Rise ys → ((q : ℕ) → is_among xs q ≡ true → is_among ys q ≡ true) → ((q : ℕ) → is_among ys q ≡ true → is_among xs q ≡ true)
    → xs ≡ ys
rises_same [] [] a b f g = refl
rises_same [] (y ∷ ys) a b f g = false_is_true (g y (among_first y ys y refl))
rises_same (x ∷ xs) [] a b f g = false_is_true (f x (among_first x xs x refl))
rises_same (x ∷ xs) (y ∷ ys) a b f g =
    let rest : xs ≡ ys = rises_same xs ys a.1 b.1 (λ q there. ahead q there (among_cases y ys q (f q (among_rest x xs q there))))
    (λ q there. behind q there (among_cases x xs q (g q (among_rest y ys q there)))) in
    λ i. heads i ∷ rest i
  where
    not_both : (a b : ℕ) → a < b → b < a → ⊥
    not_both a b m n = omega (arith, m, n)

    one : (x ≡ y) ⊎ (is_among ys x ≡ true) → (y ≡ x) ⊎ (is_among xs y ≡ true) → x ≡ y
    one (inl same) other = same
    one (inr there) (inl same) = sym same
    one (inr there) (inr here) = absurd (not_both y x (above_numbers y ys x b.0 there) (above_numbers x xs y a.0 here))

    heads : x ≡ y
    heads = one (among_cases y ys x (f x (among_first x xs x refl))) (among_cases x xs y (g y (among_first y ys y refl)))

    never : (m n : ℕ) → m < n → n ≡ m → ⊥
    never m n less e = omega (arith, less, e)

    ahead : (q : ℕ) → is_among xs q ≡ true → (q ≡ y) ⊎ (is_among ys q ≡ true) → is_among ys q ≡ true
    ahead q there (inl same) = absurd (never x q (above_numbers x xs q a.0 there) (same ∙ sym heads))
    ahead q there (inr is) = is

    behind : (q : ℕ) → is_among ys q ≡ true → (q ≡ x) ⊎ (is_among xs q ≡ true) → is_among xs q ≡ true
    behind q there (inl same) = absurd (never y q (above_numbers y ys q b.0 there) (same ∙ heads))
    behind q there (inr is) = is

-- OF THOSE THAT WERE DRAWN

up_to_above : (n q : ℕ) → is_among (up_to n) q ≡ true → 0 < q
up_to_above zero q is = false_is_true is
up_to_above (suc n) q is = by (λ there. up_to_above n q there) (among_append (up_to n) (suc n ∷ []) q is)
  where
    last : (q n : ℕ) → q ≡ suc n → 0 < q
    last q n e = omega (arith, e)

    at : (q ≡ suc n) ⊎ (is_among [] q ≡ true) → 0 < q
    at (inl same) = last q n same
    at (inr none) = false_is_true none

    by : (is_among (up_to n) q ≡ true → 0 < q) → (is_among (up_to n) q ≡ true) ⊎ (is_among (suc n ∷ []) q ≡ true) → 0 < q
    by rest (inl there) = rest there
    by rest (inr there) = at (among_cases (suc n) [] q there)

two_true : (a b : Bool) → a ≡ true → b ≡ true → (a && b) ≡ true
two_true a b x y = ap (λ (c : Bool). c && b) x ∙ y

less_true : (a b : ℕ) → a < b → nat_lt a b ≡ true
less_true a b less = by (leb_tells (suc a) b)
  where
    no : a < b → b < suc a → ⊥
    no x y = omega (arith, x, y)

    by : ((nat_lt a b ≡ true) × (suc a ≤ b)) ⊎ ((nat_lt a b ≡ false) × (b < suc a)) → nat_lt a b ≡ true
    by (inl h) = h.0
    by (inr h) = absurd (no less h.1)

most_true : (a b : ℕ) → a ≤ b → nat_le a b ≡ true
most_true a b most = by (leb_tells a b)
  where
    no : a ≤ b → b < a → ⊥
    no x y = omega (arith, x, y)

    by : ((nat_le a b ≡ true) × (a ≤ b)) ⊎ ((nat_le a b ≡ false) × (b < a)) → nat_le a b ≡ true
    by (inl h) = h.0
    by (inr h) = absurd (no most h.1)

-- the numbers from 1 to n
pub among_up_to : (n q : ℕ) → is_among (up_to n) q ≡ (nat_lt 0 q && nat_le q n)
among_up_to n q =
    same_truth (is_among (up_to n) q) (nat_lt 0 q && nat_le q n)
    (λ is. two_true (nat_lt 0 q) (nat_le q n) (less_true 0 q (up_to_above n q is)) (most_true q n (up_to_within n q is)))
    (λ is. let both = both_true (nat_lt 0 q) (nat_le q n) is in drawn_among n q (within 1 q both.0) (within q n both.1))

-- of rising numbers among which each is that passes, those from 1 to n that pass are all that pass
pub chosen : (test : ℕ → Bool) (n : ℕ) (xs : List ℕ) → Rise xs → ((q : ℕ) → test q ≡ true → is_among xs q ≡ true)
    → filter (λ q. (nat_lt 0 q && nat_le q n) && test q) xs ≡ filter test (up_to n)
chosen test n xs rise held =
    rises_same (filter both xs) (filter test (up_to n)) (rise_filter both xs rise) (rise_filter test (up_to n) (up_to_rise n)) there back
  where
    both : ℕ → Bool
    both q = (nat_lt 0 q && nat_le q n) && test q

    there : (q : ℕ) → is_among (filter both xs) q ≡ true → is_among (filter test (up_to n)) q ≡ true
    there q is =
        let e = both_true (nat_lt 0 q && nat_le q n) (test q) (among_filter both xs q is).1 in
        filter_among test (up_to n) q (among_up_to n q ∙ e.0) e.1

    back : (q : ℕ) → is_among (filter test (up_to n)) q ≡ true → is_among (filter both xs) q ≡ true
    back q is =
        let e = among_filter test (up_to n) q is in
        filter_among both xs q (held q e.1) (two_true (nat_lt 0 q && nat_le q n) (test q) (sym (among_up_to n q) ∙ e.0) e.1)

-- of those that pass one test, those that pass a narrower one
pub filter_within : (wide narrow : ℕ → Bool) (xs : List ℕ) → ((q : ℕ) → narrow q ≡ true → wide q ≡ true) → filter narrow (filter wide xs) ≡ filter narrow xs
filter_within wide narrow [] holds = refl
filter_within wide narrow (x ∷ xs) holds = by (λ _. filter_within wide narrow xs holds) (wide x) refl (narrow x) refl
  where
    by : (Unit {0} → filter narrow (filter wide xs) ≡ filter narrow xs) → (b : Bool) → wide x ≡ b → (c : Bool) → narrow x ≡ c
        → filter narrow (cond b (x ∷ filter wide xs) (filter wide xs)) ≡ cond c (x ∷ filter narrow xs) (filter narrow xs)
    by rest true e true f = ap (λ (d : Bool). cond d (x ∷ filter narrow (filter wide xs)) (filter narrow (filter wide xs))) f ∙ ap (λ (ys : List ℕ). x ∷ ys) (rest tt)
    by rest true e false f = ap (λ (d : Bool). cond d (x ∷ filter narrow (filter wide xs)) (filter narrow (filter wide xs))) f ∙ rest tt
    by rest false e true f = false_is_true (sym e ∙ holds x f)
    by rest false e false f = rest tt

-- FOUND

-- the number at a place is among them
pub among_at : (xs : List ℕ) (k n : ℕ) → k < length xs → slice_index_or xs k 0 ≡ n → is_among xs n ≡ true
among_at xs k n within is = list_any_at (nat_eq n) xs k 0 within (equal n (slice_index_or xs k 0) (sym is))

-- the last one is the greatest
last_greatest : (xs : List ℕ) (k last : ℕ) → Rise xs → suc k ≡ length xs → slice_get xs k ≡ Some last → (q : ℕ) → is_among xs q ≡ true → q ≤ last
last_greatest [] k last rise long is q there = false_is_true there
last_greatest (x ∷ []) zero last rise long is q there = by (among_cases x [] q there)
  where
    at_most : (a b c : ℕ) → a ≡ b → b ≡ c → a ≤ c
    at_most a b c e f = omega (arith, e, f)

    by : (q ≡ x) ⊎ (is_among [] q ≡ true) → q ≤ last
    by (inl same) = at_most q x last same (same_some x last is)
    by (inr none) = false_is_true none
last_greatest (x ∷ []) (suc k) last rise long is q there = absurd (no k long)
  where
    no : (k : ℕ) → suc (suc k) ≡ 1 → ⊥
    no k e = omega (arith, e)
last_greatest (x ∷ y ∷ ys) zero last rise long is q there = absurd (no (length ys) long)
  where
    no : (n : ℕ) → 1 ≡ suc (suc n) → ⊥
    no n e = omega (arith, e)
last_greatest (x ∷ y ∷ ys) (suc k) last rise long is q there =
    by (last_greatest (y ∷ ys) k last rise.1 (less k (length (y ∷ ys)) long) is) (among_cases x (y ∷ ys) q there)
  where
    less : (k n : ℕ) → suc (suc k) ≡ suc n → suc k ≡ n
    less k n e = omega (arith, e)

    below : (a b c d : ℕ) → a ≡ b → b < c → c ≤ d → a ≤ d
    below a b c d e f g = omega (arith, e, f, g)

    by : ((r : ℕ) → is_among (y ∷ ys) r ≡ true → r ≤ last) → (q ≡ x) ⊎ (is_among (y ∷ ys) q ≡ true) → q ≤ last
    by rest (inl same) = below q x y last same rise.0.0 (rest y (among_first y ys y refl))
    by rest (inr behind) = rest q behind

pub past_last : (xs : List ℕ) (last n : ℕ) → Rise xs → slice_get xs (length xs - 1) ≡ Some last → last < n → (q : ℕ) → is_among xs q ≡ true → q < n
past_last [] last n rise is less q there = false_is_true there
past_last (x ∷ xs) last n rise is less q there =
    let at : length (x ∷ xs) - 1 ≡ length xs = one_less (length xs) in
    lower q last n (last_greatest (x ∷ xs) (length xs) last rise refl (sym (ap (λ (k : ℕ). slice_get (x ∷ xs) k) at) ∙ is) q there) less
  where
    one_less : (n : ℕ) → suc n - 1 ≡ n
    one_less n = omega arith

    lower : (a b c : ℕ) → a ≤ b → b < c → a < c
    lower a b c e f = omega (arith, e, f)

pub found_equal : (x y : ℕ) → nat_cmp x y ≡ Equal → x ≡ y
found_equal x y is = by (leb_tells (suc x) y) (eqb_tells x y) is
  where
    by : ((nat_lt x y ≡ true) × (suc x ≤ y)) ⊎ ((nat_lt x y ≡ false) × (y < suc x)) → ((nat_eq x y ≡ true) × (x ≡ y)) ⊎ ((nat_eq x y ≡ false) × (x ≢ y))
        → cond (nat_lt x y) Less (cond (nat_eq x y) Equal Greater) ≡ Equal → x ≡ y
    by (inl less) b is =
        false_is_true (sym (ap is_lt (sym (ap (λ (c : Bool). cond c Less (cond (nat_eq x y) Equal Greater)) less.0) ∙ is)))
    by (inr more) (inl same) is = same.1
    by (inr more) (inr other) is =
        false_is_true
        (ap is_le
        (sym (ap (λ (c : Bool). cond c Less (cond (nat_eq x y) Equal Greater)) more.0 ∙ ap (λ (c : Bool). cond c Equal Greater) other.0) ∙ is))

-- LOOPS

-- at the end of a loop over a list all of it was read
pub all_taken : {A : Type 0} (xs : List A) (k : ℕ) → length xs ≤ k → k ≤ length xs → take k xs ≡ xs
all_taken xs k low high = ap (λ (n : ℕ). take n xs) (same k (length xs) low high) ∙ take-length xs
  where
    same : (a b : ℕ) → b ≤ a → a ≤ b → a ≡ b
    same a b x y = omega (arith, x, y)
