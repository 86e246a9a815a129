use Rattle.std.proofs.Common.{◌≡◌, ◌≢◌, ◌⊎◌, ℕ, zero, suc, ◌+◌, ◌<◌, ◌≤◌, List, [], ◌∷◌, ◌++◌, length, filter, take, drop, cond, not, Option, Some, None, Bool, true, false, ◌||◌, nat_eq, refl, sym, ◌∙◌, ap, subst, inl, inr, arith}
use Rattle.std.specs.Prelude.{nat_lt, nat_le, if◌then◌else◌}
use Rattle.std.proofs.lemmas.Bool.Decides.{eqb_tells, leb_tells, nat_tests}
use Rattle.world_rules.specs.Part.{is_among, with_number, without_number, handles_in, handle_at, emptied}
use Rattle.world_rules.specs.Streams.{one_if}
use Rattle.world_rules.specs.Sound.{times}
use Rattle.world_rules.specs.laws.BirthLaws.{none_is_some}
use Rattle.world_rules.specs.laws.KeepingLaws.{false_is_true}

-- How often a number is in a list, and how long a list of different numbers is.

pub one_more : (b : Bool) (n : ℕ) → one_if b n ≡ n + one_if b 0
one_more true n = omega arith
one_more false n = omega arith

pub times-append : (k : ℕ) (xs ys : List ℕ) → times k (xs ++ ys) ≡ times k xs + times k ys
times-append k [] ys = none (times k ys)
  where
    none : (n : ℕ) → n ≡ 0 + n
    none n = omega arith
times-append k (x ∷ xs) ys = by (times-append k xs ys) (nat_eq k x)
  where
    more : (a b c : ℕ) → a ≡ b + c → a + 1 ≡ b + 1 + c
    more a b c e = omega (arith, e)

    by : times k (xs ++ ys) ≡ times k xs + times k ys → (b : Bool) → one_if b (times k (xs ++ ys)) ≡ one_if b (times k xs) + times k ys
    by rest true = more (times k (xs ++ ys)) (times k xs) (times k ys) rest
    by rest false = rest

times_filter : (test : ℕ → Bool) (k : ℕ) (xs : List ℕ) → times k (filter test xs) ≡ (if test k then times k xs else 0)
times_filter test k [] = by (test k)
  where
    by : (b : Bool) → ◌≡◌ {A = ℕ} 0 (if b then 0 else 0)
    by true = refl
    by false = refl
times_filter test k (x ∷ xs) = by (times_filter test k xs) (eqb_tells k x) (test x) refl
  where
    kept : k ≡ x → nat_eq k x ≡ true → test x ≡ true → times k (filter test xs) ≡ (if test k then times k xs else 0)
        → one_if (nat_eq k x) (times k (filter test xs)) ≡ (if test k then one_if (nat_eq k x) (times k xs) else 0)
    kept same is passes rest =
        let here : test k ≡ true = ap (λ (n : ℕ). test n) same ∙ passes in
        ap (λ (n : ℕ). one_if (nat_eq k x) n) (rest ∙ ap (λ (b : Bool). if b then times k xs else 0) here)
        ∙ ap (λ (b : Bool). if b then one_if (nat_eq k x) (times k xs) else 0) (sym here)

    lost : k ≡ x → test x ≡ false → times k (filter test xs) ≡ (if test k then times k xs else 0)
        → times k (filter test xs) ≡ (if test k then one_if (nat_eq k x) (times k xs) else 0)
    lost same fails rest =
        let here : test k ≡ false = ap (λ (n : ℕ). test n) same ∙ fails in
        rest ∙ ap (λ (b : Bool). if b then times k xs else 0) here ∙ ap (λ (b : Bool). if b then one_if (nat_eq k x) (times k xs) else 0) (sym here)

    other : nat_eq k x ≡ false → times k (filter test xs) ≡ (if test k then times k xs else 0) → (b : Bool)
        → times k (cond b (x ∷ filter test xs) (filter test xs)) ≡ (if test k then one_if (nat_eq k x) (times k xs) else 0)
    other isnt rest true =
        ap (λ (b : Bool). one_if b (times k (filter test xs))) isnt ∙ rest ∙ ap (λ (b : Bool). if test k then one_if b (times k xs) else 0) (sym isnt)
    other isnt rest false = rest ∙ ap (λ (b : Bool). if test k then one_if b (times k xs) else 0) (sym isnt)

    by : times k (filter test xs) ≡ (if test k then times k xs else 0) → ((nat_eq k x ≡ true) × (k ≡ x)) ⊎ ((nat_eq k x ≡ false) × (k ≢ x)) → (b : Bool) → test x ≡ b
        → times k (cond b (x ∷ filter test xs) (filter test xs)) ≡ (if test k then one_if (nat_eq k x) (times k xs) else 0)
    by rest (inl same) true e = kept same.1 same.0 e rest
    by rest (inl same) false e = lost same.1 e rest
    by rest (inr differs) b e = other differs.0 rest b

times_none : (k : ℕ) (xs : List ℕ) → is_among xs k ≡ false → times k xs ≡ 0
times_none k [] none = refl
times_none k (x ∷ xs) none = by (λ rest. times_none k xs rest) (nat_eq k x) none
  where
    by : (is_among xs k ≡ false → times k xs ≡ 0) → (b : Bool) → (b || is_among xs k) ≡ false → one_if b (times k xs) ≡ 0
    by rest true none = false_is_true (sym none)
    by rest false none = rest none

-- what is among them is there once at least
pub times-some : (k : ℕ) (xs : List ℕ) → is_among xs k ≡ true → 1 ≤ times k xs
times-some k [] is = false_is_true is
times-some k (x ∷ xs) is = by (λ rest. times-some k xs rest) (nat_eq k x) is
  where
    more : (n : ℕ) → 1 ≤ n + 1
    more n = omega arith

    by : (is_among xs k ≡ true → 1 ≤ times k xs) → (b : Bool) → (b || is_among xs k) ≡ true → 1 ≤ one_if b (times k xs)
    by rest true is = more (times k xs)
    by rest false is = rest is

-- what is there no time isn't among them
pub absent : (k : ℕ) (xs : List ℕ) → times k xs ≡ 0 → is_among xs k ≡ false
absent k xs none = by (is_among xs k) refl
  where
    no : (n : ℕ) → 1 ≤ n → n ≡ 0 → ⊥
    no n some none = omega (arith, some, none)

    by : (b : Bool) → is_among xs k ≡ b → is_among xs k ≡ false
    by true e = absurd (no (times k xs) (times-some k xs e) none)
    by false e = e

lt_true : (a b : ℕ) → a < b → nat_lt a b ≡ true
lt_true a b less = grind (arith, nat_tests)

lt_false : (a b : ℕ) → b ≤ a → nat_lt a b ≡ false
lt_false a b more = grind (arith, nat_tests)

-- a number that was there once, taken out
pub without-once : (n k : ℕ) (xs : List ℕ) → times n xs ≡ 1 → times k xs ≡ one_if (nat_eq k n) (times k (without_number n xs))
without-once n k xs once = by (eqb_tells k n)
  where
    by : ((nat_eq k n ≡ true) × (k ≡ n)) ⊎ ((nat_eq k n ≡ false) × (k ≢ n)) → times k xs ≡ one_if (nat_eq k n) (times k (without_number n xs))
    by (inl same) =
        ap (λ (m : ℕ). times m xs) same.1 ∙ once
        ∙ ap (λ (m : ℕ). m + 1) (sym (times_filter (λ m. not (nat_eq m n)) k xs ∙ ap (λ (b : Bool). if not b then times k xs else 0) same.0))
        ∙ ap (λ (b : Bool). one_if b (times k (without_number n xs))) (sym same.0)
    by (inr other) =
        sym (times_filter (λ m. not (nat_eq m n)) k xs ∙ ap (λ (b : Bool). if not b then times k xs else 0) other.0)
        ∙ ap (λ (b : Bool). one_if b (times k (without_number n xs))) (sym other.0)

-- a number that wasn't there, put in
pub with-once : (n k : ℕ) (xs : List ℕ) → times n xs ≡ 0 → times k (with_number n xs) ≡ one_if (nat_eq k n) (times k xs)
with-once n k xs none =
    times-append k (filter (λ m. nat_lt m n) xs) (n ∷ filter (λ m. nat_lt n m) xs)
    ∙ ap (λ (a : ℕ). a + one_if (nat_eq k n) (times k (filter (λ m. nat_lt n m) xs))) (times_filter (λ m. nat_lt m n) k xs)
    ∙ ap (λ (a : ℕ). (if nat_lt k n then times k xs else 0) + one_if (nat_eq k n) a) (times_filter (λ m. nat_lt n m) k xs)
    ∙ by (eqb_tells k n)
  where
    at : (a b : Bool) → nat_lt k n ≡ a → nat_lt n k ≡ b → (e : Bool) → nat_eq k n ≡ e →
        (if a then times k xs else 0) + one_if e (if b then times k xs else 0) ≡ one_if e (times k xs) →
        (if nat_lt k n then times k xs else 0) + one_if (nat_eq k n) (if nat_lt n k then times k xs else 0) ≡ one_if (nat_eq k n) (times k xs)
    at a b low high e is goal =
        ap (λ (c : Bool). (if c then times k xs else 0) + one_if (nat_eq k n) (if nat_lt n k then times k xs else 0)) low
        ∙ ap (λ (c : Bool). (if a then times k xs else 0) + one_if (nat_eq k n) (if c then times k xs else 0)) high
        ∙ ap (λ (c : Bool). (if a then times k xs else 0) + one_if c (if b then times k xs else 0)) is
        ∙ goal ∙ ap (λ (c : Bool). one_if c (times k xs)) (sym is)

    le : (a b : ℕ) → a ≡ b → b ≤ a
    le a b e = omega (arith, e)

    ge : (a b : ℕ) → a ≡ b → a ≤ b
    ge a b e = omega (arith, e)

    low_le : (a b : ℕ) → a < b → a ≤ b
    low_le a b e = omega (arith, e)

    first : (t : ℕ) → t ≡ 0 → 0 + (0 + 1) ≡ t + 1
    first t e = omega (arith, e)

    left : (t : ℕ) → t + 0 ≡ t
    left t = omega arith

    right : (t : ℕ) → 0 + t ≡ t
    right t = omega arith

    apart : (a b : ℕ) → a ≢ b → (a < b) ⊎ (b < a)
    apart a b other = side (leb_tells a b)
      where
        less : (a b : ℕ) → a ≤ b → a ≢ b → a < b
        less a b x y = omega (arith, x, y)

        side : ((nat_le a b ≡ true) × (a ≤ b)) ⊎ ((nat_le a b ≡ false) × (b < a)) → (a < b) ⊎ (b < a)
        side (inl h) = inl (less a b h.1 other)
        side (inr h) = inr h.1

    by : ((nat_eq k n ≡ true) × (k ≡ n)) ⊎ ((nat_eq k n ≡ false) × (k ≢ n)) →
        (if nat_lt k n then times k xs else 0) + one_if (nat_eq k n) (if nat_lt n k then times k xs else 0) ≡ one_if (nat_eq k n) (times k xs)
    by (inl same) =
        at false false (lt_false k n (le k n same.1)) (lt_false n k (ge k n same.1)) true same.0
        (first (times k xs) (ap (λ (m : ℕ). times m xs) same.1 ∙ none))
    by (inr other) = elsewhere (apart k n other.1)
      where
        elsewhere : (k < n) ⊎ (n < k) →
            (if nat_lt k n then times k xs else 0) + one_if (nat_eq k n) (if nat_lt n k then times k xs else 0) ≡ one_if (nat_eq k n) (times k xs)
        elsewhere (inl less) = at true false (lt_true k n less) (lt_false n k (low_le k n less)) false other.0 (left (times k xs))
        elsewhere (inr more) = at false true (lt_false k n (low_le n k more)) (lt_true n k more) false other.0 (right (times k xs))

-- SLOTS

emptied_more : (s : Option ℕ) (slots : List (Option ℕ)) (slot : ℕ) → emptied (s ∷ slots) (suc slot) ≡ s ∷ emptied slots slot
emptied_more s slots slot = ap (λ (n : ℕ). s ∷ take slot slots ++ None ∷ drop n (s ∷ slots)) (e slot)
  where
    e : (n : ℕ) → suc n + 1 ≡ suc (n + 1)
    e n = omega arith

one_twice : (a b : Bool) (n : ℕ) → one_if a (one_if b n) ≡ one_if b (one_if a n)
one_twice true true n = refl
one_twice true false n = refl
one_twice false b n = refl

-- a slot that was emptied
pub emptied-times : (k : ℕ) (slots : List (Option ℕ)) (slot handle : ℕ) → handle_at slots slot ≡ Some handle
    → times k (handles_in slots) ≡ one_if (nat_eq k handle) (times k (handles_in (emptied slots slot)))
emptied-times k [] slot handle there = absurd (none_is_some there)
emptied-times k (x ∷ slots) zero handle there = ap (λ (o : Option ℕ). times k (handles_in (o ∷ slots))) there
emptied-times k (None ∷ slots) (suc slot) handle there =
    emptied-times k slots slot handle there
    ∙ sym (ap (λ (xs : List (Option ℕ)). one_if (nat_eq k handle) (times k (handles_in xs))) (emptied_more None slots slot))
emptied-times k (Some x ∷ slots) (suc slot) handle there =
    ap (λ (n : ℕ). one_if (nat_eq k x) n) (emptied-times k slots slot handle there)
    ∙ one_twice (nat_eq k x) (nat_eq k handle) (times k (handles_in (emptied slots slot)))
    ∙ sym (ap (λ (xs : List (Option ℕ)). one_if (nat_eq k handle) (times k (handles_in xs))) (emptied_more (Some x) slots slot))

-- a slot more
pub pushed-handles : (slots : List (Option ℕ)) (handle : ℕ) → handles_in (slots ++ Some handle ∷ []) ≡ handles_in slots ++ handle ∷ []
pushed-handles [] handle = refl
pushed-handles (None ∷ slots) handle = pushed-handles slots handle
pushed-handles (Some x ∷ slots) handle = ap (λ (xs : List ℕ). x ∷ xs) (pushed-handles slots handle)

-- DIFFERENT NUMBERS

without_length : (n : ℕ) (xs : List ℕ) → length xs ≡ length (without_number n xs) + times n xs
without_length n [] = refl
without_length n (x ∷ xs) = by (without_length n xs) (eqb_tells n x)
  where
    gone : (a b c : ℕ) → a ≡ b + c → suc a ≡ b + (c + 1)
    gone a b c e = omega (arith, e)

    kept : (a b c : ℕ) → a ≡ b + c → suc a ≡ suc b + c
    kept a b c e = omega (arith, e)

    turned : (a b : ℕ) → nat_eq a b ≡ true → nat_eq b a ≡ true
    turned a b e = grind (arith, nat_tests)

    apart : (a b : ℕ) → nat_eq a b ≡ false → nat_eq b a ≡ false
    apart a b e = grind (arith, nat_tests)

    by : length xs ≡ length (without_number n xs) + times n xs → ((nat_eq n x ≡ true) × (n ≡ x)) ⊎ ((nat_eq n x ≡ false) × (n ≢ x))
        → suc (length xs) ≡ length (cond (not (nat_eq x n)) (x ∷ without_number n xs) (without_number n xs)) + one_if (nat_eq n x) (times n xs)
    by rest (inl same) =
        rw (same.0, turned n x same.0) (gone (length xs) (length (without_number n xs)) (times n xs) rest)
    by rest (inr other) =
        rw (other.0, apart n x other.0) (kept (length xs) (length (without_number n xs)) (times n xs) rest)

-- different numbers below n are no more than n
pub at-most : (n : ℕ) (xs : List ℕ) → ((k : ℕ) → times k xs ≤ one_if (nat_lt k n) 0) → length xs ≤ n
at-most zero [] few = omega arith
at-most zero (x ∷ xs) few = absurd (no (times x (x ∷ xs)) (subst (λ (b : Bool). times x (x ∷ xs) ≤ one_if b 0) (lt_false x 0 (least x)) (few x)) (first (nat_eq x x) (times x xs) (equal x)))
  where
    least : (n : ℕ) → 0 ≤ n
    least n = omega arith

    equal : (n : ℕ) → nat_eq n n ≡ true
    equal n = grind (arith, nat_tests)

    first : (b : Bool) (t : ℕ) → b ≡ true → 1 ≤ one_if b t
    first true t e = omega arith
    first false t e = false_is_true e

    no : (t : ℕ) → t ≤ 0 → 1 ≤ t → ⊥
    no t a b = omega (arith, a, b)
at-most (suc n) xs few =
    bound (length xs) (length (without_number n xs)) (times n xs) (without_length n xs) (few_one (nat_lt n (suc n)) (few n)) (at-most n (without_number n xs) (λ k. fewer k (eqb_tells k n)))
  where
    bound : (a b c : ℕ) → a ≡ b + c → c ≤ 1 → b ≤ n → a ≤ suc n
    bound a b c e f g = omega (arith, e, f, g)

    few_one : (b : Bool) → times n xs ≤ one_if b 0 → times n xs ≤ 1
    few_one true h = h
    few_one false h = omega (arith, h)

    gone : (t : ℕ) (b : Bool) → t ≡ 0 → t ≤ one_if b 0
    gone t b e = omega (arith, e)

    below : (k : ℕ) → k ≢ n → nat_lt k (suc n) ≡ nat_lt k n
    below k other = side (leb_tells (suc k) n)
      where
        less : (a b : ℕ) → suc a ≤ b → nat_lt a (suc b) ≡ true
        less a b h = grind (arith, nat_tests)

        more : (a b : ℕ) → b < suc a → a ≢ b → nat_lt a (suc b) ≡ false
        more a b h other = grind (arith, nat_tests)

        side : ((nat_le (suc k) n ≡ true) × (suc k ≤ n)) ⊎ ((nat_le (suc k) n ≡ false) × (n < suc k)) → nat_lt k (suc n) ≡ nat_lt k n
        side (inl h) = less k n h.1 ∙ sym (lt_true k n h.1)
        side (inr h) = more k n h.1 other ∙ sym (lt_false k n (over k n h.1))
          where
            over : (a b : ℕ) → b < suc a → b ≤ a
            over a b h = omega (arith, h)

    fewer : (k : ℕ) → ((nat_eq k n ≡ true) × (k ≡ n)) ⊎ ((nat_eq k n ≡ false) × (k ≢ n)) → times k (without_number n xs) ≤ one_if (nat_lt k n) 0
    fewer k (inl same) =
        gone (times k (without_number n xs)) (nat_lt k n) (times_filter (λ m. not (nat_eq m n)) k xs ∙ ap (λ (b : Bool). if not b then times k xs else 0) same.0)
    fewer k (inr other) =
        rw (times_filter (λ m. not (nat_eq m n)) k xs, other.0, ← below k other.1) (few k)
