-- The list of the handles that a move shuts is determined by what it holds and by its order.
use Rattle.std.specs.Prelude.{◌≡◌, ◌≢◌, ◌⊎◌, ℕ, zero, suc, ◌<◌, ◌≤◌, List, [], ◌∷◌, ◌++◌, filter, cond, not, Option, Some, Bool, true, false, ◌||◌, nat_eq, if◌then◌else◌, refl}
use Rattle.std.specs.Option.{option_map_or}
use Rattle.std.proofs.Common.{subst, sym, ◌∙◌, ap, inl, inr, arith}
use Rattle.std.proofs.lemmas.Bool.Decides.{eqb_tells, nat_tests}
use Rattle.world_rules.specs.Part.{is_among, without_number}
use Rattle.world_rules.specs.Moves.{Place, Owners, is_before, stands_before, put_in_order, in_order}
use Rattle.world_rules.specs.laws.KeepingLaws.{false_is_true}

-- NUMBERS IN LISTS

pub equal : (a b : ℕ) → a ≡ b → nat_eq a b ≡ true
equal a b same = grind (arith, nat_tests)

pub unequal : (a b : ℕ) → a ≢ b → nat_eq a b ≡ false
unequal a b other = grind (arith, nat_tests)

pub same_of : (a b : ℕ) → nat_eq a b ≡ true → a ≡ b
same_of a b e = grind (arith, nat_tests)

-- a test is so or isn't
pub decided : (b : Bool) → (b ≡ true) ⊎ (b ≡ false)
decided true = inl refl
decided false = inr refl

-- the one of two, or the other
pub among_cases : (x : ℕ) (xs : List ℕ) (y : ℕ) → is_among (x ∷ xs) y ≡ true → (y ≡ x) ⊎ (is_among xs y ≡ true)
among_cases x xs y is = by (eqb_tells y x)
  where
    by : ((nat_eq y x ≡ true) × (y ≡ x)) ⊎ ((nat_eq y x ≡ false) × (y ≢ x)) → (y ≡ x) ⊎ (is_among xs y ≡ true)
    by (inl same) = inl same.1
    by (inr other) = inr (ap (λ (b : Bool). b || is_among xs y) (sym other.0) ∙ is)

pub among_first : (x : ℕ) (xs : List ℕ) (y : ℕ) → y ≡ x → is_among (x ∷ xs) y ≡ true
among_first x xs y same = ap (λ (b : Bool). b || is_among xs y) (equal y x same)

pub among_rest : (x : ℕ) (xs : List ℕ) (y : ℕ) → is_among xs y ≡ true → is_among (x ∷ xs) y ≡ true
among_rest x xs y is = by (nat_eq y x)
  where
    by : (b : Bool) → (b || is_among xs y) ≡ true
    by true = refl
    by false = is

pub among_append : (xs ys : List ℕ) (y : ℕ) → is_among (xs ++ ys) y ≡ true → (is_among xs y ≡ true) ⊎ (is_among ys y ≡ true)
among_append [] ys y is = inr is
among_append (x ∷ xs) ys y is = by (λ there. among_append xs ys y there) (among_cases x (xs ++ ys) y is)
  where
    behind : (is_among xs y ≡ true) ⊎ (is_among ys y ≡ true) → (is_among (x ∷ xs) y ≡ true) ⊎ (is_among ys y ≡ true)
    behind (inl there) = inl (among_rest x xs y there)
    behind (inr there) = inr there

    by : (is_among (xs ++ ys) y ≡ true → (is_among xs y ≡ true) ⊎ (is_among ys y ≡ true)) → (y ≡ x) ⊎ (is_among (xs ++ ys) y ≡ true)
        → (is_among (x ∷ xs) y ≡ true) ⊎ (is_among ys y ≡ true)
    by rest (inl same) = inl (among_first x xs y same)
    by rest (inr there) = behind (rest there)

pub among_left : (xs ys : List ℕ) (y : ℕ) → is_among xs y ≡ true → is_among (xs ++ ys) y ≡ true
among_left [] ys y is = false_is_true is
among_left (x ∷ xs) ys y is = by (λ there. among_left xs ys y there) (among_cases x xs y is)
  where
    by : (is_among xs y ≡ true → is_among (xs ++ ys) y ≡ true) → (y ≡ x) ⊎ (is_among xs y ≡ true) → is_among (x ∷ xs ++ ys) y ≡ true
    by rest (inl same) = among_first x (xs ++ ys) y same
    by rest (inr there) = among_rest x (xs ++ ys) y (rest there)

pub among_right : (xs ys : List ℕ) (y : ℕ) → is_among ys y ≡ true → is_among (xs ++ ys) y ≡ true
among_right [] ys y is = is
among_right (x ∷ xs) ys y is = among_rest x (xs ++ ys) y (among_right xs ys y is)

-- what a filter keeps
pub among_filter : (test : ℕ → Bool) (xs : List ℕ) (y : ℕ) → is_among (filter test xs) y ≡ true → (is_among xs y ≡ true) × (test y ≡ true)
among_filter test [] y is = false_is_true is
among_filter test (x ∷ xs) y is = by (λ there. among_filter test xs y there) (test x) refl is
  where
    here : (test x ≡ true) → (is_among (filter test xs) y ≡ true → (is_among xs y ≡ true) × (test y ≡ true)) → (y ≡ x) ⊎ (is_among (filter test xs) y ≡ true)
        → (is_among (x ∷ xs) y ≡ true) × (test y ≡ true)
    here e rest (inl same) = (among_first x xs y same, ap (λ (n : ℕ). test n) same ∙ e)
    here e rest (inr there) = (among_rest x xs y (rest there).0, (rest there).1)

    by : (is_among (filter test xs) y ≡ true → (is_among xs y ≡ true) × (test y ≡ true)) → (b : Bool) → test x ≡ b
        → is_among (cond b (x ∷ filter test xs) (filter test xs)) y ≡ true → (is_among (x ∷ xs) y ≡ true) × (test y ≡ true)
    by rest true e is = here e rest (among_cases x (filter test xs) y is)
    by rest false e is = (among_rest x xs y (rest is).0, (rest is).1)

pub filter_among : (test : ℕ → Bool) (xs : List ℕ) (y : ℕ) → is_among xs y ≡ true → test y ≡ true → is_among (filter test xs) y ≡ true
filter_among test [] y is passes = false_is_true is
filter_among test (x ∷ xs) y is passes = by (λ there. filter_among test xs y there passes) (test x) refl (among_cases x xs y is)
  where
    by : (is_among xs y ≡ true → is_among (filter test xs) y ≡ true) → (b : Bool) → test x ≡ b → (y ≡ x) ⊎ (is_among xs y ≡ true)
        → is_among (cond b (x ∷ filter test xs) (filter test xs)) y ≡ true
    by rest true e (inl same) = among_first x (filter test xs) y same
    by rest false e (inl same) = false_is_true (sym (ap (λ (n : ℕ). test n) same ∙ e) ∙ passes)
    by rest true e (inr there) = among_rest x (filter test xs) y (rest there)
    by rest false e (inr there) = rest there

-- without a number
pub among_without : (n : ℕ) (xs : List ℕ) (y : ℕ) → is_among (without_number n xs) y ≡ true → (is_among xs y ≡ true) × (y ≢ n)
among_without n xs y is =
    let both = among_filter (λ k. not (nat_eq k n)) xs y is in
    (both.0, λ same. false_is_true (sym (ap (λ (b : Bool). not b) (equal y n same)) ∙ both.1))

pub without_among : (n : ℕ) (xs : List ℕ) (y : ℕ) → is_among xs y ≡ true → y ≢ n → is_among (without_number n xs) y ≡ true
without_among n xs y is other =
    filter_among (λ k. not (nat_eq k n)) xs y is (ap (λ (b : Bool). not b) (unequal y n other))

pub without_none : (n : ℕ) (xs : List ℕ) → is_among xs n ≡ false → without_number n xs ≡ xs
without_none n [] none = refl
without_none n (x ∷ xs) none = by (λ rest. without_none n xs rest) (eqb_tells n x)
  where
    differs : (is_among xs n ≡ false → without_number n xs ≡ xs) → nat_eq n x ≡ false → n ≢ x → without_number n (x ∷ xs) ≡ x ∷ xs
    differs rest isnt other =
        ap (λ (b : Bool). cond (not b) (x ∷ without_number n xs) (without_number n xs)) (unequal x n (λ same. other (sym same)))
        ∙ ap (λ (ys : List ℕ). x ∷ ys) (rest (ap (λ (b : Bool). b || is_among xs n) (sym isnt) ∙ none))

    by : (is_among xs n ≡ false → without_number n xs ≡ xs) → ((nat_eq n x ≡ true) × (n ≡ x)) ⊎ ((nat_eq n x ≡ false) × (n ≢ x))
        → without_number n (x ∷ xs) ≡ x ∷ xs
    by rest (inl same) = false_is_true (sym none ∙ among_first x xs n same.1)
    by rest (inr other) = differs rest other.0 other.1

-- THE ORDER

-- of two handles of a list of those that are shut, the first goes before the second
abbrev pub Precedes : Owners → ℕ → ℕ → Type 0
Precedes owners a b = (stands_before owners b a ≡ false) × ((stands_before owners a b ≡ true) ⊎ (a < b))

-- a handle goes before each of these; and each of these before those that follow it
abbrev pub AllAfter : Owners → ℕ → List ℕ → Type 0
AllAfter owners x [] = Unit {0}
AllAfter owners x (y ∷ ys) = Precedes owners x y × AllAfter owners x ys

abbrev pub Ordered : Owners → List ℕ → Type 0
Ordered owners [] = Unit {0}
Ordered owners (x ∷ xs) = AllAfter owners x xs × Ordered owners xs

pub before_of : (owners : Owners) (a b : ℕ) (x y : Place) → owners a ≡ Some x → owners b ≡ Some y → stands_before owners a b ≡ is_before x y
before_of owners a b x y first second =
    ap (λ (o : Option Place). option_map_or (λ (p : Place). option_map_or (λ (q : Place). is_before p q) (owners b) false) o false) first
    ∙ ap (λ (o : Option Place). option_map_or (λ (q : Place). is_before x q) o false) second

pub after_at : (owners : Owners) (x : ℕ) (xs : List ℕ) (y : ℕ) → AllAfter owners x xs → is_among xs y ≡ true → Precedes owners x y
after_at owners x [] y all is = false_is_true is
after_at owners x (z ∷ zs) y all is = by (λ there. after_at owners x zs y all.1 there) (among_cases z zs y is)
  where
    by : (is_among zs y ≡ true → Precedes owners x y) → (y ≡ z) ⊎ (is_among zs y ≡ true) → Precedes owners x y
    by rest (inl same) = subst (λ (n : ℕ). Precedes owners x n) (sym same) all.0
    by rest (inr there) = rest there

pub after_all : (owners : Owners) (x : ℕ) (xs : List ℕ) → ((y : ℕ) → is_among xs y ≡ true → Precedes owners x y) → AllAfter owners x xs
after_all owners x [] each = tt
after_all owners x (y ∷ ys) each =
    (each y (among_first y ys y refl), after_all owners x ys (λ z there. each z (among_rest y ys z there)))

pub ordered_append : (owners : Owners) (xs ys : List ℕ) → Ordered owners xs → Ordered owners ys
    → ((x y : ℕ) → is_among xs x ≡ true → is_among ys y ≡ true → Precedes owners x y) → Ordered owners (xs ++ ys)
ordered_append owners [] ys first second across = second
ordered_append owners (x ∷ xs) ys first second across = (
  after_all owners x (xs ++ ys) (λ y there. by y (among_append xs ys y there)),
  ordered_append owners xs ys first.1 second (λ a b there here. across a b (among_rest x xs a there) here),
)
  where
    by : (y : ℕ) → (is_among xs y ≡ true) ⊎ (is_among ys y ≡ true) → Precedes owners x y
    by y (inl there) = after_at owners x xs y first.0 there
    by y (inr there) = across x y (among_first x xs x refl) there

ordered_without : (owners : Owners) (n : ℕ) (xs : List ℕ) → Ordered owners xs → Ordered owners (without_number n xs)
ordered_without owners n [] ordered = tt
ordered_without owners n (x ∷ xs) ordered = by (not (nat_eq x n)) (ordered_without owners n xs ordered.1)
  where
    by : (b : Bool) → Ordered owners (without_number n xs) → Ordered owners (cond b (x ∷ without_number n xs) (without_number n xs))
    by true rest = (after_all owners x (without_number n xs) (λ y there. after_at owners x xs y ordered.0 (among_without n xs y there).0), rest)
    by false rest = rest

-- THE GREATEST PUT BACK

put_first : (owners : Owners) (n : ℕ) (xs : List ℕ) → AllAfter owners n xs → ((y : ℕ) → is_among xs y ≡ true → y ≤ n) →
    put_in_order owners n xs ≡ n ∷ xs
put_first owners n [] after most = refl
put_first owners n (x ∷ xs) after most = by after.0.1
  where
    no : n < x → x ≤ n → ⊥
    no less more = omega (arith, less, more)

    by : (stands_before owners n x ≡ true) ⊎ (n < x) → put_in_order owners n (x ∷ xs) ≡ n ∷ x ∷ xs
    by (inl is) = ap (λ (b : Bool). if b then n ∷ x ∷ xs else (x ∷ put_in_order owners n xs)) is
    by (inr less) = absurd (no less (most x (among_first x xs x refl)))

not_itself : (owners : Owners) (n : ℕ) → Precedes owners n n → ⊥
not_itself owners n both = by both.1
  where
    no : n < n → ⊥
    no less = omega (arith, less)

    by : (stands_before owners n n ≡ true) ⊎ (n < n) → ⊥
    by (inl is) = false_is_true (sym both.0 ∙ is)
    by (inr less) = no less

put_back : (owners : Owners) (n : ℕ) (xs : List ℕ) → Ordered owners xs → is_among xs n ≡ true → ((y : ℕ) → is_among xs y ≡ true → y ≤ n) →
    put_in_order owners n (without_number n xs) ≡ xs
put_back owners n [] ordered is most = false_is_true is
put_back owners n (x ∷ xs) ordered is most =
    by (λ there. put_back owners n xs ordered.1 there (λ y here. most y (among_rest x xs y here))) (eqb_tells n x)
  where
    gone : n ≡ x → (b : Bool) → is_among xs n ≡ b → is_among xs n ≡ false
    gone same true e =
        absurd (not_itself owners n (subst (λ (m : ℕ). Precedes owners m n) (sym same) (after_at owners x xs n ordered.0 e)))
    gone same false e = e

    here : n ≡ x → put_in_order owners n (without_number n (x ∷ xs)) ≡ x ∷ xs
    here same =
        ap (λ (b : Bool). put_in_order owners n (cond (not b) (x ∷ without_number n xs) (without_number n xs))) (equal x n (sym same))
        ∙ ap (λ (ys : List ℕ). put_in_order owners n ys) (without_none n xs (gone same (is_among xs n) refl))
        ∙ put_first owners n xs (subst (λ (m : ℕ). AllAfter owners m xs) (sym same) ordered.0) (λ y there. most y (among_rest x xs y there))
        ∙ ap (λ (m : ℕ). m ∷ xs) same

    later : (put_in_order owners n (without_number n xs) ≡ xs) → n ≢ x → is_among xs n ≡ true → put_in_order owners n (without_number n (x ∷ xs)) ≡ x ∷ xs
    later rest other there =
        ap (λ (b : Bool). put_in_order owners n (cond (not b) (x ∷ without_number n xs) (without_number n xs))) (unequal x n (λ same. other (sym same)))
        ∙ ap (λ (b : Bool). if b then n ∷ x ∷ without_number n xs else (x ∷ put_in_order owners n (without_number n xs))) (after_at owners x xs n ordered.0 there).0
        ∙ ap (λ (ys : List ℕ). x ∷ ys) rest

    by : (is_among xs n ≡ true → put_in_order owners n (without_number n xs) ≡ xs) → ((nat_eq n x ≡ true) × (n ≡ x)) ⊎ ((nat_eq n x ≡ false) × (n ≢ x))
        → put_in_order owners n (without_number n (x ∷ xs)) ≡ x ∷ xs
    by rest (inl same) = here same.1
    by rest (inr other) =
        let there : is_among xs n ≡ true = ap (λ (b : Bool). b || is_among xs n) (sym other.0) ∙ is in later (rest there) other.1 there

-- a list in order that has exactly the handles below a number that pass a test is the list of those
pub in_order_is : (owners : Owners) (n : ℕ) (test : ℕ → Bool) (xs : List ℕ) → Ordered owners xs
    → ((y : ℕ) → is_among xs y ≡ true → (y < n) × (test y ≡ true)) → ((y : ℕ) → y < n → test y ≡ true → is_among xs y ≡ true)
    → in_order owners n test ≡ xs
in_order_is owners zero test [] ordered within all = refl
in_order_is owners zero test (x ∷ xs) ordered within all = absurd (none (within x (among_first x xs x refl)).0)
  where
    none : x < 0 → ⊥
    none less = omega (arith, less)
in_order_is owners (suc n) test xs ordered within all =
    by (in_order_is owners n test) (test n) refl
  where
    lower : (y : ℕ) → y < suc n → y ≢ n → y < n
    lower y less other = omega (arith, less, other)

    higher : (y : ℕ) → y < n → y < suc n
    higher y less = omega (arith, less)

    apart : (y : ℕ) → y < n → y ≢ n
    apart y less = omega (arith, less)

    at_most : (y : ℕ) → y < suc n → y ≤ n
    at_most y less = omega (arith, less)

    last : n < suc n
    last = omega arith

    by : ((ys : List ℕ) → Ordered owners ys → ((y : ℕ) → is_among ys y ≡ true → (y < n) × (test y ≡ true))
        → ((y : ℕ) → y < n → test y ≡ true → is_among ys y ≡ true) → in_order owners n test ≡ ys)
        → (b : Bool) → test n ≡ b → (if b then put_in_order owners n (in_order owners n test) else in_order owners n test) ≡ xs
    by rest true e =
        ap (λ (ys : List ℕ). put_in_order owners n ys)
        (rest (without_number n xs) (ordered_without owners n xs ordered)
        (λ y there. let both = among_without n xs y there in (lower y (within y both.0).0 both.1, (within y both.0).1))
        (λ y less passes. without_among n xs y (all y (higher y less) passes) (apart y less)))
        ∙ put_back owners n xs ordered (all n last e) (λ y there. at_most y (within y there).0)
    by rest false e =
        rest xs ordered
        (λ y there. (lower y (within y there).0 (λ same. false_is_true (sym (ap (λ (m : ℕ). test m) same ∙ e) ∙ (within y there).1)), (within y there).1))
        (λ y less passes. all y (higher y less) passes)
