-- Who falls with a process: the spreading ends within as many rounds as numbers were drawn, and holds nobody needlessly.
use Rattle.std.specs.Prelude.{◌≡◌, ◌≢◌, ◌⊎◌, ℕ, zero, suc, ◌+◌, ◌<◌, ◌≤◌, List, [], ◌∷◌, length, filter, cond, Bool, true, false, not, ◌&&◌, ◌||◌, nat_eq, nat_lt, nat_le, refl}
use Rattle.std.specs.List.{list_any}
use Rattle.std.proofs.Common.{subst, sym, ◌∙◌, ap, inl, inr, arith, length-append}
use Rattle.std.proofs.lemmas.Bool.Decides.{eqb_tells, nat_tests}
use Rattle.world_rules.specs.declared.halt.End.{End}
use Rattle.world_rules.specs.declared.halt.End.TheVariants as EndIs
use Rattle.world_rules.specs.Part.{is_among, without_number}
use Rattle.world_rules.specs.World.{World, is_live, up_to}
use Rattle.world_rules.specs.Links.{are_linked, falls_with, spread, spread_times, fallen_with}
use Rattle.world_rules.specs.Falls.{IsClosed, falls}
use Rattle.world_rules.specs.Sound.{AreInOrder}
use Rattle.world_rules.specs.laws.KeepingLaws.{false_is_true}
use Rattle.world_rules.proofs.Chains.{live_there}
use Rattle.world_rules.proofs.Keeping.{there_drawn, drawn_among, both_true, within}

-- BOOLEANS

or_tells : (a b : Bool) → (a || b) ≡ true → (a ≡ true) ⊎ (b ≡ true)
or_tells true b e = inl refl
or_tells false b e = inr e

or_left : (a b : Bool) → a ≡ true → (a || b) ≡ true
or_left true b e = refl
or_left false b e = false_is_true e

or_right : (a b : Bool) → b ≡ true → (a || b) ≡ true
or_right true b e = refl
or_right false b e = e

and_both : (a b : Bool) → a ≡ true → b ≡ true → (a && b) ≡ true
and_both true b x y = y
and_both false b x y = false_is_true x

one_of : (b : Bool) → (b ≡ true) ⊎ (b ≡ false)
one_of true = inl refl
one_of false = inr refl

same_of : (a b : ℕ) → nat_eq a b ≡ true → a ≡ b
same_of a b e = grind (arith, nat_tests)

is_same : (a : ℕ) → nat_eq a a ≡ true
is_same a = grind (arith, nat_tests)

-- MEMBERS OF LISTS

any_among : (test : ℕ → Bool) (xs : List ℕ) → list_any test xs ≡ true → (x : ℕ) × ((is_among xs x ≡ true) × (test x ≡ true))
any_among test [] e = false_is_true e
any_among test (x ∷ xs) e = by (λ rest. any_among test xs rest) (or_tells (test x) (list_any test xs) e)
  where
    behind : (y : ℕ) × ((is_among xs y ≡ true) × (test y ≡ true)) → (y : ℕ) × ((is_among (x ∷ xs) y ≡ true) × (test y ≡ true))
    behind found = (found.0, (or_right (nat_eq found.0 x) (is_among xs found.0) found.1.0, found.1.1))

    by : (list_any test xs ≡ true → (y : ℕ) × ((is_among xs y ≡ true) × (test y ≡ true))) → (test x ≡ true) ⊎ (list_any test xs ≡ true)
        → (y : ℕ) × ((is_among (x ∷ xs) y ≡ true) × (test y ≡ true))
    by rest (inl is) = (x, (or_left (nat_eq x x) (is_among xs x) (is_same x), is))
    by rest (inr e) = behind (rest e)

among_any : (test : ℕ → Bool) (xs : List ℕ) (x : ℕ) → is_among xs x ≡ true → test x ≡ true → list_any test xs ≡ true
among_any test [] x there is = false_is_true there
among_any test (y ∷ xs) x there is = by (λ rest. among_any test xs x rest is) (or_tells (nat_eq x y) (is_among xs x) there)
  where
    by : (is_among xs x ≡ true → list_any test xs ≡ true) → (nat_eq x y ≡ true) ⊎ (is_among xs x ≡ true) → (test y || list_any test xs) ≡ true
    by rest (inl same) = or_left (test y) (list_any test xs) (ap (λ (n : ℕ). test n) (sym (same_of x y same)) ∙ is)
    by rest (inr there) = or_right (test y) (list_any test xs) (rest there)

filtered : (test : ℕ → Bool) (xs : List ℕ) (q : ℕ) → is_among xs q ≡ true → test q ≡ true → is_among (filter test xs) q ≡ true
filtered test [] q there is = there
filtered test (x ∷ xs) q there is = by (λ rest. filtered test xs q rest is) (or_tells (nat_eq q x) (is_among xs q) there) (test x) refl
  where
    by : (is_among xs q ≡ true → is_among (filter test xs) q ≡ true) → (nat_eq q x ≡ true) ⊎ (is_among xs q ≡ true) → (b : Bool) → test x ≡ b
        → is_among (cond b (x ∷ filter test xs) (filter test xs)) q ≡ true
    by rest (inl same) true e = or_left (nat_eq q x) (is_among (filter test xs) q) same
    by rest (inl same) false e = false_is_true (sym e ∙ ap (λ (n : ℕ). test n) (sym (same_of q x same)) ∙ is)
    by rest (inr there) true e = or_right (nat_eq q x) (is_among (filter test xs) q) (rest there)
    by rest (inr there) false e = rest there

of_filtered : (test : ℕ → Bool) (xs : List ℕ) (q : ℕ) → is_among (filter test xs) q ≡ true → (is_among xs q ≡ true) × (test q ≡ true)
of_filtered test [] q there = false_is_true there
of_filtered test (x ∷ xs) q there = by (λ rest. of_filtered test xs q rest) (test x) refl there
  where
    behind : (is_among xs q ≡ true) × (test q ≡ true) → (is_among (x ∷ xs) q ≡ true) × (test q ≡ true)
    behind both = (or_right (nat_eq q x) (is_among xs q) both.0, both.1)

    first : (is_among (filter test xs) q ≡ true → (is_among xs q ≡ true) × (test q ≡ true)) → test x ≡ true → (nat_eq q x ≡ true) ⊎ (is_among (filter test xs) q ≡ true)
        → (is_among (x ∷ xs) q ≡ true) × (test q ≡ true)
    first rest e (inl same) = (or_left (nat_eq q x) (is_among xs q) same, ap (λ (n : ℕ). test n) (same_of q x same) ∙ e)
    first rest e (inr there) = behind (rest there)

    by : (is_among (filter test xs) q ≡ true → (is_among xs q ≡ true) × (test q ≡ true)) → (b : Bool) → test x ≡ b
        → is_among (cond b (x ∷ filter test xs) (filter test xs)) q ≡ true → (is_among (x ∷ xs) q ≡ true) × (test q ≡ true)
    by rest true e there = first rest e (or_tells (nat_eq q x) (is_among (filter test xs) q) there)
    by rest false e there = behind (rest there)

abbrev Within : List ℕ → List ℕ → Type 0
Within xs ys = (q : ℕ) → is_among xs q ≡ true → is_among ys q ≡ true

-- two tests, of which the second passes all that the first does: as many pass, and then the same, or more do
abbrev Counted : (ℕ → Bool) → (ℕ → Bool) → List ℕ → Type 0
Counted f g xs =
    (length (filter f xs) < length (filter g xs))
    ⊎ ((length (filter f xs) ≡ length (filter g xs)) × ((q : ℕ) → is_among xs q ≡ true → g q ≡ true → f q ≡ true))

count_at : (f g : ℕ → Bool) (x : ℕ) (xs : List ℕ) (a b : Bool) → f x ≡ a → g x ≡ b → (f x ≡ true → g x ≡ true) → Counted f g xs
    → (length (cond a (x ∷ filter f xs) (filter f xs)) < length (cond b (x ∷ filter g xs) (filter g xs)))
    ⊎ ((length (cond a (x ∷ filter f xs) (filter f xs)) ≡ length (cond b (x ∷ filter g xs) (filter g xs))) × ((q : ℕ) → is_among (x ∷ xs) q ≡ true → g q ≡ true → f q ≡ true))
count_at f g x xs true true ea eb more (inl less) = inl (by (length (filter f xs)) (length (filter g xs)) less)
  where
    by : (m n : ℕ) → m < n → suc m < suc n
    by m n e = omega (arith, e)
count_at f g x xs true true ea eb more (inr same) = inr (
  ap (λ (n : ℕ). suc n) same.0,
  λ q there is. by q is (or_tells (nat_eq q x) (is_among xs q) there),
)
  where
    by : (q : ℕ) → g q ≡ true → (nat_eq q x ≡ true) ⊎ (is_among xs q ≡ true) → f q ≡ true
    by q is (inl here) = ap (λ (n : ℕ). f n) (same_of q x here) ∙ ea
    by q is (inr there) = same.1 q there is
count_at f g x xs true false ea eb more c = false_is_true (sym eb ∙ more ea)
count_at f g x xs false true ea eb more (inl less) = inl (by (length (filter f xs)) (length (filter g xs)) less)
  where
    by : (m n : ℕ) → m < n → m < suc n
    by m n e = omega (arith, e)
count_at f g x xs false true ea eb more (inr same) = inl (by (length (filter f xs)) (length (filter g xs)) same.0)
  where
    by : (m n : ℕ) → m ≡ n → m < suc n
    by m n e = omega (arith, e)
count_at f g x xs false false ea eb more (inl less) = inl less
count_at f g x xs false false ea eb more (inr same) = inr (same.0, λ q there is. by q is (or_tells (nat_eq q x) (is_among xs q) there))
  where
    by : (q : ℕ) → g q ≡ true → (nat_eq q x ≡ true) ⊎ (is_among xs q ≡ true) → f q ≡ true
    by q is (inl here) = false_is_true (sym eb ∙ ap (λ (n : ℕ). g n) (sym (same_of q x here)) ∙ is)
    by q is (inr there) = same.1 q there is

count : (f g : ℕ → Bool) (xs : List ℕ) → ((q : ℕ) → f q ≡ true → g q ≡ true) → Counted f g xs
count f g [] more = inr (refl, λ q there is. false_is_true there)
count f g (x ∷ xs) more = count_at f g x xs (f x) (g x) refl refl (more x) (count f g xs more)

at_most : (test : ℕ → Bool) (xs : List ℕ) → length (filter test xs) ≤ length xs
at_most test [] = none
  where
    none : 0 ≤ 0
    none = omega arith
at_most test (x ∷ xs) = by (test x) (at_most test xs)
  where
    both : (m n : ℕ) → m ≤ n → suc m ≤ suc n
    both m n e = omega (arith, e)

    one : (m n : ℕ) → m ≤ n → m ≤ suc n
    one m n e = omega (arith, e)

    by : (b : Bool) → length (filter test xs) ≤ length xs → length (cond b (x ∷ filter test xs) (filter test xs)) ≤ suc (length xs)
    by true e = both (length (filter test xs)) (length xs) e
    by false e = one (length (filter test xs)) (length xs) e

up_to_length : (n : ℕ) → length (up_to n) ≡ n
up_to_length zero = refl
up_to_length (suc n) =
    length-append (up_to n) (suc n ∷ []) ∙ ap (λ (k : ℕ). k + 1) (up_to_length n) ∙ one_more n
  where
    one_more : (n : ℕ) → n + 1 ≡ suc n
    one_more n = omega arith

-- SPREADING

falls_more : (w : World) (xs ys : List ℕ) (q : ℕ) → Within xs ys → falls_with w xs q ≡ true → falls_with w ys q ≡ true
falls_more w xs ys q more falls =
    let both = both_true (is_live (w.process q).stage && (w.process q).dies) (list_any (λ member. are_linked w member q) xs) falls in
    let found = any_among (λ member. are_linked w member q) xs both.1 in
    and_both (is_live (w.process q).stage && (w.process q).dies) (list_any (λ member. are_linked w member q) ys) both.0
    (among_any (λ member. are_linked w member q) ys found.0 (more found.0 found.1.0) found.1.1)

spread_more : (w : World) (xs ys : List ℕ) → Within xs ys → Within (spread w xs) (spread w ys)
spread_more w xs ys more q there =
    let both = of_filtered (λ pid. is_among xs pid || falls_with w xs pid) (up_to w.numbers_drawn) q there in
    filtered (λ pid. is_among ys pid || falls_with w ys pid) (up_to w.numbers_drawn) q both.0 (by (or_tells (is_among xs q) (falls_with w xs q) both.1))
  where
    by : (is_among xs q ≡ true) ⊎ (falls_with w xs q ≡ true) → (is_among ys q || falls_with w ys q) ≡ true
    by (inl is) = or_left (is_among ys q) (falls_with w ys q) (more q is)
    by (inr falls) = or_right (is_among ys q) (falls_with w ys q) (falls_more w xs ys q more falls)

-- the rounds of the spreading
abbrev rounds : World → ℕ → ℕ → List ℕ
rounds w pid k = spread_times k w (pid ∷ [])

only_first : (pid q : ℕ) → is_among (pid ∷ []) q ≡ true → q ≡ pid
only_first pid q there = by (or_tells (nat_eq q pid) false there)
  where
    by : (nat_eq q pid ≡ true) ⊎ (false ≡ true) → q ≡ pid
    by (inl same) = same_of q pid same
    by (inr none) = false_is_true none

abbrev Here : World → ℕ → Type 0
Here w pid = is_among (up_to w.numbers_drawn) pid ≡ true

-- each round holds the one before
grow : (w : World) (pid : ℕ) → Here w pid → (k : ℕ) → Within (rounds w pid k) (rounds w pid (suc k))
grow w pid here zero q there =
    filtered (λ p. is_among (pid ∷ []) p || falls_with w (pid ∷ []) p) (up_to w.numbers_drawn) q
    (ap (λ (n : ℕ). is_among (up_to w.numbers_drawn) n) (only_first pid q there) ∙ here)
    (or_left (is_among (pid ∷ []) q) (falls_with w (pid ∷ []) q) there)
grow w pid here (suc k) q there = spread_more w (rounds w pid k) (rounds w pid (suc k)) (grow w pid here k) q there

first_stays : (w : World) (pid : ℕ) → Here w pid → (k : ℕ) → is_among (rounds w pid k) pid ≡ true
first_stays w pid here zero = or_left (nat_eq pid pid) false (is_same pid)
first_stays w pid here (suc k) = grow w pid here k pid (first_stays w pid here k)

-- the spreading has ended after so many rounds
abbrev Stable : World → ℕ → ℕ → Type 0
Stable w pid k = Within (rounds w pid (suc k)) (rounds w pid k)

grow_or_stable : (w : World) (pid : ℕ) → Here w pid → (k : ℕ) →
    (length (rounds w pid (suc k)) < length (rounds w pid (suc (suc k)))) ⊎ Stable w pid (suc k)
grow_or_stable w pid here k =
    by (count (λ p. is_among (rounds w pid k) p || falls_with w (rounds w pid k) p) (λ p. is_among (rounds w pid (suc k)) p || falls_with w (rounds w pid (suc k)) p) (up_to w.numbers_drawn)
    (λ q is. more q (or_tells (is_among (rounds w pid k) q) (falls_with w (rounds w pid k) q) is)))
  where
    more : (q : ℕ) → (is_among (rounds w pid k) q ≡ true) ⊎ (falls_with w (rounds w pid k) q ≡ true) → (is_among (rounds w pid (suc k)) q || falls_with w (rounds w pid (suc k)) q) ≡ true
    more q (inl is) = or_left (is_among (rounds w pid (suc k)) q) (falls_with w (rounds w pid (suc k)) q) (grow w pid here k q is)
    more q (inr is) = or_right (is_among (rounds w pid (suc k)) q) (falls_with w (rounds w pid (suc k)) q) (falls_more w (rounds w pid k) (rounds w pid (suc k)) q (grow w pid here k) is)

    by : Counted (λ p. is_among (rounds w pid k) p || falls_with w (rounds w pid k) p) (λ p. is_among (rounds w pid (suc k)) p || falls_with w (rounds w pid (suc k)) p) (up_to w.numbers_drawn)
        → (length (rounds w pid (suc k)) < length (rounds w pid (suc (suc k)))) ⊎ Stable w pid (suc k)
    by (inl less) = inl less
    by (inr same) = inr (λ q there.
        let both = of_filtered (λ p. is_among (rounds w pid (suc k)) p || falls_with w (rounds w pid (suc k)) p) (up_to w.numbers_drawn) q there in
        filtered (λ p. is_among (rounds w pid k) p || falls_with w (rounds w pid k) p) (up_to w.numbers_drawn) q both.0 (same.1 q both.0 both.1))

some_length : (xs : List ℕ) (q : ℕ) → is_among xs q ≡ true → 0 < length xs
some_length [] q there = false_is_true there
some_length (x ∷ xs) q there = by (length xs)
  where
    by : (n : ℕ) → 0 < suc n
    by n = omega arith

-- after k rounds more the spreading holds more than k, or has ended
enough : (w : World) (pid : ℕ) → Here w pid → (k : ℕ) → (k < length (rounds w pid (suc k))) ⊎ Stable w pid (suc k)
enough w pid here zero = inl (some_length (rounds w pid (suc zero)) pid (first_stays w pid here (suc zero)))
enough w pid here (suc k) = by (enough w pid here k) (grow_or_stable w pid here k)
  where
    more : (k m n : ℕ) → k < m → m < n → suc k < n
    more k m n x y = omega (arith, x, y)

    by : (k < length (rounds w pid (suc k))) ⊎ Stable w pid (suc k) → (length (rounds w pid (suc k)) < length (rounds w pid (suc (suc k)))) ⊎ Stable w pid (suc k)
        → (suc k < length (rounds w pid (suc (suc k)))) ⊎ Stable w pid (suc (suc k))
    by (inr stable) y = inr (spread_more w (rounds w pid (suc (suc k))) (rounds w pid (suc k)) stable)
    by (inl x) (inr stable) = inr (spread_more w (rounds w pid (suc (suc k))) (rounds w pid (suc k)) stable)
    by (inl x) (inl y) = inl (more k (length (rounds w pid (suc k))) (length (rounds w pid (suc (suc k)))) x y)

stable_at : (w : World) (pid : ℕ) → Here w pid → (n : ℕ) → w.numbers_drawn ≡ n → Stable w pid n
stable_at w pid here zero is = false_is_true (ap (λ (n : ℕ). is_among (up_to n) pid) (sym is) ∙ here)
stable_at w pid here (suc m) is = by (enough w pid here m) (grow_or_stable w pid here m)
  where
    high : length (rounds w pid (suc (suc m))) ≤ suc m
    high =
        subst (λ (n : ℕ). length (rounds w pid (suc (suc m))) ≤ n) (up_to_length w.numbers_drawn ∙ is)
        (at_most (λ p. is_among (rounds w pid (suc m)) p || falls_with w (rounds w pid (suc m)) p) (up_to w.numbers_drawn))

    none : (m a b : ℕ) → m < a → a < b → b ≤ suc m → ⊥
    none m a b x y z = omega (arith, x, y, z)

    by : (m < length (rounds w pid (suc m))) ⊎ Stable w pid (suc m) → (length (rounds w pid (suc m)) < length (rounds w pid (suc (suc m)))) ⊎ Stable w pid (suc m) → Stable w pid (suc m)
    by (inr stable) y = stable
    by (inl x) (inr stable) = stable
    by (inl x) (inl y) = absurd (none m (length (rounds w pid (suc m))) (length (rounds w pid (suc (suc m)))) x y high)

-- WHO FALLS

fallen_is : (w : World) (pid : ℕ) (end : End) → (end ≡ EndIs.Done → ⊥) → fallen_with w pid end ≡ without_number pid (rounds w pid w.numbers_drawn)
fallen_is w pid EndIs.Done isnt = absurd (isnt refl)
fallen_is w pid _ isnt = refl

fallen_within : (w : World) (pid : ℕ) (end : End) (q : ℕ) → is_among (fallen_with w pid end) q ≡ true → is_among (rounds w pid w.numbers_drawn) q ≡ true
fallen_within w pid EndIs.Done q is = false_is_true is
fallen_within w pid _ q is = (of_filtered (λ n. not (nat_eq n pid)) (rounds w pid w.numbers_drawn) q is).0

live_here : (w : World) (q : ℕ) → AreInOrder w → is_live (w.process q).stage ≡ true → Here w q
live_here w q order live =
    let both = both_true (nat_lt 0 q) (nat_le q w.numbers_drawn) (there_drawn w q order (live_there (w.process q).stage live)) in
    drawn_among w.numbers_drawn q (within 1 q both.0) (within q w.numbers_drawn both.1)

pub falls_closed : (w : World) (pid : ℕ) (end : End) → AreInOrder w → is_live (w.process pid).stage ≡ true → (end ≡ EndIs.Done → ⊥) → IsClosed w (falls w pid end)
falls_closed w pid end order live isnt member other is other_live dies linked = by (eqb_tells other pid)
  where
    here : Here w pid
    here = live_here w pid order live

    among : (nat_eq member pid ≡ true) ⊎ (is_among (fallen_with w pid end) member ≡ true) → is_among (rounds w pid w.numbers_drawn) member ≡ true
    among (inl same) = ap (λ (k : ℕ). is_among (rounds w pid w.numbers_drawn) k) (same_of member pid same) ∙ first_stays w pid here w.numbers_drawn
    among (inr falls) = fallen_within w pid end member falls

    reached : is_among (rounds w pid (suc w.numbers_drawn)) other ≡ true
    reached =
        filtered (λ p. is_among (rounds w pid w.numbers_drawn) p || falls_with w (rounds w pid w.numbers_drawn) p) (up_to w.numbers_drawn) other (live_here w other order other_live)
        (or_right (is_among (rounds w pid w.numbers_drawn) other) (falls_with w (rounds w pid w.numbers_drawn) other)
        (and_both (is_live (w.process other).stage && (w.process other).dies) (list_any (λ m. are_linked w m other) (rounds w pid w.numbers_drawn))
        (and_both (is_live (w.process other).stage) (w.process other).dies other_live dies)
        (among_any (λ m. are_linked w m other) (rounds w pid w.numbers_drawn) member (among (or_tells (nat_eq member pid) (is_among (fallen_with w pid end) member) is)) linked)))

    by : ((nat_eq other pid ≡ true) × (other ≡ pid)) ⊎ ((nat_eq other pid ≡ false) × (other ≢ pid)) → falls w pid end other ≡ true
    by (inl same) = or_left (nat_eq other pid) (is_among (fallen_with w pid end) other) same.0
    by (inr differs) =
        or_right (nat_eq other pid) (is_among (fallen_with w pid end) other)
        (ap (λ (xs : List ℕ). is_among xs other) (fallen_is w pid end isnt)
        ∙ filtered (λ k. not (nat_eq k pid)) (rounds w pid w.numbers_drawn) other (stable_at w pid here w.numbers_drawn refl other reached) (ap (λ (b : Bool). not b) differs.0))

rounds_least : (w : World) (pid : ℕ) (is_member : ℕ → Bool) → is_member pid ≡ true → IsClosed w is_member → (k q : ℕ) → is_among (rounds w pid k) q ≡ true → is_member q ≡ true
rounds_least w pid is_member first closed zero q there = ap (λ (n : ℕ). is_member n) (only_first pid q there) ∙ first
rounds_least w pid is_member first closed (suc k) q there =
    by (λ p is. rounds_least w pid is_member first closed k p is)
    (or_tells (is_among (rounds w pid k) q) (falls_with w (rounds w pid k) q)
    (of_filtered (λ p. is_among (rounds w pid k) p || falls_with w (rounds w pid k) p) (up_to w.numbers_drawn) q there).1)
  where
    by : ((p : ℕ) → is_among (rounds w pid k) p ≡ true → is_member p ≡ true) → (is_among (rounds w pid k) q ≡ true) ⊎ (falls_with w (rounds w pid k) q ≡ true) → is_member q ≡ true
    by rest (inl is) = rest q is
    by rest (inr falls) =
        let both = both_true (is_live (w.process q).stage && (w.process q).dies) (list_any (λ m. are_linked w m q) (rounds w pid k)) falls in
        let live = both_true (is_live (w.process q).stage) (w.process q).dies both.0 in
        let found = any_among (λ m. are_linked w m q) (rounds w pid k) both.1 in
        closed found.0 q (rest found.0 found.1.0) live.0 live.1 found.1.1

pub falls_least : (w : World) (pid : ℕ) (end : End) (is_member : ℕ → Bool) → is_member pid ≡ true → IsClosed w is_member → (other : ℕ) → falls w pid end other ≡ true → is_member other ≡ true
falls_least w pid end is_member first closed other is = by (or_tells (nat_eq other pid) (is_among (fallen_with w pid end) other) is)
  where
    by : (nat_eq other pid ≡ true) ⊎ (is_among (fallen_with w pid end) other ≡ true) → is_member other ≡ true
    by (inl same) = ap (λ (n : ℕ). is_member n) (same_of other pid same) ∙ first
    by (inr falls) = rounds_least w pid is_member first closed w.numbers_drawn other (fallen_within w pid end other falls)
