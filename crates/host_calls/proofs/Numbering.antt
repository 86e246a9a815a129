-- A number among others, by test and as a fact; and a list with one element more in it.
use Rattle.std.proofs.Common.{◌≡◌, ℕ, zero, suc, ◌+◌, ◌<◌, ◌≤◌, Bool, true, false, ◌||◌, List, [], ◌∷◌, ◌++◌, length, refl, ap, sym, subst, ◌∙◌, ⊎_elim, inl, inr, arith, eqb}
use Rattle.std.specs.Prelude.{◌⊎◌}
use Rattle.std.specs.List.{Contains, sum_by}
use Rattle.std.proofs.lemmas.Bool.Decides.{nat_tests, eqb_tells}
use Rattle.std.proofs.lemmas.List.Sums.{sum_by-append, sum_by-cons}
use Rattle.std.proofs.lemmas.List.Elements.{Contains-append_left, Contains-append_right, Contains-append_cases, Contains-push, Contains-push_cases}
use Rattle.world_rules.specs.Part.{is_among}
use Rattle.world_rules.specs.Sound.{times}
use Rattle.world_rules.specs.Streams.{one_if}

pub equal_tests : (a b : ℕ) → a ≡ b → eqb a b ≡ true
equal_tests a b same = grind (arith, nat_tests)

pub unequal_tests : (a b : ℕ) → (a ≡ b → ⊥) → eqb a b ≡ false
unequal_tests a b other = grind (arith, nat_tests)

pub tests_equal : (a b : ℕ) → eqb a b ≡ true → a ≡ b
tests_equal a b e = grind (arith, nat_tests)

module _ {X : Type 0} where
  pub contains_none : (x : X) → Contains [] x → ⊥
  contains_none x c = let lt = c.1 in omega (arith, lt)

  pub contains_rest : (m : X) (r : List X) (x : X) → Contains r x → Contains (m ∷ r) x
  contains_rest m r x is = Contains-append_right (m ∷ []) r x is

  pub contains_first : (m : X) (r : List X) → Contains (m ∷ r) m
  contains_first m r = Contains-append_left (m ∷ []) r m (Contains-push [] m)

  pub contains_cases : (m : X) (r : List X) (x : X) → Contains (m ∷ r) x → (m ≡ x) ⊎ Contains r x
  contains_cases m r x is = by (Contains-append_cases (m ∷ []) r x is)
    where
      first : Contains [] x ⊎ (m ≡ x) → (m ≡ x) ⊎ Contains r x
      first (inl none) = absurd (contains_none x none)
      first (inr same) = inl same

      by : Contains (m ∷ []) x ⊎ Contains r x → (m ≡ x) ⊎ Contains r x
      by (inl here) = first (Contains-push_cases [] m x here)
      by (inr rest) = inr rest

  -- one more among the others
  pub contains_others : (l : List X) (m : X) (r : List X) (x : X) → Contains (l ++ r) x → Contains (l ++ m ∷ r) x
  contains_others l m r x is = by (Contains-append_cases l r x is)
    where
      by : Contains l x ⊎ Contains r x → Contains (l ++ m ∷ r) x
      by (inl left) = Contains-append_left l (m ∷ r) x left
      by (inr right) = Contains-append_right l (m ∷ r) x (contains_rest m r x right)

  pub contains_one : (l : List X) (m : X) (r : List X) → Contains (l ++ m ∷ r) m
  contains_one l m r = Contains-append_right l (m ∷ r) m (contains_first m r)

  pub contains_one_as : (l : List X) (m : X) (r : List X) (x : X) → m ≡ x → Contains (l ++ m ∷ r) x
  contains_one_as l m r x same = subst (λ (y : X). Contains (l ++ m ∷ r) y) same (contains_one l m r)

  pub contains_around : (l : List X) (m : X) (r : List X) (x : X) → Contains (l ++ m ∷ r) x → (m ≡ x) ⊎ Contains (l ++ r) x
  contains_around l m r x is = by (Contains-append_cases l (m ∷ r) x is)
    where
      rest : (m ≡ x) ⊎ Contains r x → (m ≡ x) ⊎ Contains (l ++ r) x
      rest (inl same) = inl same
      rest (inr right) = inr (Contains-append_right l r x right)

      by : Contains l x ⊎ Contains (m ∷ r) x → (m ≡ x) ⊎ Contains (l ++ r) x
      by (inl left) = inr (Contains-append_left l r x left)
      by (inr right) = rest (contains_cases m r x right)

  pub sum_around : (weight : X → ℕ) (l : List X) (m : X) (r : List X) →
      sum_by weight (l ++ m ∷ r) ≡ weight m + sum_by weight (l ++ r)
  sum_around weight l m r =
      let whole = sum_by-append weight l (m ∷ r) in
      let less = sum_by-append weight l r in
      let last = sum_by-cons weight m r in
      omega (arith, whole, less, last)

  pub sum_ones : (xs : List X) → sum_by (λ (x : X). 1) xs ≡ length xs
  sum_ones [] = refl
  sum_ones (x ∷ xs) = let rest = sum_ones xs in let first = sum_by-cons (λ (y : X). 1) x xs in omega (arith, rest, first)

-- the test and the fact
pub among_contains : (numbers : List ℕ) (n : ℕ) → is_among numbers n ≡ true → Contains numbers n
among_contains [] n e = absurd cc
among_contains (x ∷ xs) n e = by (λ rest. among_contains xs n rest) (eqb_tells n x)
  where
    by : (is_among xs n ≡ true → Contains xs n) → ((eqb n x ≡ true) × (n ≡ x)) ⊎ ((eqb n x ≡ false) × (n ≡ x → ⊥)) → Contains (x ∷ xs) n
    by before (inl same) = subst (λ (m : ℕ). Contains (x ∷ xs) m) (sym same.1) (contains_first x xs)
    by before (inr other) = contains_rest x xs n (before (ap (λ (b : Bool). b || is_among xs n) (sym other.0) ∙ e))

pub contains_among : (numbers : List ℕ) (n : ℕ) → Contains numbers n → is_among numbers n ≡ true
contains_among [] n c = absurd (contains_none n c)
contains_among (x ∷ xs) n c = by (λ rest. contains_among xs n rest) (contains_cases x xs n c)
  where
    rest : (b : Bool) → is_among xs n ≡ true → (b || is_among xs n) ≡ true
    rest true is = refl
    rest false is = is

    by : (Contains xs n → is_among xs n ≡ true) → (x ≡ n) ⊎ Contains xs n → is_among (x ∷ xs) n ≡ true
    by before (inl same) = ap (λ (b : Bool). b || is_among xs n) (equal_tests n x (sym same))
    by before (inr more) = rest (eqb n x) (before more)

-- a test that is true exactly where the number is there
pub among_by : (numbers : List ℕ) (n : ℕ) (b : Bool) → (b ≡ true → Contains numbers n) → (Contains numbers n → b ≡ true) →
    b ≡ is_among numbers n
among_by numbers n true there tells = sym (contains_among numbers n (there refl))
among_by numbers n false there tells = by (is_among numbers n) refl
  where
    by : (t : Bool) → is_among numbers n ≡ t → false ≡ is_among numbers n
    by true is = absurd (let c : Contains numbers n = among_contains numbers n is in let e : false ≡ true = tells c in cc)
    by false is = sym is

-- HOW OFTEN

one_more : (b : Bool) (n m : ℕ) → one_if b (n + m) ≡ one_if b n + m
one_more true n m = omega arith
one_more false n m = refl

pub times-append : (n : ℕ) (xs ys : List ℕ) → times n (xs ++ ys) ≡ times n xs + times n ys
times-append n [] ys = omega arith
times-append n (x ∷ xs) ys =
    ap (λ (m : ℕ). one_if (eqb n x) m) (times-append n xs ys) ∙ one_more (eqb n x) (times n xs) (times n ys)

no_less : (b : Bool) (n : ℕ) → n ≤ one_if b n
no_less true n = omega arith
no_less false n = omega arith

pub times-contains : (n : ℕ) (xs : List ℕ) → Contains xs n → 1 ≤ times n xs
times-contains n [] c = absurd (contains_none n c)
times-contains n (x ∷ xs) c = by (λ rest. times-contains n xs rest) (contains_cases x xs n c)
  where
    by : (Contains xs n → 1 ≤ times n xs) → (x ≡ n) ⊎ Contains xs n → 1 ≤ one_if (eqb n x) (times n xs)
    by before (inl same) =
        let here = ap (λ (b : Bool). one_if b (times n xs)) (equal_tests n x (sym same)) in
        omega (arith, here)
    by before (inr rest) = let more = before rest in let least = no_less (eqb n x) (times n xs) in omega (arith, more, least)

one_at_most : (b : Bool) (n m : ℕ) → n ≤ m → one_if b n ≤ m + 1
one_at_most true n m le = omega arith
one_at_most false n m le = omega arith

-- no more often than there are numbers
pub times-most : (n : ℕ) (xs : List ℕ) → times n xs ≤ length xs
times-most n [] = omega arith
times-most n (x ∷ xs) =
    let more = one_at_most (eqb n x) (times n xs) (length xs) (times-most n xs) in
    omega (arith, more)
