-- How often a number is in a list, and in slots.
use Rattle.std.proofs.Common.{◌≡◌, ◌⊎◌, ◌≢◌, ℕ, zero, suc, ◌+◌, ◌<◌, ◌≤◌, List, [], ◌∷◌, ◌++◌, take, drop, filter, cond, Option, Some, None, Bool, true, false, ◌||◌, nat_eq, if◌then◌else◌, refl, subst, sym, ◌∙◌, ap, inl, inr, arith}
use Rattle.std.proofs.lemmas.Bool.Decides.{eqb_tells}
use Rattle.world_rules.specs.Part.{is_among, handles_in, handle_at, emptied}
use Rattle.world_rules.specs.Streams.{one_if}
use Rattle.world_rules.specs.Sound.{times}
use Rattle.world_rules.specs.laws.BirthLaws.{none_is_some}
use Rattle.world_rules.specs.laws.KeepingLaws.{false_is_true}

pub times_append : (k : ℕ) (xs ys : List ℕ) → times k (xs ++ ys) ≡ times k xs + times k ys
times_append k [] ys = none (times k ys)
  where
    none : (n : ℕ) → n ≡ 0 + n
    none n = omega arith
times_append k (x ∷ xs) ys = by (times_append k xs ys) (nat_eq k x)
  where
    more : (a b c : ℕ) → a ≡ b + c → a + 1 ≡ b + 1 + c
    more a b c e = omega (arith, e)

    by : times k (xs ++ ys) ≡ times k xs + times k ys → (b : Bool) → one_if b (times k (xs ++ ys)) ≡ one_if b (times k xs) + times k ys
    by rest true = more (times k (xs ++ ys)) (times k xs) (times k ys) rest
    by rest false = rest

pub times_filter : (test : ℕ → Bool) (k : ℕ) (xs : List ℕ) → times k (filter test xs) ≡ (if test k then times k xs else 0)
times_filter test k [] = by (test k)
  where
    by : (b : Bool) → ◌≡◌ {A = ℕ} 0 (if b then 0 else 0)
    by true = refl
    by false = refl
times_filter test k (x ∷ xs) = by (times_filter test k xs) (eqb_tells k x) (test x) refl
  where
    kept : k ≡ x → nat_eq k x ≡ true → test x ≡ true → times k (filter test xs) ≡ (if test k then times k xs else 0)
        → one_if (nat_eq k x) (times k (filter test xs)) ≡ (if test k then one_if (nat_eq k x) (times k xs) else 0)
    kept same is passes rest =
        let here : test k ≡ true = ap (λ (n : ℕ). test n) same ∙ passes in
        ap (λ (n : ℕ). one_if (nat_eq k x) n) (rest ∙ ap (λ (b : Bool). if b then times k xs else 0) here)
        ∙ ap (λ (b : Bool). if b then one_if (nat_eq k x) (times k xs) else 0) (sym here)

    lost : k ≡ x → test x ≡ false → times k (filter test xs) ≡ (if test k then times k xs else 0)
        → times k (filter test xs) ≡ (if test k then one_if (nat_eq k x) (times k xs) else 0)
    lost same fails rest =
        let here : test k ≡ false = ap (λ (n : ℕ). test n) same ∙ fails in
        rest ∙ ap (λ (b : Bool). if b then times k xs else 0) here ∙ ap (λ (b : Bool). if b then one_if (nat_eq k x) (times k xs) else 0) (sym here)

    other : nat_eq k x ≡ false → times k (filter test xs) ≡ (if test k then times k xs else 0) → (b : Bool)
        → times k (cond b (x ∷ filter test xs) (filter test xs)) ≡ (if test k then one_if (nat_eq k x) (times k xs) else 0)
    other isnt rest true =
        ap (λ (b : Bool). one_if b (times k (filter test xs))) isnt ∙ rest ∙ ap (λ (b : Bool). if test k then one_if b (times k xs) else 0) (sym isnt)
    other isnt rest false = rest ∙ ap (λ (b : Bool). if test k then one_if b (times k xs) else 0) (sym isnt)

    by : times k (filter test xs) ≡ (if test k then times k xs else 0) → ((nat_eq k x ≡ true) × (k ≡ x)) ⊎ ((nat_eq k x ≡ false) × (k ≢ x)) → (b : Bool) → test x ≡ b
        → times k (cond b (x ∷ filter test xs) (filter test xs)) ≡ (if test k then one_if (nat_eq k x) (times k xs) else 0)
    by rest (inl same) true e = kept same.1 same.0 e rest
    by rest (inl same) false e = lost same.1 e rest
    by rest (inr differs) b e = other differs.0 rest b

pub times_some : (k : ℕ) (xs : List ℕ) → is_among xs k ≡ true → 0 < times k xs
times_some k [] is = false_is_true is
times_some k (x ∷ xs) is = by (λ rest. times_some k xs rest) (nat_eq k x) is
  where
    more : (n : ℕ) → 0 < n + 1
    more n = omega arith

    by : (is_among xs k ≡ true → 0 < times k xs) → (b : Bool) → (b || is_among xs k) ≡ true → 0 < one_if b (times k xs)
    by rest true is = more (times k xs)
    by rest false is = rest is

emptied_more : (s : Option ℕ) (slots : List (Option ℕ)) (slot : ℕ) → emptied (s ∷ slots) (suc slot) ≡ s ∷ emptied slots slot
emptied_more s slots slot = ap (λ (n : ℕ). s ∷ take slot slots ++ None ∷ drop n (s ∷ slots)) (e slot)
  where
    e : (n : ℕ) → suc n + 1 ≡ suc (n + 1)
    e n = omega arith

one_twice : (a b : Bool) (n : ℕ) → one_if a (one_if b n) ≡ one_if b (one_if a n)
one_twice true true n = refl
one_twice true false n = refl
one_twice false b n = refl

pub emptied_times : (k : ℕ) (slots : List (Option ℕ)) (slot handle : ℕ) → handle_at slots slot ≡ Some handle
    → times k (handles_in slots) ≡ one_if (nat_eq k handle) (times k (handles_in (emptied slots slot)))
emptied_times k [] slot handle there = absurd (none_is_some there)
emptied_times k (x ∷ slots) zero handle there = ap (λ (o : Option ℕ). times k (handles_in (o ∷ slots))) there
emptied_times k (None ∷ slots) (suc slot) handle there =
    emptied_times k slots slot handle there
    ∙ sym (ap (λ (xs : List (Option ℕ)). one_if (nat_eq k handle) (times k (handles_in xs))) (emptied_more None slots slot))
emptied_times k (Some x ∷ slots) (suc slot) handle there =
    ap (λ (n : ℕ). one_if (nat_eq k x) n) (emptied_times k slots slot handle there)
    ∙ one_twice (nat_eq k x) (nat_eq k handle) (times k (handles_in (emptied slots slot)))
    ∙ sym (ap (λ (xs : List (Option ℕ)). one_if (nat_eq k handle) (times k (handles_in xs))) (emptied_more (Some x) slots slot))

pub pushed_handles : (slots : List (Option ℕ)) (handle : ℕ) → handles_in (slots ++ Some handle ∷ []) ≡ handles_in slots ++ handle ∷ []
pushed_handles [] handle = refl
pushed_handles (None ∷ slots) handle = pushed_handles slots handle
pushed_handles (Some x ∷ slots) handle = ap (λ (xs : List ℕ). x ∷ xs) (pushed_handles slots handle)
