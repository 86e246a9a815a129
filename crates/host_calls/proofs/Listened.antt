-- Listeners by rising number: one more, and one less.
use Rattle.std.proofs.Common.{◌≡◌, ℕ, zero, suc, ◌+◌, ◌<◌, ◌≤◌, Bool, true, false, cond, not, List, [], ◌∷◌, ◌++◌, length, map, get_or, Option, Some, None, is_some, refl, ap, sym, subst, ◌∙◌, inl, inr, arith, eqb, ltb}
use Rattle.std.specs.Prelude.{◌⊎◌}
use Rattle.std.specs.List.{All, Contains, filter, remove, position, position_or_len}
use Rattle.std.proofs.lemmas.Bool.{ltb-false}
use Rattle.std.proofs.lemmas.List.Sums.{fails_before_first}
use Rattle.std.proofs.lemmas.Bool.Decides.{nat_tests, eqb_tells}
use Rattle.std.proofs.lemmas.List.Elements.{All-nil, All-cons, All-push, All-filter}
use Rattle.std.proofs.lemmas.List.Quantifiers.{position-Some}
use Rattle.resource_table.proofs.Filters.{filter-all}
use Rattle.world_rules.specs.Part.{is_among, without_number}
use Rattle.host_calls.specs.Listening.{Bound, Listening, listener_numbers, AreRising, without_listener}
use Rattle.host_calls.proofs.Numbering.{equal_tests, unequal_tests, tests_equal, among_by, contains_rest, contains_first, contains_cases}

-- where nothing is found nothing passes
none_passes : {X : Type 0} (p : X → Bool) (xs : List X) → position p xs ≡ None → All (λ x. p x ≡ false) xs
none_passes {X} p xs none = by (ltb (position_or_len p xs) (length xs)) refl
  where
    by : (b : Bool) → ltb (position_or_len p xs) (length xs) ≡ b → All (λ (x : X). p x ≡ false) xs
    by true is = absurd (let e : Some (position_or_len p xs) ≡ None = sym (ap (λ (t : Bool). cond t (Some (position_or_len p xs)) None) is) ∙ none in cc)
    by false is = λ k d lt. let past = ltb-false (position_or_len p xs) (length xs) is in fails_before_first p xs k d (omega (arith, past, lt))

module _ {L : Type 0} where
  -- the numbers without one
  pub numbers-without : (n : ℕ) (bs : List (Bound L)) →
      map (λ (b : Bound L). b.number) (filter (λ (b : Bound L). not (eqb b.number n)) bs)
      ≡ without_number n (map (λ (b : Bound L). b.number) bs)
  numbers-without n [] = refl
  numbers-without n (b ∷ bs) = by (numbers-without n bs) (eqb b.number n)
    where
      by : map (λ (c : Bound L). c.number) (filter (λ (c : Bound L). not (eqb c.number n)) bs) ≡ without_number n (map (λ (c : Bound L). c.number) bs) →
          (t : Bool) →
          map (λ (c : Bound L). c.number) (cond (not t) (b ∷ filter (λ (c : Bound L). not (eqb c.number n)) bs) (filter (λ (c : Bound L). not (eqb c.number n)) bs))
          ≡ cond (not t) (b.number ∷ without_number n (map (λ (c : Bound L). c.number) bs)) (without_number n (map (λ (c : Bound L). c.number) bs))
      by rest true = rest
      by rest false = ap (λ (ns : List ℕ). b.number ∷ ns) rest

  -- RISING

  pub rising-last : (next : ℕ) (bs : List (Bound L)) (listener : L) → AreRising next bs →
      AreRising (next + 1) (bs ++ record { number = next; listener = listener } ∷ [])
  rising-last next [] listener rises = (omega arith, All-nil (λ (c : Bound L). next < c.number), tt)
  rising-last next (b ∷ bs) listener rises = (
    omega (arith, rises.0),
    All-push (λ (c : Bound L). b.number < c.number) bs (record { number = next; listener = listener }) rises.1 rises.0,
    rising-last next bs listener rises.2,
  )

  pub rising-filter : (next : ℕ) (bs : List (Bound L)) (test : Bound L → Bool) → AreRising next bs → AreRising next (filter test bs)
  rising-filter next [] test rises = tt
  rising-filter next (b ∷ bs) test rises = by (rising-filter next bs test rises.2) (test b)
    where
      by : AreRising next (filter test bs) → (t : Bool) → AreRising next (cond t (b ∷ filter test bs) (filter test bs))
      by rest true = (rises.0, All-filter test (λ (c : Bound L). b.number < c.number) bs rises.1, rest)
      by rest false = rest

  -- THE PLACE OF A NUMBER

  removed-at : (next n : ℕ) (bs : List (Bound L)) (i : ℕ) (d : Bound L) → AreRising next bs → i < length bs →
      (get_or bs i d).number ≡ n → remove bs i ≡ filter (λ (b : Bound L). not (eqb b.number n)) bs
  removed-at next n [] i d rises lt at = absurd (omega arith)
  removed-at next n (b ∷ bs) zero d rises lt at =
      let test : Bound L → Bool = λ c. not (eqb c.number n) in
      let here : eqb b.number n ≡ true = equal_tests b.number n at in
      let all : filter test bs ≡ bs = filter-all test bs
      (λ k e low. let over = rises.1 k e low in ap not (unequal_tests (get_or bs k e).number n (λ same. omega (arith, over, same, at)))) in
      sym (ap (λ (t : Bool). cond (not t) (b ∷ filter test bs) (filter test bs)) here ∙ all)
  removed-at next n (b ∷ bs) (suc i) d rises lt at =
      let test : Bound L → Bool = λ c. not (eqb c.number n) in
      let over : b.number < (get_or bs i d).number = rises.1 i d (omega arith) in
      let other : eqb b.number n ≡ false = unequal_tests b.number n (λ same. omega (arith, over, same, at)) in
      ap (λ (cs : List (Bound L)). b ∷ cs) (removed-at next n bs i d rises.2 (omega arith) at)
      ∙ sym (ap (λ (t : Bool). cond (not t) (b ∷ filter test bs) (filter test bs)) other)

  pub removed : (next n : ℕ) (bs : List (Bound L)) (i : ℕ) (d : Bound L) → AreRising next bs →
      position (λ (b : Bound L). eqb b.number n) bs ≡ Some i → remove bs i ≡ filter (λ (b : Bound L). not (eqb b.number n)) bs
  removed next n bs i d rises at =
      let found = position-Some (λ (b : Bound L). eqb b.number n) bs i d at in
      removed-at next n bs i d rises found.0 (tests_equal (get_or bs i d).number n found.1)

  pub none-removed : (n : ℕ) (bs : List (Bound L)) → position (λ (b : Bound L). eqb b.number n) bs ≡ None →
      filter (λ (b : Bound L). not (eqb b.number n)) bs ≡ bs
  none-removed n bs none =
      filter-all (λ (b : Bound L). not (eqb b.number n)) bs
      (λ k d lt. ap not (none_passes (λ (b : Bound L). eqb b.number n) bs none k d lt))

  -- the number is there
  there : (bs : List (Bound L)) (i : ℕ) (d : Bound L) (n : ℕ) → i < length bs → (get_or bs i d).number ≡ n →
      Contains (map (λ (b : Bound L). b.number) bs) n
  there [] i d n lt at = absurd (omega arith)
  there (b ∷ bs) zero d n lt at =
      subst (λ (m : ℕ). Contains (b.number ∷ map (λ (c : Bound L). c.number) bs) m) at
      (contains_first b.number (map (λ (c : Bound L). c.number) bs))
  there (b ∷ bs) (suc i) d n lt at = contains_rest b.number (map (λ (c : Bound L). c.number) bs) n (there bs i d n (omega arith) at)

  not_there : (bs : List (Bound L)) (n : ℕ) → All (λ (b : Bound L). eqb b.number n ≡ false) bs →
      Contains (map (λ (b : Bound L). b.number) bs) n → ⊥
  not_there [] n all c = let lt = c.1 in omega (arith, lt)
  not_there (b ∷ bs) n all c = by (λ rest. not_there bs n (λ k d lt. all (suc k) d (omega arith)) rest) (contains_cases b.number (map (λ (d : Bound L). d.number) bs) n c)
    where
      by : (Contains (map (λ (d : Bound L). d.number) bs) n → ⊥) → (b.number ≡ n) ⊎ Contains (map (λ (d : Bound L). d.number) bs) n → ⊥
      by before (inl same) = let f : eqb b.number n ≡ false = all zero b (omega arith) in let t : eqb b.number n ≡ true = equal_tests b.number n same in absurd (let e : true ≡ false = sym t ∙ f in cc)
      by before (inr rest) = before rest

  pub has-listener : (bs : List (Bound L)) (n : ℕ) (o : Option ℕ) → o ≡ position (λ (b : Bound L). eqb b.number n) bs →
      is_some o ≡ is_among (map (λ (b : Bound L). b.number) bs) n
  has-listener bs n None is =
      among_by (map (λ (b : Bound L). b.number) bs) n false (λ t. absurd cc)
      (λ c. absurd (not_there bs n (λ k d lt. none_passes (λ (b : Bound L). eqb b.number n) bs (sym is) k d lt) c))
  has-listener [] n (Some i) is = absurd (let e : position (λ (b : Bound L). eqb b.number n) [] ≡ None = refl in cc)
  has-listener (b ∷ bs) n (Some i) is =
      let found = position-Some (λ (c : Bound L). eqb c.number n) (b ∷ bs) i b (sym is) in
      among_by (map (λ (c : Bound L). c.number) (b ∷ bs)) n true
      (λ t. there (b ∷ bs) i b n found.0 (tests_equal (get_or (b ∷ bs) i b).number n found.1)) (λ c. refl)
