-- How many names each process has, after each change of the entries.
use Rattle.std.proofs.Common.{◌≡◌, ◌≤◌, ℕ, ◌+◌, ◌-◌, Bool, true, false, cond, not, eqb, List, [], ◌∷◌, filter, length}
use Rattle.std.proofs.Common.{BTreeMap, Option, Some, None, unwrap_or, refl, ap, sym, ◌∙◌, arith}
use Rattle.std.specs.Ordering.{nat_cmp, is_eq, eq_by_cmp}
use Rattle.std.specs.Cmp.{IsTotalOrder}
use Rattle.std.specs.Cmp.Lexicographic.{nat_list_cmp_total}
use Rattle.std.specs.List.Sorted.{IsStrictlySortedBy}
use Rattle.std.specs.Map.{lookup, remove_entry, keys_of, values_of}
use Rattle.std.specs.BTreeMap.{is_at, insert_entry, Updates}
use Rattle.std.specs.FinMap.Entries.{find}
use Rattle.std.proofs.lemmas.Cmp.{on_total}
use Rattle.std.proofs.lemmas.List.Sums.{sum_by-cons}
use Rattle.std.proofs.lemmas.Map.Entries.{sum_by-insert_entry, sum_by-remove_entry}
use Rattle.std.proofs.lemmas.Bool.Decides.{nat_tests}
use Rattle.name_registry.specs.Names.{name_cmp, named, unless}
use Rattle.name_registry.specs.Counts.{one_for, one_if, names_for, count_of, AreCounts}
use Rattle.name_registry.proofs.NameLemmas.{Key, order}

name_total : IsTotalOrder name_cmp
name_total = on_total (λ (k : Key). k.items) nat_list_cmp_total

names_cons : (pid : ℕ) (e : Key × ℕ) (es : List (Key × ℕ)) → names_for pid (e ∷ es) ≡ one_for pid e.1 + names_for pid es
names_cons pid e es = sum_by-cons (one_for pid) e.1 (values_of es)

-- there are at most as many as there are entries
at_most_one : (b : Bool) (n m : ℕ) → n ≤ m → cond b 1 0 + n ≤ m + 1
at_most_one true n m le = omega arith
at_most_one false n m le = omega arith

pub names_for-le : (pid : ℕ) (es : List (Key × ℕ)) → names_for pid es ≤ length es
names_for-le pid [] = omega arith
names_for-le pid (e ∷ es) =
    let one = at_most_one (eqb e.1 pid) (names_for pid es) (length es) (names_for-le pid es) in
    omega (arith, one, names_cons pid e es)

module _ (c : BTreeMap ℕ ℕ) (es : List (Key × ℕ)) (are : AreCounts c es) where
  -- a name for a process, in place of one for an earlier process
  pub counts_put : (d g : BTreeMap ℕ ℕ) (k : Key) (v : ℕ) (earlier : Option ℕ) → IsStrictlySortedBy name_cmp (keys_of es)
      → ((other : ℕ) → count_of d other ≡ count_of c other + one_if other (Some v))
      → ((other : ℕ) → count_of g other ≡ count_of d other - one_if other earlier)
      → earlier ≡ lookup (is_at (name_cmp k)) es → AreCounts g (insert_entry name_cmp es k v)
  counts_put d g k v earlier sorted more less is pid =
      let sums = sum_by-insert_entry (one_for pid) name_total es k v sorted in
      let same : one_if pid earlier ≡ one_if pid (lookup (is_at (name_cmp k)) es) = ap (one_if pid) is in
      omega (arith, sums, same, are pid, more pid, less pid)

  -- one more and one less
  pub counts_undo : (d g : BTreeMap ℕ ℕ) (v : ℕ)
      → ((other : ℕ) → count_of d other ≡ count_of c other + one_if other (Some v))
      → ((other : ℕ) → count_of g other ≡ count_of d other - one_if other (Some v)) → AreCounts g es
  counts_undo d g v more less pid = omega (arith, are pid, more pid, less pid)

  -- without a name
  pub counts_remove : (g : BTreeMap ℕ ℕ) (test : Key → Bool) (number : Option ℕ)
      → ((other : ℕ) → count_of g other ≡ count_of c other - one_if other number)
      → number ≡ lookup test es → AreCounts g (remove_entry test es)
  counts_remove g test number less is pid =
      let sums = sum_by-remove_entry (one_for pid) test es in
      let same : one_if pid number ≡ one_if pid (lookup test es) = ap (one_if pid) is in
      omega (arith, sums, same, are pid, less pid)

-- without the names of a process
kept_step : (x pid q n r : ℕ) → eqb x pid ≡ false → r ≡ cond (eqb q pid) 0 n
    → cond (eqb x q) 1 0 + r ≡ cond (eqb q pid) 0 (cond (eqb x q) 1 0 + n)
kept_step x pid q n r other is = grind (arith, nat_tests)

left_step : (x pid q n r : ℕ) → eqb x pid ≡ true → r ≡ cond (eqb q pid) 0 n
    → r ≡ cond (eqb q pid) 0 (cond (eqb x q) 1 0 + n)
left_step x pid q n r same is = grind (arith, nat_tests)

none_left : (b : Bool) → ◌≡◌ {A = ℕ} 0 (cond b 0 0)
none_left true = refl
none_left false = refl

names_filter : (pid q : ℕ) (es : List (Key × ℕ))
    → names_for q (filter (λ e. not (eqb e.1 pid)) es) ≡ cond (eqb q pid) 0 (names_for q es)
names_filter pid q [] = none_left (eqb q pid)
names_filter pid q (e ∷ es) =
    let rest = filter (λ (x : Key × ℕ). not (eqb x.1 pid)) es in
    let less = names_filter pid q es in
    elim (eqb e.1 pid) as (λ b. eqb e.1 pid ≡ b
    → names_for q (cond (not b) (e ∷ rest) rest) ≡ cond (eqb q pid) 0 (names_for q (e ∷ es))) [
      | true ↦ λ t. left_step e.1 pid q (names_for q es) (names_for q rest) t less
          ∙ ap (cond (eqb q pid) 0) (sym (names_cons q e es))
      | false ↦ λ t. names_cons q e rest ∙ kept_step e.1 pid q (names_for q es) (names_for q rest) t less
          ∙ ap (cond (eqb q pid) 0) (sym (names_cons q e es))
    ] refl

tied : (p q : ℕ) → is_eq (nat_cmp p q) ≡ eqb q p
tied p q = grind (arith, nat_tests)

count_taken : (b : Bool) (o : Option ℕ) → unwrap_or (cond b None o) 0 ≡ cond b 0 (unwrap_or o 0)
count_taken true o = refl
count_taken false o = refl

count_without : (c g : BTreeMap ℕ ℕ) (pid : ℕ) → Updates nat_cmp c g pid None → (q : ℕ)
    → count_of g q ≡ cond (eqb q pid) 0 (count_of c q)
count_without c g pid updates q =
    ap (λ (o : Option ℕ). unwrap_or o 0) (updates.0 q)
    ∙ count_taken (is_eq (nat_cmp pid q)) _
    ∙ ap (λ b. cond b 0 (count_of c q)) (tied pid q)

pub counts_filter : (c g : BTreeMap ℕ ℕ) (es : List (Key × ℕ)) (pid : ℕ) → AreCounts c es → Updates nat_cmp c g pid None
    → AreCounts g (filter (λ e. not (eqb e.1 pid)) es)
counts_filter c g es pid are updates q =
    count_without c g pid updates q ∙ ap (cond (eqb q pid) 0) (are q) ∙ sym (names_filter pid q es)

-- a process without a count has no name
kept_count : (q pid n k : ℕ) → k ≡ 0 → (eqb q pid ≡ true → n ≡ k) → cond (eqb q pid) 0 n ≡ n
kept_count q pid n k zero same = elim (eqb q pid) as (λ b. (b ≡ true → n ≡ k) → cond b 0 n ≡ n)
    [ true ↦ λ s. sym (s refl ∙ zero) | false ↦ λ _. refl ] same

pub counts_same : (c g : BTreeMap ℕ ℕ) (es : List (Key × ℕ)) (pid : ℕ) → AreCounts c es → Updates nat_cmp c g pid None
    → count_of c pid ≡ 0 → AreCounts g es
counts_same c g es pid are updates zero q =
    count_without c g pid updates q
    ∙ kept_count q pid (count_of c q) (count_of c pid) zero
    (λ t. let same : q ≡ pid = grind (arith, nat_tests) in ap (count_of c) same)
    ∙ are q

other_name : (x pid n : ℕ) → cond (eqb x pid) 1 0 + n ≡ 0 → (eqb x pid ≡ false) × (n ≡ 0)
other_name x pid n e =
    elim (eqb x pid) as (λ b. cond b 1 0 + n ≡ 0 → (b ≡ false) × (n ≡ 0))
    [ true ↦ λ z. absurd (omega (arith, z)) | false ↦ λ z. (refl, omega (arith, z)) ] e

pub no_names : (pid : ℕ) (es : List (Key × ℕ)) → names_for pid es ≡ 0 → (q : List ℕ)
    → find order q (named es) ≡ unless pid (find order q (named es))
no_names pid [] none q = refl
no_names pid (e ∷ es) none q =
    let two = other_name e.1 pid (names_for pid es) (sym (names_cons pid e es) ∙ none) in
    let rest = no_names pid es two.1 q in
    elim (eq_by_cmp order q e.0.items) as (λ b. cond b (Some e.1) (find order q (named es))
    ≡ unless pid (cond b (Some e.1) (find order q (named es)))) [
      | true ↦ sym (ap (λ b. cond b None (Some e.1)) two.0)
      | false ↦ rest
    ]
