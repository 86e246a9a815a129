-- A list of entries, each number once, as a map: after a push, after a write over an entry, and without a number.
use Rattle.std.proofs.Common.{◌≡◌, ℕ, zero, suc, ◌+◌, ◌-◌, ◌<◌, ◌≤◌, Bool, true, false, cond, not, eqb, ltb, List, []}
use Rattle.std.proofs.Common.{◌∷◌, ◌++◌, length, get_or, set, Option, Some, None, refl, ap, sym, ◌∙◌, arith}
use Rattle.std.specs.Option.{is_some}
use Rattle.std.specs.List.{filter, position, position_or_len}
use Rattle.std.specs.Ordering.{nat_cmp, eq_by_cmp}
use Rattle.std.specs.Cmp.{nat_cmp_total}
use Rattle.std.specs.FinMap.Entries.{find-where_key}
use Rattle.std.specs.FinMap.{FinMap, find, get, insert, remove, len, contains_key, from_entries, get-from_entries}
use Rattle.std.specs.FinMap.{get-insert, get-remove, len-insert, len-remove, len-empty, same_map, from_entries_push}
use Rattle.std.specs.FinMap.{nat_cmp-IsAntisymmetric}
use Rattle.std.proofs.lemmas.List.Quantifiers.{position-Some}
use Rattle.std.proofs.lemmas.List.{length-set, length_push}
use Rattle.std.proofs.lemmas.Bool.Decides.{nat_tests}

-- the order's test of numbers is equality
pub ties : (p q : ℕ) → eq_by_cmp nat_cmp p q ≡ eqb p q
ties p q = grind (arith, nat_tests)

not_below : (a b : ℕ) → cond (ltb a b) (Some a) None ≡ None → b ≤ a
not_below a b e =
    elim (ltb a b) as (λ t. ltb a b ≡ t → cond t (Some a) None ≡ None → b ≤ a) [
      | true ↦ λ t n. absurd cc
      | false ↦ λ t n. grind (arith, nat_tests)
    ] refl e

apart_keys : (q k n : ℕ) → eqb n k ≡ false → eq_by_cmp nat_cmp q n ≡ true → eq_by_cmp nat_cmp q k ≡ true → ⊥
apart_keys q k n other a b =
    let a' : eqb q n ≡ true = sym (ties q n) ∙ a in
    let b' : eqb q k ≡ true = sym (ties q k) ∙ b in
    grind (arith, nat_tests)

module _ {X : Type 0} where
  -- the map of a list of entries
  abbrev pub map_of : List (ℕ × X) → FinMap nat_cmp X
  map_of es = from_entries es

  pub get-map_of : (es : List (ℕ × X)) (q : ℕ) → get (map_of es) q ≡ find nat_cmp q es
  get-map_of es q = get-from_entries nat_cmp_total es q

  contains-map_of : (es : List (ℕ × X)) (q : ℕ) → contains_key (map_of es) q ≡ is_some (find nat_cmp q es)
  contains-map_of es q = ap is_some (get-map_of es q)

  -- a look-up passes a test of the same numbers first, whatever the tests answer
  same_key : (b : Bool) (x y z : Option X) → cond b x z ≡ cond b x (cond b y z)
  same_key true x y z = refl
  same_key false x y z = refl

  two_keys : (a b : Bool) (x y z : Option X) → (a ≡ true → b ≡ true → ⊥) → cond a x (cond b y z) ≡ cond b y (cond a x z)
  two_keys true true x y z apart = absurd (apart refl refl)
  two_keys true false x y z apart = refl
  two_keys false b x y z apart = refl

  turned : (b : Bool) (x : Option X) → cond (not b) x None ≡ cond b None x
  turned true x = refl
  turned false x = refl

  none_at : (k : ℕ) (es : List (ℕ × X)) → length es ≤ position_or_len (λ e. eqb e.0 k) es → find nat_cmp k es ≡ None
  none_at k [] long = refl
  none_at k (e ∷ es) long =
      elim (eqb e.0 k) as (λ b. eqb e.0 k ≡ b → find nat_cmp k (e ∷ es) ≡ None) [
        | true ↦ λ t.
            let z : position_or_len (λ e'. eqb e'.0 k) (e ∷ es) ≡ 0 =
            ap (λ b. cond (not b) (1 + position_or_len (λ e'. eqb e'.0 k) es) 0) t in
            absurd (omega arith)
        | false ↦ λ t.
            let z : position_or_len (λ e'. eqb e'.0 k) (e ∷ es) ≡ 1 + position_or_len (λ e'. eqb e'.0 k) es =
            ap (λ b. cond (not b) (1 + position_or_len (λ e'. eqb e'.0 k) es) 0) t in
            let other : eqb k e.0 ≡ false = grind (arith, nat_tests) in
            ap (λ b. cond b (Some e.1) (find nat_cmp k es)) (ties k e.0 ∙ other) ∙ none_at k es (omega arith)
      ] refl

  find_none : (k : ℕ) (es : List (ℕ × X)) → position (λ e. eqb e.0 k) es ≡ None → find nat_cmp k es ≡ None
  find_none k es none = none_at k es (not_below (position_or_len (λ e. eqb e.0 k) es) (length es) none)

  find_set : (k : ℕ) (v : X) (q : ℕ) (es : List (ℕ × X)) (i : ℕ) (d : ℕ × X) → i < length es
      → eqb (get_or es i d).0 k ≡ true → ((j : ℕ) → j < i → eqb (get_or es j d).0 k ≡ false)
      → find nat_cmp q (set es i (k, v)) ≡ cond (eq_by_cmp nat_cmp q k) (Some v) (find nat_cmp q es)
  find_set k v q [] i d lt hit miss = absurd (omega arith)
  find_set k v q (e ∷ es) zero d lt hit miss =
      let same : e.0 ≡ k = grind (arith, nat_tests) in
      same_key (eq_by_cmp nat_cmp q k) (Some v) (Some e.1) (find nat_cmp q es)
      ∙ ap (λ n. cond (eq_by_cmp nat_cmp q k) (Some v) (cond (eq_by_cmp nat_cmp q n) (Some e.1) (find nat_cmp q es)))
      (sym same)
  find_set k v q (e ∷ es) (suc i) d lt hit miss =
      let rest = find_set k v q es i d (omega arith) hit (λ j h. miss (suc j) (omega arith)) in
      ap (cond (eq_by_cmp nat_cmp q e.0) (Some e.1)) rest
      ∙ two_keys (eq_by_cmp nat_cmp q e.0) (eq_by_cmp nat_cmp q k) (Some e.1) (Some v) (find nat_cmp q es)
      (apart_keys q k e.0 (miss 0 (omega arith)))

  find_some : (k : ℕ) (es : List (ℕ × X)) (i : ℕ) (d : ℕ × X) → i < length es → eqb (get_or es i d).0 k ≡ true
      → is_some (find nat_cmp k es) ≡ true
  find_some k [] i d lt hit = absurd (omega arith)
  find_some k (e ∷ es) zero d lt hit =
      let tie : eqb k e.0 ≡ true = grind (arith, nat_tests) in
      ap (λ b. is_some (cond b (Some e.1) (find nat_cmp k es))) (ties k e.0 ∙ tie)
  find_some k (e ∷ es) (suc i) d lt hit =
      let rest = find_some k es i d (omega arith) hit in
      elim (eq_by_cmp nat_cmp k e.0) as (λ b. is_some (cond b (Some e.1) (find nat_cmp k es)) ≡ true)
      [ true ↦ refl | false ↦ rest ]

  -- a number that has no place is not in the map
  pub absent : (es : List (ℕ × X)) (k : ℕ) → position (λ e. eqb e.0 k) es ≡ None → contains_key (map_of es) k ≡ false
  absent es k none = contains-map_of es k ∙ ap is_some (find_none k es none)

  -- a number that is new is pushed
  pub push_is_insert : (es : List (ℕ × X)) (k : ℕ) (v : X) → position (λ e. eqb e.0 k) es ≡ None
      → map_of (es ++ (k, v) ∷ []) ≡ insert (map_of es) k v
  push_is_insert es k v none = from_entries_push nat_cmp_total nat_cmp-IsAntisymmetric es k v (find_none k es none)

  -- a number that is there is written over
  pub set_is_insert : (es : List (ℕ × X)) (k : ℕ) (v : X) (i : ℕ) (d : ℕ × X) → position (λ e. eqb e.0 k) es ≡ Some i
      → map_of (set es i (k, v)) ≡ insert (map_of es) k v
  set_is_insert es k v i d found =
      let at = position-Some (λ (e : ℕ × X). eqb e.0 k) es i d found in
      same_map nat_cmp_total nat_cmp-IsAntisymmetric _ _ (λ q.
      get-map_of (set es i (k, v)) q
      ∙ find_set k v q es i d at.0 at.1 at.2
      ∙ ap (cond (eq_by_cmp nat_cmp q k) (Some v)) (sym (get-map_of es q))
      ∙ sym (get-insert nat_cmp_total (map_of es) k v q))

  find_filter : (k q : ℕ) (es : List (ℕ × X))
      → find nat_cmp q (filter (λ e. not (eqb e.0 k)) es) ≡ cond (eq_by_cmp nat_cmp q k) None (find nat_cmp q es)
  find_filter k q es =
      find-where_key nat_cmp (λ n. not (eqb n k)) q
      (λ n t. ap (λ m. not (eqb m k)) (sym (nat_cmp-IsAntisymmetric q n t))) es
      ∙ turned (eqb q k) (find nat_cmp q es)
      ∙ ap (λ b. cond b None (find nat_cmp q es)) (sym (ties q k))

  -- and where the entries of a number are left out, the number is removed
  pub filter_is_remove : (es : List (ℕ × X)) (k : ℕ) → map_of (filter (λ e. not (eqb e.0 k)) es) ≡ remove (map_of es) k
  filter_is_remove es k =
      same_map nat_cmp_total nat_cmp-IsAntisymmetric _ _ (λ q.
      get-map_of (filter (λ e. not (eqb e.0 k)) es) q
      ∙ find_filter k q es
      ∙ ap (cond (eq_by_cmp nat_cmp q k) None) (sym (get-map_of es q))
      ∙ sym (get-remove nat_cmp_total (map_of es) k q))

  -- each number stands once exactly where the map has as many numbers as the list has entries
  abbrev pub Once : List (ℕ × X) → Type 0
  Once es = len (map_of es) ≡ length es

  len_cons : (e : ℕ × X) (es : List (ℕ × X))
      → len (map_of (e ∷ es)) ≡ cond (is_some (find nat_cmp e.0 es)) (len (map_of es)) (len (map_of es) + 1)
  len_cons e es = len-insert nat_cmp_total (map_of es) e.0 e.1
      ∙ ap (λ b. cond b (len (map_of es)) (len (map_of es) + 1)) (contains-map_of es e.0)

  pub len-le : (es : List (ℕ × X)) → len (map_of es) ≤ length es
  len-le [] = let z = len-empty nat_cmp X in omega (arith, z)
  len-le (e ∷ es) =
      let rest = len-le es in
      let step = len_cons e es in
      elim (is_some (find nat_cmp e.0 es)) as (λ b. len (map_of (e ∷ es)) ≡ cond b (len (map_of es))
      (len (map_of es) + 1) → len (map_of (e ∷ es)) ≤ length (e ∷ es)) [
        | true ↦ λ s. omega arith
        | false ↦ λ s. omega arith
      ] step

  pub once_push : (es : List (ℕ × X)) (k : ℕ) (v : X) → position (λ e. eqb e.0 k) es ≡ None → Once es
      → Once (es ++ (k, v) ∷ [])
  once_push es k v none once =
      let grows = ap len (push_is_insert es k v none) ∙ len-insert nat_cmp_total (map_of es) k v
      ∙ ap (λ b. cond b (len (map_of es)) (len (map_of es) + 1))
      (contains-map_of es k ∙ ap is_some (find_none k es none)) in
      let long = length_push es (k, v) in
      omega (arith, grows, long)

  pub once_set : (es : List (ℕ × X)) (k : ℕ) (v : X) (i : ℕ) (d : ℕ × X) → position (λ e. eqb e.0 k) es ≡ Some i
      → Once es → Once (set es i (k, v))
  once_set es k v i d found once =
      let at = position-Some (λ (e : ℕ × X). eqb e.0 k) es i d found in
      let stays = ap len (set_is_insert es k v i d found) ∙ len-insert nat_cmp_total (map_of es) k v
      ∙ ap (λ b. cond b (len (map_of es)) (len (map_of es) + 1))
      (contains-map_of es k ∙ find_some k es i d at.0 at.1) in
      let long = length-set es i (k, v) in
      omega (arith, stays, long)

  filter_shorter : (k : ℕ) (es : List (ℕ × X))
      → length (filter (λ e. not (eqb e.0 k)) es) + cond (is_some (find nat_cmp k es)) 1 0 ≤ length es
  filter_shorter k [] = omega arith
  filter_shorter k (e ∷ es) =
      let rest = filter_shorter k es in
      let few : length (filter (λ e'. not (eqb e'.0 k)) es) ≤ length es = omega arith in
      elim (eqb e.0 k) as (λ b. eqb e.0 k ≡ b → length (filter (λ e'. not (eqb e'.0 k)) (e ∷ es)) + cond
      (is_some (find nat_cmp k (e ∷ es))) 1 0 ≤ length (e ∷ es)) [
        | true ↦ λ t.
            let tie : eqb k e.0 ≡ true = grind (arith, nat_tests) in
            let kept = ap (λ b. length (cond (not b) (e ∷ filter (λ e'. not (eqb e'.0 k)) es)
            (filter (λ e'. not (eqb e'.0 k)) es))) t in
            let one = ap {B = ℕ} (λ b. cond (is_some (cond b (Some e.1) (find nat_cmp k es))) 1 0) (ties k e.0 ∙ tie) in
            omega (arith, kept, one, few)
        | false ↦ λ t.
            let tie : eqb k e.0 ≡ false = grind (arith, nat_tests) in
            let kept = ap (λ b. length (cond (not b) (e ∷ filter (λ e'. not (eqb e'.0 k)) es)
            (filter (λ e'. not (eqb e'.0 k)) es))) t in
            let same = ap {B = ℕ} (λ b. cond (is_some (cond b (Some e.1) (find nat_cmp k es))) 1 0)
            (ties k e.0 ∙ tie) in
            omega (arith, kept, same, rest)
      ] refl

  pub once_filter : (es : List (ℕ × X)) (k : ℕ) → Once es → Once (filter (λ e. not (eqb e.0 k)) es)
  once_filter es k once =
      let short = filter_shorter k es in
      let le = len-le (filter (λ e. not (eqb e.0 k)) es) in
      let less = ap len (filter_is_remove es k) ∙ len-remove nat_cmp_total (map_of es) k
      ∙ ap (λ b. cond b (len (map_of es) - 1) (len (map_of es))) (contains-map_of es k) in
      elim (is_some (find nat_cmp k es)) as (λ b. length (filter (λ e. not (eqb e.0 k)) es) + cond b 1 0 ≤ length es
      → len (map_of (filter (λ e. not (eqb e.0 k)) es)) ≡ cond b (len (map_of es) - 1) (len (map_of es))
      → Once (filter (λ e. not (eqb e.0 k)) es)) [
        | true ↦ λ s l. omega (arith, le, once)
        | false ↦ λ s l. omega (arith, le, once)
      ] short less

  -- what a list says of its head and of the rest, where each number stands once
  pub once_head : (e : ℕ × X) (es : List (ℕ × X)) → Once (e ∷ es) → (is_some (find nat_cmp e.0 es) ≡ false) × Once es
  once_head e es once =
      let le = len-le es in
      elim (is_some (find nat_cmp e.0 es)) as (λ b. len (map_of (e ∷ es)) ≡ cond b (len (map_of es))
      (len (map_of es) + 1) → (b ≡ false) × Once es) [
        | true ↦ λ s. absurd (omega (arith, le, once))
        | false ↦ λ s. (refl, omega (arith, le, once))
      ] (len_cons e es)
