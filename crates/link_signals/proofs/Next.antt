-- What the links say of the next process that falls.
use Rattle.std.proofs.Common.{◌≡◌, ℕ, ◌≤◌, ◌<◌, ◌⊎◌, Bool, true, false, cond, not, ◌&&◌, List, [], ◌∷◌, Option, Some, None, min, max, leb, nat_cmp, is_some, is_eq, unwrap_or, slice_get, BTreeMap, Ordering, refl, ap, sym, ◌∙◌, subst, arith, inl, inr, ⊎_elim, le-leb, leb-true, leb-false}
use Rattle.std.specs.declared.cmp.Ordering.TheVariants.{Less, Equal, Greater}
use Rattle.std.specs.Ordering.{eq_by_cmp}
use Rattle.std.specs.Cmp.{nat_cmp_total}
use Rattle.std.specs.List.{AllByRecursion}
use Rattle.std.specs.BTreeMap as tree
use Rattle.std.specs.FinMap.Entries.{find}
use Rattle.std.specs.FinMap.{IsAntisymmetric, get, from_entries, get-from_entries, nat_cmp-IsAntisymmetric}
use Rattle.std.proofs.lemmas.Bool.{cases_Bool, true≢false}
use Rattle.std.proofs.lemmas.Bool.Decides.{nat_tests}
use Rattle.std.proofs.lemmas.Map.Entries.{btree_map_get_place}
use Rattle.link_signals.specs.Links.{ends, pair_cmp}
use Rattle.link_signals.specs.Fall.{is_among, DiesWithLinks}
use Rattle.link_signals.specs.Spread.{FallsNext, lets_fall, falls_by, dies_by}
use Rattle.link_signals.proofs.Pairs.{pair_total, pair_apart}
use Rattle.link_signals.proofs.Maps.{get-map_of}
use Rattle.link_signals.proofs.Members.{among_Contains, Contains_among}

equal : (o : Ordering) → is_eq o ≡ true → o ≡ Equal
equal Less e = absurd cc
equal Equal e = refl
equal Greater e = absurd cc

-- what holds of each entry's key holds of a key that is found
module _ {K X : Type 0} {R : K → K → Ordering} (apart : IsAntisymmetric R) (P : K → Type 0) where
  at_found : (es : List (K × X)) (q : K) → AllByRecursion (λ e. P e.0) es → is_some (find R q es) ≡ true → P q
  at_found [] q all found = absurd cc
  at_found (e ∷ es) q all found =
      elim (eq_by_cmp R q e.0) as (λ b. eq_by_cmp R q e.0 ≡ b → is_some (cond b (Some e.1) (find R q es)) ≡ true → P q) [
        | true ↦ λ t _. subst P (sym (apart q e.0 (equal (R q e.0) t))) all.0
        | false ↦ λ _ rest. at_found es q all.1 rest
      ] refl found

-- the end that `falls_by` gives, by what its three tests say
abbrev chosen : Bool → Bool → Bool → ℕ → ℕ → Option ℕ
chosen x y z a b = cond x (cond y (Some b) (cond z (Some a) None)) None

some_chosen : (x y z : Bool) (a b : ℕ) → x ≡ true → (y ≡ true) ⊎ (z ≡ true) → chosen x y z a b ≡ None → ⊥
some_chosen true true z a b ex either none = cc
some_chosen true false true a b ex either none = cc
some_chosen true false false a b ex either none = ⊎_elim (λ e. true≢false (sym e)) (λ e. true≢false (sym e)) either
some_chosen false y z a b ex either none = absurd cc

-- a member and a process that falls with it
module _ (members : List ℕ) (dies : ℕ → Bool) where
  parts : (member pid : ℕ) → lets_fall members dies member pid ≡ true → (is_among members member ≡ true) × (is_among members pid ≡ false) × (dies pid ≡ true)
  parts member pid t = go (is_among members member) (is_among members pid) (dies pid) t
    where
      go : (a b c : Bool) → (a && (not b && c)) ≡ true → (a ≡ true) × (b ≡ false) × (c ≡ true)
      go true true c t = absurd cc
      go true false c t = (refl, refl, t)
      go false b c t = absurd cc

  by_pair : (a b pid : ℕ) → falls_by members dies (a, b) ≡ Some pid → (member : ℕ) × (ends member pid ≡ (a, b)) × (lets_fall members dies member pid ≡ true)
  by_pair a b pid is = go (leb a b) (lets_fall members dies a b) (lets_fall members dies b a) refl refl refl is
    where
      go : (x y z : Bool) → leb a b ≡ x → lets_fall members dies a b ≡ y → lets_fall members dies b a ≡ z
          → chosen x y z a b ≡ Some pid → (member : ℕ) × (ends member pid ≡ (a, b)) × (lets_fall members dies member pid ≡ true)
      go false y z ex ey ez is = absurd cc
      go true true z ex ey ez is =
          let same : b ≡ pid = cc in
          let low : min a pid ≡ a = grind (arith, nat_tests) in
          let high : max a pid ≡ b = grind (arith, nat_tests) in
          (a, (λ i. (low i, high i)), ap (lets_fall members dies a) (sym same) ∙ ey)
      go true false true ex ey ez is =
          let same : a ≡ pid = cc in
          let low : min b pid ≡ a = grind (arith, nat_tests) in
          let high : max b pid ≡ b = grind (arith, nat_tests) in
          (b, (λ i. (low i, high i)), ap (lets_fall members dies b) (sym same) ∙ ez)
      go true false false ex ey ez is = absurd cc

  let_fall : (member pid : ℕ) → is_among members member ≡ true → is_among members pid ≡ false → dies pid ≡ true → lets_fall members dies member pid ≡ true
  let_fall member pid a b c = rw (a, b, c) refl

  cases_le : (a b : ℕ) → (a ≤ b) ⊎ (b < a)
  cases_le a b = ⊎_elim (λ t. inl (leb-true a b t)) (λ f. inr (leb-false a b f)) (cases_Bool (leb a b))

  by_ends : (member pid : ℕ) → is_among members member ≡ true → is_among members pid ≡ false → dies pid ≡ true → falls_by members dies (ends member pid) ≡ None → ⊥
  by_ends member pid fell new dies_too is =
      let yes = let_fall member pid fell new dies_too in
      ⊎_elim
      (λ low.
      let a : min member pid ≡ member = omega arith in
      let b : max member pid ≡ pid = omega arith in
      some_chosen (leb member pid) (lets_fall members dies member pid) (lets_fall members dies pid member) member pid
      (le-leb member pid low) (inl yes) (ap (falls_by members dies) (λ i. (sym a i, sym b i)) ∙ is))
      (λ high.
      let a : min member pid ≡ pid = omega arith in
      let b : max member pid ≡ member = omega arith in
      some_chosen (leb pid member) (lets_fall members dies pid member) (lets_fall members dies member pid) pid member
      (le-leb pid member (omega arith)) (inr yes) (ap (falls_by members dies) (λ i. (sym a i, sym b i)) ∙ is))
      (cases_le member pid)

module _ (processes : BTreeMap ℕ Bool) (tags : BTreeMap (ℕ × ℕ) ℕ) (members : List ℕ) where
  died : (pid : ℕ) → dies_by processes pid ≡ true → DiesWithLinks (from_entries {R = nat_cmp} processes.entries) pid
  died pid t = get-map_of nat_cmp_total nat_cmp-IsAntisymmetric processes pid ∙ go (tree.get nat_cmp processes pid) t
    where
      go : (o : Option Bool) → unwrap_or o false ≡ true → o ≡ Some true
      go None t = absurd cc
      go (Some b) t = ap Some t

  -- an entry by which a process falls
  pub found_next : (k a b tag pid : ℕ) → tree.IsOrdered pair_cmp tags → slice_get tags.entries k ≡ Some ((a, b), tag) → falls_by members (dies_by processes) (a, b) ≡ Some pid
      → FallsNext (from_entries {R = nat_cmp} processes.entries) (from_entries {R = pair_cmp} tags.entries) members pid
  found_next k a b tag pid ordered at is =
      let link = by_pair members (dies_by processes) a b pid is in
      let three = parts members (dies_by processes) link.0 pid link.2 in
      record {
        member = link.0;
        fell = among_Contains members link.0 three.0;
        linked = ap is_some (ap (get (from_entries {R = pair_cmp} tags.entries)) link.1 ∙ get-map_of pair_total pair_apart tags (a, b) ∙ btree_map_get_place pair_total tags k (a, b) tag ordered at);
        dies = died pid three.2;
        new = λ h. true≢false (sym (Contains_among members pid h) ∙ three.1);
      }

  -- no entry by which one falls
  pub none_next : AllByRecursion (λ e. falls_by members (dies_by processes) e.0 ≡ None) tags.entries
      → (pid : ℕ) → FallsNext (from_entries {R = nat_cmp} processes.entries) (from_entries {R = pair_cmp} tags.entries) members pid → ⊥
  none_next none pid next =
      let found : is_some (find pair_cmp (ends next.member pid) tags.entries) ≡ true = ap is_some (sym (get-from_entries pair_total tags.entries (ends next.member pid))) ∙ next.linked in
      let dies : dies_by processes pid ≡ true = ap (λ o. unwrap_or o false) (sym (get-map_of nat_cmp_total nat_cmp-IsAntisymmetric processes pid) ∙ next.dies) in
      let new : is_among members pid ≡ false = ⊎_elim (λ t. absurd (next.new (among_Contains members pid t))) (λ f. f) (cases_Bool (is_among members pid)) in
      by_ends members (dies_by processes) next.member pid (Contains_among members next.member next.fell) new dies
      (at_found pair_apart (λ pair. falls_by members (dies_by processes) pair ≡ None) tags.entries (ends next.member pid) none found)
