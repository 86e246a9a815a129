-- An ordered map with numbers for keys, as a finite map.
use Rattle.std.proofs.Common.{◌≡◌, ℕ, ◌≤◌, cond, List, [], ◌∷◌, Some, None, refl, ap, sym, ◌∙◌, arith}
use Rattle.std.specs.Ordering.{nat_cmp, eq_by_cmp}
use Rattle.std.specs.Cmp.{nat_cmp_total, eq_by_cmp_equiv}
use Rattle.std.specs.Map.{lookup}
use Rattle.std.specs.BTreeMap as tree
use Rattle.std.specs.FinMap.Entries.{find}
use Rattle.std.specs.FinMap.{FinMap, get, insert, remove, from_entries, get-from_entries, get-insert, get-remove}
use Rattle.std.specs.FinMap.{same_map, nat_cmp-IsAntisymmetric}

module _ {X : Type 0} where
  abbrev pub map_of : tree.BTreeMap ℕ X → FinMap nat_cmp X
  map_of m = from_entries m.entries

  found : (q : ℕ) (es : List (ℕ × X)) → find nat_cmp q es ≡ lookup (tree.is_at (nat_cmp q)) es
  found q [] = refl
  found q (e ∷ es) = ap (cond (eq_by_cmp nat_cmp q e.0) (Some e.1)) (found q es)

  -- the two look-ups agree
  pub get-map_of : (m : tree.BTreeMap ℕ X) (q : ℕ) → get (map_of m) q ≡ tree.get nat_cmp m q
  get-map_of m q = get-from_entries nat_cmp_total m.entries q ∙ found q m.entries

  pub insert_is : (m n : tree.BTreeMap ℕ X) (k : ℕ) (v : X) → tree.Updates nat_cmp m n k (Some v)
      → map_of n ≡ insert (map_of m) k v
  insert_is m n k v updates = same_map nat_cmp_total nat_cmp-IsAntisymmetric _ _ (λ q.
      get-map_of n q
      ∙ updates.0 q
      ∙ ap (λ b. cond b (Some v) (tree.get nat_cmp m q)) ((eq_by_cmp_equiv nat_cmp_total).symm k q)
      ∙ ap (cond (eq_by_cmp nat_cmp q k) (Some v)) (sym (get-map_of m q))
      ∙ sym (get-insert nat_cmp_total (map_of m) k v q))

  pub remove_is : (m n : tree.BTreeMap ℕ X) (k : ℕ) → tree.Updates nat_cmp m n k None → map_of n ≡ remove (map_of m) k
  remove_is m n k updates = same_map nat_cmp_total nat_cmp-IsAntisymmetric _ _ (λ q.
      get-map_of n q
      ∙ updates.0 q
      ∙ ap (λ b. cond b None (tree.get nat_cmp m q)) ((eq_by_cmp_equiv nat_cmp_total).symm k q)
      ∙ ap (cond (eq_by_cmp nat_cmp q k) None) (sym (get-map_of m q))
      ∙ sym (get-remove nat_cmp_total (map_of m) k q))

  -- a number from which on nothing is held is not in the map
  pub unused : (m : tree.BTreeMap ℕ X) (next : ℕ) → ((id : ℕ) → next ≤ id → tree.get nat_cmp m id ≡ None)
      → get (map_of m) next ≡ None
  unused m next none = get-map_of m next ∙ none next (omega arith)
