-- An ordered map as a finite map, over any order that tells keys apart.
use Rattle.std.proofs.Common.{◌≡◌, Bool, cond, List, [], ◌∷◌, filter, Some, None, Ordering, refl, ap, sym, ◌∙◌}
use Rattle.std.specs.Ordering.{eq_by_cmp}
use Rattle.std.specs.Cmp.{IsTotalOrder, eq_by_cmp_equiv}
use Rattle.std.specs.Map.{lookup}
use Rattle.std.specs.BTreeMap as tree
use Rattle.std.specs.FinMap.Entries.{find, find-where_key}
use Rattle.std.specs.FinMap.{IsAntisymmetric, get, insert, remove, retain_keys, from_entries, get-from_entries, get-insert, get-remove, get-retain_keys, same_map}

module _ {K X : Type 0} {R : K → K → Ordering} (o : IsTotalOrder R) (apart : IsAntisymmetric R) where
  found : (q : K) (es : List (K × X)) → find R q es ≡ lookup (tree.is_at (R q)) es
  found q [] = refl
  found q (e ∷ es) = ap (cond (eq_by_cmp R q e.0) (Some e.1)) (found q es)

  -- the two look-ups agree
  pub get-map_of : (m : tree.BTreeMap K X) (q : K) → get (from_entries {R = R} m.entries) q ≡ tree.get R m q
  get-map_of m q = get-from_entries o m.entries q ∙ found q m.entries

  pub insert_is : (m n : tree.BTreeMap K X) (k : K) (v : X) → tree.Updates R m n k (Some v) → from_entries {R = R} n.entries ≡ insert (from_entries m.entries) k v
  insert_is m n k v updates = same_map o apart _ _ (λ q.
      get-map_of n q
      ∙ updates.0 q
      ∙ ap (λ b. cond b (Some v) (tree.get R m q)) ((eq_by_cmp_equiv o).symm k q)
      ∙ ap (cond (eq_by_cmp R q k) (Some v)) (sym (get-map_of m q))
      ∙ sym (get-insert o (from_entries m.entries) k v q))

  pub remove_is : (m n : tree.BTreeMap K X) (k : K) → tree.Updates R m n k None → from_entries {R = R} n.entries ≡ remove (from_entries m.entries) k
  remove_is m n k updates = same_map o apart _ _ (λ q.
      get-map_of n q
      ∙ updates.0 q
      ∙ ap (λ b. cond b None (tree.get R m q)) ((eq_by_cmp_equiv o).symm k q)
      ∙ ap (cond (eq_by_cmp R q k) None) (sym (get-map_of m q))
      ∙ sym (get-remove o (from_entries m.entries) k q))

  -- the entries whose keys pass a test
  pub retain_is : (p : K → Bool) (es : List (K × X)) → from_entries {R = R} (filter (λ e. p e.0) es) ≡ retain_keys (from_entries es) p
  retain_is p es = same_map o apart _ _ (λ q.
      get-from_entries o (filter (λ e. p e.0) es) q
      ∙ find-where_key R p q (λ x t. ap p (sym (apart q x t))) es
      ∙ ap (λ v. cond (p q) v None) (sym (get-from_entries o es q))
      ∙ sym (get-retain_keys (from_entries es) p q (λ x t. ap p (sym (apart q x t)))))
