-- What the calls of an ordered map whose keys are vectors of bytes do to the map of names.
use Rattle.std.proofs.Common.{◌≡◌, ℕ, true, false, cond, not, eqb, List, [], ◌∷◌, filter, Vec, Option, Some, None}
use Rattle.std.proofs.Common.{Ordering, refl, ap, sym, ◌∙◌}
use Rattle.std.specs.declared.cmp.Ordering.TheVariants.{Less, Equal, Greater}
use Rattle.std.specs.declared.alloc.Global.{Global}
use Rattle.std.specs.Ordering.{nat_cmp, is_eq, eq_by_cmp, match_ordering}
use Rattle.std.specs.Cmp.{IsEquivalence, eq_by_cmp_equiv}
use Rattle.std.specs.Cmp.Lexicographic.{slice_cmp, nat_list_cmp_total}
use Rattle.std.specs.List.{IsDistinct, AllByRecursion}
use Rattle.std.specs.List.Sorted.{IsStrictlySortedBy}
use Rattle.std.specs.Map.{lookup, remove_entry, keys_of}
use Rattle.std.specs.BTreeMap.{is_at, insert_entry}
use Rattle.std.specs.FinMap.Entries.{find, put, by_order, find-put}
use Rattle.std.specs.FinMap.{get, insert, remove, from_entries, get-from_entries, get-insert, get-remove, same_map}
use Rattle.std.specs.FinMap.{nat_cmp-IsAntisymmetric, slice_cmp-IsAntisymmetric}
use Rattle.std.proofs.lemmas.Map.{lookup-remove_entry}
use Rattle.std.proofs.lemmas.Map.Entries.{lookup-filter-values, option_filter}
use Rattle.std.proofs.lemmas.Map.Keys.{IsDistinct-from_sorted}
use Rattle.name_registry.specs.Names.{Names, name_cmp, named, unless}

-- a name as a key
abbrev pub Key : Type 0
Key = Vec ℕ Global

-- the order of names
abbrev pub order : List ℕ → List ℕ → Ordering
order = slice_cmp nat_cmp

-- the map of a list of entries
abbrev pub names_of : List (Key × ℕ) → Names
names_of es = from_entries (named es)

pub get-names_of : (es : List (Key × ℕ)) (q : List ℕ) → get (names_of es) q ≡ find order q (named es)
get-names_of es q = get-from_entries nat_list_cmp_total (named es) q

-- two maps of names that find the same are the same
pub same_names : (m n : Names) → ((q : List ℕ) → get m q ≡ get n q) → m ≡ n
same_names m n same = same_map nat_list_cmp_total (slice_cmp-IsAntisymmetric nat_cmp-IsAntisymmetric) m n same

-- a look-up in the ordered map
pub lookup_is_find : (q : List ℕ) (es : List (Key × ℕ))
    → lookup (is_at (λ (k : Key). order q k.items)) es ≡ find order q (named es)
lookup_is_find q [] = refl
lookup_is_find q (e ∷ es) = ap (cond (is_eq (order q e.0.items)) (Some e.1)) (lookup_is_find q es)

-- an insert
named-insert_entry : (k : Key) (v : ℕ) (es : List (Key × ℕ))
    → named (insert_entry name_cmp es k v) ≡ put order k.items v (named es)
named-insert_entry k v [] = refl
named-insert_entry k v (e ∷ es) =
    let rest = named-insert_entry k v es in
    elim (order k.items e.0.items) as (λ r. named
    (match_ordering r ((k, v) ∷ e ∷ es) ((e.0, v) ∷ es) (e ∷ insert_entry name_cmp es k v))
    ≡ by_order r ((k.items, v) ∷ named (e ∷ es)) ((e.0.items, v) ∷ named es)
    ((e.0.items, e.1) ∷ put order k.items v (named es))) [
      | Less ↦ refl
      | Equal ↦ refl
      | Greater ↦ ap (λ xs. (e.0.items, e.1) ∷ xs) rest
    ]

pub insert_is : (k : Key) (v : ℕ) (es : List (Key × ℕ))
    → names_of (insert_entry name_cmp es k v) ≡ insert (names_of es) k.items v
insert_is k v es = same_names _ _ (λ q.
    get-names_of (insert_entry name_cmp es k v) q
    ∙ ap (find order q) (named-insert_entry k v es)
    ∙ find-put order nat_list_cmp_total q k.items v (named es)
    ∙ ap (cond (eq_by_cmp order q k.items) (Some v)) (sym (get-names_of es q))
    ∙ sym (get-insert nat_list_cmp_total (names_of es) k.items v q))

-- `find` is a look-up by equality
found : (q : List ℕ) (es : List (List ℕ × ℕ)) → find order q es ≡ lookup (eq_by_cmp order q) es
found q [] = refl
found q (e ∷ es) = ap (cond (eq_by_cmp order q e.0) (Some e.1)) (found q es)

laws : IsEquivalence (eq_by_cmp order)
laws = eq_by_cmp_equiv nat_list_cmp_total

-- each name stands once
apart_items : (x : Key) (es : List (Key × ℕ)) → AllByRecursion (λ y. eq_by_cmp name_cmp x y ≡ false) (keys_of es)
    → AllByRecursion (λ y. eq_by_cmp order x.items y ≡ false) (keys_of (named es))
apart_items x [] h = h
apart_items x (e ∷ es) h = (h.0, apart_items x es h.1)

distinct_items : (es : List (Key × ℕ)) → IsDistinct (eq_by_cmp name_cmp) (keys_of es)
    → IsDistinct (eq_by_cmp order) (keys_of (named es))
unfolding IsDistinct
distinct_items [] h = h
distinct_items (e ∷ es) h = (apart_items e.0 es h.0, distinct_items es h.1)

-- a removal
named-remove_entry : (q : List ℕ) (es : List (Key × ℕ))
    → named (remove_entry (is_at (λ (k : Key). order q k.items)) es) ≡ remove_entry (eq_by_cmp order q) (named es)
named-remove_entry q [] = refl
named-remove_entry q (e ∷ es) =
    elim (is_eq (order q e.0.items)) as (λ b. named
    (cond b es (e ∷ remove_entry (is_at (λ (k : Key). order q k.items)) es)) ≡ cond b (named es)
    ((e.0.items, e.1) ∷ remove_entry (eq_by_cmp order q) (named es))) [
      | true ↦ refl
      | false ↦ ap (λ xs. (e.0.items, e.1) ∷ xs) (named-remove_entry q es)
    ]

pub remove_is : (name : List ℕ) (es : List (Key × ℕ)) → IsStrictlySortedBy name_cmp (keys_of es)
    → names_of (remove_entry (is_at (λ (k : Key). order name k.items)) es) ≡ remove (names_of es) name
remove_is name es sorted = same_names _ _ (λ q.
    get-names_of (remove_entry (is_at (λ (k : Key). order name k.items)) es) q
    ∙ ap (find order q) (named-remove_entry name es)
    ∙ found q (remove_entry (eq_by_cmp order name) (named es))
    ∙ lookup-remove_entry laws (eq_by_cmp order name) (λ x y t. laws.congr name x y t) q (named es)
    (distinct_items es (IsDistinct-from_sorted name_cmp (keys_of es) sorted))
    ∙ ap (λ b. cond b None (lookup (eq_by_cmp order q) (named es))) (laws.symm name q)
    ∙ ap (cond (eq_by_cmp order q name) None) (sym (found q (named es)) ∙ sym (get-names_of es q))
    ∙ sym (get-remove nat_list_cmp_total (names_of es) name q))

-- the removal of a process
named-filter : (pid : ℕ) (es : List (Key × ℕ))
    → named (filter (λ e. not (eqb e.1 pid)) es) ≡ filter (λ e. not (eqb e.1 pid)) (named es)
named-filter pid [] = refl
named-filter pid (e ∷ es) =
    elim (eqb e.1 pid) as (λ b. named (cond (not b) (e ∷ filter (λ e'. not (eqb e'.1 pid)) es)
    (filter (λ e'. not (eqb e'.1 pid)) es))
    ≡ cond (not b) ((e.0.items, e.1) ∷ filter (λ e'. not (eqb e'.1 pid)) (named es))
    (filter (λ e'. not (eqb e'.1 pid)) (named es))) [
      | true ↦ named-filter pid es
      | false ↦ ap (λ xs. (e.0.items, e.1) ∷ xs) (named-filter pid es)
    ]

unless_filter : (pid : ℕ) (o : Option ℕ) → option_filter (λ other. not (eqb other pid)) o ≡ unless pid o
unless_filter pid None = refl
unless_filter pid (Some other) = elim (eqb other pid)
    as (λ b. cond (not b) (Some other) None ≡ cond b None (Some other)) [ true ↦ refl | false ↦ refl ]

pub filter_is : (pid : ℕ) (es : List (Key × ℕ)) → IsStrictlySortedBy name_cmp (keys_of es) → (q : List ℕ)
    → get (names_of (filter (λ e. not (eqb e.1 pid)) es)) q ≡ unless pid (get (names_of es) q)
filter_is pid es sorted q =
    get-names_of (filter (λ e. not (eqb e.1 pid)) es) q
    ∙ ap (find order q) (named-filter pid es)
    ∙ found q (filter (λ e. not (eqb e.1 pid)) (named es))
    ∙ lookup-filter-values laws (λ (other : ℕ). not (eqb other pid)) q (named es)
    (distinct_items es (IsDistinct-from_sorted name_cmp (keys_of es) sorted))
    ∙ unless_filter pid (lookup (eq_by_cmp order q) (named es))
    ∙ ap (unless pid) (sym (found q (named es)) ∙ sym (get-names_of es q))
