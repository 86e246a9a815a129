-- The names that were seen: as a set, whose order tells names apart, and as a list.
use Rattle.std.proofs.Common.{◌≡◌, ◌≢◌, ℕ, suc, ◌+◌, ◌<◌, Bool, true, false, cond, List, [], ◌∷◌, ◌++◌, map, length, get_or, take, refl, sym, ap, ◌∙◌, arith, subst, ⊎_elim}
use Rattle.std.specs.Prelude.{◌↔◌, ◌⊎◌, All, AllPairs, Contains}
use Rattle.std.specs.Borrow.{Bor}
use Rattle.std.specs.declared.cmp.Ordering.{Ordering}
use Rattle.std.specs.Ordering.{is_eq, nat_cmp}
use Rattle.std.specs.Cmp.Lexicographic.{slice_cmp}
use Rattle.std.specs.Str.{bytes_eq}
use Rattle.std.specs.BTreeMap.{is_at}
use Rattle.std.specs.BTreeSet.{BTreeSet, contains, Updates}
use Rattle.std.proofs.lemmas.Bool.{cond-true, cond-false, false≢true, false_from_ne_true, cases_Bool}
use Rattle.wasm_form.specs.declared.parts.Export.{Export}
use Rattle.std.proofs.lemmas.List.{length-take-le, get_or-take, get_or-map, length-map, take_more}
use Rattle.std.proofs.lemmas.List.Elements.{Contains-get_or, Contains-append_left, Contains-push, Contains-push_cases}
use Rattle.std.proofs.lemmas.List.Quantifiers.{all_pairs_push}
use Rattle.std.proofs.lemmas.Map.Text.{is_eq-slice_cmp}
use Rattle.std.proofs.lemmas.Slice.Eq.{bytes_eq-Decides}

-- a name as a key
abbrev pub Key : Type 0
Key = Bor (List ℕ)

abbrev pub order : Key → Key → Ordering
order x y = slice_cmp nat_cmp x.now y.now

-- the set holds exactly these names
abbrev pub Holds : BTreeSet Key → List (List ℕ) → Type 0
Holds s names = (q : Key) → ((contains order s q ≡ true) ↔ Contains names q.now)

-- the names are apart
abbrev pub Apart : List (List ℕ) → Type 0
Apart names = AllPairs (λ (a : List ℕ) b. a ≢ b) names

equal_names : (a b : List ℕ) → is_eq (slice_cmp nat_cmp a b) ≡ true → a ≡ b
equal_names a b e = (bytes_eq-Decides a b).0 (sym (is_eq-slice_cmp a b) ∙ e)

same_names : (a b : List ℕ) → a ≡ b → is_eq (slice_cmp nat_cmp a b) ≡ true
same_names a b e = is_eq-slice_cmp a b ∙ (bytes_eq-Decides a b).1 e

module _ (s t : BTreeSet Key) (names : List (List ℕ)) (k : Key) (holds : Holds s names) (updates : Updates order s t k true) where
  now_held : (q : Key) → contains order t q ≡ true → Contains (names ++ k.now ∷ []) q.now
  now_held q e =
      ⊎_elim
      (λ same. let is = equal_names k.now q.now same in subst (λ (x : List ℕ). Contains (names ++ k.now ∷ []) x) is (Contains-push names k.now))
      (λ other. Contains-append_left names (k.now ∷ []) q.now ((holds q).0 (sym (cond-false _ true (contains order s q) other) ∙ sym (updates.0 q) ∙ e)))
      (cases_Bool (is_eq (slice_cmp nat_cmp k.now q.now)))

  held_now : (q : Key) → Contains (names ++ k.now ∷ []) q.now → contains order t q ≡ true
  held_now q has =
      updates.0 q
      ∙ ⊎_elim
      (λ same. cond-true _ true (contains order s q) same)
      (λ other. cond-false _ true (contains order s q) other
      ∙ ⊎_elim (λ before. (holds q).1 before) (λ is. absurd (false≢true (sym other ∙ same_names k.now q.now is))) (Contains-push_cases names k.now q.now has))
      (cases_Bool (is_eq (slice_cmp nat_cmp k.now q.now)))

  -- one name more is held
  pub one_more_held : Holds t (names ++ k.now ∷ [])
  one_more_held q = (now_held q, held_now q)

-- a name that isn't held is apart from those that are
pub one_more_apart : (s : BTreeSet Key) (names : List (List ℕ)) (k : Key) → Holds s names → contains order s k ≡ false → Apart names → Apart (names ++ k.now ∷ [])
one_more_apart s names k holds new apart =
    all_pairs_push (λ (a : List ℕ) b. a ≢ b) names k.now apart (λ i d less is.
    false≢true (sym new ∙ (holds k).1 (subst (λ (x : List ℕ). Contains names x) is (Contains-get_or names i d less))))

-- a name that stands earlier, too, isn't apart
pub twice : (names : List (List ℕ)) (i : ℕ) (name : List ℕ) → i < length names → name ≡ get_or names i name → Contains (take i names) name → Apart names → ⊥
twice names i name less is (k, there, at) apart =
    let counted = length-take-le i names (omega arith) in
    let earlier : k < i = omega (arith, counted) in
    apart k i name earlier less (sym (get_or-take i names k name earlier) ∙ at ∙ is)

-- the names of exports, in their order
abbrev pub names_of : List Export → List (List ℕ)
names_of exports = map (λ (e : Export). e.name) exports

module _ (exports : List Export) (i : ℕ) (item : Export) (k : Key) (less : i < length exports) (is : item ≡ get_or exports i item) (named : k.now ≡ item.name) where
  name_at : k.now ≡ get_or (names_of exports) i k.now
  name_at = named ∙ ap (λ (e : Export). e.name) is ∙ sym (get_or-map (λ (e : Export). e.name) exports i item k.now less)

  counted : i < length (names_of exports)
  counted = omega (arith, length-map exports (λ (e : Export). e.name))

  -- one export more
  pub more_names : take (i + 1) (names_of exports) ≡ take i (names_of exports) ++ k.now ∷ []
  more_names =
      take_more (names_of exports) i k.now counted
      ∙ ap (λ (x : List ℕ). take i (names_of exports) ++ x ∷ []) (sym name_at)

  -- an export whose name stands earlier, too
  pub name_twice : (all : List Export) → exports ≡ all → Contains (take i (names_of exports)) k.now → Apart (names_of all) → ⊥
  name_twice all e earlier apart =
      twice (names_of exports) i k.now counted name_at earlier (subst (λ (xs : List Export). Apart (names_of xs)) (sym e) apart)
