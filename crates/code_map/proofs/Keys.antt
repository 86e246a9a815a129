-- Types that have the same key are the same, and what the first indexes are where a type more is known.
use Rattle.std.proofs.Common.{◌≡◌, ◌≢◌, ℕ, ◌+◌, ◌<◌, ◌⊎◌, inl, inr, ⊎_elim, List, [], ◌∷◌, ◌++◌, map, Vec, Option, Some, None, Bool, true, false, cond, refl, ap, sym, subst, ◌∙◌, arith}
use Rattle.std.specs.Prelude.{slice_get}
use Rattle.std.specs.declared.alloc.Global.{Global}
use Rattle.std.specs.declared.cmp.Ordering.{Ordering}
use Rattle.std.specs.declared.cmp.Ordering.TheVariants.{Less, Equal, Greater}
use Rattle.std.specs.Ordering.{nat_cmp, is_eq}
use Rattle.std.specs.Cmp.Lexicographic.{slice_cmp, nat_list_cmp_total}
use Rattle.std.specs.Map.{lookup}
use Rattle.std.specs.BTreeMap.{BTreeMap, get, is_at, Updates}
use Rattle.std.proofs.lemmas.Bool.{cases_eq}
use Rattle.std.proofs.lemmas.Cmp.{tied_itself}
use Rattle.std.proofs.lemmas.Map.Lookups.{exact_bytes}
use Rattle.wasm_form.specs.declared.types.FuncType.{FuncType}
use Rattle.wasm_form.specs.declared.value_type.ValType.{ValType}
use Rattle.wasm_form.specs.declared.value_type.ValType.TheVariants.{I32, I64, F32, F64}
use Rattle.code_map.specs.Callees.{IsClass}
use Rattle.code_map.specs.Keys.{value_code, type_key, key_cmp, IsFirst, AreFirsts}

-- value types that have the same code are the same
same_code : (a b : ValType) → value_code a ≡ value_code b → a ≡ b
same_code I32 I32 e = refl
same_code I32 I64 e = absurd (omega (arith, e))
same_code I32 F32 e = absurd (omega (arith, e))
same_code I32 F64 e = absurd (omega (arith, e))
same_code I64 I32 e = absurd (omega (arith, e))
same_code I64 I64 e = refl
same_code I64 F32 e = absurd (omega (arith, e))
same_code I64 F64 e = absurd (omega (arith, e))
same_code F32 I32 e = absurd (omega (arith, e))
same_code F32 I64 e = absurd (omega (arith, e))
same_code F32 F32 e = refl
same_code F32 F64 e = absurd (omega (arith, e))
same_code F64 I32 e = absurd (omega (arith, e))
same_code F64 I64 e = absurd (omega (arith, e))
same_code F64 F32 e = absurd (omega (arith, e))
same_code F64 F64 e = refl

-- no code is 0
no_zero : (a : ValType) → value_code a ≢ 0
no_zero I32 e = omega (arith, e)
no_zero I64 e = omega (arith, e)
no_zero F32 e = omega (arith, e)
no_zero F64 e = omega (arith, e)

-- lists of value types that have the same codes are the same
same_codes : (xs ys : List ValType) → map value_code xs ≡ map value_code ys → xs ≡ ys
same_codes [] [] e = refl
same_codes [] (y ∷ ys) e = absurd (cc e)
same_codes (x ∷ xs) [] e = absurd (cc e)
same_codes (x ∷ xs) (y ∷ ys) e =
    let head : value_code x ≡ value_code y = cc in
    let tail : map value_code xs ≡ map value_code ys = cc in
    let first : x ≡ y = same_code x y head in
    let rest : xs ≡ ys = same_codes xs ys tail in
    cc

-- what stands before the first 0 is the same, and what stands behind it
same_parts : (xs ys rs ss : List ValType) → map value_code xs ++ 0 ∷ map value_code rs ≡ map value_code ys ++ 0 ∷ map value_code ss → (xs ≡ ys) × (rs ≡ ss)
same_parts [] [] rs ss e =
    let tail : map value_code rs ≡ map value_code ss = cc in
    (refl, same_codes rs ss tail)
same_parts [] (y ∷ ys) rs ss e = let head : 0 ≡ value_code y = cc in absurd (no_zero y (sym head))
same_parts (x ∷ xs) [] rs ss e = let head : value_code x ≡ 0 = cc in absurd (no_zero x head)
same_parts (x ∷ xs) (y ∷ ys) rs ss e =
    let head : value_code x ≡ value_code y = cc in
    let tail : map value_code xs ++ 0 ∷ map value_code rs ≡ map value_code ys ++ 0 ∷ map value_code ss = cc in
    let first : x ≡ y = same_code x y head in
    let rest = same_parts xs ys rs ss tail in
    let others : xs ≡ ys = rest.0 in
    (cc, rest.1)

-- types that have the same key are the same
pub same_types : (a b : FuncType) → type_key a ≡ type_key b → a ≡ b
same_types a b e =
    let parts = same_parts a.params b.params a.results b.results e in
    let with : List ValType → List ValType → FuncType = λ p r. record { params = p; results = r } in
    ap (λ p. with p a.results) parts.0 ∙ ap (λ r. with b.params r) parts.1

-- an answer that passes the test of equality is that of equal ones
equal : (o : Ordering) → is_eq o ≡ true → o ≡ Equal
equal Less e = absurd (cc e)
equal Equal e = refl
equal Greater e = absurd (cc e)

module _ (types : List FuncType) (count : ℕ) where
  -- an index below one more is below, or is the last one
  last : (index : ℕ) → index < count + 1 → (index < count) ⊎ (index ≡ count)
  last index h = ⊎_elim (λ e. inr e) (λ d. inl (omega (arith, h, d))) (cases_eq index count)

  -- a type that isn't the next one keeps its first index
  passed : (ty : FuncType) (first : Option ℕ) → slice_get types count ≢ Some ty → IsFirst types count ty first → IsFirst types (count + 1) ty first
  passed ty None apart none = λ index h. at index (last index h)
    where
      at : (index : ℕ) → (index < count) ⊎ (index ≡ count) → slice_get types index ≢ Some ty
      at index (inl below) e = none index below e
      at index (inr same) e = apart (ap (slice_get types) (sym same) ∙ e)
  passed ty (Some first) apart is = (omega (arith, is.0), is.1, is.2)

  -- a type that has a first index keeps it
  widened : (ty : FuncType) (first : ℕ) → IsFirst types count ty (Some first) → IsFirst types (count + 1) ty (Some first)
  widened ty first is = (omega (arith, is.0), is.1, is.2)

  module _ (ty : FuncType) (key : Vec ℕ Global) (spelled : key.items ≡ type_key ty) (here : slice_get types count ≡ Some ty) where
    -- the next type under the key of another type
    same_key : (other : FuncType) (k : Vec ℕ Global) → k.items ≡ type_key other → slice_get types count ≡ Some other → key.items ≡ k.items
    same_key other k is there =
        let found : Some ty ≡ Some other = sym here ∙ there in
        let same : ty ≡ other = cc in
        spelled ∙ ap type_key same ∙ sym is

    -- the class of the next type, where its key is known and where it is new
    pub class_known : (first : ℕ) → IsFirst types count ty (Some first) → IsClass types count first
    class_known first is = record { equal = is.1 ∙ sym here; least = λ lesser h e. is.2 lesser h (e ∙ here) }

    pub class_new : IsFirst types count ty None → IsClass types count count
    class_new none = record { equal = refl; least = λ lesser h e. none lesser h (e ∙ here) }

    -- the first indexes with the next type, where its key is known
    pub known : (m : BTreeMap (Vec ℕ Global) ℕ) (first : ℕ) → AreFirsts types count m → get key_cmp m key ≡ Some first → AreFirsts types (count + 1) m
    known m first firsts found other k is = at (get key_cmp m k) refl (firsts other k is)
      where
        at : (o : Option ℕ) → get key_cmp m k ≡ o → IsFirst types count other o → IsFirst types (count + 1) other o
        at (Some f) e before = widened other f before
        at None e before = passed other None (λ there.
            let same = same_key other k is there in
            let both : get key_cmp m key ≡ get key_cmp m k = ap (λ (l : List ℕ). lookup (is_at (λ (y : Vec ℕ Global). slice_cmp nat_cmp l y.items)) m.entries) same in
            let wrong : Some first ≡ None = sym found ∙ both ∙ e in
            absurd (cc wrong)) before

    -- the first indexes with the next type, where it is put under its key
    pub put : (m n : BTreeMap (Vec ℕ Global) ℕ) → AreFirsts types count m → get key_cmp m key ≡ None → Updates key_cmp m n key (Some count) → AreFirsts types (count + 1) n
    put m n firsts new updates other k is = at (is_at (key_cmp key) k) refl
      where
        at : (b : Bool) → is_at (key_cmp key) k ≡ b → IsFirst types (count + 1) other (get key_cmp n k)
        at true e =
            let same : key.items ≡ k.items = exact_bytes key.items k.items (equal (slice_cmp nat_cmp key.items k.items) e) in
            let one : ty ≡ other = same_types ty other (sym spelled ∙ same ∙ is) in
            let none : IsFirst types count other None = subst (IsFirst types count other) new (firsts other key (same ∙ is)) in
            subst (IsFirst types (count + 1) other) (sym (updates.0 k ∙ ap (λ b. cond b (Some count) (get key_cmp m k)) e))
            (omega arith, here ∙ ap (λ (t : FuncType). Some t) one, none)
        at false e =
            subst (IsFirst types (count + 1) other) (sym (updates.0 k ∙ ap (λ b. cond b (Some count) (get key_cmp m k)) e))
            (passed other (get key_cmp m k) (λ there.
            let same = same_key other k is there in
            let tied : slice_cmp nat_cmp key.items k.items ≡ Equal = ap (slice_cmp nat_cmp key.items) (sym same) ∙ tied_itself nat_list_cmp_total key.items in
            let wrong : false ≡ true = sym e ∙ ap is_eq tied in
            absurd (cc wrong)) (firsts other k is))
