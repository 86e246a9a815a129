-- Lists of values of given types.
use Rattle.std.proofs.Common.{◌≡◌, ◌≤◌, ◌<◌, ℕ, zero, suc, List, [], ◌∷◌, ◌++◌, length, take, drop, reverse, replicate, slice_get, slice_set, Some, arith, refl, sym, ap, lit<, subst}
use Rattle.std.proofs.lemmas.List.{reverse-append}
use Rattle.wasm_form.specs.declared.value_type.ValType.{ValType}
use Rattle.wasm_form.specs.declared.value_type.ValType.TheVariants.{I32, I64, F32, F64}
use Rattle.tree_machine.specs.Typed.{IsValue, AreValues}

-- as many values as types
pub as_many : (ts : List ValType) (ns : List ℕ) → AreValues ts ns → length ns ≡ length ts
as_many [] [] h = refl
as_many (t ∷ ts) (n ∷ ns) h = ap suc (as_many ts ns h.1)
as_many [] (n ∷ ns) h = absurd h
as_many (t ∷ ts) [] h = absurd h

pub values_append : (ts us : List ValType) (ns ms : List ℕ) → AreValues ts ns → AreValues us ms → AreValues (ts ++ us) (ns ++ ms)
values_append [] us [] ms h k = k
values_append (t ∷ ts) us (n ∷ ns) ms h k = (h.0, values_append ts us ns ms h.1 k)
values_append [] us (n ∷ ns) ms h k = absurd h
values_append (t ∷ ts) us [] ms h k = absurd h

-- the values of the first types, and the others
pub record IsSplit (ts us : List ValType) (ns : List ℕ) : Type 0 where
  pub enough : length ts ≤ length ns
  pub first : AreValues ts (take (length ts) ns)
  pub others : AreValues us (drop (length ts) ns)

pub values_split : (ts us : List ValType) (ns : List ℕ) → AreValues (ts ++ us) ns → IsSplit ts us ns
values_split [] us ns h = record { enough = omega arith; first = tt; others = h }
values_split (t ∷ ts) us [] h = absurd h
values_split (t ∷ ts) us (n ∷ ns) h =
    let rest = values_split ts us ns h.1 in
    record { enough = let e : length ts ≤ length ns = rest.enough in omega arith; first = (h.0, rest.first); others = rest.others }

pub values_reverse : (ts : List ValType) (ns : List ℕ) → AreValues ts ns → AreValues (reverse ts) (reverse ns)
values_reverse [] [] h = tt
values_reverse [] (n ∷ ns) h = absurd h
values_reverse (t ∷ ts) [] h = absurd h
values_reverse (t ∷ ts) (n ∷ ns) h =
    let types : reverse (t ∷ ts) ≡ reverse ts ++ t ∷ [] = reverse-append (t ∷ []) ts in
    let values : reverse (n ∷ ns) ≡ reverse ns ++ n ∷ [] = reverse-append (n ∷ []) ns in
    let joined : AreValues (reverse ts ++ t ∷ []) (reverse ns ++ n ∷ []) =
    values_append (reverse ts) (t ∷ []) (reverse ns) (n ∷ []) (values_reverse ts ns h.1) (h.0, tt) in
    subst (λ (us : List ValType). AreValues us (reverse (n ∷ ns))) (sym types)
    (subst (λ (ms : List ℕ). AreValues (reverse ts ++ t ∷ []) ms) (sym values) joined)

pub zero_is : (t : ValType) → IsValue t 0
zero_is I32 = lit< tt
zero_is I64 = lit< tt
zero_is F32 = lit< tt
zero_is F64 = lit< tt

pub zeros_are : (ts : List ValType) → AreValues ts (replicate (length ts) 0)
zeros_are [] = tt
zeros_are (t ∷ ts) = (zero_is t, zeros_are ts)

-- a value at a place has the type there
pub value_at : (ts : List ValType) (ns : List ℕ) (x : ℕ) (t : ValType) → AreValues ts ns → slice_get ts x ≡ Some t →
    (n : ℕ) × (slice_get ns x ≡ Some n) × IsValue t n
value_at [] ns x t h e = absurd (cc)
value_at (u ∷ ts) [] x t h e = absurd h
value_at (u ∷ ts) (n ∷ ns) zero t h e = let same : u ≡ t = cc in (n, refl, subst (λ (v : ValType). IsValue v n) same h.0)
value_at (u ∷ ts) (n ∷ ns) (suc x) t h e = value_at ts ns x t h.1 e

pub place_below : (ts : List ValType) (x : ℕ) (t : ValType) → slice_get ts x ≡ Some t → x < length ts
place_below [] x t e = absurd (cc)
place_below (u ∷ ts) zero t e = omega arith
place_below (u ∷ ts) (suc x) t e = let less : x < length ts = place_below ts x t e in omega arith

pub values_set : (ts : List ValType) (ns : List ℕ) (x n : ℕ) (t : ValType) → AreValues ts ns → slice_get ts x ≡ Some t → IsValue t n →
    AreValues ts (slice_set ns x n)
values_set [] ns x n t h e v = absurd (cc)
values_set (u ∷ ts) [] x n t h e v = absurd h
values_set (u ∷ ts) (m ∷ ns) zero n t h e v = let same : t ≡ u = cc in (subst (λ (w : ValType). IsValue w n) same v, h.1)
values_set (u ∷ ts) (m ∷ ns) (suc x) n t h e v = (h.0, values_set ts ns x n t h.1 e v)
