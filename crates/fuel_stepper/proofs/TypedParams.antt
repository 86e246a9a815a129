-- Parameters are numbers of their types.
use Rattle.std.proofs.Common.{◌≡◌, ℕ, zero, suc, ◌+◌, ◌<◌, ◌^◌, List, [], ◌∷◌, length, map, take, get_or, refl, sym, ap, subst, arith}
use Rattle.wasm_ops.specs.declared.num.Num.{Num}
use Rattle.wasm_ops.specs.declared.num.Num.TheVariants as num
use Rattle.host_port.specs.TypedValue.{TypedValue, IsInRange}
use Rattle.wasm_form.specs.Typing.{value_type}
use Rattle.tree_machine.specs.Typed.{IsValue, AreValues}

abbrev pub AreTyped : List TypedValue → Type 0
AreTyped params = AreValues (map (λ (p : TypedValue). value_type p.num) params) (map (λ (p : TypedValue). p.value) params)

is_value : (n : Num) (value : ℕ) → IsInRange n value → value < 2 ^ 64 → IsValue (value_type n) value
is_value num.I32 value in_range fits = in_range refl
is_value num.I64 value in_range fits = fits

one_more_here : (xs : List TypedValue) (i : ℕ) (x : TypedValue) → i < length xs → x ≡ get_or xs i x → AreTyped (take i xs) →
    IsInRange x.num x.value → x.value < 2 ^ 64 → AreTyped (take (suc i) xs)
one_more_here [] i x less is typed in_range fits = absurd (omega arith)
one_more_here (y ∷ ys) zero x less is typed in_range fits =
    let same : x ≡ y = is in
    (subst (λ (p : TypedValue). IsValue (value_type p.num) p.value) same (is_value x.num x.value in_range fits), tt)
one_more_here (y ∷ ys) (suc i) x less is typed in_range fits =
    (typed.0, one_more_here ys i x (omega arith) is typed.1 in_range fits)

pub one_more : (xs : List TypedValue) (i : ℕ) (x : TypedValue) → i < length xs → x ≡ get_or xs i x → AreTyped (take i xs) →
    IsInRange x.num x.value → x.value < 2 ^ 64 → AreTyped (take (i + 1) xs)
one_more xs i x less is typed in_range fits =
    let next : suc i ≡ i + 1 = omega arith in
    subst (λ (n : ℕ). AreTyped (take n xs)) next (one_more_here xs i x less is typed in_range fits)
