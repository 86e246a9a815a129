-- What every row of the table has.
use Rattle.std.proofs.Common.{◌≡◌, ℕ, zero, suc, ◌<◌, ◌==◌, Bool, true, false, ◌&&◌, ◌||◌, Option, Some, IsSome, not, refl, sym, ◌∙◌, ap, subst, arith}
use Rattle.std.proofs.lemmas.Bool.Decides.{Decides-below_and, nat_tests}
use Rattle.wasm_ops.specs.declared.instruction.Kind.{Kind}
use Rattle.wasm_ops.specs.declared.instruction.Kind.TheVariants.{Control, Plain, Load, Store, Float}
use Rattle.wasm_ops.specs.declared.num.Num.{Num}
use Rattle.wasm_ops.specs.declared.instruction.Row.{Row}
use Rattle.wasm_ops.specs.Table.{kind_of, width_of, num_if, takes_i64, gives_i64, moves_i64, first_operand, result_type, IsRowOf, HasOperands, IsAccessWidth}

-- a plain row has a first operand and a result
pub plain_law : (c : ℕ) (row : Row) → IsRowOf c row → row.kind ≡ Plain → HasOperands row
plain_law c row is plain =
    let kind : kind_of c ≡ Plain = sym is.kind ∙ plain in
    let first : row.first ≡ Some (num_if (takes_i64 c)) = is.first ∙ ap (λ (k : Kind). first_operand k (num_if (takes_i64 c))) kind in
    let result : row.result ≡ Some (num_if (gives_i64 c)) = is.result ∙ ap (λ (k : Kind). result_type k (num_if (gives_i64 c)) (num_if (moves_i64 c))) kind in
    let There : Option Num → Type 0 = λ o. IsSome o in
    record { first = subst There (sym first) refl; result = subst There (sym result) refl }

-- the kinds of loads and stores
abbrev pub is_access : Kind → Bool
is_access Load = true
is_access Store = true
is_access Control = false
is_access Plain = false
is_access Float = false

abbrev is_access_width : ℕ → Bool
is_access_width n = n == 1 || n == 2 || n == 4 || n == 8

width_from_test : (n : ℕ) → is_access_width n ≡ true → IsAccessWidth n
width_from_test n e = grind (arith, nat_tests)

-- the codes below n obey the law, by a test
abbrev obeys : ℕ → Bool
obeys c = not (is_access (kind_of c)) || is_access_width (width_of c)

abbrev all_obey : ℕ → Bool
all_obey zero = true
all_obey (suc n) = obeys n && all_obey n

each_obeys : (c : ℕ) → c < 256 → obeys c ≡ true
each_obeys = (Decides-below_and (λ k. obeys k) (λ k. obeys k ≡ true) all_obey (λ k. ((λ h. h), (λ h. h))) refl (λ _. refl) 256).0 refl

-- a row of a load or a store has a width
pub access_law : (c : ℕ) (row : Row) → c < 256 → IsRowOf c row → is_access row.kind ≡ true → IsAccessWidth row.width
access_law c row below is access =
    let law : obeys c ≡ true = each_obeys c below in
    let kind : is_access (kind_of c) ≡ true = ap (λ (k : Kind). is_access k) (sym is.kind) ∙ access in
    let width : (not true || is_access_width (width_of c)) ≡ true = subst (λ (b : Bool). (not b || is_access_width (width_of c)) ≡ true) kind law in
    subst (λ (n : ℕ). IsAccessWidth n) (sym is.width) (width_from_test (width_of c) width)
