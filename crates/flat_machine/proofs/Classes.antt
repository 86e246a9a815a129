-- Two types are the same exactly where their classes are.
use Rattle.std.proofs.Common.{◌≡◌, ◌≢◌, ◌≤◌, ◌<◌, ◌⊎◌, ℕ, ◌&&◌, inl, inr, Bool, true, false, nat_lt, List, [], ◌∷◌, slice_get, Some, arith, refl, sym, ◌∙◌, ap}
use Rattle.std.proofs.lemmas.Bool.Decides.{nat_tests}
use Rattle.std.specs.Cmp.Lexicographic.{pointwise}
use Rattle.wasm_form.specs.declared.value_type.ValType.{ValType}
use Rattle.wasm_form.specs.declared.value_type.ValType.TheVariants.{I32, I64, F32, F64}
use Rattle.wasm_form.specs.declared.types.FuncType.{FuncType}
use Rattle.wasm_form.specs.declared.parts.Parts.{Parts}
use Rattle.code_map.specs.declared.map.CodeMap.{CodeMap}
use Rattle.code_map.specs.Callees.{IsClass}
use Rattle.tree_machine.specs.Functions.{same_value_type, same_type}
use Rattle.tree_machine.proofs.CallTyped.{same_values}
use Rattle.tree_machine.proofs.ModuleTyped.{body_below, body_there}
use Rattle.flat_machine.specs.MappedModule.{IsMappedModule, HasClass}
use Rattle.flat_machine.proofs.Standing.{same_some}

same_self : (t : ValType) → same_value_type t t ≡ true
same_self I32 = refl
same_self I64 = refl
same_self F32 = refl
same_self F64 = refl

list_self : (ts : List ValType) → pointwise same_value_type ts ts ≡ true
list_self [] = refl
list_self (t ∷ ts) = ap (λ (x : Bool). x && pointwise same_value_type ts ts) (same_self t) ∙ list_self ts

type_self : (t : FuncType) → same_type t t ≡ true
type_self t = ap (λ (x : Bool). x && pointwise same_value_type t.results t.results) (list_self t.params) ∙ list_self t.results

both : (a b : Bool) → (a && b) ≡ true → (a ≡ true) × (b ≡ true)
both true true e = (refl, refl)
both true false e = absurd (cc)
both false b e = absurd (cc)

pub types_same : (t u : FuncType) → same_type t u ≡ true → t ≡ u
types_same t u e =
    let two = both (pointwise same_value_type t.params u.params) (pointwise same_value_type t.results u.results) e in
    let params : t.params ≡ u.params = same_values t.params u.params two.0 in
    let results : t.results ≡ u.results = same_values t.results u.results two.1 in
    ap (λ (ts : List ValType). record t { params = ts }) params ∙ ap (λ (ts : List ValType). record u { results = ts }) results

order_if : (a b : ℕ) (x y : Bool) → nat_lt a b ≡ x → nat_lt b a ≡ y → (a ≡ b) ⊎ ((a < b) ⊎ (b < a))
order_if a b true y e f = inr (inl (grind (arith, nat_tests)))
order_if a b false true e f = inr (inr (grind (arith, nat_tests)))
order_if a b false false e f =
    let one : b ≤ a = grind (arith, nat_tests) in
    let two : a ≤ b = grind (arith, nat_tests) in
    inl (omega arith)

-- equal types have one class
one_class : (types : List FuncType) (t : FuncType) (x y a b : ℕ) → slice_get types x ≡ Some t → slice_get types y ≡ Some t → IsClass types x a → IsClass types y b → a ≡ b
one_class types t x y a b at there one two =
    let first : slice_get types a ≡ Some t = one.equal ∙ at in
    let second : slice_get types b ≡ Some t = two.equal ∙ there in
    elim (order_if a b _ _ refl refl) as (λ o. a ≡ b) [
      | inl same ↦ same
      | inr (inl less) ↦ absurd (two.least a less (first ∙ sym there))
      | inr (inr more) ↦ absurd (one.least b more (second ∙ sym at))
    ]

-- the class that a type has in the map
pub class_there : (m : Parts) (map : CodeMap) (mapped : IsMappedModule m map) (x : ℕ) (t : FuncType) → slice_get m.types x ≡ Some t →
    (class : ℕ) × (slice_get map.classes x ≡ Some class) × IsClass m.types x class
class_there m map mapped x t at =
    let within = body_below m.types x t at in
    let count = mapped.mapped.classes.count in
    let found = body_there map.classes x (omega arith) in
    (found.0, found.1, mapped.mapped.classes.each x found.0 found.1)

-- the classes of two types are the same where the types are
pub classes_differ : (m : Parts) (t u : FuncType) (x a b : ℕ) → HasClass m t a → slice_get m.types x ≡ Some u → IsClass m.types x b → same_type t u ≡ false → a ≢ b
classes_differ m t u x a b (y, at, class) there is differ same =
    let one : slice_get m.types a ≡ Some t = class.equal ∙ at in
    let two : slice_get m.types b ≡ Some u = is.equal ∙ there in
    let equal : t ≡ u = same_some (slice_get m.types a) t u one (ap (slice_get m.types) same ∙ two) in
    let yes : same_type t u ≡ true = ap (same_type t) (sym equal) ∙ type_self t in
    let no : true ≡ false = sym yes ∙ differ in
    absurd (cc)

pub classes_agree : (m : Parts) (t u : FuncType) (x a b : ℕ) → HasClass m t a → slice_get m.types x ≡ Some u → IsClass m.types x b → t ≡ u → a ≡ b
classes_agree m t u x a b (y, at, class) there is same =
    one_class m.types t y x a b at (there ∙ ap (λ (z : FuncType). Some z) (sym same)) class is
