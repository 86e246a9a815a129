-- When lists of value types are the same.
use Rattle.std.proofs.Common.{◌≡◌, ◌&&◌, Bool, true, false, List, [], ◌∷◌, refl, ap, sym, ◌∙◌}
use Rattle.std.specs.Cmp.Lexicographic.{pointwise}
use Rattle.wasm_form.specs.declared.value_type.ValType.{ValType}
use Rattle.wasm_form.specs.declared.value_type.ValType.TheVariants.{I32, I64, F32, F64}
use Rattle.tree_machine.specs.Functions.{same_value_type}

same_self : (t : ValType) → same_value_type t t ≡ true
same_self I32 = refl
same_self I64 = refl
same_self F32 = refl
same_self F64 = refl

same_is : (s t : ValType) → same_value_type s t ≡ true → s ≡ t
same_is I32 I32 h = refl
same_is I64 I64 h = refl
same_is F32 F32 h = refl
same_is F64 F64 h = refl
same_is s t h = absurd (cc)

all_self : (ts : List ValType) → pointwise same_value_type ts ts ≡ true
all_self [] = refl
all_self (t ∷ ts) = rw (same_self t, all_self ts) refl

both : (a b : Bool) → (a && b) ≡ true → (a ≡ true) × (b ≡ true)
both true true h = (refl, refl)
both true false h = absurd (cc)
both false b h = absurd (cc)

all_is : (ss ts : List ValType) → pointwise same_value_type ss ts ≡ true → ss ≡ ts
all_is [] [] h = refl
all_is [] (t ∷ ts) h = absurd (cc)
all_is (s ∷ ss) [] h = absurd (cc)
all_is (s ∷ ss) (t ∷ ts) h =
    let parts : (same_value_type s t ≡ true) × (pointwise same_value_type ss ts ≡ true) = both (same_value_type s t) (pointwise same_value_type ss ts) h in
    let first : s ≡ t = same_is s t parts.0 in
    let others : ss ≡ ts = all_is ss ts parts.1 in
    cc

-- lists that are one another
pub same_types : (ss ts : List ValType) → ts ≡ ss → pointwise same_value_type ss ts ≡ true
same_types ss ts is = ap (pointwise same_value_type ss) is ∙ all_self ss

no_if_other : (b : Bool) → (b ≡ true → ⊥) → b ≡ false
no_if_other true h = absurd (h refl)
no_if_other false h = refl

-- lists that differ
pub other_types : (ss ts : List ValType) → (ts ≡ ss → ⊥) → pointwise same_value_type ss ts ≡ false
other_types ss ts other = no_if_other (pointwise same_value_type ss ts) (λ h. other (sym (all_is ss ts h)))
