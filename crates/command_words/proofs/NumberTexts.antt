-- What `parse` makes of a text, by the definition of the number that it writes.
use Rattle.std.proofs.Common.{◌≡◌, ◌∙◌, ℕ, ◌<◌, ◌≤◌, ◌-◌, ◌^◌, ◌==◌, ◌&&◌, Bool, true, false, cond, not, nat_le, refl, sym, ap, ap₂, subst, List, [], ◌∷◌, length, Option, Some, None, Result, Ok, Err, arith, le-leb, leb-true}
use Rattle.std.specs.Prelude.{option_and_then, slice_index}
use Rattle.std.specs.Result.{OkIff, result_ok}
use Rattle.std.specs.Str.{all_ascii_digits}
use Rattle.std.specs.Str.Parse.{ParsesUnsigned, digits_value}
use Rattle.std.proofs.lemmas.Bool.{eqb-true, eq-eqb}
use Rattle.std.proofs.lemmas.Str.Parse.{numerals_by_value, tells_all_ascii_digits, parse_plain}
use Rattle.command_words.specs.Table.{Text, number_of, within}

not_le : (a b : ℕ) → b < a → nat_le a b ≡ false
not_le a b lt = go (nat_le a b) refl
  where
    go : (t : Bool) → nat_le a b ≡ t → nat_le a b ≡ false
    go false e = e
    go true e = let le = leb-true a b e in absurd (omega arith)

abbrev most : ℕ
most = 2 ^ 64 - 1

abbrev found : Bool → Bool → ℕ → Option ℕ
found empty digits v = option_and_then (within 0 most) (cond (not empty && digits) (Some v) None)

pub signed_none : (t : Text) → (slice_index t 0 == 43) ≡ true → ◌≡◌ {A = Option ℕ} None (option_and_then (within 0 most) (number_of t))
signed_none [] e = cc
signed_none (x ∷ xs) e =
    let is : x ≡ 43 = eqb-true x 43 e in
    subst (λ (y : ℕ). ◌≡◌ {A = Option ℕ} None (option_and_then (within 0 most) (number_of (y ∷ xs)))) (sym is) (computed (nat_le (length (43 ∷ xs)) 0))
  where
    computed : (b : Bool) → ◌≡◌ {A = Option ℕ} None (option_and_then (within 0 most) (cond (not b && all_ascii_digits (43 ∷ xs)) (Some (digits_value 10 (43 ∷ xs))) None))
    computed true = refl
    computed false = refl

within_is : (v : ℕ) → v < 2 ^ 64 → within 0 most v ≡ Some v
within_is v lt = ap₂ (λ a b. cond (a && b) (Some v) None) (le-leb 0 v (omega arith)) (le-leb v most (omega arith))

within_none : (v : ℕ) → 2 ^ 64 ≤ v → within 0 most v ≡ None
within_none v le = ap₂ (λ a b. cond (a && b) (Some v) None) (le-leb 0 v (omega arith)) (not_le v most (omega arith))

pub parsed_is : {E : Type 0} (t : Text) (r : Result ℕ E) → (slice_index t 0 == 43) ≡ false → ParsesUnsigned 64 10 t r
    → result_ok r ≡ option_and_then (within 0 most) (number_of t)
parsed_is {E} t r plain h = go r (parse_plain (numerals_by_value (λ ds. all_ascii_digits ds ≡ true) tells_all_ascii_digits) 64 t r h no_sign)
  where
    no_sign : slice_index t 0 ≡ 43 → ⊥
    no_sign e = let bad : true ≡ false = sym (eq-eqb (slice_index t 0) 43 e) ∙ plain in cc

    refused : (((all_ascii_digits t ≡ true) × (0 < length t) × (digits_value 10 t < 2 ^ 64)) → ⊥) → (empty digits : Bool) → nat_le (length t) 0 ≡ empty → all_ascii_digits t ≡ digits
        → ◌≡◌ {A = Option ℕ} None (found empty digits (digits_value 10 t))
    refused fails true digits e d = refl
    refused fails false false e d = refl
    refused fails false true e d = elim (Rattle.std.proofs.lemmas.Bool.cases_lt (digits_value 10 t) (2 ^ 64)) [
      | Rattle.std.proofs.Common.inl lt ↦ absurd (fails (d, some, lt))
      | Rattle.std.proofs.Common.inr le ↦ sym (within_none (digits_value 10 t) le)
    ]
      where
        some : 0 < length t
        some = go2 (length t) e
          where
            go2 : (n : ℕ) → nat_le n 0 ≡ false → 0 < n
            go2 Rattle.std.proofs.Common.zero f = cc
            go2 (Rattle.std.proofs.Common.suc n) f = omega arith

    go : (x : Result ℕ E) → OkIff x ((all_ascii_digits t ≡ true) × (0 < length t) × (digits_value 10 t < 2 ^ 64)) (digits_value 10 t)
        → result_ok x ≡ option_and_then (within 0 most) (number_of t)
    go (Err e) fails = refused fails (nat_le (length t) 0) (all_ascii_digits t) refl refl
    go (Ok x) p =
        ap Some p.1 ∙ sym (within_is (digits_value 10 t) p.0.2)
        ∙ ap₂ (λ a b. found a b (digits_value 10 t)) (sym (not_le (length t) 0 p.0.1)) (sym p.0.0)
