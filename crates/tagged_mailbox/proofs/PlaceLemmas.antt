-- How many places of a tag are reserved after one more is pushed, and after one is removed.
use Rattle.std.proofs.Common.{◌≡◌, ℕ, cond, eqb, List, [], ◌∷◌, ◌++◌, get_or, Some, refl, sym, ◌∙◌, arith}
use Rattle.std.specs.List.{remove, position}
use Rattle.std.proofs.lemmas.List.Sums.{sum_by-append, sum_by-remove}
use Rattle.std.proofs.lemmas.List.Quantifiers.{position-Some}
use Rattle.std.proofs.lemmas.Bool.Decides.{nat_tests}
use Rattle.tagged_mailbox.specs.Mail.{AddsPlace, UsesPlace}

-- a place counts for its own tag
same_weight : (place tag : ℕ) → place ≡ tag → ◌≡◌ {A = ℕ} (cond (eqb place tag) 1 0) 1
same_weight place tag e = grind (arith, nat_tests)

-- and for no other
other_weight : (place tag : ℕ) → (place ≡ tag → ⊥) → ◌≡◌ {A = ℕ} (cond (eqb place tag) 1 0) 0
other_weight place tag apart = grind (arith, nat_tests)

pub adds_place : (old new : List ℕ) (tag : ℕ) → new ≡ old ++ tag ∷ [] → AddsPlace old new tag
adds_place old new tag is = record {
  added =
      let sum = sum_by-append (λ place. cond (eqb place tag) 1 0) old (tag ∷ []) in
      let one = same_weight tag tag refl in
      rw is (omega (arith, sum, one));
  others = λ other apart.
      let sum = sum_by-append (λ place. cond (eqb place other) 1 0) old (tag ∷ []) in
      let none = other_weight tag other (λ e. apart (sym e)) in
      rw is (omega (arith, sum, none));
}

pub uses_place : (old new : List ℕ) (tag i : ℕ) → position (λ place. eqb place tag) old ≡ Some i → new ≡ remove old i
    → UsesPlace old new tag
uses_place old new tag i found is =
    let at = position-Some (λ place. eqb place tag) old i 0 found in
    let here : get_or old i 0 ≡ tag = grind (arith, nat_tests, at.1) in
    record {
      used =
          let sum = sum_by-remove (λ place. cond (eqb place tag) 1 0) old i 0 at.0 in
          let one = same_weight (get_or old i 0) tag here in
          rw is (omega (arith, sum, one));
      others = λ other apart.
          let sum = sum_by-remove (λ place. cond (eqb place other) 1 0) old i 0 at.0 in
          let none = other_weight (get_or old i 0) other (λ e. apart (sym e ∙ here)) in
          rw is (omega (arith, sum, none));
    }
