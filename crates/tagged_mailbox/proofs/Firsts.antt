-- The first element of a list that passes a test, by its place.
use Rattle.std.proofs.Common.{◌≡◌, ℕ, zero, suc, ◌+◌, ◌<◌, ◌≤◌, Bool, true, false, cond, not, List, [], ◌∷◌, length}
use Rattle.std.proofs.Common.{get_or, Some, None, refl, ap, ◌∙◌, ltb, arith}
use Rattle.std.specs.List.{find, remove, position, position_or_len, count_by}
use Rattle.std.proofs.lemmas.List.Quantifiers.{position-Some}
use Rattle.std.proofs.lemmas.List.Sums.{sum_by-append}
use Rattle.std.proofs.lemmas.Bool.Decides.{nat_tests}
use Rattle.tagged_mailbox.specs.Pick.{without_first}

module _ {X : Type 0} (p : X → Bool) where
  find_at : (xs : List X) (i : ℕ) (d : X) → i < length xs → p (get_or xs i d) ≡ true
      → ((k : ℕ) → k < i → p (get_or xs k d) ≡ false) → find p xs ≡ Some (get_or xs i d)
  find_at [] i d lt hit miss = absurd (omega arith)
  find_at (x ∷ xs) zero d lt hit miss = ap (λ b. cond b (Some x) (find p xs)) hit
  find_at (x ∷ xs) (suc i) d lt hit miss =
      ap (λ b. cond b (Some x) (find p xs)) (miss 0 (omega arith))
      ∙ find_at xs i d (omega arith) hit (λ k h. miss (suc k) (omega arith))

  without_at : (xs : List X) (i : ℕ) (d : X) → i < length xs → p (get_or xs i d) ≡ true
      → ((k : ℕ) → k < i → p (get_or xs k d) ≡ false) → without_first p xs ≡ remove xs i
  without_at [] i d lt hit miss = absurd (omega arith)
  without_at (x ∷ xs) zero d lt hit miss = ap (λ b. cond b xs (x ∷ without_first p xs)) hit
  without_at (x ∷ xs) (suc i) d lt hit miss =
      ap (λ b. cond b xs (x ∷ without_first p xs)) (miss 0 (omega arith))
      ∙ ap (λ ys. x ∷ ys) (without_at xs i d (omega arith) hit (λ k h. miss (suc k) (omega arith)))

  -- at the place that `position` gives
  pub find_from_position : (xs : List X) (i : ℕ) (d : X) → position p xs ≡ Some i → find p xs ≡ Some (get_or xs i d)
  find_from_position xs i d e = let f = position-Some p xs i d e in find_at xs i d f.0 f.1 f.2

  pub without_from_position : (xs : List X) (i : ℕ) (d : X) → position p xs ≡ Some i → without_first p xs ≡ remove xs i
  without_from_position xs i d e = let f = position-Some p xs i d e in without_at xs i d f.0 f.1 f.2

  -- none passes where `position` gives none
  pub record NonePasses (xs : List X) : Type 0 where
    pub found : find p xs ≡ None
    pub left : without_first p xs ≡ xs
    pub count : count_by p xs ≡ 0

  none_passes : (xs : List X) → length xs ≤ position_or_len p xs → NonePasses xs
  none_passes [] long = record { found = refl; left = refl; count = refl }
  none_passes (x ∷ xs) long =
      elim (p x) as (λ b. p x ≡ b → NonePasses (x ∷ xs)) [
        | true ↦ λ e.
            let z : position_or_len p (x ∷ xs) ≡ 0 = ap (λ b. cond (not b) (1 + position_or_len p xs) 0) e in
            absurd (omega arith)
        | false ↦ λ e.
            let z : position_or_len p (x ∷ xs) ≡ 1 + position_or_len p xs =
            ap (λ b. cond (not b) (1 + position_or_len p xs) 0) e in
            let rest = none_passes xs (omega arith) in
            let one : ◌≡◌ {A = ℕ} (cond (p x) 1 0) 0 = ap (λ b. cond b 1 0) e in
            let others : count_by p xs ≡ 0 = rest.count in
            let sum : count_by p (x ∷ xs) ≡ 0 + cond (p x) 1 0 + count_by p xs =
            sum_by-append (λ y. cond (p y) 1 0) (x ∷ []) xs in
            record {
              found = ap (λ b. cond b (Some x) (find p xs)) e ∙ rest.found;
              left = ap (λ b. cond b xs (x ∷ without_first p xs)) e ∙ ap (λ ys. x ∷ ys) rest.left;
              count = omega arith;
            }
      ] refl

  not_below : (a b : ℕ) → cond (ltb a b) (Some a) None ≡ None → b ≤ a
  not_below a b e =
      elim (ltb a b) as (λ t. ltb a b ≡ t → cond t (Some a) None ≡ None → b ≤ a) [
        | true ↦ λ t n. absurd cc
        | false ↦ λ t n. grind (arith, nat_tests)
      ] refl e

  pub none_from_position : (xs : List X) → position p xs ≡ None → NonePasses xs
  none_from_position xs e = none_passes xs (not_below (position_or_len p xs) (length xs) e)
