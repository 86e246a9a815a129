-- What an accept leaves of the listeners.
use Rattle.std.proofs.Common.{◌≡◌, ℕ, ◌<◌, List, [], ◌∷◌, map, length, get_or, set, eqb, Some, sym, ap, subst, ◌∙◌}
use Rattle.std.specs.List.{All, position}
use Rattle.std.proofs.lemmas.List.{map-set, set-get_or, get_or-map}
use Rattle.std.proofs.lemmas.List.Quantifiers.{position-Some}
use Rattle.std.proofs.lemmas.List.Elements.{All-nil, All-cons, All-head, All-tail}
use Rattle.host_calls.specs.Listening.{Bound, AreRising}

module _ {L : Type 0} where
  above_same : (n : ℕ) (xs ys : List (Bound L)) → map (λ (b : Bound L). b.number) xs ≡ map (λ (b : Bound L). b.number) ys → All (λ (b : Bound L). n < b.number) ys →
      All (λ (b : Bound L). n < b.number) xs
  above_same n [] ys same above = All-nil (λ (b : Bound L). n < b.number)
  above_same n (x ∷ xs) [] same above = absurd (cc)
  above_same n (x ∷ xs) (y ∷ ys) same above =
      let first : x.number ≡ y.number = cc in
      let rest : map (λ (b : Bound L). b.number) xs ≡ map (λ (b : Bound L). b.number) ys = cc in
      All-cons (λ (b : Bound L). n < b.number) x xs (subst (λ (m : ℕ). n < m) (sym first) (All-head (λ (b : Bound L). n < b.number) y ys above))
      (above_same n xs ys rest (All-tail (λ (b : Bound L). n < b.number) y ys above))

  -- listeners with the same numbers rise
  pub rising_same : (next : ℕ) (xs ys : List (Bound L)) → map (λ (b : Bound L). b.number) xs ≡ map (λ (b : Bound L). b.number) ys → AreRising next ys → AreRising next xs
  rising_same next [] ys same rising = tt
  rising_same next (x ∷ xs) [] same rising = absurd (cc)
  rising_same next (x ∷ xs) (y ∷ ys) same rising =
      let first : x.number ≡ y.number = cc in
      let rest : map (λ (b : Bound L). b.number) xs ≡ map (λ (b : Bound L). b.number) ys = cc in (
        subst (λ (m : ℕ). m < next) (sym first) rising.0,
        subst (λ (m : ℕ). All (λ (b : Bound L). m < b.number) xs) (sym first) (above_same y.number xs ys rest rising.1),
        rising_same next xs ys rest rising.2,
      )

  -- a listener is put in the place of one with its number
  pub numbers_set : (xs : List (Bound L)) (place : ℕ) (x before : Bound L) → place < length xs → x.number ≡ before.number → before ≡ get_or xs place before →
      map (λ (b : Bound L). b.number) (set xs place x) ≡ map (λ (b : Bound L). b.number) xs
  numbers_set xs place x before lt same read =
      let numbers = map (λ (b : Bound L). b.number) xs in
      let there : get_or numbers place x.number ≡ (get_or xs place before).number = get_or-map (λ (b : Bound L). b.number) xs place before x.number lt in
      let at : x.number ≡ get_or numbers place x.number = same ∙ ap (λ (b : Bound L). b.number) read ∙ sym there in
      map-set (λ (b : Bound L). b.number) xs place x ∙ ap (set numbers place) at ∙ set-get_or numbers place x.number

  -- the place of a listener is one of the list
  pub place_within : (n : ℕ) (xs : List (Bound L)) (place : ℕ) → Some place ≡ position (λ (b : Bound L). eqb b.number n) xs → place < length xs
  place_within n [] place at = absurd (cc)
  place_within n (x ∷ xs) place at = (position-Some (λ (b : Bound L). eqb b.number n) (x ∷ xs) place x (sym at)).0
