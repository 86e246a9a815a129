-- Streams that move within the hands of a process, or are closed out of them.
use Rattle.std.proofs.Common.{◌≡◌, ℕ, zero, suc, ◌+◌, ◌≤◌, Bool, true, false, List, [], ◌∷◌, ◌++◌, length, length-append, refl, ap, sym, subst, ◌∙◌, inl, inr, arith, eqb, append-nil}
use Rattle.std.specs.Prelude.{◌⊎◌}
use Rattle.std.specs.List.{Contains, sum_by}
use Rattle.std.proofs.lemmas.List.Sums.{sum_by-append, sum_by-cons}
use Rattle.std.proofs.lemmas.List.Elements.{Contains-append_left, Contains-append_right, Contains-append_cases, Contains-push_cases}
use Rattle.resource_table.specs.Handles.{Handle, numbers_of}
use Rattle.resource_table.specs.Steps.{Told, IsShut, AreShut, Sheds}
use Rattle.resource_table.proofs.Closings.{sheds_length}
use Rattle.world_rules.specs.Sound.{times}
use Rattle.world_rules.specs.Streams.{one_if}
use Rattle.host_calls.specs.Steps.{HandsOver}
use Rattle.host_calls.proofs.Numbering.{contains_none, contains_rest, contains_first, contains_cases, contains_others, contains_one_as, contains_around, sum_around, sum_ones}

one_more : (b : Bool) (n : ℕ) → one_if b n ≡ one_if b 0 + n
one_more true n = omega arith
one_more false n = omega arith

module _ {S : Type 0} where
  -- those in hand now and those closed are those that were in hand, in another order
  pub record IsFrom (old new closed : List (Handle S)) : Type 0 where
    pub weighs : (weight : Handle S → ℕ) → sum_by weight new + sum_by weight closed ≡ sum_by weight old
    pub in_hand : (h : Handle S) → Contains new h → Contains old h
    pub was_in_hand : (h : Handle S) → Contains closed h → Contains old h

  pub from_same : (hands : List (Handle S)) → IsFrom hands hands []
  from_same hands = record {
    weighs = λ weight. omega arith;
    in_hand = λ h c. c;
    was_in_hand = λ h c. absurd (contains_none h c);
  }

  -- one goes from the front part behind the rest
  pub from_push : (l : List (Handle S)) (m : Handle S) (r s : List (Handle S)) →
      IsFrom ((l ++ m ∷ r) ++ s) ((l ++ r) ++ (s ++ m ∷ [])) []
  from_push l m r s = record {
    weighs = λ weight.
        let whole = sum_by-append weight (l ++ m ∷ r) s in
        let now = sum_by-append weight (l ++ r) (s ++ m ∷ []) in
        let last = sum_by-append weight s (m ∷ []) in
        let one = sum_by-cons weight m [] in
        let front = sum_around weight l m r in
        omega (arith, whole, now, last, one, front);
    in_hand = λ h c. by h (Contains-append_cases (l ++ r) (s ++ m ∷ []) h c);
    was_in_hand = λ h c. absurd (contains_none h c);
  }
    where
      last : (h : Handle S) → Contains s h ⊎ (m ≡ h) → Contains ((l ++ m ∷ r) ++ s) h
      last h (inl right) = Contains-append_right (l ++ m ∷ r) s h right
      last h (inr same) = Contains-append_left (l ++ m ∷ r) s h (contains_one_as l m r h same)

      by : (h : Handle S) → Contains (l ++ r) h ⊎ Contains (s ++ m ∷ []) h → Contains ((l ++ m ∷ r) ++ s) h
      by h (inl left) = Contains-append_left (l ++ m ∷ r) s h (contains_others l m r h left)
      by h (inr right) = last h (Contains-push_cases s m h right)

  -- one goes from the back part into the front part
  pub from_take : (l : List (Handle S)) (m : Handle S) (r a b : List (Handle S)) →
      IsFrom ((l ++ r) ++ (a ++ m ∷ b)) ((l ++ m ∷ r) ++ (a ++ b)) []
  from_take l m r a b = record {
    weighs = λ weight.
        let whole = sum_by-append weight (l ++ r) (a ++ m ∷ b) in
        let now = sum_by-append weight (l ++ m ∷ r) (a ++ b) in
        let front = sum_around weight l m r in
        let back = sum_around weight a m b in
        omega (arith, whole, now, front, back);
    in_hand = λ h c. by h (Contains-append_cases (l ++ m ∷ r) (a ++ b) h c);
    was_in_hand = λ h c. absurd (contains_none h c);
  }
    where
      front : (h : Handle S) → (m ≡ h) ⊎ Contains (l ++ r) h → Contains ((l ++ r) ++ (a ++ m ∷ b)) h
      front h (inl same) = Contains-append_right (l ++ r) (a ++ m ∷ b) h (contains_one_as a m b h same)
      front h (inr left) = Contains-append_left (l ++ r) (a ++ m ∷ b) h left

      by : (h : Handle S) → Contains (l ++ m ∷ r) h ⊎ Contains (a ++ b) h → Contains ((l ++ r) ++ (a ++ m ∷ b)) h
      by h (inl left) = front h (contains_around l m r h left)
      by h (inr right) = Contains-append_right (l ++ r) (a ++ m ∷ b) h (contains_others a m b h right)

  -- one of the front part is closed
  pub from_drop : (l : List (Handle S)) (m : Handle S) (r s : List (Handle S)) →
      IsFrom ((l ++ m ∷ r) ++ s) ((l ++ r) ++ s) (m ∷ [])
  from_drop l m r s = record {
    weighs = λ weight.
        let whole = sum_by-append weight (l ++ m ∷ r) s in
        let now = sum_by-append weight (l ++ r) s in
        let one = sum_by-cons weight m [] in
        let front = sum_around weight l m r in
        omega (arith, whole, now, one, front);
    in_hand = λ h c. by h (Contains-append_cases (l ++ r) s h c);
    was_in_hand = λ h c. one h (contains_cases m [] h c);
  }
    where
      one : (h : Handle S) → (m ≡ h) ⊎ Contains [] h → Contains ((l ++ m ∷ r) ++ s) h
      one h (inl same) = Contains-append_left (l ++ m ∷ r) s h (contains_one_as l m r h same)
      one h (inr none) = absurd (contains_none h none)

      by : (h : Handle S) → Contains (l ++ r) h ⊎ Contains s h → Contains ((l ++ m ∷ r) ++ s) h
      by h (inl left) = Contains-append_left (l ++ m ∷ r) s h (contains_others l m r h left)
      by h (inr right) = Contains-append_right (l ++ m ∷ r) s h right

  -- the back part is closed
  pub from_create : (t s : List (Handle S)) → IsFrom (t ++ s) (t ++ []) s
  from_create t s = record {
    weighs = λ weight.
        let whole = sum_by-append weight t s in
        let now = sum_by-append weight t [] in
        omega (arith, whole, now);
    in_hand = λ h c. by h (Contains-append_cases t [] h c);
    was_in_hand = λ h c. Contains-append_right t s h c;
  }
    where
      by : (h : Handle S) → Contains t h ⊎ Contains [] h → Contains (t ++ s) h
      by h (inl left) = Contains-append_left t s h left
      by h (inr none) = absurd (contains_none h none)

  -- lists by other names
  pub from_as : (old new was is closed : List (Handle S)) → old ≡ was → new ≡ is → IsFrom was is closed → IsFrom old new closed
  from_as old new was is closed same_old same_new from =
      let P : List (Handle S) → Type 0 = λ zs. IsFrom zs is closed in
      let Q : List (Handle S) → Type 0 = λ zs. IsFrom old zs closed in
      subst Q (sym same_new) (subst P (sym same_old) from)

  -- WHAT FOLLOWS

  pub from_length : (old new closed : List (Handle S)) → IsFrom old new closed → length new + length closed ≡ length old
  from_length old new closed from =
      let whole = from.weighs (λ (h : Handle S). 1) in
      let n = sum_ones new in
      let c = sum_ones closed in
      let o = sum_ones old in
      omega (arith, whole, n, c, o)

  times_weight : (k : ℕ) (xs : List (Handle S)) → times k (numbers_of xs) ≡ sum_by (λ (h : Handle S). one_if (eqb k h.number) 0) xs
  times_weight k [] = refl
  times_weight k (x ∷ xs) =
      one_more (eqb k x.number) (times k (numbers_of xs))
      ∙ ap (λ (n : ℕ). one_if (eqb k x.number) 0 + n) (times_weight k xs)
      ∙ sym (sum_by-cons (λ (h : Handle S). one_if (eqb k h.number) 0) x xs)

  pub from_times : (old new closed : List (Handle S)) (k : ℕ) → IsFrom old new closed →
      times k (numbers_of new) ≤ times k (numbers_of old)
  from_times old new closed k from =
      let whole = from.weighs (λ (h : Handle S). one_if (eqb k h.number) 0) in
      let n = times_weight k new in
      let o = times_weight k old in
      omega (arith, whole, n, o)

  pub numbers_of-parts : (xs ys : List (Handle S)) → numbers_of (xs ++ ys) ≡ numbers_of xs ++ numbers_of ys
  numbers_of-parts [] ys = refl
  numbers_of-parts (x ∷ xs) ys = ap (λ (ns : List ℕ). x.number ∷ ns) (numbers_of-parts xs ys)

module _ {S : Type 0} (tells : Told S) where
  -- of those that are shut each was there before
  shut_from : (xs ys : List (Handle S)) → AreShut tells xs ys → (k : Handle S) → Contains ys k →
      (h : Handle S) × Contains xs h × IsShut tells h k
  shut_from [] [] shut k c = absurd (contains_none k c)
  shut_from [] (y ∷ ys) shut k c = absurd shut
  shut_from (x ∷ xs) [] shut k c = absurd shut
  shut_from (x ∷ xs) (y ∷ ys) shut k c = by (λ rest. shut_from xs ys shut.1 k rest) (contains_cases y ys k c)
    where
      by : (Contains ys k → (h : Handle S) × Contains xs h × IsShut tells h k) → (y ≡ k) ⊎ Contains ys k → (h : Handle S) × Contains (x ∷ xs) h × IsShut tells h k
      by before (inl same) = (x, contains_first x xs, subst (λ (z : Handle S). IsShut tells x z) same shut.0)
      by before (inr rest) = let r = before rest in (r.0, contains_rest x xs r.0 r.1, r.2)

  -- so the streams are handed on
  pub hands_over : (old new closed shed now : List (Handle S)) → IsFrom old new closed → Sheds tells closed shed now →
      HandsOver tells old shed new now
  hands_over old new closed shed now from sheds = record {
    in_hand = from.in_hand;
    more = sheds.closed;
    behind = sheds.behind;
    shut = λ h c. let before = shut_from closed sheds.closed sheds.shut h c in
        ∣ (before.0, from.was_in_hand before.0 before.1, before.2) ∣₁;
  }

  pub hands_stay : (hands shed : List (Handle S)) → HandsOver tells hands shed hands shed
  hands_stay hands shed = record {
    in_hand = λ h c. c;
    more = [];
    behind = sym (append-nil shed);
    shut = λ h c. absurd (contains_none h c);
  }

  -- and the shed has room for those that are left
  pub room_stays : (old new closed shed now : List (Handle S)) → IsFrom old new closed → Sheds tells closed shed now →
      length shed + length old ≤ 320 → length now + length new ≤ 320
  room_stays old new closed shed now from sheds room =
      let parts = from_length old new closed from in
      let more = sheds_length tells closed shed now sheds in
      omega (arith, parts, more, room)

  -- the numbers of those that were shut
  shut_numbers : (xs ys : List (Handle S)) → AreShut tells xs ys → numbers_of ys ≡ numbers_of xs
  shut_numbers [] [] shut = refl
  shut_numbers [] (y ∷ ys) shut = absurd shut
  shut_numbers (x ∷ xs) [] shut = absurd shut
  shut_numbers (x ∷ xs) (y ∷ ys) shut =
      ap (λ (n : ℕ). n ∷ numbers_of ys) shut.0.number ∙ ap (λ (ns : List ℕ). x.number ∷ ns) (shut_numbers xs ys shut.1)

  pub shed_numbers : (closed shed now : List (Handle S)) → Sheds tells closed shed now →
      numbers_of now ≡ numbers_of shed ++ numbers_of closed
  shed_numbers closed shed now sheds =
      ap numbers_of sheds.behind ∙ numbers_of-parts shed sheds.closed
      ∙ ap (λ (ns : List ℕ). numbers_of shed ++ ns) (shut_numbers closed sheds.closed sheds.shut)
