-- Rising handles: the parts of them, and the handles around one.
use Rattle.std.proofs.Common.{◌≡◌, ℕ, zero, suc, ◌<◌, ◌≤◌, List, [], ◌∷◌, ◌++◌, length, get_or, arith}
use Rattle.std.specs.List.{All}
use Rattle.std.proofs.lemmas.List.Elements.{All-nil, All-cons, All-head, All-tail, All-append}
use Rattle.resource_table.specs.Handles.{Handle, IsRising}
use Rattle.resource_table.proofs.Filters.{All-parts}

module _ {S : Type 0} where
  -- two parts of a rising list
  pub record AreParts (lower higher : List (Handle S)) : Type 0 where
    pub lower_rises : IsRising lower
    pub higher_rises : IsRising higher
    pub apart : All (λ h. All (λ k. h.number < k.number) higher) lower

  pub parts_of : (lower higher : List (Handle S)) → IsRising (lower ++ higher) → AreParts lower higher
  parts_of [] higher rises = record {
    lower_rises = tt;
    higher_rises = rises;
    apart = All-nil (λ h. All (λ k. h.number < k.number) higher);
  }
  parts_of (h ∷ lower) higher rises =
      let rest = parts_of lower higher rises.1 in
      let both = All-parts (λ k. h.number < k.number) lower higher rises.0 in
      record {
        lower_rises = (both.0, rest.lower_rises);
        higher_rises = rest.higher_rises;
        apart = All-cons (λ l. All (λ k. l.number < k.number) higher) h lower both.1 rest.apart;
      }

  pub joined : (lower higher : List (Handle S)) → AreParts lower higher → IsRising (lower ++ higher)
  joined [] higher parts = parts.higher_rises
  joined (h ∷ lower) higher parts = (
    All-append (λ k. h.number < k.number) lower higher parts.lower_rises.0
        (All-head (λ l. All (λ k. l.number < k.number) higher) h lower parts.apart),
    joined lower higher (record {
      lower_rises = parts.lower_rises.1;
      higher_rises = parts.higher_rises;
      apart = All-tail (λ l. All (λ k. l.number < k.number) higher) h lower parts.apart;
    }),
  )

  -- what stands around a handle of a rising list
  pub record IsAround (lower : List (Handle S)) (h : Handle S) (higher : List (Handle S)) : Type 0 where
    pub below : All (λ k. k.number < h.number) lower
    pub above : All (λ k. h.number < k.number) higher
    pub others : IsRising (lower ++ higher)

  pub around : (lower : List (Handle S)) (h : Handle S) (higher : List (Handle S)) → IsRising (lower ++ h ∷ higher)
      → IsAround lower h higher
  around lower h higher rises =
      let parts = parts_of lower (h ∷ higher) rises in
      record {
        below = λ k d lt. All-head (λ l. (get_or lower k d).number < l.number) h higher (parts.apart k d lt);
        above = parts.higher_rises.0;
        others = joined lower higher (record {
          lower_rises = parts.lower_rises;
          higher_rises = parts.higher_rises.1;
          apart = λ k d lt. All-tail (λ l. (get_or lower k d).number < l.number) h higher (parts.apart k d lt);
        });
      }

  -- a handle between those below and those above it
  pub put_between : (lower : List (Handle S)) (h : Handle S) (higher : List (Handle S)) → IsAround lower h higher
      → IsRising (lower ++ h ∷ higher)
  put_between lower h higher is =
      let parts = parts_of lower higher is.others in
      joined lower (h ∷ higher) (record {
        lower_rises = parts.lower_rises;
        higher_rises = (is.above, parts.higher_rises);
        apart = λ k d lt. All-cons (λ l. (get_or lower k d).number < l.number) h higher (is.below k d lt)
            (parts.apart k d lt);
      })

  -- another handle of the same number in its place
  pub changed_rises : (lower : List (Handle S)) (h k : Handle S) (higher : List (Handle S)) → k.number ≡ h.number
      → IsRising (lower ++ h ∷ higher) → IsRising (lower ++ k ∷ higher)
  changed_rises lower h k higher same rises =
      let is = around lower h higher rises in
      put_between lower k higher (record {
        below = λ i d lt. let under = is.below i d lt in omega arith;
        above = λ i d lt. let over = is.above i d lt in omega arith;
        others = is.others;
      })

  -- an earlier place has no greater number
  pub rises_along : (xs : List (Handle S)) (i j : ℕ) (d : Handle S) → IsRising xs → i ≤ j → j < length xs
      → (get_or xs i d).number ≤ (get_or xs j d).number
  rises_along [] i j d rises le lt = absurd (omega arith)
  rises_along (x ∷ xs) zero zero d rises le lt = omega arith
  rises_along (x ∷ xs) zero (suc j) d rises le lt =
      let over : x.number < (get_or xs j d).number = rises.0 j d (omega arith) in omega arith
  rises_along (x ∷ xs) (suc i) zero d rises le lt = absurd (omega arith)
  rises_along (x ∷ xs) (suc i) (suc j) d rises le lt = rises_along xs i j d rises.1 (omega arith) (omega arith)
