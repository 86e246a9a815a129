-- Handles that were shut one after the other.
use Rattle.std.proofs.Common.{◌≡◌, suc, ◌+◌, length, length-append, arith, List, [], ◌∷◌, ◌++◌, reverse, refl, ap, sym, subst, ◌∙◌, append_assoc, append-nil}
use Rattle.std.proofs.lemmas.List.{reverse-append, reverse-reverse}
use Rattle.resource_table.specs.Handles.{Handle}
use Rattle.resource_table.specs.Steps.{Told, AreShut, Sheds}

module _ {S : Type 0} (tells : Told S) where
  pub AreShut-append : (xs ys zs ws : List (Handle S)) → AreShut tells xs zs → AreShut tells ys ws
      → AreShut tells (xs ++ ys) (zs ++ ws)
  AreShut-append [] ys [] ws shut rest = rest
  AreShut-append [] ys (z ∷ zs) ws shut rest = absurd shut
  AreShut-append (x ∷ xs) ys [] ws shut rest = absurd shut
  AreShut-append (x ∷ xs) ys (z ∷ zs) ws shut rest = (shut.0, AreShut-append xs ys zs ws shut.1 rest)

  -- as many handles as were shut are there more
  length_shut : (xs ys : List (Handle S)) → AreShut tells xs ys → length ys ≡ length xs
  length_shut [] [] shut = refl
  length_shut [] (y ∷ ys) shut = absurd shut
  length_shut (x ∷ xs) [] shut = absurd shut
  length_shut (x ∷ xs) (y ∷ ys) shut = ap suc (length_shut xs ys shut.1)

  pub sheds_length : (xs old new : List (Handle S)) → Sheds tells xs old new → length new ≡ length old + length xs
  sheds_length xs old new sheds =
      let whole = ap length sheds.behind ∙ length-append old sheds.closed in
      let same = length_shut xs sheds.closed sheds.shut in
      omega (arith, whole, same)

  -- nothing was shut
  pub sheds_none : (shed : List (Handle S)) → Sheds tells [] shed shed
  sheds_none shed = record { closed = []; shut = tt; behind = sym (append-nil shed) }

  -- some were shut, and then others
  pub sheds_more : (xs ys old mid new : List (Handle S)) → Sheds tells xs old mid → Sheds tells ys mid new
      → Sheds tells (xs ++ ys) old new
  sheds_more xs ys old mid new first second = record {
    closed = first.closed ++ second.closed;
    shut = AreShut-append xs ys first.closed second.closed first.shut second.shut;
    behind = second.behind ∙ ap (λ zs. zs ++ second.closed) first.behind
        ∙ append_assoc old first.closed second.closed;
  }

  -- of these handles the first were shut; the others are left, the last first
  pub record IsClosing (all shed left now : List (Handle S)) : Type 0 where
    pub done : List (Handle S)
    pub split : all ≡ done ++ reverse left
    pub sheds : Sheds tells done shed now

  pub closing_begins : (all shed left : List (Handle S)) → left ≡ reverse all → IsClosing all shed left shed
  closing_begins all shed left is = record {
    done = [];
    split = sym (ap reverse is ∙ reverse-reverse all);
    sheds = sheds_none shed;
  }

  pub closing_goes_on : (all shed left rest now next : List (Handle S)) (h : Handle S) → left ≡ rest ++ h ∷ []
      → IsClosing all shed left now → Sheds tells (h ∷ []) now next → IsClosing all shed rest next
  closing_goes_on all shed left rest now next h is closing shut = record {
    done = closing.done ++ h ∷ [];
    split = closing.split ∙ ap (λ zs. closing.done ++ reverse zs) is
        ∙ ap (λ zs. closing.done ++ zs) (reverse-append rest (h ∷ []))
        ∙ sym (append_assoc closing.done (h ∷ []) (reverse rest));
    sheds = sheds_more closing.done (h ∷ []) shed now next closing.sheds shut;
  }

  pub closing_ends : (all shed left now : List (Handle S)) → left ≡ [] → IsClosing all shed left now
      → Sheds tells all shed now
  closing_ends all shed left now none closing =
      let P : List (Handle S) → Type 0 = λ zs. Sheds tells zs shed now in
      subst P (sym (closing.split ∙ ap (λ zs. closing.done ++ reverse zs) none ∙ append-nil closing.done)) closing.sheds
