-- Streams of a message that were shut one after the other.
use Rattle.std.proofs.Common.{◌≡◌, ◌+◌, length, length-append, arith, List, [], ◌∷◌, ◌++◌, Option, Some, None, reverse, refl, ap, sym, subst, ◌∙◌, append_assoc, append-nil}
use Rattle.std.proofs.lemmas.List.{reverse-append, reverse-reverse}
use Rattle.std.proofs.lemmas.List.Elements.{filter_map-append}
use Rattle.resource_table.specs.Handles.{Handle}
use Rattle.resource_table.specs.Steps.{Told, Sheds}
use Rattle.resource_table.proofs.Closings.{sheds_none, sheds_more}
use Rattle.message_scratch.specs.Messages.{Slots, handles_in}

module _ {S : Type 0} where
  -- how many streams are in the slots, the first or the last taken off
  count_parts : (xs ys : Slots S) → length (handles_in (xs ++ ys)) ≡ length (handles_in xs) + length (handles_in ys)
  count_parts xs ys =
      ap length (filter_map-append (λ o. o) xs ys) ∙ length-append (handles_in xs) (handles_in ys)

  pub popped_some : (left rest : Slots S) (h : Handle S) → left ≡ rest ++ Some h ∷ []
      → length (handles_in left) ≡ length (handles_in rest) + 1
  popped_some left rest h is = ap (λ zs. length (handles_in zs)) is ∙ count_parts rest (Some h ∷ [])

  pub popped_none : (left rest : Slots S) → left ≡ rest ++ None ∷ []
      → length (handles_in left) ≡ length (handles_in rest) + 0
  popped_none left rest is = ap (λ zs. length (handles_in zs)) is ∙ count_parts rest (None ∷ [])

  -- as many as before where they are turned round
  pub count_reversed : (xs : Slots S) → length (handles_in (reverse xs)) ≡ length (handles_in xs)
  count_reversed [] = refl
  count_reversed (x ∷ xs) =
      let swap : length (handles_in xs) + length (handles_in (x ∷ [])) ≡ length (handles_in (x ∷ [])) + length (handles_in xs) =
      omega arith in
      ap (λ zs. length (handles_in zs)) (reverse-append (x ∷ []) xs)
      ∙ count_parts (reverse xs) (x ∷ [])
      ∙ ap (λ n. n + length (handles_in (x ∷ []))) (count_reversed xs)
      ∙ swap ∙ sym (count_parts (x ∷ []) xs)

module _ {S : Type 0} (tells : Told S) where
  -- of these slots the streams of the first were shut; the others are left, the last first
  pub record IsClosing (all : Slots S) (shed : List (Handle S)) (left : Slots S) (now : List (Handle S)) : Type 0 where
    pub done : List (Option (Handle S))
    pub split : all ≡ done ++ reverse left
    pub sheds : Sheds tells (handles_in done) shed now

  pub closing_begins : (all : Slots S) (shed : List (Handle S)) (left : Slots S) → left ≡ reverse all
      → IsClosing all shed left shed
  closing_begins all shed left is = record {
    done = [];
    split = sym (ap reverse is ∙ reverse-reverse all);
    sheds = sheds_none tells shed;
  }

  -- one slot more
  split_on : (done all left rest : Slots S) (slot : Option (Handle S)) → left ≡ rest ++ slot ∷ []
      → all ≡ done ++ reverse left → all ≡ (done ++ slot ∷ []) ++ reverse rest
  split_on done all left rest slot is split =
      split ∙ ap (λ zs. done ++ reverse zs) is
      ∙ ap (λ zs. done ++ zs) (reverse-append rest (slot ∷ []))
      ∙ sym (append_assoc done (slot ∷ []) (reverse rest))

  handles_on : (done : Slots S) (slot : Option (Handle S)) → handles_in (done ++ slot ∷ []) ≡ handles_in done ++ handles_in (slot ∷ [])
  handles_on done slot = filter_map-append (λ o. o) done (slot ∷ [])

  pub closing_passes : (all left rest : Slots S) (shed now : List (Handle S)) → left ≡ rest ++ None ∷ []
      → IsClosing all shed left now → IsClosing all shed rest now
  closing_passes all left rest shed now is closing =
      let P : List (Handle S) → Type 0 = λ zs. Sheds tells zs shed now in
      record {
        done = closing.done ++ None ∷ [];
        split = split_on closing.done all left rest None is closing.split;
        sheds = subst P (sym (handles_on closing.done None ∙ append-nil (handles_in closing.done))) closing.sheds;
      }

  pub closing_goes_on : (all left rest : Slots S) (shed now next : List (Handle S)) (h : Handle S)
      → left ≡ rest ++ Some h ∷ [] → IsClosing all shed left now → Sheds tells (h ∷ []) now next
      → IsClosing all shed rest next
  closing_goes_on all left rest shed now next h is closing shut =
      let P : List (Handle S) → Type 0 = λ zs. Sheds tells zs shed next in
      record {
        done = closing.done ++ Some h ∷ [];
        split = split_on closing.done all left rest (Some h) is closing.split;
        sheds = subst P (sym (handles_on closing.done (Some h)))
            (sheds_more tells (handles_in closing.done) (h ∷ []) shed now next closing.sheds shut);
      }

  pub closing_ends : (all left : Slots S) (shed now : List (Handle S)) → left ≡ [] → IsClosing all shed left now
      → Sheds tells (handles_in all) shed now
  closing_ends all left shed now none closing =
      let P : Slots S → Type 0 = λ zs. Sheds tells (handles_in zs) shed now in
      subst P (sym (closing.split ∙ ap (λ zs. closing.done ++ reverse zs) none ∙ append-nil closing.done)) closing.sheds
