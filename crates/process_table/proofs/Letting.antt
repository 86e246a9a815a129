use Rattle.std.proofs.Common.{◌≡◌, ◌≤◌, ◌+◌, List, [], ◌∷◌, ◌++◌, length, length-append, append-nil, append_assoc, Option, Some, None, IfSome, refl, arith, sym, ◌∙◌, ap, subst}
use Rattle.std.specs.List.{flat_map}
use Rattle.resource_table.specs.Handles.{Handle}
use Rattle.resource_table.specs.Steps.{Told, Sheds}
use Rattle.resource_table.proofs.Closings.{sheds_none, sheds_more}
use Rattle.message_scratch.specs.Messages.{Slots, Message, Scratch, slots_of, handles_in}
use Rattle.message_scratch.specs.Changes.{HasBounds}
use Rattle.process_table.specs.Letters.{Letter}

-- The letters of a mailbox, closed one after the other.

-- the streams of these letters
abbrev pub letters_streams : {S : Type 0} → List (Letter S) → List (Handle S)
letters_streams letters = flat_map (λ letter. handles_in letter.message.slots) letters

-- of these letters the first are closed, and the others are left
pub record IsClosing {S : Type 0} (tells : Told S) (all : List (Letter S)) (closed : List (Handle S)) (left : List (Letter S)) (now : List (Handle S)) : Type 0 where
  pub done : List (Handle S)
  pub split : letters_streams all ≡ done ++ letters_streams left
  pub sheds : Sheds tells done closed now

pub closing_begins : {S : Type 0} (tells : Told S) (all : List (Letter S)) (closed : List (Handle S)) → IsClosing tells all closed all closed
closing_begins tells all closed = record { done = []; split = refl; sheds = sheds_none tells closed }

pub closing_goes_on : {S : Type 0} (tells : Told S) (all left rest : List (Letter S)) (closed now next : List (Handle S)) (letter : Letter S) → left ≡ letter ∷ rest
    → IsClosing tells all closed left now → Sheds tells (handles_in letter.message.slots) now next → IsClosing tells all closed rest next
closing_goes_on tells all left rest closed now next letter is closing shut = record {
  done = closing.done ++ handles_in letter.message.slots;
  split = closing.split ∙ ap (λ ls. closing.done ++ letters_streams ls) is ∙ sym (append_assoc closing.done (handles_in letter.message.slots) (letters_streams rest));
  sheds = sheds_more tells closing.done (handles_in letter.message.slots) closed now next closing.sheds shut;
}

pub closing_ends : {S : Type 0} (tells : Told S) (all left : List (Letter S)) (closed now : List (Handle S)) → left ≡ [] → IsClosing tells all closed left now
    → Sheds tells (letters_streams all) closed now
closing_ends tells all left closed now none closing =
    subst (λ hs. Sheds tells hs closed now) (sym (closing.split ∙ ap (λ ls. closing.done ++ letters_streams ls) none ∙ append-nil closing.done)) closing.sheds

-- what was shed from an empty shed moves behind the closed ones
pub sheds_moved : {S : Type 0} (tells : Told S) (hs shed closed next : List (Handle S)) → Sheds tells hs [] shed → next ≡ closed ++ shed → Sheds tells hs closed next
sheds_moved tells hs shed closed next sheds is = record { closed = sheds.closed; shut = sheds.shut; behind = is ∙ ap (λ ks. closed ++ ks) sheds.behind }

-- a message has no more streams than slots
pub handles_few : {S : Type 0} (slots : Slots S) → length (handles_in slots) ≤ length slots
handles_few [] = omega arith
handles_few (None ∷ slots) = let h = handles_few slots in omega (arith, h)
handles_few (Some handle ∷ slots) = let h = handles_few slots in omega (arith, h)

-- so has the scratch area
pub scratch_few : {S : Type 0} (scratch : Option (Scratch S)) → IfSome scratch HasBounds → length (handles_in (slots_of scratch)) ≤ 64
scratch_few None bounds = omega arith
scratch_few (Some scratch) bounds =
    let h = handles_few scratch.message.slots in
    let b = bounds.slots in
    omega (arith, h, b)

-- a message of a letter is shut, through an empty shed
pub sheds_letter : {S : Type 0} (tells : Told S) (letter : Letter S) (message : Message S) (before shed closed next : List (Handle S)) → message ≡ letter.message → before ≡ []
    → Sheds tells (handles_in message.slots) before shed → next ≡ closed ++ shed → Sheds tells (handles_in letter.message.slots) closed next
sheds_letter tells letter message before shed closed next same empty sheds is =
    sheds_moved tells (handles_in letter.message.slots) shed closed next
    (subst (λ hs. Sheds tells (handles_in letter.message.slots) hs shed) empty (subst (λ (m : Message _). Sheds tells (handles_in m.slots) before shed) same sheds)) is

-- the streams of the oldest letter, and of the others
pub letters_length : {S : Type 0} (left rest : List (Letter S)) (letter : Letter S) (message : Message S) → left ≡ letter ∷ rest → message ≡ letter.message
    → length (letters_streams left) ≡ length (handles_in message.slots) + length (letters_streams rest)
letters_length left rest letter message is same =
    ap (λ ls. length (letters_streams ls)) is ∙ length-append (handles_in letter.message.slots) (letters_streams rest)
    ∙ ap (λ (m : Message _). length (handles_in m.slots) + length (letters_streams rest)) (sym same)
