use Rattle.std.proofs.Common.{◌≡◌, ◌≤◌, ◌+◌, List, [], ◌∷◌, ◌++◌, length, length-append, append-nil, append_assoc, Option, Some, None, IfSome, option_map, refl, arith, sym, ◌∙◌, ap, subst}
use Rattle.std.specs.List.{flat_map}
use Rattle.resource_table.specs.Handles.{Handle}
use Rattle.resource_table.specs.Steps.{Told, Sheds}
use Rattle.resource_table.proofs.Closings.{sheds_none, sheds_more}
use Rattle.message_scratch.specs.Messages.{Slots, Message, Scratch, slots_of, handles_in}
use Rattle.message_scratch.specs.Changes.{HasBounds}
use Rattle.process_store.specs.Letters.{ItemShown}
use Rattle.process_store.specs.declared.item.Letter.{Letter}
use Rattle.process_store.specs.Holds.{item_streams, streams_by}

-- The items of a mailbox, closed one after the other.

-- the streams of these items
abbrev pub items_streams : {S : Type 0} → List (ItemShown S) → List (Handle S)
items_streams items = flat_map item_streams items

-- of these items the first are closed, and the others are left
pub record IsClosing {S : Type 0} (tells : Told S) (all : List (ItemShown S)) (closed : List (Handle S)) (left : List (ItemShown S)) (now : List (Handle S)) : Type 0 where
  pub done : List (Handle S)
  pub split : items_streams all ≡ done ++ items_streams left
  pub sheds : Sheds tells done closed now

pub closing_begins : {S : Type 0} (tells : Told S) (all : List (ItemShown S)) (closed : List (Handle S)) → IsClosing tells all closed all closed
closing_begins tells all closed = record { done = []; split = refl; sheds = sheds_none tells closed }

pub closing_goes_on : {S : Type 0} (tells : Told S) (all left rest : List (ItemShown S)) (closed now next : List (Handle S)) (item : ItemShown S) → left ≡ item ∷ rest
    → IsClosing tells all closed left now → Sheds tells (item_streams item) now next → IsClosing tells all closed rest next
closing_goes_on tells all left rest closed now next item is closing shut = record {
  done = closing.done ++ item_streams item;
  split = closing.split ∙ ap (λ ls. closing.done ++ items_streams ls) is ∙ sym (append_assoc closing.done (item_streams item) (items_streams rest));
  sheds = sheds_more tells closing.done (item_streams item) closed now next closing.sheds shut;
}

pub closing_ends : {S : Type 0} (tells : Told S) (all left : List (ItemShown S)) (closed now : List (Handle S)) → left ≡ [] → IsClosing tells all closed left now
    → Sheds tells (items_streams all) closed now
closing_ends tells all left closed now none closing =
    subst (λ hs. Sheds tells hs closed now) (sym (closing.split ∙ ap (λ ls. closing.done ++ items_streams ls) none ∙ append-nil closing.done)) closing.sheds

-- what was shed from an empty shed moves behind the closed ones
pub sheds_moved : {S : Type 0} (tells : Told S) (hs shed closed next : List (Handle S)) → Sheds tells hs [] shed → next ≡ closed ++ shed → Sheds tells hs closed next
sheds_moved tells hs shed closed next sheds is = record { closed = sheds.closed; shut = sheds.shut; behind = is ∙ ap (λ ks. closed ++ ks) sheds.behind }

-- a message has no more streams than slots
pub handles_few : {S : Type 0} (slots : Slots S) → length (handles_in slots) ≤ length slots
handles_few [] = omega arith
handles_few (None ∷ slots) = let h = handles_few slots in omega (arith, h)
handles_few (Some handle ∷ slots) = let h = handles_few slots in omega (arith, h)

-- so has the scratch area
pub scratch_few : {S : Type 0} (scratch : Option (Scratch S)) → IfSome scratch HasBounds → length (handles_in (slots_of scratch)) ≤ 64
scratch_few None bounds = omega arith
scratch_few (Some scratch) bounds =
    let h = handles_few scratch.message.slots in
    let b = bounds.slots in
    omega (arith, h, b)

-- the streams of an item, by its message
message_streams : {S : Type 0} (item : ItemShown S) (message : Message S) → Some message ≡ option_map (λ (letter : Letter S). letter.message) item.letter → item_streams item ≡ handles_in message.slots
message_streams {S = S} item message is = by item.letter is
  where
    by : (letter : Option (Letter S)) → Some message ≡ option_map (λ (letter : Letter S). letter.message) letter → streams_by letter ≡ handles_in message.slots
    by None e = let h : ⊥ = cc in absurd h
    by (Some letter) e = let same : letter.message ≡ message = cc in ap (λ (m : Message S). handles_in m.slots) same

pub no_streams : {S : Type 0} (item : ItemShown S) → None ≡ option_map (λ (letter : Letter S). letter.message) item.letter → item_streams item ≡ []
no_streams {S = S} item is = by item.letter is
  where
    by : (letter : Option (Letter S)) → None ≡ option_map (λ (letter : Letter S). letter.message) letter → streams_by letter ≡ []
    by None e = refl
    by (Some letter) e = let h : ⊥ = cc in absurd h

-- a message of an item is shut, through an empty shed
pub sheds_item : {S : Type 0} (tells : Told S) (item : ItemShown S) (message : Message S) (before shed closed next : List (Handle S))
    → Some message ≡ option_map (λ (letter : Letter S). letter.message) item.letter → before ≡ []
    → Sheds tells (handles_in message.slots) before shed → next ≡ closed ++ shed → Sheds tells (item_streams item) closed next
sheds_item tells item message before shed closed next same empty sheds is =
    sheds_moved tells (item_streams item) shed closed next
    (subst (λ hs. Sheds tells (item_streams item) hs shed) empty (subst (λ hs. Sheds tells hs before shed) (sym (message_streams item message same)) sheds)) is

-- the streams of the oldest item, and of the others
pub items_length : {S : Type 0} (left rest : List (ItemShown S)) (item : ItemShown S) (message : Message S) → left ≡ item ∷ rest → Some message ≡ option_map (λ (letter : Letter S). letter.message) item.letter
    → length (items_streams left) ≡ length (handles_in message.slots) + length (items_streams rest)
items_length left rest item message is same =
    ap (λ ls. length (items_streams ls)) is ∙ length-append (item_streams item) (items_streams rest)
    ∙ ap (λ hs. length hs + length (items_streams rest)) (message_streams item message same)

-- an item without streams is left out
pub closing_skips : {S : Type 0} (tells : Told S) (all left rest : List (ItemShown S)) (closed now : List (Handle S)) (item : ItemShown S) → left ≡ item ∷ rest
    → item_streams item ≡ [] → IsClosing tells all closed left now → IsClosing tells all closed rest now
closing_skips tells all left rest closed now item is none closing = record {
  done = closing.done;
  split = closing.split ∙ ap (λ ls. closing.done ++ items_streams ls) is ∙ ap (λ hs. closing.done ++ (hs ++ items_streams rest)) none;
  sheds = closing.sheds;
}

pub items_skip : {S : Type 0} (left rest : List (ItemShown S)) (item : ItemShown S) → left ≡ item ∷ rest → item_streams item ≡ [] → items_streams left ≡ items_streams rest
items_skip left rest item is none = ap items_streams is ∙ ap (λ hs. hs ++ items_streams rest) none
