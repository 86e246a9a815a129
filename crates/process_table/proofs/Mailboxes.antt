use Rattle.std.proofs.Common.{◌≡◌, ◌%◌, ℕ, suc, ◌+◌, List, [], ◌∷◌, ◌++◌, Bool, true, false, cond, eqb, nat_eq, Option, Some, None, length, map, option_map, find, count_by, refl, ap, sym, ◌∙◌}
use Rattle.std.proofs.Common.{arith, ◌⊎◌, inl, inr}
use Rattle.std.specs.List.{list_any}
use Rattle.std.specs.Int.{from_le_bytes, w64}
use Rattle.std.proofs.lemmas.List.{map-append}
use Rattle.std.proofs.lemmas.List.Recursion.{is_count_by}
use Rattle.std.proofs.lemmas.Bool.Decides.{nat_tests}
use Rattle.tagged_mailbox.specs.Mail.{Mail, counted}
use Rattle.tagged_mailbox.specs.Pick as Picks
use Rattle.message_scratch.specs.Messages as Kept
use Rattle.message_scratch.specs.Changes.{HasBounds}
use Rattle.resource_table.specs.Handles.{Handle}
use Rattle.std.proofs.Common.{◌≤◌, IfSome, Contains, append-nil, subst}
use Rattle.std.proofs.lemmas.Grind.{flat_map-append}
use Rattle.std.proofs.lemmas.List.Elements.{Contains-append_left, Contains-append_right, Contains-append_cases}
use Rattle.world_rules.specs.Mail.{MailItem, tags_in, is_wanted, pick, unpicked, message_count}
use Rattle.world_rules.specs.Part.{Part, Scratch}
use Rattle.node_state.specs.Posts.{PutsBehind, TakesWanted}
use Rattle.host_calls.specs.Shown.{shown_message, shown_scratch}
use Rattle.std.specs.List.{flat_map}
use Rattle.process_table.specs.Letters.{Letter}
use Rattle.process_table.specs.Holds.{letter_of, letters_in, streams_of}

-- A mailbox of letters against the mailbox of the rules.

-- each letter is a message, and counts
pub letters-count : {S : Type 0} (letters : List (Letter S)) → message_count (map letter_of letters) ≡ counted (λ (letter : Letter S). true) letters
letters-count {S = S} letters = is_count_by (λ (ls : List (Letter S)). message_count (map letter_of ls)) (λ (letter : Letter S). true) refl (λ letter ls. one_more (message_count (map letter_of ls))) letters
  where
    one_more : (n : ℕ) → suc n ≡ 1 + n
    one_more n = omega arith

-- the numbers that bytes spell
same_tags : (bytes : List ℕ) → Picks.tags_in bytes ≡ tags_in bytes
same_tags [] = refl
same_tags (a ∷ []) = refl
same_tags (a ∷ b ∷ []) = refl
same_tags (a ∷ b ∷ c ∷ []) = refl
same_tags (a ∷ b ∷ c ∷ d ∷ []) = refl
same_tags (a ∷ b ∷ c ∷ d ∷ e ∷ []) = refl
same_tags (a ∷ b ∷ c ∷ d ∷ e ∷ f ∷ []) = refl
same_tags (a ∷ b ∷ c ∷ d ∷ e ∷ f ∷ g ∷ []) = refl
same_tags (a ∷ b ∷ c ∷ d ∷ e ∷ f ∷ g ∷ h ∷ rest) = ap (λ (tags : List ℕ). from_le_bytes w64 (a ∷ b ∷ c ∷ d ∷ e ∷ f ∷ g ∷ h ∷ []) ∷ tags) (same_tags rest)

turned : (a b : ℕ) → eqb a b ≡ nat_eq b a
turned a b = grind (arith, nat_tests)

named_turned : (tag : ℕ) (tags : List ℕ) → list_any (λ (named : ℕ). eqb named tag) tags ≡ list_any (nat_eq tag) tags
named_turned tag [] = refl
named_turned tag (first ∷ rest) = rw (turned first tag, named_turned tag rest) refl

named : (bytes : List ℕ) (tag : ℕ) → Picks.is_named bytes tag ≡ list_any (nat_eq tag) (tags_in bytes)
named bytes tag = named_turned tag (Picks.tags_in bytes) ∙ ap (list_any (nat_eq tag)) (same_tags bytes)

pub same-wanted : (bytes : List ℕ) (tag : ℕ) → length bytes % 8 ≡ 0 → Picks.is_wanted bytes tag ≡ is_wanted (tags_in bytes) tag
same-wanted [] tag whole = refl
same-wanted (a ∷ []) tag whole = absurd (cc)
same-wanted (a ∷ b ∷ []) tag whole = absurd (cc)
same-wanted (a ∷ b ∷ c ∷ []) tag whole = absurd (cc)
same-wanted (a ∷ b ∷ c ∷ d ∷ []) tag whole = absurd (cc)
same-wanted (a ∷ b ∷ c ∷ d ∷ e ∷ []) tag whole = absurd (cc)
same-wanted (a ∷ b ∷ c ∷ d ∷ e ∷ f ∷ []) tag whole = absurd (cc)
same-wanted (a ∷ b ∷ c ∷ d ∷ e ∷ f ∷ g ∷ []) tag whole = absurd (cc)
same-wanted (a ∷ b ∷ c ∷ d ∷ e ∷ f ∷ g ∷ h ∷ rest) tag whole = named (a ∷ b ∷ c ∷ d ∷ e ∷ f ∷ g ∷ h ∷ rest) tag

-- a mailbox's test of letters is the rules' test of items
abbrev AreSameTests : List ℕ → List ℕ → Type 0
AreSameTests bytes tags = (tag : ℕ) → Picks.is_wanted bytes tag ≡ is_wanted tags tag

picked-at : {S : Type 0} (here there : Bool) (letter : Letter S) (found : Option MailItem) (later : Option (Letter S)) → here ≡ there → found ≡ option_map letter_of later
    → cond there (Some (letter_of letter)) found ≡ option_map letter_of (cond here (Some letter) later)
picked-at true here letter found later is same = rw (← is) refl
picked-at false here letter found later is same = rw (← is) same

pub same-pick : {S : Type 0} (bytes tags : List ℕ) (letters : List (Letter S)) → AreSameTests bytes tags
    → pick tags (map letter_of letters) ≡ option_map letter_of (Picks.pick (λ (letter : Letter S). letter.message.tag) bytes letters)
same-pick bytes tags [] same = refl
same-pick bytes tags (letter ∷ letters) same =
    picked-at (Picks.is_wanted bytes letter.message.tag) (is_wanted tags letter.message.tag) letter _ _ (same letter.message.tag) (same-pick bytes tags letters same)

left-at : {S : Type 0} (here there : Bool) (letter : Letter S) (letters later : List (Letter S)) (left : List MailItem) → here ≡ there → left ≡ map letter_of later
    → cond there (map letter_of letters) (letter_of letter ∷ left) ≡ map letter_of (cond here letters (letter ∷ later))
left-at true there letter letters later left is same = rw (← is) refl
left-at false there letter letters later left is same = rw (← is, same) refl

pub same-left : {S : Type 0} (bytes tags : List ℕ) (letters : List (Letter S)) → AreSameTests bytes tags
    → unpicked tags (map letter_of letters) ≡ map letter_of (Picks.left_by_pick (λ (letter : Letter S). letter.message.tag) bytes letters)
same-left bytes tags [] same = refl
same-left bytes tags (letter ∷ letters) same =
    left-at (Picks.is_wanted bytes letter.message.tag) (is_wanted tags letter.message.tag) letter letters _ _ (same letter.message.tag) (same-left bytes tags letters same)

-- the message is put behind the others
pub puts-behind : {S : Type 0} (part : Part) (mail after : Mail (Letter S)) (scratch left : Option (Kept.Scratch S)) (number : ℕ) (message : Kept.Message S)
    → Some message ≡ option_map (λ (s : Kept.Scratch S). s.message) scratch
    → after.items ≡ mail.items ++ record { number = number; message = message } ∷ [] → left ≡ None
    → PutsBehind (letters_in mail) (record part { scratch = shown_scratch scratch }) number (letters_in after) (record part { scratch = shown_scratch left })
puts-behind {S = S} part mail after None left number message was behind empty = absurd (cc)
puts-behind {S = S} part mail after (Some scratch) left number message was behind empty =
    let is : message ≡ scratch.message = cc in
    record {
      scratch = record { message = shown_message scratch.message; read_place = scratch.read_place };
      was = refl;
      behind = ap (λ (xs : List (Letter S)). map letter_of xs) behind ∙ map-append letter_of mail.items (record { number = number; message = message } ∷ [])
          ∙ ap (λ (m : Kept.Message S). map letter_of mail.items ++ letter_of (record { number = number; message = m }) ∷ []) is;
      left = ap (λ (s : Option (Kept.Scratch S)). record part { scratch = shown_scratch s }) empty;
    }

-- the wanted message is taken out, and becomes the scratch message
pub takes-wanted : {S : Type 0} (part : Part) (bytes : List ℕ) (mail after : Mail (Letter S)) (scratch held : Option (Kept.Scratch S)) (letter : Letter S) → length bytes % 8 ≡ 0
    → Some letter ≡ Picks.pick (λ (l : Letter S). l.message.tag) bytes mail.items
    → after.items ≡ Picks.left_by_pick (λ (l : Letter S). l.message.tag) bytes mail.items → held ≡ Some (Kept.unread letter.message)
    → TakesWanted (tags_in bytes) (letters_in mail) (record part { scratch = shown_scratch scratch }) (letters_in after) (record part { scratch = shown_scratch held })
takes-wanted {S = S} part bytes mail after scratch held letter whole found left holds =
    let same : AreSameTests bytes (tags_in bytes) = λ tag. same-wanted bytes tag whole in
    record {
      number = letter.number;
      message = shown_message letter.message;
      found = same-pick bytes (tags_in bytes) mail.items same ∙ ap (option_map letter_of) (sym found);
      left = ap (map letter_of) left ∙ sym (same-left bytes (tags_in bytes) mail.items same);
      held = ap (λ (s : Option (Kept.Scratch S)). record part { scratch = shown_scratch s }) holds;
    }

-- nothing is wanted
pub finds-none : {S : Type 0} (bytes : List ℕ) (mail : Mail (Letter S)) → length bytes % 8 ≡ 0 → None ≡ Picks.pick (λ (l : Letter S). l.message.tag) bytes mail.items → pick (tags_in bytes) (letters_in mail) ≡ None
finds-none bytes mail whole none = same-pick bytes (tags_in bytes) mail.items (λ tag. same-wanted bytes tag whole) ∙ ap (option_map letter_of) (sym none)

-- and the mailbox stays
pub left-whole : {S : Type 0} (bytes : List ℕ) (letters : List (Letter S)) → None ≡ Picks.pick (λ (l : Letter S). l.message.tag) bytes letters → Picks.left_by_pick (λ (l : Letter S). l.message.tag) bytes letters ≡ letters
left-whole bytes [] none = refl
left-whole {S = S} bytes (letter ∷ letters) none = stays (Picks.is_wanted bytes letter.message.tag) refl (λ none'. left-whole bytes letters none') none
  where
    stays : (b : Bool) → Picks.is_wanted bytes letter.message.tag ≡ b
        → (None ≡ Picks.pick (λ (l : Letter S). l.message.tag) bytes letters → Picks.left_by_pick (λ (l : Letter S). l.message.tag) bytes letters ≡ letters)
        → None ≡ cond b (Some letter) (Picks.pick (λ (l : Letter S). l.message.tag) bytes letters)
        → cond b letters (letter ∷ Picks.left_by_pick (λ (l : Letter S). l.message.tag) bytes letters) ≡ letter ∷ letters
    stays true is rest none' = absurd (cc)
    stays false is rest none' = ap (λ (ls : List (Letter S)). letter ∷ ls) (rest none')

-- STREAMS

streams_behind : {S : Type 0} (letters : List (Letter S)) (letter : Letter S)
    → flat_map (λ l. Kept.handles_in l.message.slots) (letters ++ letter ∷ []) ++ [] ≡ flat_map (λ l. Kept.handles_in l.message.slots) letters ++ Kept.handles_in letter.message.slots
streams_behind letters letter =
    append-nil (flat_map (λ l. Kept.handles_in l.message.slots) (letters ++ letter ∷ [])) ∙ flat_map-append (λ l. Kept.handles_in l.message.slots) letters (letter ∷ [])
    ∙ ap (λ hs. flat_map (λ l. Kept.handles_in l.message.slots) letters ++ hs) (append-nil (Kept.handles_in letter.message.slots))

-- the streams of the message go with it into the mailbox
pub puts-streams : {S : Type 0} (mail after : Mail (Letter S)) (scratch left : Option (Kept.Scratch S)) (number : ℕ) (message : Kept.Message S)
    → Some message ≡ option_map (λ (s : Kept.Scratch S). s.message) scratch
    → after.items ≡ mail.items ++ record { number = number; message = message } ∷ [] → left ≡ None
    → streams_of after ++ Kept.handles_in (Kept.slots_of left) ≡ streams_of mail ++ Kept.handles_in (Kept.slots_of scratch)
puts-streams mail after None left number message was behind empty = absurd (cc)
puts-streams {S = S} mail after (Some scratch) left number message was behind empty =
    let is : message ≡ scratch.message = cc in
    ap (λ (o : Option (Kept.Scratch S)). streams_of after ++ Kept.handles_in (Kept.slots_of o)) empty
    ∙ ap (λ (ls : List (Letter S)). flat_map (λ l. Kept.handles_in l.message.slots) ls ++ []) behind
    ∙ streams_behind mail.items (record { number = number; message = message })
    ∙ ap (λ (m : Kept.Message S). streams_of mail ++ Kept.handles_in m.slots) is

-- and come out of it with the message that is picked
pub picked-streams : {S : Type 0} (bytes : List ℕ) (letters : List (Letter S)) (letter : Letter S) → Some letter ≡ Picks.pick (λ (l : Letter S). l.message.tag) bytes letters → (h : Handle S)
    → Contains (Kept.handles_in letter.message.slots ++ flat_map (λ l. Kept.handles_in l.message.slots) (Picks.left_by_pick (λ (l : Letter S). l.message.tag) bytes letters)) h
    → Contains (flat_map (λ l. Kept.handles_in l.message.slots) letters) h
picked-streams bytes [] letter found h has = let f : ⊥ = cc in absurd f
picked-streams {S = S} bytes (first ∷ letters) letter found h has =
    by (Picks.is_wanted bytes first.message.tag) (λ found'. picked-streams bytes letters letter found' h) found has
  where
    swap : (a b c : List (Handle S)) → (Contains (a ++ c) h → Contains (flat_map (λ l. Kept.handles_in l.message.slots) letters) h) → Contains (a ++ (b ++ c)) h
        → Contains (b ++ flat_map (λ l. Kept.handles_in l.message.slots) letters) h
    swap a b c rest has' = first_of_three (Contains-append_cases a (b ++ c) h has')
      where
        there : Contains (a ++ c) h → Contains (b ++ flat_map (λ l. Kept.handles_in l.message.slots) letters) h
        there x = Contains-append_right b (flat_map (λ l. Kept.handles_in l.message.slots) letters) h (rest x)

        second : Contains b h ⊎ Contains c h → Contains (b ++ flat_map (λ l. Kept.handles_in l.message.slots) letters) h
        second (inl x) = Contains-append_left b (flat_map (λ l. Kept.handles_in l.message.slots) letters) h x
        second (inr x) = there (Contains-append_right a c h x)

        first_of_three : Contains a h ⊎ Contains (b ++ c) h → Contains (b ++ flat_map (λ l. Kept.handles_in l.message.slots) letters) h
        first_of_three (inl x) = there (Contains-append_left a c h x)
        first_of_three (inr x) = second (Contains-append_cases b c h x)

    by : (b : Bool)
        → (Some letter ≡ Picks.pick (λ (l : Letter S). l.message.tag) bytes letters
        → Contains (Kept.handles_in letter.message.slots ++ flat_map (λ l. Kept.handles_in l.message.slots) (Picks.left_by_pick (λ (l : Letter S). l.message.tag) bytes letters)) h
        → Contains (flat_map (λ l. Kept.handles_in l.message.slots) letters) h)
        → Some letter ≡ cond b (Some first) (Picks.pick (λ (l : Letter S). l.message.tag) bytes letters)
        → Contains (Kept.handles_in letter.message.slots ++ flat_map (λ l. Kept.handles_in l.message.slots) (cond b letters (first ∷ Picks.left_by_pick (λ (l : Letter S). l.message.tag) bytes letters))) h
        → Contains (Kept.handles_in first.message.slots ++ flat_map (λ l. Kept.handles_in l.message.slots) letters) h
    by true rest found' has' =
        let is : letter ≡ first = cc in
        subst (λ l. Contains (Kept.handles_in l.message.slots ++ flat_map (λ k. Kept.handles_in k.message.slots) letters) h) is has'
    by false rest found' has' =
        swap (Kept.handles_in letter.message.slots) (Kept.handles_in first.message.slots)
        (flat_map (λ l. Kept.handles_in l.message.slots) (Picks.left_by_pick (λ (l : Letter S). l.message.tag) bytes letters)) (rest found') has'

-- how many streams are in the slots
pub slots-few : {S : Type 0} (slots : Kept.Slots S) → length (Kept.handles_in slots) ≤ length slots
slots-few [] = omega arith
slots-few (None ∷ slots) = let h = slots-few slots in omega (arith, h)
slots-few (Some handle ∷ slots) = let h = slots-few slots in omega (arith, h)

pub scratch-few : {S : Type 0} (scratch : Option (Kept.Scratch S)) → IfSome scratch HasBounds → length (Kept.handles_in (Kept.slots_of scratch)) ≤ 64
scratch-few None bounds = omega arith
scratch-few (Some scratch) bounds = let h = slots-few scratch.message.slots in let b = bounds.slots in omega (arith, h, b)
