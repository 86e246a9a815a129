use Rattle.std.proofs.Common.{◌≡◌, ◌≢◌, ◌≤◌, ◌<◌, ℕ, zero, suc, ◌+◌, List, [], ◌∷◌, ◌++◌, length, map, All, Contains, Option, Some, None, Bool, true, false, slice_get, append-nil}
use Rattle.std.proofs.Common.{refl, arith, sym, ◌∙◌, ap, subst, ◌⊎◌, inl, inr}
use Rattle.std.proofs.lemmas.List.{length-map, map-append}
use Rattle.std.proofs.lemmas.List.Elements.{Contains-append_right}
use Rattle.resource_table.specs.Handles.{Handle, numbers_of}
use Rattle.resource_table.specs.Steps.{Told, IsShut, AreShut, Sheds}
use Rattle.world_rules.specs.declared.entry.Entry.{Entry}
use Rattle.world_rules.specs.declared.life.Ended.{Ended as EndMemory}
use Rattle.world_rules.specs.Book.{Book, AddsEntry}
use Rattle.world_rules.specs.Lives.{Setting}
use Rattle.world_rules.specs.Mail.{MailItem, mail_handles}
use Rattle.world_rules.specs.Sound.{IsSound}
use Rattle.world_rules.specs.Told.{told, IsTold}
use Rattle.world_rules.specs.Views.{Given, Giving, deed_of}
use Rattle.world_rules.specs.World.{World, Process, Stage, Unborn, Ready, Out, Waiting, Doomed, Ended, is_away, is_live, is_ended}
use Rattle.world_rules.specs.Touches.{nobody}
use Rattle.node_state.specs.Seats.{Meaning, part_handles}
use Rattle.node_state.specs.Slots.{Slot, SlotFits, closings_at}
use Rattle.node_state.specs.Held.{Held, StandsFor}
use Rattle.node_state.specs.Changes.{Records}
use Rattle.node_state.specs.Streaming.{Kept, StreamsStand, AreOwned, HandsOn}
use Rattle.host_calls.specs.Shown.{shown_part}
use Rattle.tagged_mailbox.specs.Mail.{Mail}
use Rattle.process_table.specs.Letters.{Letter}
use Rattle.process_table.specs.declared.place.Place.{Place}
use Rattle.process_table.specs.declared.place.Place.TheVariants as PlaceIs
use Rattle.process_table.specs.Holds.{Fields, NodeKeeps, held_of, kept_of, slot_of, hands_at, hands_in, streams_of, streams_at, letters_in}
use Rattle.process_table.proofs.Owning.{numbers-hands, numbers-mail, keeps-owned}

-- Streams that stay with a node, leave it with their process, or are closed.

-- the laws that are cited, of this meaning

abbrev pub OthersLaw : {E P S : Type 0} → Meaning E P → Told S → Type 0
OthersLaw {E = E} {P = P} {S = S} engines tells =
    (setting : Setting P) (old new : Book) (held after : Held E) (was is : Kept S) (pid : ℕ) (entry : Entry) (ends : List EndMemory)
    → StandsFor engines setting old (told old) held → ((give : Given) → deed_of entry ≢ Giving give) → Records old new entry ends → StandsFor engines setting new (told new) after
    → StreamsStand tells (told old) was → HandsOn tells was is pid (was.hands pid ++ was.mail pid) [] → StreamsStand tells (told new) is

abbrev pub ApartLaw : {E P : Type 0} → Meaning E P → Type 0
ApartLaw {E = E} {P = P} engines =
    (setting : Setting P) (book : Book) (held : Held E) (pid : ℕ) → StandsFor engines setting book (told book) held
    → length (told book).closed + (length (part_handles ((told book).process pid).part) + length (mail_handles ((told book).process pid).mail)) ≤ (told book).streams

-- CLOSED STREAMS

-- what was shut has its stream among those that were to be shut
pub shut_from : {S : Type 0} (tells : Told S) (hs ks : List (Handle S)) (k : Handle S) → AreShut tells hs ks → Contains ks k → (h : Handle S) × Contains hs h × IsShut tells h k
shut_from tells [] [] k shut at = let l = at.1 in absurd (omega (arith, l))
shut_from tells [] (x ∷ ks) k shut at = absurd shut
shut_from tells (h ∷ hs) [] k shut at = absurd shut
shut_from tells (h ∷ hs) (x ∷ ks) k shut (zero, lt, is) = (h, (zero, omega arith, refl), subst (λ y. IsShut tells h y) is shut.0)
shut_from tells (h ∷ hs) (x ∷ ks) k shut (suc i, lt, is) =
    let r = shut_from tells hs ks k shut.1 (i, omega (arith, lt), is) in
    let l = r.1.1 in
    (r.0, (suc r.1.0, omega (arith, l), r.1.2), r.2)

-- it has the same numbers
pub numbers_shut : {S : Type 0} (tells : Told S) (hs ks : List (Handle S)) → AreShut tells hs ks → numbers_of ks ≡ numbers_of hs
numbers_shut tells [] [] shut = refl
numbers_shut tells [] (k ∷ ks) shut = absurd shut
numbers_shut tells (h ∷ hs) [] shut = absurd shut
numbers_shut tells (h ∷ hs) (k ∷ ks) shut = ap (λ n. n ∷ numbers_of ks) shut.0.number ∙ ap (λ ns. h.number ∷ ns) (numbers_shut tells hs ks shut.1)

-- HANDED ON

none_in : {S : Type 0} (xs : List (Handle S)) (handle : Handle S) → xs ≡ [] → Contains xs handle → ⊥
none_in [] handle is at = let l = at.1 in omega (arith, l)
none_in (x ∷ xs) handle is at = let h : ⊥ = cc in h

-- those of one process, and of its mailbox, are closed
pub hands_closed : {S : Type 0} (tells : Told S) (was is : Kept S) (pid : ℕ) → Sheds tells (was.hands pid ++ was.mail pid) was.closed is.closed → is.hands pid ≡ [] → is.mail pid ≡ []
    → ((q : ℕ) → q ≢ pid → is.hands q ≡ was.hands q) → ((q : ℕ) → q ≢ pid → is.mail q ≡ was.mail q) → HandsOn tells was is pid (was.hands pid ++ was.mail pid) []
hands_closed tells was is pid sheds hands mail others boxes = record {
  in_hand = λ handle at. absurd (none_in (is.hands pid ++ is.mail pid) handle (ap (λ xs. xs ++ is.mail pid) hands ∙ mail) at);
  more = sheds.closed;
  closed = sheds.behind;
  shut = λ handle at. ∣ inr (shut_from tells (was.hands pid ++ was.mail pid) sheds.closed handle sheds.shut at) ∣₁;
  other_hands = others;
  other_mail = boxes;
}

-- those of one process leave the node
pub hands_left : {S : Type 0} (tells : Told S) (was is : Kept S) (pid : ℕ) → is.hands pid ≡ [] → is.mail pid ≡ was.mail pid → is.closed ≡ was.closed
    → ((q : ℕ) → q ≢ pid → is.hands q ≡ was.hands q) → ((q : ℕ) → q ≢ pid → is.mail q ≡ was.mail q) → HandsOn tells was is pid (was.hands pid ++ was.mail pid) []
hands_left tells was is pid hands mail closed others boxes = record {
  in_hand = λ handle at. Contains-append_right (was.hands pid) (was.mail pid) handle
      (subst (λ xs. Contains xs handle) (ap (λ xs. xs ++ is.mail pid) hands ∙ mail) at);
  more = [];
  closed = closed ∙ sym (append-nil was.closed);
  shut = λ handle at. absurd (none_in [] handle refl at);
  other_hands = others;
  other_mail = boxes;
}

-- all stay
pub hands_stay : {S : Type 0} (tells : Told S) (was is : Kept S) (pid : ℕ) → is.closed ≡ was.closed → ((q : ℕ) → is.hands q ≡ was.hands q) → ((q : ℕ) → is.mail q ≡ was.mail q)
    → HandsOn tells was is pid (was.hands pid ++ was.mail pid) []
hands_stay tells was is pid closed hands mail = record {
  in_hand = λ handle at. subst (λ xs. Contains xs handle) (ap (λ xs. xs ++ is.mail pid) (hands pid) ∙ ap (λ xs. was.hands pid ++ xs) (mail pid)) at;
  more = [];
  closed = closed ∙ sym (append-nil was.closed);
  shut = λ handle at. absurd (none_in [] handle refl at);
  other_hands = λ q different. hands q;
  other_mail = λ q different. mail q;
}

-- ROOM FOR CLOSINGS

hands_few : {S : Type 0} (hands : List (Handle S)) (numbers : List ℕ) (away : Bool) → (away ≡ false → numbers_of hands ≡ numbers) → (away ≡ true → hands ≡ []) → length hands ≤ length numbers
hands_few hands numbers true home gone = let l = ap length (gone refl) in omega (arith, l)
hands_few hands numbers false home gone = let l = sym (length-map hands (λ h. h.number)) ∙ ap length (home refl) in omega (arith, l)

pub closings_room : {E O P S L : Type 0} {engines : Meaning E P} {may_ask : P → ℕ → Type 0} {tells : Told S} {setting : Setting P} → ApartLaw engines → (book : Book) (f : Fields E O P S L) (pid : ℕ)
    → NodeKeeps engines may_ask tells setting book f
    → length f.closed + (length (hands_in (slice_get f.places pid)) + length (streams_at (slice_get f.mail pid))) ≤ f.closed_room
closings_room {setting = setting} apart book f pid keeps =
    let w : World = told book in
    let owned = keeps-owned book f keeps in
    let all = apart setting book (held_of f) pid keeps.stands in
    let closed : length f.closed ≡ length w.closed = sym (length-map f.closed (λ h. h.number)) ∙ ap length owned.closed in
    let mail : length (streams_at (slice_get f.mail pid)) ≡ length (mail_handles (w.process pid).mail) =
    sym (length-map (streams_at (slice_get f.mail pid)) (λ h. h.number)) ∙ ap length (owned.mail pid) in
    let hands = hands_few (hands_in (slice_get f.places pid)) (part_handles (w.process pid).part) (is_away (w.process pid).stage) (owned.hands pid) (owned.away pid) in
    let streams : w.streams ≡ f.streams = keeps.stands.mirrors.streams in
    let room = keeps.closed_room in
    omega (arith, all, closed, mail, hands, streams, room)

-- what is closed where an end comes to a process that is live

not_live : (stage other : Stage) → stage ≡ other → is_live other ≡ false → is_live stage ≡ true → ⊥
not_live stage other is dead live = let h : true ≡ false = sym live ∙ ap is_live is ∙ dead in cc

ended_not_live : (stage : Stage) → is_ended stage ≡ true → is_live stage ≡ true → ⊥
ended_not_live Unborn ended live = let h : false ≡ true = ended in cc
ended_not_live Ready ended live = let h : false ≡ true = ended in cc
ended_not_live (Out worker) ended live = let h : false ≡ true = ended in cc
ended_not_live (Waiting request) ended live = let h : false ≡ true = ended in cc
ended_not_live (Doomed worker end) ended live = let h : false ≡ true = ended in cc
ended_not_live (Ended end) ended live = let h : false ≡ true = live in cc

pub closings_are : {E O P S L : Type 0} (engines : Meaning E P) (programs : List P) (p : Process) (place : Place E O P S L) (box : Mail (Letter S)) → SlotFits engines programs p (slot_of place)
    → is_live p.stage ≡ true → numbers_of (hands_at place ++ streams_of box) ≡ closings_at (slot_of place) (letters_in box)
closings_are engines programs p PlaceIs.Nobody box fits live = absurd (not_live p.stage Unborn (ap (λ q. q.stage) fits) refl live)
closings_are engines programs p (PlaceIs.Home proc) box fits live =
    map-append (λ h. h.number) (hands_at (PlaceIs.Home proc)) (streams_of box) ∙ ap (λ ns. ns ++ numbers_of (streams_of box)) (numbers-hands proc) ∙ ap
    (λ ns. part_handles (shown_part proc) ++ ns) (numbers-mail box)
closings_are engines programs p (PlaceIs.Asleep proc ask) box fits live =
    map-append (λ h. h.number) (hands_at (PlaceIs.Asleep proc ask)) (streams_of box) ∙ ap (λ ns. ns ++ numbers_of (streams_of box)) (numbers-hands proc)
    ∙ ap (λ ns. part_handles (shown_part proc) ++ ns) (numbers-mail box)
closings_are engines programs p (PlaceIs.Away worker) box fits live = numbers-mail box
closings_are engines programs p (PlaceIs.Fated worker end) box fits live = absurd (not_live p.stage (Doomed worker end) fits refl live)
closings_are engines programs p PlaceIs.Gone box fits live = absurd (ended_not_live p.stage fits.ended live)
