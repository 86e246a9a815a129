use Rattle.std.proofs.Common.{◌≡◌, ℕ, List, [], ◌∷◌, ◌++◌, All, Option, Some, None, Bool, true, false, slice_get, map, option_map, refl, sym, ◌∙◌, ap, subst}
use Rattle.std.specs.List.{flat_map}
use Rattle.std.proofs.lemmas.List.{map-append}
use Rattle.std.proofs.lemmas.Option.{slice_get-map}
use Rattle.resource_table.specs.Handles.{Handle, numbers_of}
use Rattle.resource_table.specs.Steps.{Told}
use Rattle.message_scratch.specs.Messages as Kept
use Rattle.message_scratch.proofs.Numbers.{numbers_of-handles_in}
use Rattle.tagged_mailbox.specs.Mail.{Mail}
use Rattle.world_rules.specs.Book.{Book}
use Rattle.world_rules.specs.Lives.{Setting}
use Rattle.world_rules.specs.Mail.{mail_handles}
use Rattle.world_rules.specs.Part as PartIs
use Rattle.world_rules.specs.Told.{told}
use Rattle.world_rules.specs.World.{Process, Stage, Ready, Out, Doomed, is_away}
use Rattle.node_state.specs.Seats.{Meaning, part_handles}
use Rattle.node_state.specs.Slots.{Slot, SlotFits}
use Rattle.node_state.specs.Streaming.{AreOwned, IsOpen}
use Rattle.host_calls.specs.declared.proc.Proc.{Proc}
use Rattle.host_calls.specs.Shown.{hands_of, shown_part, shown_scratch}
use Rattle.process_table.specs.Letters.{Letter}
use Rattle.process_table.specs.declared.place.Place.{Place}
use Rattle.process_table.specs.declared.place.Place.TheVariants as PlaceIs
use Rattle.process_table.specs.Seen.{KeepsStreams, seen, at_number}
use Rattle.process_table.specs.Holds.{Fields, NodeKeeps, kept_of, letter_of, letters_in, slot_in, hands_at, hands_in, streams_of, streams_at, mail_in}

-- The streams of a node are those that its world has, each where it has it.

-- the numbers of the streams of a scratch message, of a process, and of a mailbox

pub numbers-scratch : {S : Type 0} (scratch : Option (Kept.Scratch S)) → numbers_of (Kept.handles_in (Kept.slots_of scratch)) ≡ PartIs.handles_in (PartIs.slots_of (shown_scratch scratch))
numbers-scratch None = refl
numbers-scratch (Some scratch) = numbers_of-handles_in scratch.message.slots

pub numbers-hands : {E O P S L : Type 0} (proc : Proc E O P S L) → numbers_of (hands_of proc) ≡ part_handles (shown_part proc)
numbers-hands proc =
    map-append (λ h. h.number) proc.table (Kept.handles_in (Kept.slots_of proc.scratch)) ∙ ap (λ ns. numbers_of proc.table ++ ns) (numbers-scratch proc.scratch)

numbers_letters : {S : Type 0} (letters : List (Letter S)) → numbers_of (flat_map (λ letter. Kept.handles_in letter.message.slots) letters) ≡ mail_handles (map letter_of letters)
numbers_letters [] = refl
numbers_letters (letter ∷ letters) =
    map-append (λ h. h.number) (Kept.handles_in letter.message.slots) (flat_map (λ l. Kept.handles_in l.message.slots) letters)
    ∙ ap (λ ns. ns ++ numbers_of (flat_map (λ l. Kept.handles_in l.message.slots) letters)) (numbers_of-handles_in letter.message.slots)
    ∙ ap (λ ns. PartIs.handles_in (Kept.slot_numbers letter.message.slots) ++ ns) (numbers_letters letters)

pub numbers-mail : {S : Type 0} (mail : Mail (Letter S)) → numbers_of (streams_of mail) ≡ mail_handles (letters_in mail)
numbers-mail mail = numbers_letters mail.items

pub numbers-mail-at : {S : Type 0} (mail : Option (Mail (Letter S))) → numbers_of (streams_at mail) ≡ mail_handles (mail_in mail)
numbers-mail-at None = refl
numbers-mail-at (Some mail) = numbers-mail mail

-- WHERE THEY STAND

not_away : (stage other : Stage) → stage ≡ other → is_away other ≡ true → is_away stage ≡ false → ⊥
not_away stage other is away home = let h : true ≡ false = sym away ∙ ap is_away (sym is) ∙ home in cc

away_not : (stage other : Stage) → stage ≡ other → is_away other ≡ false → is_away stage ≡ true → ⊥
away_not stage other is home away = let h : false ≡ true = sym home ∙ ap is_away (sym is) ∙ away in cc

hands_owned : {E O P S L : Type 0} (engines : Meaning E P) (programs : List P) (p : Process) (place : Option (Place E O P S L)) → SlotFits engines programs p (slot_in place) → is_away p.stage ≡ false
    → numbers_of (hands_in place) ≡ part_handles p.part
hands_owned engines programs p None fits home = ap (λ q. part_handles q.part) (sym fits)
hands_owned engines programs p (Some PlaceIs.Nobody) fits home = ap (λ q. part_handles q.part) (sym fits)
hands_owned engines programs p (Some (PlaceIs.Home proc)) fits home = numbers-hands proc ∙ ap part_handles fits.seated.part
hands_owned engines programs p (Some (PlaceIs.Asleep proc ask)) fits home = numbers-hands proc ∙ ap part_handles fits.seated.part
hands_owned engines programs p (Some (PlaceIs.Away worker)) fits home = absurd (not_away p.stage (Out worker) fits refl home)
hands_owned engines programs p (Some (PlaceIs.Fated worker end)) fits home = absurd (not_away p.stage (Doomed worker end) fits refl home)
hands_owned engines programs p (Some PlaceIs.Gone) fits home = ap part_handles (sym fits.left)

hands_gone : {E O P S L : Type 0} (engines : Meaning E P) (programs : List P) (p : Process) (place : Option (Place E O P S L)) → SlotFits engines programs p (slot_in place) → is_away p.stage ≡ true
    → hands_in place ≡ []
hands_gone engines programs p None fits away = refl
hands_gone engines programs p (Some PlaceIs.Nobody) fits away = refl
hands_gone engines programs p (Some (PlaceIs.Home proc)) fits away = absurd (away_not p.stage Ready fits.stage refl away)
hands_gone engines programs p (Some (PlaceIs.Asleep proc ask)) fits away = absurd (away_not p.stage _ fits.stage refl away)
hands_gone engines programs p (Some (PlaceIs.Away worker)) fits away = refl
hands_gone engines programs p (Some (PlaceIs.Fated worker end)) fits away = refl
hands_gone engines programs p (Some PlaceIs.Gone) fits away = refl

pub keeps-owned : {E O P S L : Type 0} {engines : Meaning E P} {may_ask : P → ℕ → Type 0} {tells : Told S} {setting : Setting P} (book : Book) (f : Fields E O P S L)
    → NodeKeeps engines may_ask tells setting book f → AreOwned (told book) (kept_of f.places f.mail f.closed)
keeps-owned {engines = engines} {setting = setting} book f keeps = record {
  hands = λ pid home. hands_owned engines setting.programs ((told book).process pid) (slice_get f.places pid) (keeps.stands.mirrors.slots pid) home;
  away = λ pid away. hands_gone engines setting.programs ((told book).process pid) (slice_get f.places pid) (keeps.stands.mirrors.slots pid) away;
  mail = λ pid. numbers-mail-at (slice_get f.mail pid) ∙ ap mail_handles (sym (keeps.stands.mirrors.mail pid));
  closed = sym keeps.stands.mirrors.closed;
}

-- BY NUMBER

at_hands : {E O P S L : Type 0} (place : Option (Place E O P S L)) → at_number (option_map hands_at place) ≡ hands_in place
at_hands None = refl
at_hands (Some place) = refl

at_mail : {S : Type 0} (mail : Option (Mail (Letter S))) → at_number (option_map streams_of mail) ≡ streams_at mail
at_mail None = refl
at_mail (Some mail) = refl

pub hands-number : {E O P S L : Type 0} (places : List (Place E O P S L)) (pid : ℕ) → at_number (slice_get (map hands_at places) pid) ≡ hands_in (slice_get places pid)
hands-number places pid = ap at_number (slice_get-map hands_at places pid) ∙ at_hands (slice_get places pid)

pub mail-number : {S : Type 0} (mail : List (Mail (Letter S))) (pid : ℕ) → at_number (slice_get (map streams_of mail) pid) ≡ streams_at (slice_get mail pid)
mail-number mail pid = ap at_number (slice_get-map streams_of mail pid) ∙ at_mail (slice_get mail pid)

-- what a contract sees of it
pub keeps-streams : {E O P S L : Type 0} {engines : Meaning E P} {may_ask : P → ℕ → Type 0} {tells : Told S} {setting : Setting P} (programs : List P) (book : Book) (live idle spare : ℕ)
    (f : Fields E O P S L) → NodeKeeps engines may_ask tells setting book f → KeepsStreams tells (seen programs book live idle spare (map hands_at f.places) (map streams_of f.mail) f.closed)
keeps-streams {tells = tells} programs book live idle spare f keeps =
    let owned = keeps-owned book f keeps in
    record {
      stand = record {
        hands = λ pid. subst (λ hs. All (IsOpen tells (told book).streamed) hs) (sym (hands-number f.places pid)) (keeps.streams.hands pid);
        mail = λ pid. subst (λ hs. All (IsOpen tells (told book).streamed) hs) (sym (mail-number f.mail pid)) (keeps.streams.mail pid);
        closed = keeps.streams.closed;
        undrawn = keeps.streams.undrawn;
      };
      owned = record {
        hands = λ pid home. ap numbers_of (hands-number f.places pid) ∙ owned.hands pid home;
        away = λ pid away. hands-number f.places pid ∙ owned.away pid away;
        mail = λ pid. ap numbers_of (mail-number f.mail pid) ∙ owned.mail pid;
        closed = owned.closed;
      };
    }
