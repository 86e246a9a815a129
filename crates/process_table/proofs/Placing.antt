use Rattle.std.proofs.Common.{◌≡◌, ◌<◌, ℕ, List, [], ◌∷◌, length, map, All, IfSome, Some, true, false, slice_get, slice_set, get_or, refl, sym, ◌∙◌, ap, subst}
use Rattle.std.proofs.lemmas.Option.{slice_get-get_or}
use Rattle.tagged_mailbox.specs.Mail.{Mail}
use Rattle.world_rules.specs.Book.{Book}
use Rattle.world_rules.specs.Lives.{Setting}
use Rattle.world_rules.specs.Told.{told}
use Rattle.world_rules.specs.World.{World, Process, is_live}
use Rattle.node_state.specs.Seats.{Meaning}
use Rattle.node_state.specs.Slots.{Slot, SlotFits}
use Rattle.resource_table.specs.Steps.{Told}
use Rattle.node_laws.proofs.ReadyList.{true_is_not_false}
use Rattle.node_laws.proofs.Programs.{KeepsSound, run-told}
use Rattle.node_laws.proofs.Dooms.{Touching}
use Rattle.process_table.specs.Letters.{Letter}
use Rattle.process_table.specs.declared.place.Place.{Place}
use Rattle.process_table.specs.declared.place.Place.TheVariants as PlaceIs
use Rattle.process_table.specs.Holds.{Fields, NodeKeeps, IsVacant, slot_of, slot_in, mail_in, letter_of}
use Rattle.process_table.proofs.Holding.{get_set_same}
use Rattle.process_table.proofs.Keeping.{SoundLaw}
use Rattle.process_table.proofs.Emptied.{dead-emptied}

-- Places at which no process is, and mailboxes that are empty.

-- a place that was written so that no process is there
pub vacant_set : {E O P S L : Type 0} (places : List (Place E O P S L)) (pid : ℕ) (place : Place E O P S L) → pid < length places → place ≡ PlaceIs.Gone
    → IfSome (slice_get (slice_set places pid place) pid) IsVacant
vacant_set places pid place within gone = subst (λ o. IfSome o IsVacant) (sym (get_set_same places pid place within ∙ ap Some gone)) tt

-- no process is where the world has none that is live
vacant_dead : {E O P S L : Type 0} (engines : Meaning E P) (programs : List P) (p : Process) (place : Place E O P S L) → SlotFits engines programs p (slot_of place) → is_live p.stage ≡ false
    → IsVacant place
vacant_dead engines programs p PlaceIs.Nobody fits dead = tt
vacant_dead engines programs p (PlaceIs.Home proc) fits dead = true_is_not_false (sym (ap is_live fits.stage) ∙ dead)
vacant_dead engines programs p (PlaceIs.Asleep proc ask) fits dead = true_is_not_false (sym (ap is_live fits.stage) ∙ dead)
vacant_dead engines programs p (PlaceIs.Away worker) fits dead = tt
vacant_dead engines programs p (PlaceIs.Fated worker end) fits dead = tt
vacant_dead engines programs p PlaceIs.Gone fits dead = tt

-- after the run is over no process is at home
pub over-vacant : {E O P S L : Type 0} {engines : Meaning E P} {may_ask : P → ℕ → Type 0} {tells : Told S} {setting : Setting P} (book : Book) (f : Fields E O P S L)
    → NodeKeeps engines may_ask tells setting book f → (told book).over ≡ true → All IsVacant f.places
over-vacant {engines = engines} {setting = setting} book f keeps over = λ i d lt.
    let w : World = told book in
    vacant_dead engines setting.programs (w.process i) (get_or f.places i d)
    (subst (λ (s : Slot _). SlotFits engines setting.programs (w.process i) s) (ap slot_in (slice_get-get_or f.places i d lt)) (keeps.stands.mirrors.slots i))
    (keeps.stands.quiet (sym keeps.stands.mirrors.over ∙ over) i)

-- MAILBOXES

none_in : {S : Type 0} (letters : List (Letter S)) → map letter_of letters ≡ [] → letters ≡ []
none_in [] is = refl
none_in (x ∷ xs) is = let h : ⊥ = cc in absurd h

abbrev pub IsEmptyBox : {S : Type 0} → Mail (Letter S) → Type 0
IsEmptyBox box = box.items ≡ []

-- after the run is over the mailboxes are empty
pub over-emptied : {E O P S L : Type 0} {engines : Meaning E P} {may_ask : P → ℕ → Type 0} {tells : Told S} {setting : Setting P} → KeepsSound → Touching → SoundLaw
    → (book : Book) (f : Fields E O P S L)
    → NodeKeeps engines may_ask tells setting book f → (told book).over ≡ true → All IsEmptyBox f.mail
over-emptied {setting = setting} k touching sounds book f keeps over = λ i d lt.
    let is = run-told setting book keeps.stands.run in
    let dead = keeps.stands.quiet (sym keeps.stands.mirrors.over ∙ over) i in
    none_in (get_or f.mail i d).items
    (sym (ap mail_in (slice_get-get_or f.mail i d lt)) ∙ sym (keeps.stands.mirrors.mail i) ∙ dead-emptied k touching book is (sounds book is) i dead)
