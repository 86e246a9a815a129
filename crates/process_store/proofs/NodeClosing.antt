use Rattle.std.proofs.Common.{◌≡◌, List, [], ◌∷◌, map, All, true, false, get_or, refl, sym, ◌∙◌, ap, subst}
use Rattle.std.proofs.lemmas.Option.{slice_get-get_or}
use Rattle.world_rules.specs.Book.{Book}
use Rattle.world_rules.specs.Lives.{Setting}
use Rattle.world_rules.specs.Told.{told, IsTold}
use Rattle.world_rules.specs.Sound.{IsSound}
use Rattle.world_rules.specs.World.{World, Process, is_live}
use Rattle.node_state.specs.Seats.{Meaning}
use Rattle.node_laws.proofs.ReadyList.{true_is_not_false}
use Rattle.node_laws.proofs.Programs.{KeepsSound, run-told}
use Rattle.node_laws.proofs.Dooms.{Touching}
use Rattle.node_mirror.specs.Slots.{Slot, SlotFits}
use Rattle.node_mirror.specs.Held.{StandsFor}
use Rattle.process_store.specs.declared.place.Place.{Place}
use Rattle.process_store.specs.declared.place.Place.TheVariants as PlaceIs
use Rattle.process_store.specs.declared.store.Store.{Store}
use Rattle.process_store.specs.Letters.{ItemShown}
use Rattle.process_store.specs.Holds.{held_of, item_of, items_in, slot_in, slot_of}
use Rattle.process_store.specs.Keeps.{IsVacant}
use Rattle.process_store.proofs.Emptied.{dead_emptied}

-- After the run is over no process is at home, and the mailboxes are empty.

-- no process is where the world has none that is live
vacant_dead : {E O P S L : Type 0} (engines : Meaning E P) (programs : List P) (p : Process) (place : Place E O P S L) → SlotFits engines programs p (slot_of place) → is_live p.stage ≡ false
    → IsVacant place
vacant_dead engines programs p PlaceIs.Nobody fits dead = tt
vacant_dead engines programs p (PlaceIs.Home proc) fits dead = true_is_not_false (sym (ap is_live fits.stage) ∙ dead)
vacant_dead engines programs p (PlaceIs.Asleep proc ask) fits dead = true_is_not_false (sym (ap is_live fits.stage) ∙ dead)
vacant_dead engines programs p (PlaceIs.Giving proc ask) fits dead = true_is_not_false (sym (ap is_live fits.stage) ∙ dead)
vacant_dead engines programs p (PlaceIs.Away worker) fits dead = tt
vacant_dead engines programs p (PlaceIs.Fated worker end) fits dead = tt
vacant_dead engines programs p PlaceIs.Gone fits dead = tt

pub over_vacant : {E O P S L : Type 0} {engines : Meaning E P} {setting : Setting P} (book : Book) (store : Store E O P S L) → StandsFor engines setting book (told book) (held_of store)
    → (told book).over ≡ true → All IsVacant store.places.items
over_vacant {engines = engines} {setting = setting} book store stands over = λ i d within.
    let w : World = told book in
    vacant_dead engines setting.programs (w.process i) (get_or store.places.items i d)
    (subst (λ (s : Slot _). SlotFits engines setting.programs (w.process i) s) (ap slot_in (slice_get-get_or store.places.items i d within)) (stands.mirrors.slots i))
    (stands.mirrors.order.over over i)

none_in : {S : Type 0} (items : List (ItemShown S)) → map item_of items ≡ [] → items ≡ []
none_in [] is = refl
none_in (x ∷ xs) is = let h : ⊥ = cc in absurd h

pub over_emptied : {E O P S L : Type 0} {engines : Meaning E P} {setting : Setting P} → KeepsSound → Touching → ((book : Book) → IsTold book → IsSound (told book))
    → (book : Book) (store : Store E O P S L) → StandsFor engines setting book (told book) (held_of store) → (told book).over ≡ true → All (λ box. box.items ≡ []) store.mail.items
over_emptied {setting = setting} k touching sounds book store stands over = λ i d within.
    let is = run-told setting book stands.run in
    none_in (get_or store.mail.items i d).items
    (sym (ap items_in (slice_get-get_or store.mail.items i d within)) ∙ sym (stands.mirrors.mail i) ∙ dead_emptied k touching book is (sounds book is) i (stands.mirrors.order.over over i))
