use Rattle.std.proofs.Common.{◌≡◌, ◌≤◌, ℕ, ◌+◌, List, [], length, All, append-nil, refl, arith, sym, ◌∙◌, ap}
use Rattle.host_port.specs.declared.call.Call.{Call}
use Rattle.host_port.specs.declared.start.Start.{Start}
use Rattle.host_port.specs.declared.start.StartRefusal.{StartRefusal}
use Rattle.host_port.specs.Standing.{Standing}
use Rattle.std.proofs.Common.{Option}
use Rattle.resource_table.specs.Steps.{Told}
use Rattle.world_rules.specs.declared.entry.Entry.{Entry}
use Rattle.world_rules.specs.Book.{Book, AddsEntry}
use Rattle.world_rules.specs.Sound.{IsSound}
use Rattle.world_rules.specs.Told.{told, IsTold}
use Rattle.node_state.specs.Seats.{Meaning}
use Rattle.node_state.specs.Held.{StandsFor, kept_places}
use Rattle.node_state.specs.Changes.{Records}
use Rattle.node_state.specs.Streaming.{StreamsStand}
use Rattle.process_table.specs.declared.place.Place.{Place}
use Rattle.process_table.specs.declared.place.Place.TheVariants as PlaceIs
use Rattle.process_table.specs.Holds.{Fields, NodeKeeps, HasShedAll, IsVacant, held_of, kept_of, hands_at}
use Rattle.process_table.proofs.Holding.{setting_with, keeps-at}

-- What a node keeps after an entry, by parts.

-- each world that a journal tells is sound
abbrev pub SoundLaw : Type 0
SoundLaw = (book : Book) → IsTold book → IsSound (told book)

-- an entry that brings no end
pub records_one : (old new : Book) (entry : Entry) → AddsEntry old new entry → Records old new entry []
records_one old new entry adds = record {
  entries = adds.entries;
  births = adds.births;
  ends_are = adds.ends ∙ sym (append-nil old.ends);
  entry_room = adds.entry_room;
}

-- at a place without a process there are no streams
pub vacant_hands : {E O P S L : Type 0} (place : Place E O P S L) → IsVacant place → hands_at place ≡ []
vacant_hands PlaceIs.Nobody vacant = refl
vacant_hands (PlaceIs.Home proc) vacant = absurd vacant
vacant_hands (PlaceIs.Asleep proc ask) vacant = absurd vacant
vacant_hands (PlaceIs.Away worker) vacant = refl
vacant_hands (PlaceIs.Fated worker end) vacant = refl
vacant_hands PlaceIs.Gone vacant = refl

pub vacant_shed : {E O P S L : Type 0} (place : Place E O P S L) → IsVacant place → HasShedAll place
vacant_shed PlaceIs.Nobody vacant = tt
vacant_shed (PlaceIs.Home proc) vacant = absurd vacant
vacant_shed (PlaceIs.Asleep proc ask) vacant = absurd vacant
vacant_shed (PlaceIs.Away worker) vacant = tt
vacant_shed (PlaceIs.Fated worker end) vacant = tt
vacant_shed PlaceIs.Gone vacant = tt

pub keeps_new : {E O P S L : Type 0} {engines : Meaning E P} {may_ask : P → ℕ → Type 0} {tells : Told S} (begin : P → Start → Option StartRefusal)
    (at : P → Start → List Call → ℕ → Option Standing) (programs : List P) (old new : Book) (live idle : ℕ) (f g : Fields E O P S L)
    → NodeKeeps engines may_ask tells (setting_with begin at programs old.births live idle) old f → new.births ≡ old.births
    → StandsFor engines (setting_with begin at programs old.births live idle) new (told new) (held_of g) → StreamsStand tells (told new) (kept_of g.places g.mail g.closed)
    → length g.places ≡ length f.places → length g.mail ≡ length f.mail → g.queue.room ≡ f.queue.room → length g.queue.ready + g.out ≤ f.queue.room
    → g.streams + g.out ≤ g.closed_room → All HasShedAll g.places → g.shed ≡ []
    → g.spare + kept_places g.out g.over ≤ new.entry_room → g.spare ≤ 3 → (2 ≤ g.spare → g.streams + g.out + 1 ≤ g.closed_room)
    → NodeKeeps engines may_ask tells (setting_with begin at programs new.births live idle) new g
keeps_new begin at programs old new live idle f g keeps births stands streams places mail room ready closed_room sheds shed spare few turn =
    keeps-at begin at programs old.births new.births live idle new g births (record {
      stands = stands;
      streams = streams;
      places = places ∙ keeps.places;
      mail = mail ∙ keeps.mail;
      room = let r = keeps.room in omega (arith, room, r);
      ready_room = omega (arith, room, ready);
      closed_room = closed_room;
      sheds = sheds;
      shed = shed;
      rows = keeps.rows;
      spare_room = spare;
      spare_bound = few;
      turn_room = turn;
    })
