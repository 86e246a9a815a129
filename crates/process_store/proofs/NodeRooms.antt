use Rattle.std.proofs.Common.{◌≡◌, ◌≤◌, ℕ, ◌+◌, List, length, vec_capacity, Option, Bool, true, false, refl, arith, sym, ◌∙◌, ap, subst}
use Rattle.host_port.specs.declared.call.Call.{Call}
use Rattle.host_port.specs.declared.start.Start.{Start}
use Rattle.host_port.specs.declared.start.StartRefusal.{StartRefusal}
use Rattle.host_port.specs.Standing.{Standing}
use Rattle.resource_table.specs.Steps.{Told}
use Rattle.world_rules.specs.Book.{Book, KeepsAll}
use Rattle.world_rules.specs.Lives.{Setting}
use Rattle.world_rules.specs.Told.{told}
use Rattle.world_rules.specs.World.{World}
use Rattle.node_laws.proofs.Folds.{told-same}
use Rattle.node_state.specs.Seats.{Meaning}
use Rattle.node_state.specs.Streaming.{Kept, StreamsStand}
use Rattle.node_mirror.specs.Held.{Held, StandsFor, kept_places}
use Rattle.process_store.specs.declared.store.Store.{Store}
use Rattle.process_store.specs.Holds.{held_of, kept_of}
use Rattle.process_store.specs.Keeps.{StoreKeeps}
use Rattle.process_store.specs.NodeKeeps.{NodeKeeps}
use Rattle.process_store.proofs.NodeStanding.{keeps_at, setting_with}

-- A node with more room.

abbrev pub RoomLaw : {E P : Type 0} → Meaning E P → Type 0
RoomLaw {E = E} {P = P} engines =
    (setting : Setting P) (old new : Book) (held : Held E) → StandsFor engines setting old (told old) held → KeepsAll old new → StandsFor engines setting new (told new) held

pub keeps_itself : (book : Book) → KeepsAll book book
keeps_itself book = record { entries = refl; births = refl; ends = refl; entry_room = omega arith; birth_room = omega arith }

pub node_roomed : {E O P S L : Type 0} {engines : Meaning E P} {may_ask : P → ℕ → Type 0} {tells : Told S} → RoomLaw engines → (begin : P → Start → Option StartRefusal)
    (at : P → Start → List Call → ℕ → Option Standing) (programs : List P) (old new : Book) (live idle : ℕ) (was is : Store E O P S L) (spare spare_after : ℕ)
    → NodeKeeps engines may_ask tells (setting_with begin at programs old.births live idle) old was spare → KeepsAll old new → StoreKeeps is → held_of is ≡ held_of was → kept_of is ≡ kept_of was
    → is ≡ record was { closed = is.closed } → spare_after + kept_places was.out was.over ≤ new.entry_room → spare_after ≤ 3 → (2 ≤ spare_after → was.streams + was.out + 1 ≤ vec_capacity is.closed)
    → NodeKeeps engines may_ask tells (setting_with begin at programs new.births live idle) new is spare_after
node_roomed {E = E} {O = O} {P = P} {S = S} {L = L} {engines = engines} {tells = tells} law begin at programs old new live idle was is spare spare_after keeps all store held kept same room few turn =
    let out : is.out ≡ was.out = ap (λ (s : Store E O P S L). s.out) same in
    let over : is.over ≡ was.over = ap (λ (s : Store E O P S L). s.over) same in
    let streams : is.streams ≡ was.streams = ap (λ (s : Store E O P S L). s.streams) same in
    let setting : Setting P = setting_with begin at programs old.births live idle in
    keeps_at begin at programs old.births new.births live idle new is spare_after all.births (record {
      stands = subst (λ (h : Held E). StandsFor engines setting new (told new) h) (sym held) (law setting old new (held_of was) keeps.stands all);
      streams = subst (λ (k : Kept S). StreamsStand tells (told new) k) (sym kept)
          (subst (λ (w : World). StreamsStand tells w (kept_of was)) (sym (told-same old new all.births all.entries)) keeps.streams);
      keeps = store;
      came = ap (λ (s : Store E O P S L). s.came.items) same ∙ keeps.came;
      giver = ap (λ (s : Store E O P S L). s.giver) same ∙ keeps.giver;
      rows = keeps.rows;
      spare_room = rw (out, over) room;
      spare_bound = few;
      turn_room = λ enough. let t = turn enough in omega (arith, t, out, streams);
      alone = ap (λ (s : Store E O P S L). length s.places.items) same ∙ keeps.alone;
    })

-- what was spare is so with more room in the journal
pub spare_more : {E O P S L : Type 0} {engines : Meaning E P} {may_ask : P → ℕ → Type 0} {tells : Told S} {setting : Setting P} (old new : Book) (store : Store E O P S L) (spare : ℕ)
    → NodeKeeps engines may_ask tells setting old store spare → KeepsAll old new → spare + kept_places store.out store.over ≤ new.entry_room
spare_more old new store spare keeps all =
    let r = all.entry_room in
    let s = keeps.spare_room in
    omega (arith, r, s)

pub spare_three : (out places room : ℕ) (over : Bool) → places ≡ out + 4 → places ≤ room → 3 + kept_places out over ≤ room
spare_three out places room true is h = omega (arith, is, h)
spare_three out places room false is h = omega (arith, is, h)
