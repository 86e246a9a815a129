use Rattle.std.proofs.Common.{◌≡◌, ◌≤◌, ℕ, ◌+◌, List, length, map, Bool, true, false, Option, refl, arith, sym, ◌∙◌, ap, subst}
use Rattle.std.proofs.lemmas.List.{length-map}
use Rattle.host_port.specs.declared.call.Call.{Call}
use Rattle.host_port.specs.declared.start.Start.{Start}
use Rattle.host_port.specs.declared.start.StartRefusal.{StartRefusal}
use Rattle.host_port.specs.Standing.{Standing}
use Rattle.resource_table.specs.Handles.{Handle}
use Rattle.resource_table.specs.Steps.{Told}
use Rattle.world_rules.specs.Book.{Book, KeepsAll}
use Rattle.world_rules.specs.Told.{told}
use Rattle.world_rules.specs.World.{World}
use Rattle.world_rules.specs.Lives.{Setting}
use Rattle.node_state.specs.Seats.{Meaning}
use Rattle.node_state.specs.Held.{kept_places}
use Rattle.node_state.specs.Streaming.{StreamsStand}
use Rattle.node_laws.proofs.Folds.{told-same}
use Rattle.node_laws.proofs.Rooms.{keeps-room}
use Rattle.process_table.specs.Seen.{KeepsStreams, seen}
use Rattle.process_table.specs.Holds.{Fields, NodeKeeps, held_of, kept_of, hands_at, streams_of}
use Rattle.process_table.proofs.Holding.{setting_with}
use Rattle.process_table.proofs.Handing.{ApartLaw}
use Rattle.process_table.proofs.Keeping.{keeps_new}
use Rattle.process_table.proofs.Owning.{keeps-owned, keeps-streams}

-- More room in the journal, and among the closed streams.

pub node-room : {E O P S L : Type 0} {engines : Meaning E P} {may_ask : P → ℕ → Type 0} {tells : Told S} (begin : P → Start → Option StartRefusal) (at : P → Start → List Call → ℕ → Option Standing)
    (programs : List P) (old new : Book) (live idle : ℕ) (f : Fields E O P S L) (closed : List (Handle S)) (closed_room spare : ℕ)
    → NodeKeeps engines may_ask tells (setting_with begin at programs old.births live idle) old f → KeepsAll old new
    → closed ≡ f.closed → f.closed_room ≤ closed_room
    → spare + kept_places f.out f.over ≤ new.entry_room → spare ≤ 3 → (2 ≤ spare → f.streams + f.out + 1 ≤ closed_room)
    → NodeKeeps engines may_ask tells (setting_with begin at programs new.births live idle) new (record f { closed = closed; closed_room = closed_room; spare = spare })
node-room {S = S} {engines = engines} {may_ask = may_ask} {tells = tells} begin at programs old new live idle f closed closed_room spare keeps all same wide places few turn =
    let room = keeps.closed_room in
    subst (λ (cs : List (Handle S)). NodeKeeps engines may_ask tells (setting_with begin at programs new.births live idle) new (record f { closed = cs; closed_room = closed_room; spare = spare }))
    (sym same)
    (keeps_new begin at programs old new live idle f (record f { closed_room = closed_room; spare = spare }) keeps all.births (keeps-room old new (held_of f) keeps.stands all)
    (subst (λ (w : World). StreamsStand tells w (kept_of f.places f.mail f.closed)) (sym (told-same old new all.births all.entries)) keeps.streams)
    refl refl refl keeps.ready_room (omega (arith, room, wide)) keeps.sheds keeps.shed places few turn)

-- what was spare is so with more room in the journal
pub spare-more : {E O P S L : Type 0} {engines : Meaning E P} {may_ask : P → ℕ → Type 0} {tells : Told S} {setting : Setting P} (old new : Book) (f : Fields E O P S L)
    → NodeKeeps engines may_ask tells setting old f → KeepsAll old new → f.spare + kept_places f.out f.over ≤ new.entry_room
spare-more old new f keeps all =
    let r = all.entry_room in
    let s = keeps.spare_room in
    omega (arith, r, s)

pub spare-three : (out places room : ℕ) (over : Bool) → places ≡ out + 4 → places ≤ room → 3 + kept_places out over ≤ room
spare-three out places room true is h = omega (arith, is, h)
spare-three out places room false is h = omega (arith, is, h)

-- there are no more closed streams than numbers were drawn
pub closed-few : {E O P S L : Type 0} {engines : Meaning E P} {may_ask : P → ℕ → Type 0} {tells : Told S} {setting : Setting P} → ApartLaw engines → (book : Book) (f : Fields E O P S L)
    → NodeKeeps engines may_ask tells setting book f → length f.closed ≤ f.streams
closed-few {setting = setting} apart book f keeps =
    let w : World = told book in
    let all = apart setting book (held_of f) 1 keeps.stands in
    let closed : length f.closed ≡ length w.closed = sym (length-map f.closed (λ h. h.number)) ∙ ap length (keeps-owned book f keeps).closed in
    let streams : w.streams ≡ f.streams = keeps.stands.mirrors.streams in
    omega (arith, all, closed, streams)

-- what a contract sees where the closed streams were moved to another place
pub streams-moved : {E O P S L : Type 0} {engines : Meaning E P} {may_ask : P → ℕ → Type 0} {tells : Told S} {setting : Setting P} (programs : List P) (book : Book) (live idle spare : ℕ)
    (f : Fields E O P S L) (closed : List (Handle S)) → closed ≡ f.closed → NodeKeeps engines may_ask tells setting book f
    → KeepsStreams tells (seen programs book live idle spare (map hands_at f.places) (map streams_of f.mail) closed)
streams-moved {tells = tells} programs book live idle spare f closed same keeps =
    subst (λ (cs : List (Handle _)). KeepsStreams tells (seen programs book live idle spare (map hands_at f.places) (map streams_of f.mail) cs)) (sym same)
    (keeps-streams programs book live idle spare f keeps)
