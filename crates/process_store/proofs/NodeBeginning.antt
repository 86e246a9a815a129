use Rattle.std.proofs.Common.{◌≡◌, ◌<◌, ◌≤◌, ℕ, ◌+◌, ◌-◌, List, [], ◌∷◌, length, All, map, Option, Some, None, Bool, true, false, option_map, slice_get, get_or, refl, arith, sym, ◌∙◌, ap, subst}
use Rattle.std.proofs.lemmas.List.Elements.{All-nil}
use Rattle.std.proofs.lemmas.Option.{slice_get-get_or, slice_get-map}
use Rattle.host_port.specs.declared.call.Call.{Call}
use Rattle.host_port.specs.declared.start.Start.{Start}
use Rattle.host_port.specs.declared.start.StartRefusal.{StartRefusal}
use Rattle.host_port.specs.Standing.{Standing, Running}
use Rattle.resource_table.specs.Handles.{Handle}
use Rattle.resource_table.specs.Steps.{Told}
use Rattle.world_rules.specs.Book.{Book}
use Rattle.world_rules.specs.Lives.{Begins, Setting, can_start}
use Rattle.world_rules.specs.Told.{told}
use Rattle.world_rules.specs.World.{World, first_start, first_world}
use Rattle.world_rules.specs.declared.life.Birth.TheVariants.{Born}
use Rattle.node_state.specs.Seats.{Meaning}
use Rattle.node_state.specs.Streaming.{IsClosed, IsOpen}
use Rattle.node_state.specs.Rows.{AllHaveRows}
use Rattle.node_mirror.specs.Held.{Held, StandsFor, kept_places}
use Rattle.node_mirror.specs.Steps.{born}
use Rattle.process_store.specs.declared.store.Store.{Store}
use Rattle.process_store.specs.Begins.{StoreBegins, born_seat, nothing_held}
use Rattle.process_store.specs.Holds.{held_of, kept_of}
use Rattle.process_store.specs.NodeKeeps.{NodeKeeps}
use Rattle.process_store.specs.Takes.{BeginsWith}
use Rattle.process_store.proofs.NodeStanding.{setting_with}

-- The begin of a run.

-- the program of a number
pub program_at : {P A : Type 0} (value : A → P) (xs : List A) (k : ℕ) (x : A) → k < length xs → x ≡ get_or xs k x → slice_get (map value xs) k ≡ Some (value x)
program_at value xs k x h e = slice_get-map value xs k ∙ ap (option_map value) (slice_get-get_or xs k x h) ∙ ap (λ y. Some (value y)) (sym e)

some_is : {X : Type 0} (x y : X) → Some x ≡ Some y → x ≡ y
some_is x y e = cc

told_begin : (start : Start) (book : Book) → BeginsWith start book → told book ≡ first_world (Born start ∷ [])
unfolding told
told_begin start book begins = rw (begins.births, begins.entries) refl

open_none : {S : Type 0} (tells : Told S) (w : World) (handles : List (Handle S)) → handles ≡ [] → All (IsOpen tells w.streamed) handles
open_none tells w handles is = subst (All (IsOpen tells w.streamed)) (sym is) (All-nil (IsOpen tells w.streamed))

abbrev pub FirstLaw : {E P : Type 0} → Meaning E P → Type 0
FirstLaw {E = E} {P = P} engines =
    (setting : Setting P) (book : Book) (held : Held E) (start : Start) (engine : E) → Begins setting → setting.first ≡ start → book.births ≡ Born start ∷ [] → book.entries ≡ [] →
    book.ends ≡ [] → 0 < book.entry_room → ((program : P) → slice_get setting.programs start.«module» ≡ Some program → engines.stands engine program start [] 0) →
    engines.phase engine ≡ Running → held ≡ born nothing_held 1 (born_seat engine start) → StandsFor engines setting book (told book) held

first_room : (out room : ℕ) (over : Bool) → out ≡ 0 → over ≡ false → 0 < room → 0 + kept_places out over ≤ room
first_room out room over none going some = rw (none, going) (omega (arith, some))

-- a node in which process 1 is at its begin, and nothing has happened
pub node_first : {E O P S L : Type 0} {engines : Meaning E P} {may_ask : P → ℕ → Type 0} {tells : Told S} → FirstLaw engines → (begin : P → Start → Option StartRefusal)
    (at : P → Start → List Call → ℕ → Option Standing) (programs : List P) (book : Book) (live idle : ℕ) (store : Store E O P S L) (program : P) (engine : E) (start : Start)
    → StoreBegins engine start store → start.pid ≡ 1 → slice_get programs start.«module» ≡ Some program → begin program start ≡ None → BeginsWith start book → 0 < book.entry_room
    → engines.stands engine program start [] 0 → engines.phase engine ≡ Running → AllHaveRows may_ask programs
    → NodeKeeps engines may_ask tells (setting_with begin at programs book.births live idle) book store 0
node_first {E = E} {P = P} {S = S} {engines = engines} {tells = tells} law begin at programs book live idle store program engine start b numbered found begun begins room stands running rows =
    let setting : Setting P = setting_with begin at programs book.births live idle in
    let first : setting.first ≡ start = ap first_start begins.births in
    let may : can_start setting start ≡ true = rw (found, begun) refl in
    let is : Begins setting = record {
      numbered = ap (λ (s : Start). s.pid) first ∙ numbered;
      begun = subst (λ (s : Start). can_start setting s ≡ true) (sym first) may;
    } in
    let w : World = told book in
    let out : store.out ≡ 0 = ap (λ (h : Held E). h.out) b.held in
    let over : store.over ≡ false = ap (λ (h : Held E). h.over) b.held in
    let numbers : length store.places.items - 1 ≡ 1 = ap (λ (h : Held E). h.numbers) b.held in
    let some = b.keeps.some in
    record {
      stands = law setting book (held_of store) start engine is first begins.births begins.entries begins.ends room
          (λ p there. subst (λ (x : P). engines.stands engine x start [] 0) (some_is program p (sym found ∙ there)) stands) running b.held;
      streams = record {
        hands = λ q. open_none tells w ((kept_of store).hands q) (b.hands q);
        mail = λ q. open_none tells w ((kept_of store).mail q) (b.mail q);
        closed = subst (All (IsClosed tells w.streamed)) (sym b.closed) (All-nil (IsClosed tells w.streamed));
        undrawn = λ handle drawn. ap (λ (x : World). x.streamed handle) (told_begin start book begins);
      };
      keeps = b.keeps;
      came = b.came;
      giver = b.giver;
      rows = rows;
      spare_room = first_room store.out book.entry_room store.over out over room;
      spare_bound = omega arith;
      turn_room = λ enough. let h : ⊥ = omega (arith, enough) in absurd h;
      alone = omega (arith, numbers, some);
    }
