use Rattle.std.proofs.Common.{◌≡◌, ◌≢◌, ◌<◌, ◌≤◌, ℕ, zero, suc, ◌+◌, List, [], ◌∷◌, ◌++◌, length, All, Option, Some, None, true, false, option_map, map, slice_get, get_or, refl}
use Rattle.std.proofs.Common.{arith, sym, ◌∙◌, ap, subst}
use Rattle.std.proofs.lemmas.List.{length-map}
use Rattle.std.proofs.lemmas.List.Elements.{All-nil, All-cons}
use Rattle.std.proofs.lemmas.Option.{slice_get-get_or, slice_get-map, slice_get_past}
use Rattle.std.specs.FinMap.{FinMap, get, empty, get-empty}
use Rattle.std.specs.List.{flat_map}
use Rattle.std.specs.Ordering.{nat_cmp}
use Rattle.tagged_mailbox.specs.Mail.{Mail}
use Rattle.host_port.specs.declared.call.Call.{Call}
use Rattle.host_port.specs.declared.start.Start.{Start}
use Rattle.host_port.specs.declared.start.StartRefusal.{StartRefusal}
use Rattle.host_port.specs.Standing.{Standing, Running}
use Rattle.world_rules.specs.Book.{Book}
use Rattle.world_rules.specs.Part.{no_part}
use Rattle.world_rules.specs.World.{World, first_start, first_world}
use Rattle.world_rules.specs.Lives.{Begins, can_start}
use Rattle.node_state.specs.Seats.{Meaning}
use Rattle.node_state.specs.Slots.{Nobody, Home}
use Rattle.node_state.specs.Rows.{AllHaveRows}
use Rattle.node_state.specs.Changes.{HoldsFirst}
use Rattle.node_laws.proofs.Firsts.{keeps-first}
use Rattle.host_calls.specs.declared.proc.Proc.{Proc}
use Rattle.host_calls.specs.Shown.{seat_of, shown_part, part_with, hands_of}
use Rattle.message_scratch.specs.Messages.{handles_in, slots_of}
use Rattle.resource_table.specs.Handles.{Handle, numbers_of}
use Rattle.resource_table.specs.Steps.{Told}
use Rattle.node_state.specs.Streaming.{StreamsStand, IsOpen, IsClosed}
use Rattle.world_rules.specs.declared.life.Birth.TheVariants.{Born}
use Rattle.world_rules.specs.Told.{told}
use Rattle.process_table.specs.Letters.{Letter}
use Rattle.process_table.specs.declared.place.Place.{Place}
use Rattle.process_table.specs.declared.place.Place.TheVariants as PlaceIs
use Rattle.process_table.specs.Holds.{Fields, NodeKeeps, HasShedAll, held_of, kept_of, slot_in, mail_in, letter_of, hands_in, streams_at}
use Rattle.process_table.specs.Begins.{HasNothing}
use Rattle.process_table.specs.Takes.{BeginsWith}
use Rattle.process_table.proofs.Holding.{setting_with}

-- The begin of a run.

-- the program of a number
pub program-at : {P A : Type 0} (value : A → P) (xs : List A) (k : ℕ) (x : A) → k < length xs → x ≡ get_or xs k x → slice_get (map value xs) k ≡ Some (value x)
program-at value xs k x h e = slice_get-map value xs k ∙ ap (option_map value) (slice_get-get_or xs k x h) ∙ ap (λ y. Some (value y)) (sym e)

some_is : {X : Type 0} (x y : X) → Some x ≡ Some y → x ≡ y
some_is x y e = cc

pub program-is : {P A : Type 0} (value : A → P) (xs : List A) (k : ℕ) (x : A) (p : P) → k < length xs → x ≡ get_or xs k x → slice_get (map value xs) k ≡ Some p → value x ≡ p
program-is value xs k x p h e s = some_is (value x) p (sym (program-at value xs k x h e) ∙ s)

-- the program of that number begins so as the one that was found there does
pub begins-same : {P A : Type 0} (value : A → P) (begin : P → Start → Option StartRefusal) (xs : List A) (start : Start) (x : A) (p : P) → start.«module» < length xs → x ≡ get_or xs start.«module» x
    → begin (value x) start ≡ None → slice_get (map value xs) start.«module» ≡ Some p → begin p start ≡ None
begins-same value begin xs start x p h e none s = subst (λ q. begin q start ≡ None) (program-is value xs start.«module» x p h e s) none

slots_past : {E O P S L : Type 0} (proc : Proc E O P S L) (q : ℕ) → q ≢ 1 → slot_in (slice_get (PlaceIs.Nobody ∷ PlaceIs.Home proc ∷ []) q) ≡ Nobody
slots_past proc zero other = refl
slots_past proc (suc zero) other = absurd (other refl)
slots_past proc (suc (suc q)) other = ap slot_in (slice_get_past (PlaceIs.Nobody ∷ PlaceIs.Home proc ∷ []) (suc (suc q)) (omega arith))

-- EMPTY MAILBOXES

items_in : {S : Type 0} → Option (Mail (Letter S)) → List (Letter S)
items_in None = []
items_in (Some mail) = mail.items

mail_items : {S : Type 0} (box : Option (Mail (Letter S))) → mail_in box ≡ map letter_of (items_in box)
unfolding items_in
mail_items None = refl
mail_items (Some box) = refl

streams_items : {S : Type 0} (box : Option (Mail (Letter S))) → streams_at box ≡ flat_map (λ letter. handles_in letter.message.slots) (items_in box)
unfolding items_in
streams_items None = refl
streams_items (Some box) = refl

those_in : {S : Type 0} → Option (List (Letter S)) → List (Letter S)
those_in None = []
those_in (Some letters) = letters

items_those : {S : Type 0} (box : Option (Mail (Letter S))) → items_in box ≡ those_in (option_map (λ m. m.items) box)
unfolding items_in those_in
items_those None = refl
items_those (Some box) = refl

both_empty : {S : Type 0} (q : ℕ) → those_in {S = S} (slice_get ([] ∷ [] ∷ []) q) ≡ []
unfolding those_in
both_empty zero = refl
both_empty (suc zero) = refl
both_empty {S = S} (suc (suc q)) = let none : List (List (Letter S)) = [] ∷ [] ∷ [] in ap those_in (slice_get_past none (suc (suc q)) (omega arith))

items_none : {S : Type 0} (mail : List (Mail (Letter S))) → map (λ m. m.items) mail ≡ [] ∷ [] ∷ [] → (q : ℕ) → items_in (slice_get mail q) ≡ []
items_none mail is q = items_those (slice_get mail q) ∙ ap those_in (sym (slice_get-map (λ m. m.items) mail q) ∙ ap (λ xs. slice_get xs q) is) ∙ both_empty q

letters_none : {S : Type 0} (mail : List (Mail (Letter S))) → map (λ m. m.items) mail ≡ [] ∷ [] ∷ [] → (q : ℕ) → mail_in (slice_get mail q) ≡ []
letters_none mail is q = mail_items (slice_get mail q) ∙ ap (map letter_of) (items_none mail is q)

streams_none : {S : Type 0} (mail : List (Mail (Letter S))) → map (λ m. m.items) mail ≡ [] ∷ [] ∷ [] → (q : ℕ) → streams_at (slice_get mail q) ≡ []
streams_none mail is q = streams_items (slice_get mail q) ∙ ap (λ letters. flat_map (λ letter. handles_in letter.message.slots) letters) (items_none mail is q)

-- A NEW PROCESS

part_none : {E O P S L : Type 0} (proc : Proc E O P S L) → HasNothing proc → shown_part proc ≡ no_part
part_none proc has = λ i. part_with (has.scratch i) (has.table i) (has.listeners i) (has.traffic i)

seat_first : {E O P S L : Type 0} (proc : Proc E O P S L) → HasNothing proc → seat_of proc ≡ record { engine = proc.engine; start = proc.start; part = no_part; fuel = 0; owed = None }
seat_first proc has = λ i. record { engine = proc.engine; start = proc.start; part = part_none proc has i; fuel = has.fuel i; owed = has.owed i }

hands_none : {E O P S L : Type 0} (proc : Proc E O P S L) → HasNothing proc → hands_of proc ≡ []
hands_none proc has = λ i. has.table i ++ handles_in (slots_of (has.scratch i))

hands_first : {E O P S L : Type 0} (proc : Proc E O P S L) → HasNothing proc → (q : ℕ) → hands_in (slice_get (PlaceIs.Nobody ∷ PlaceIs.Home proc ∷ []) q) ≡ []
hands_first proc has zero = refl
hands_first proc has (suc zero) = hands_none proc has
hands_first proc has (suc (suc q)) = ap hands_in (slice_get_past (PlaceIs.Nobody ∷ PlaceIs.Home proc ∷ []) (suc (suc q)) (omega arith))

told_begin : (start : Start) (book : Book) → BeginsWith start book → told book ≡ first_world (Born start ∷ [])
unfolding told
told_begin start book begins = rw (begins.births, begins.entries) refl

-- nothing stands in these lists
open_none : {S : Type 0} (tells : Told S) (w : World) (handles : List (Handle S)) → handles ≡ [] → All (IsOpen tells w.streamed) handles
open_none tells w handles is = subst (All (IsOpen tells w.streamed)) (sym is) (All-nil (IsOpen tells w.streamed))

-- what a node holds at its begin
pub record Begun {E O P S L : Type 0} (f : Fields E O P S L) (proc : Proc E O P S L) : Type 0 where
  pub places : f.places ≡ PlaceIs.Nobody ∷ PlaceIs.Home proc ∷ []
  pub mail : map (λ m. m.items) f.mail ≡ [] ∷ [] ∷ []
  pub ready : f.queue.ready ≡ 1 ∷ []
  pub deadlines : f.queue.deadlines ≡ empty
  pub wide : 2 ≤ f.queue.room
  pub sends : f.sends ≡ 0
  pub time : f.time ≡ 0
  pub row : f.row ≡ 0
  pub out : f.out ≡ 0
  pub over : f.over ≡ false
  pub streams : f.streams ≡ 0
  pub closed : f.closed ≡ []
  pub shed : f.shed ≡ []
  pub spare : f.spare ≡ 0

spare_first : (spare out room : ℕ) → spare ≡ 0 → out ≡ 0 → 0 < room → spare + (out + 1) ≤ room
spare_first spare out room none home some = omega (arith, none, home, some)

-- a node in which process 1 is at its begin, and nothing has happened
pub node-first : {E O P S L : Type 0} {engines : Meaning E P} {may_ask : P → ℕ → Type 0} {tells : Told S} (begin : P → Start → Option StartRefusal) (at : P → Start → List Call → ℕ → Option Standing)
    (programs : List P) (book : Book) (live idle : ℕ) (f : Fields E O P S L) (proc : Proc E O P S L) (program : P)
    → proc.start.pid ≡ 1 → slice_get programs proc.start.«module» ≡ Some program → begin program proc.start ≡ None
    → BeginsWith proc.start book → 0 < book.entry_room
    → engines.stands proc.engine program proc.start [] 0 → engines.phase proc.engine ≡ Running
    → HasNothing proc → Begun f proc
    → AllHaveRows may_ask programs
    → NodeKeeps engines may_ask tells (setting_with begin at programs book.births live idle) book f
node-first {P = P} {engines = engines} {tells = tells} begin at programs book live idle f proc program numbered found begun begins room stands running has b rows =
    let setting = setting_with begin at programs book.births live idle in
    let held = held_of f in
    let first : setting.first ≡ proc.start = ap first_start begins.births in
    let may : can_start setting proc.start ≡ true = rw (found, begun) refl in
    let is : Begins setting = record {
      numbered = ap (λ (s : Start). s.pid) first ∙ numbered;
      begun = subst (λ (s : Start). can_start setting s ≡ true) (sym first) may;
    } in
    let holds : HoldsFirst held proc.engine proc.start = record {
      slot = ap (λ (xs : List (Place _ _ _ _ _)). slot_in (slice_get xs 1)) b.places ∙ ap Home (seat_first proc has);
      other_slots = λ q other. ap (λ (xs : List (Place _ _ _ _ _)). slot_in (slice_get xs q)) b.places ∙ slots_past proc q other;
      mail = letters_none f.mail b.mail;
      deadlines = λ q. ap (λ (m : FinMap nat_cmp ℕ). get m q) b.deadlines ∙ get-empty nat_cmp q;
      ready = b.ready;
      sends = b.sends;
      time = b.time;
      row = b.row;
      over = b.over;
      out = b.out;
      streams = b.streams;
      closed = ap numbers_of b.closed;
    } in
    let w : World = told book in
    let hands : (q : ℕ) → hands_in (slice_get f.places q) ≡ [] = λ q. ap (λ (xs : List (Place _ _ _ _ _)). hands_in (slice_get xs q)) b.places ∙ hands_first proc has q in
    let streams : StreamsStand tells w (kept_of f.places f.mail f.closed) = record {
      hands = λ q. open_none tells w (hands_in (slice_get f.places q)) (hands q);
      mail = λ q. open_none tells w (streams_at (slice_get f.mail q)) (streams_none f.mail b.mail q);
      closed = subst (All (IsClosed tells w.streamed)) (sym b.closed) (All-nil (IsClosed tells w.streamed));
      undrawn = λ handle drawn. ap (λ (x : World). x.streamed handle) (told_begin proc.start book begins);
    } in
    let none = b.streams in
    let home = b.out in
    let spare = b.spare in
    let wide = b.wide in
    record {
      stands = keeps-first book held proc.start proc.engine is first begins.births begins.entries begins.ends room
          (λ p there. subst (λ (x : P). engines.stands proc.engine x proc.start [] 0) (some_is program p (sym found ∙ there)) stands) running holds;
      streams = streams;
      places = ap (λ (xs : List (Place _ _ _ _ _)). length xs) b.places;
      mail = sym (length-map f.mail (λ m. m.items)) ∙ ap length b.mail;
      room = b.wide;
      ready_room = let r = ap (λ (xs : List ℕ). length xs) b.ready in omega (arith, r, home, wide);
      closed_room = omega (arith, none, home);
      sheds = subst (All HasShedAll) (sym b.places)
          (All-cons HasShedAll PlaceIs.Nobody (PlaceIs.Home proc ∷ []) tt (All-cons HasShedAll (PlaceIs.Home proc) [] has.shed (All-nil HasShedAll)));
      shed = b.shed;
      rows = rows;
      spare_room = rw b.over (spare_first f.spare f.out book.entry_room b.spare b.out room);
      spare_bound = omega (arith, spare);
      turn_room = λ enough. let h : ⊥ = omega (arith, enough, spare) in absurd h;
    }

-- so it is where the process was made of this engine and this start
pub node-born : {E O P S L : Type 0} {engines : Meaning E P} {may_ask : P → ℕ → Type 0} {tells : Told S} (begin : P → Start → Option StartRefusal) (at : P → Start → List Call → ℕ → Option Standing)
    (programs : List P) (book : Book) (live idle : ℕ) (f : Fields E O P S L) (proc : Proc E O P S L) (program : P) (engine : E) (start : Start)
    → proc.engine ≡ engine → proc.start ≡ start
    → start.pid ≡ 1 → slice_get programs start.«module» ≡ Some program → begin program start ≡ None
    → BeginsWith start book → 0 < book.entry_room
    → engines.stands engine program start [] 0 → engines.phase engine ≡ Running
    → HasNothing proc → Begun f proc
    → AllHaveRows may_ask programs
    → NodeKeeps engines may_ask tells (setting_with begin at programs book.births live idle) book f
node-born {E = E} {engines = engines} begin at programs book live idle f proc program engine start engine_is start_is numbered found begun begins room stands running =
    node-first begin at programs book live idle f proc program
    (ap (λ (s : Start). s.pid) start_is ∙ numbered) (ap (λ (s : Start). slice_get programs s.«module») start_is ∙ found) (ap (λ (s : Start). begin program s) start_is ∙ begun)
    (subst (λ (s : Start). BeginsWith s book) (sym start_is) begins) room
    (subst (λ (e : E). engines.stands e program proc.start [] 0) (sym engine_is) (subst (λ (s : Start). engines.stands engine program s [] 0) (sym start_is) stands))
    (ap engines.phase engine_is ∙ running)
