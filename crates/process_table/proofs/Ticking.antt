use Rattle.std.proofs.Common.{◌≡◌, ◌≢◌, ◌⊎◌, inl, inr, All, append-nil, nat_eq, ◌<◌, ◌≤◌, ◌↔◌, ℕ, ◌+◌, List, [], ◌∷◌, ◌++◌, length, Option, Some, None, IfSome, IsSome, Bool, true}
use Rattle.std.proofs.Common.{false, cond, nat_le, IsTrue, slice_get}
use Rattle.std.proofs.Common.{slice_set, get_or, length-set, length-append, refl, arith, sym, ◌∙◌, ap, subst}
use Rattle.std.specs.Option.{IsSomeAnd}
use Rattle.std.specs.FinMap.{FinMap, get, remove}
use Rattle.std.specs.Ordering.{nat_cmp}
use Rattle.std.proofs.lemmas.Bool.Decides.{nat_tests, eqb_tells}
use Rattle.std.proofs.lemmas.List.Elements.{All-set}
use Rattle.std.proofs.lemmas.List.{set-set}
use Rattle.std.proofs.lemmas.Option.{slice_get_read}
use Rattle.run_queue.specs.Schedule.{IsDue}
use Rattle.host_port.specs.declared.ask.Ask.{Ask}
use Rattle.host_port.specs.declared.request.Request.{Request}
use Rattle.host_port.specs.declared.call.Call.{Call}
use Rattle.host_port.specs.declared.start.Start.{Start}
use Rattle.host_port.specs.declared.start.StartRefusal.{StartRefusal}
use Rattle.host_port.specs.Areas.{request_of}
use Rattle.host_port.specs.Standing.{Standing}
use Rattle.host_port.specs.Steps.{IsAnswerable}
use Rattle.world_rules.specs.declared.entry.Entry.{Entry}
use Rattle.world_rules.specs.declared.entry.Entry.TheVariants.{Tick}
use Rattle.world_rules.specs.World.{World, Stage, Waiting, is_away}
use Rattle.node_laws.proofs.Goes.{count-alone}
use Rattle.world_rules.specs.Book.{Book, AddsEntry}
use Rattle.world_rules.specs.Calls.{call_of}
use Rattle.world_rules.specs.Time.{late_reply}
use Rattle.world_rules.specs.Told.{told}
use Rattle.world_rules.specs.Lives.{Setting}
use Rattle.node_state.specs.Seats.{Meaning, Seat}
use Rattle.node_state.specs.Slots.{Slot, SlotFits, IsAsleep, Home, Asleep}
use Rattle.node_state.specs.Held.{StandsFor, kept_places}
use Rattle.node_state.specs.Fits.{IsAnswered}
use Rattle.node_state.specs.Posts.{time_at}
use Rattle.node_state.specs.Changes.{ChangesOne, WakesOne}
use Rattle.node_laws.proofs.Programs.{run-told}
use Rattle.node_laws.proofs.Ticks.{untimed, timed, first-timed, timed-asleep, keeps-wake, keeps-early-tick}
use Rattle.node_laws.proofs.Shown.{answerable-asleep, front-first}
use Rattle.host_calls.specs.declared.proc.Proc.{Proc}
use Rattle.host_calls.specs.Shown.{seat_of, hands_of}
use Rattle.resource_table.specs.Handles.{numbers_of}
use Rattle.resource_table.specs.Steps.{Told}
use Rattle.node_state.specs.Streaming.{HandsOn}
use Rattle.process_table.specs.declared.place.Place.{Place}
use Rattle.process_table.specs.declared.place.Place.TheVariants as PlaceIs
use Rattle.process_table.specs.Seen.{Seen}
use Rattle.process_table.specs.Holds.{Fields, NodeKeeps, HasShedAll, held_of, kept_of, slot_of, slot_in, mail_in, hands_in, streams_at}
use Rattle.process_table.specs.Takes.{IsTimed, Ticks}
use Rattle.process_table.proofs.Holding.{setting_with, changes, mail-same, hands-set, hands-other, deadline-removed}
use Rattle.process_table.proofs.EndingAll.{hands-read}
use Rattle.process_table.proofs.Handing.{OthersLaw, hands_stay}
use Rattle.process_table.proofs.Keeping.{SoundLaw, records_one, keeps_new}

-- Time passes.

some_of : (o : Option ℕ) → IsSome o → (d : ℕ) × (o ≡ Some d)
some_of None some = let h : ⊥ = cc in absurd h
some_of (Some d) some = (d, refl)

timed_there : {E O P S L : Type 0} {engines : Meaning E P} {may_ask : P → ℕ → Type 0} {tells : Told S} {setting : Setting P} → SoundLaw → (book : Book) (f : Fields E O P S L)
    → NodeKeeps engines may_ask tells setting book f
    → (pid : ℕ) → IsSome (get f.queue.deadlines pid) → IsTimed (told book)
timed_there {setting = setting} sounds book f keeps pid some =
    let sound = sounds book (run-told setting book keeps.stands.run) in
    let d = some_of (get f.queue.deadlines pid) some in
    let one : pid ≡ 1 = first-timed book (held_of f) pid d.0 sound keeps.stands d.1 in
    let here : get f.queue.deadlines 1 ≡ Some d.0 = subst (λ (n : ℕ). get f.queue.deadlines n ≡ Some d.0) one d.1 in
    rw (timed book (held_of f) d.0 sound keeps.stands here) (omega arith)

first_deadline : {E O P S L : Type 0} {engines : Meaning E P} {may_ask : P → ℕ → Type 0} {tells : Told S} {setting : Setting P} (book : Book) (f : Fields E O P S L)
    → NodeKeeps engines may_ask tells setting book f
    → IsTimed (told book) → (o : Option ℕ) → get f.queue.deadlines 1 ≡ o → (d : ℕ) × (get f.queue.deadlines 1 ≡ Some d)
first_deadline book f keeps timed None none = absurd (let l = ap (λ (xs : List ℕ). length xs) (untimed book (held_of f) keeps.stands none) in omega (arith, l, timed))
first_deadline book f keeps timed (Some d) some = (d, some)

is_some : (o : Option ℕ) (d : ℕ) → o ≡ Some d → IsSome o
is_some o d is = rw is refl

-- somebody has a deadline exactly where somebody waits with one
pub timed-is : {E O P S L : Type 0} {engines : Meaning E P} {may_ask : P → ℕ → Type 0} {tells : Told S} {setting : Setting P} → SoundLaw → (book : Book) (f : Fields E O P S L) (b : Bool)
    → NodeKeeps engines may_ask tells setting book f
    → IsTrue b ↔ ((pid : ℕ) × IsSome (get f.queue.deadlines pid)) → IsTrue b ↔ IsTimed (told book)
timed-is sounds book f b keeps is = (
  λ h. timed_there sounds book f keeps (is.0 h).0 (is.0 h).1,
  λ t. let d = first_deadline book f keeps t (get f.queue.deadlines 1) refl in is.1 (1, is_some (get f.queue.deadlines 1) d.0 d.1),
)

-- WHO IS DUE

-- the process whose deadline has come is process 1, and it is asleep
pub record IsWoken {E O P S L : Type 0} (f : Fields E O P S L) (pid time : ℕ) : Type 0 where
  pub one : pid ≡ 1
  pub deadline : ℕ
  pub timed : get f.queue.deadlines 1 ≡ Some deadline
  pub passed : deadline ≤ time
  pub seat : Seat E
  pub ask : Ask
  pub asleep : slot_in (slice_get f.places 1) ≡ Asleep seat ask
  pub within : 1 < length f.places

some_and : (o : Option ℕ) (time : ℕ) → IsSomeAnd o (λ at. at ≤ time) → (d : ℕ) × (o ≡ Some d) × (d ≤ time)
some_and None time due = absurd due
some_and (Some d) time due = (d, refl, due)

pub is-woken : {E O P S L : Type 0} {engines : Meaning E P} {may_ask : P → ℕ → Type 0} {tells : Told S} {setting : Setting P} → SoundLaw → (book : Book) (f : Fields E O P S L) (pid time : ℕ)
    → NodeKeeps engines may_ask tells setting book f → IsDue f.queue.deadlines time pid → IsWoken f pid time
is-woken {setting = setting} sounds book f pid time keeps due =
    let sound = sounds book (run-told setting book keeps.stands.run) in
    let d = some_and (get f.queue.deadlines pid) time due in
    let one : pid ≡ 1 = first-timed book (held_of f) pid d.0 sound keeps.stands d.1 in
    let here : get f.queue.deadlines 1 ≡ Some d.0 = subst (λ (n : ℕ). get f.queue.deadlines n ≡ Some d.0) one d.1 in
    let asleep = timed-asleep book (held_of f) d.0 sound keeps.stands here in
    let p = keeps.places in
    record { one = one; deadline = d.0; timed = here; passed = d.2; seat = asleep.0; ask = asleep.1; asleep = asleep.2; within = omega (arith, p) }

-- the place that was read there
pub place-read : {E O P S L : Type 0} (f : Fields E O P S L) (pid time : ℕ) (place : Place E O P S L) (woken : IsWoken f pid time) → place ≡ get_or f.places pid place
    → slot_of place ≡ Asleep woken.seat woken.ask
place-read f pid time place woken is =
    let w = woken.within in
    let o = woken.one in
    let within : pid < length f.places = omega (arith, w, o) in
    sym (ap slot_in (slice_get_read f.places (length f.places) pid place refl within is)) ∙ subst (λ (n : ℕ). slot_in (slice_get f.places n) ≡ Asleep woken.seat woken.ask) (sym woken.one) woken.asleep

-- it is asleep, so nothing else
pub asleep-place : {E O P S L : Type 0} (place : Place E O P S L) (seat : Seat E) (ask : Ask) → slot_of place ≡ Asleep seat ask
    → ((proc : Proc E O P S L) (other : Ask) → place ≡ PlaceIs.Asleep proc other → ⊥) → ⊥
asleep-place PlaceIs.Nobody seat ask is never = let h : ⊥ = cc in h
asleep-place (PlaceIs.Home proc) seat ask is never = let h : ⊥ = cc in h
asleep-place (PlaceIs.Asleep proc other) seat ask is never = never proc other refl
asleep-place (PlaceIs.Away worker) seat ask is never = let h : ⊥ = cc in h
asleep-place (PlaceIs.Fated worker end) seat ask is never = let h : ⊥ = cc in h
asleep-place PlaceIs.Gone seat ask is never = let h : ⊥ = cc in h

-- its engine may be told that its wait is over
pub late-answerable : {E O P S L : Type 0} {engines : Meaning E P} {may_ask : P → ℕ → Type 0} {tells : Told S} {setting : Setting P} (book : Book) (f : Fields E O P S L) (pid time : ℕ)
    (proc : Proc E O P S L)
    (ask : Ask) → NodeKeeps engines may_ask tells setting book f → (woken : IsWoken f pid time)
    → slot_of (PlaceIs.Asleep proc ask) ≡ Asleep woken.seat woken.ask → IsAnswerable (engines.phase proc.engine) (engines.memory proc.engine)
    (late_reply (call_of (request_of (engines.memory proc.engine) ask)))
late-answerable book f pid time proc ask keeps woken is =
    answerable-asleep book (held_of f) 1 (seat_of proc) ask keeps.stands (woken.asleep ∙ sym is)

-- nobody is out while process 1 is asleep, and few are ready
waiting_home : (stage : Stage) (request : Request) → stage ≡ Waiting request → is_away stage ≡ false
waiting_home stage request is = ap is_away is

pub none-out : {E O P S L : Type 0} {engines : Meaning E P} {may_ask : P → ℕ → Type 0} {tells : Told S} {setting : Setting P} (book : Book) (f : Fields E O P S L) (pid time : ℕ)
    → NodeKeeps engines may_ask tells setting book f → IsWoken f pid time → f.out ≡ 0
none-out {E = E} {engines = engines} {setting = setting} book f pid time keeps woken =
    let w : World = told book in
    let asleep : IsAsleep engines setting.programs (w.process 1) woken.seat woken.ask = subst (λ (s : Slot E). SlotFits engines setting.programs (w.process 1) s) woken.asleep
    (keeps.stands.mirrors.slots 1) in
    sym keeps.stands.mirrors.out ∙ count-alone w keeps.stands.first.drawn ∙ ap (λ (b : Bool). cond b 1 0) (waiting_home (w.process 1).stage _ asleep.stage)

few_ready : {E O P S L : Type 0} {engines : Meaning E P} {may_ask : P → ℕ → Type 0} {tells : Told S} {setting : Setting P} (book : Book) (f : Fields E O P S L)
    → NodeKeeps engines may_ask tells setting book f
    → (ready : List ℕ) → f.queue.ready ≡ ready → length ready ≤ 1
few_ready book f keeps [] is = omega arith
few_ready book f keeps (q ∷ rest) is =
    let alone = ap (λ (xs : List ℕ). length xs) (front-first book (held_of f) q rest keeps.stands is).3 in
    omega (arith, alone)

pub woken-room : {E O P S L : Type 0} {engines : Meaning E P} {may_ask : P → ℕ → Type 0} {tells : Told S} {setting : Setting P} (book : Book) (f : Fields E O P S L) (pid time : ℕ)
    → NodeKeeps engines may_ask tells setting book f → IsWoken f pid time → length f.queue.ready + f.out + 1 ≤ f.queue.room
woken-room book f pid time keeps woken =
    let none = none-out book f pid time keeps woken in
    let few = few_ready book f keeps f.queue.ready refl in
    let two = keeps.room in
    omega (arith, none, few, two)

spare_two : (out spare : ℕ) (over : Bool) (room : ℕ) → over ≡ false → 1 ≤ spare → spare + kept_places out over ≤ room → out + 2 ≤ room
spare_two out spare true room going one h = let no : ⊥ = cc in absurd no
spare_two out spare false room going one h = omega (arith, one, h)

-- the place of a Tick
tick_place : (out spare room : ℕ) (over : Bool) → 1 ≤ spare → spare + kept_places out over ≤ room → 0 < room
tick_place out spare room over one h = omega (arith, one, h)

pub tick-room : {E O P S L : Type 0} {engines : Meaning E P} {may_ask : P → ℕ → Type 0} {tells : Told S} {setting : Setting P} (book : Book) (f : Fields E O P S L)
    → NodeKeeps engines may_ask tells setting book f → 1 ≤ f.spare → 0 < book.entry_room
tick-room book f keeps one = tick_place f.out f.spare book.entry_room f.over one keeps.spare_room

spare_ticked : (new old spare left out : ℕ) (over : Bool) → new + 1 ≡ old → left + 1 ≡ spare → spare + kept_places out over ≤ old → left + kept_places out over ≤ new
spare_ticked new old spare left out true e l h = omega (arith, e, l, h)
spare_ticked new old spare left out false e l h = omega (arith, e, l, h)

-- what a Tick leaves: the mailboxes, what was counted but for the time, and the streams; one entry less may be recorded
pub record Times {E O P S L : Type 0} (f g : Fields E O P S L) (now : ℕ) : Type 0 where
  pub mail : g.mail ≡ f.mail
  pub room : g.queue.room ≡ f.queue.room
  pub sends : g.sends ≡ f.sends
  pub time : g.time ≡ time_at f.time now
  pub over : g.over ≡ f.over
  pub out : g.out ≡ f.out
  pub streams : g.streams ≡ f.streams
  pub closed : g.closed ≡ f.closed
  pub closed_room : g.closed_room ≡ f.closed_room
  pub shed : g.shed ≡ f.shed
  pub spare : g.spare + 1 ≡ f.spare

-- what a node keeps by a Tick
keeps_tick : {E O P S L : Type 0} {engines : Meaning E P} {may_ask : P → ℕ → Type 0} {tells : Told S} → OthersLaw engines tells → (begin : P → Start → Option StartRefusal)
    (at : P → Start → List Call → ℕ → Option Standing) (programs : List P) (old new : Book) (live idle : ℕ) (f g : Fields E O P S L) (worker now : ℕ)
    → NodeKeeps engines may_ask tells (setting_with begin at programs old.births live idle) old f
    → AddsEntry old new (Tick worker now) → StandsFor engines (setting_with begin at programs old.births live idle) new (told new) (held_of g)
    → ((q : ℕ) → hands_in (slice_get g.places q) ≡ hands_in (slice_get f.places q)) → All HasShedAll g.places
    → length g.places ≡ length f.places → Times f g now
    → length g.queue.ready + g.out ≤ f.queue.room
    → NodeKeeps engines may_ask tells (setting_with begin at programs new.births live idle) new g
keeps_tick {engines = engines} {tells = tells} law begin at programs old new live idle f g worker now keeps adds stands hands sheds places t ready =
    let setting = setting_with begin at programs old.births live idle in
    let was_kept = kept_of f.places f.mail f.closed in
    let is_kept = kept_of g.places g.mail g.closed in
    let stay : HandsOn tells was_kept is_kept 1 (was_kept.hands 1 ++ was_kept.mail 1) [] = hands_stay tells was_kept is_kept 1 t.closed hands (λ q. ap (λ xs. streams_at (slice_get xs q)) t.mail) in
    let streams = law setting old new (held_of f) (held_of g) was_kept is_kept 1 (Tick worker now) [] keeps.stands (λ give e. let h : ⊥ = cc in h) (records_one old new (Tick worker now) adds) stands
    keeps.streams stay in
    let out = t.out in
    let numbers = t.streams in
    let wide = t.closed_room in
    let left = t.spare in
    let bound = keeps.spare_bound in
    let closed_room = keeps.closed_room in
    let turn = keeps.turn_room in
    keeps_new begin at programs old new live idle f g keeps adds.births stands streams places
    (ap (λ xs. length xs) t.mail) t.room ready (omega (arith, out, numbers, wide, closed_room)) sheds (t.shed ∙ keeps.shed)
    (rw (t.out, t.over) (spare_ticked new.entry_room old.entry_room f.spare g.spare f.out f.over adds.entry_room t.spare keeps.spare_room))
    (omega (arith, left, bound))
    (λ enough. let t = turn (omega (arith, enough, left)) in omega (arith, out, numbers, wide, t))

home_shed : {E O P S L : Type 0} (proc after : Proc E O P S L) (ask : Ask) (place : Place E O P S L) → place ≡ PlaceIs.Asleep proc ask → HasShedAll place → after.shed ≡ proc.shed
    → HasShedAll (PlaceIs.Home after)
home_shed proc after ask place is shed same = same ∙ subst HasShedAll is shed

-- TICK. The wait of process 1 is over.
pub node-wake : {E O P S L : Type 0} {engines : Meaning E P} {may_ask : P → ℕ → Type 0} {tells : Told S} → SoundLaw → OthersLaw engines tells
    → (begin : P → Start → Option StartRefusal) (at : P → Start → List Call → ℕ → Option Standing) (programs : List P) (old new : Book) (live idle : ℕ) (f g : Fields E O P S L) (worker now pid : ℕ)
    (proc after : Proc E O P S L) (ask : Ask) (place : Place E O P S L)
    → NodeKeeps engines may_ask tells (setting_with begin at programs old.births live idle) old f
    → (told old).over ≡ false → 1 ≤ f.spare
    → IsDue f.queue.deadlines (time_at f.time now) pid → PlaceIs.Asleep proc ask ≡ get_or f.places pid (PlaceIs.Asleep proc ask)
    → IsAnswered engines proc.engine (late_reply (call_of (request_of (engines.memory proc.engine) ask))) after.engine
    → seat_of after ≡ record (seat_of proc) { engine = after.engine } → hands_of after ≡ hands_of proc → after.shed ≡ proc.shed
    → g.places ≡ slice_set (slice_set f.places pid place) pid (PlaceIs.Home after)
    → g.queue.ready ≡ f.queue.ready ++ pid ∷ [] → g.queue.deadlines ≡ remove f.queue.deadlines pid → g.row ≡ 0 → Times f g now
    → AddsEntry old new (Tick worker now)
    → NodeKeeps engines may_ask tells (setting_with begin at programs new.births live idle) new g
node-wake {E = E} {engines = engines} sounds law begin at programs old new live idle f g worker now pid proc after ask place keeps going spare due reads answers seat_is hands_are shed_is places ready
    deadlines row t adds =
    let woken = is-woken sounds old f pid (time_at f.time now) keeps due in
    let sound = sounds old (run-told (setting_with begin at programs old.births live idle) old keeps.stands.run) in
    let read = place-read f pid (time_at f.time now) (PlaceIs.Asleep proc ask) woken reads in
    let one = woken.one in
    let within : pid < length f.places = let w = woken.within in omega (arith, w, one) in
    let set : g.places ≡ slice_set f.places pid (PlaceIs.Home after) = places ∙ set-set f.places pid place (PlaceIs.Home after) in
    let change = changes f g pid (PlaceIs.Home after) ((held_of f).mail pid) (streams_at (slice_get f.mail pid)) None within set
    (rw t.mail (mail-same f.mail pid)) (deadline-removed f.queue.deadlines g.queue.deadlines pid deadlines) in
    let slot : Slot E = Home (record (seat_of proc) { engine = after.engine }) in
    let changed : ChangesOne (held_of f) (held_of g) pid slot ((held_of f).mail pid) None = subst (λ (s : Seat E). ChangesOne (held_of f) (held_of g) pid (Home s) ((held_of f).mail pid) None) seat_is
    change in
    let wakes : WakesOne (held_of f) (held_of g) pid slot = record {
      change = changed;
      ready = ready;
      out = t.out;
      closes = record { streams_are = t.streams; closed_are = ap numbers_of t.closed ∙ sym (append-nil (numbers_of f.closed)) };
    } in
    let g_over : f.over ≡ false = sym keeps.stands.mirrors.over ∙ going in
    let r : f.out + 2 ≤ old.entry_room = spare_two f.out f.spare f.over old.entry_room g_over spare keeps.spare_room in
    let stands = keeps-wake old new (held_of f) (held_of g) worker now woken.deadline (seat_of proc) ask after.engine sound keeps.stands g_over
    (woken.asleep ∙ sym read) woken.timed woken.passed answers
    (subst (λ (n : ℕ). WakesOne (held_of f) (held_of g) n slot) one wakes)
    (record { sends_are = t.sends; time_is = t.time; row_is = row; over = t.over }) (records_one old new (Tick worker now) adds) r in
    let l = ap (λ (xs : List ℕ). length xs) ready ∙ length-append f.queue.ready (pid ∷ []) in
    let fits = woken-room old f pid (time_at f.time now) keeps woken in
    let out = t.out in
    let here : hands_in (slice_get g.places pid) ≡ hands_in (slice_get f.places pid) =
    hands-set f.places g.places pid (PlaceIs.Home after) within set ∙ hands_are ∙ sym (hands-read f.places pid (PlaceIs.Asleep proc ask) within reads) in
    let hands : (q : ℕ) → hands_in (slice_get g.places q) ≡ hands_in (slice_get f.places q) =
    λ q. by_number q pid (λ k. hands_in (slice_get g.places k) ≡ hands_in (slice_get f.places k)) here (λ different. hands-other f.places g.places pid (PlaceIs.Home after) q different set) in
    let shed : HasShedAll (PlaceIs.Asleep proc ask) = subst HasShedAll (sym reads) (keeps.sheds pid (PlaceIs.Asleep proc ask) within) in
    keeps_tick law begin at programs old new live idle f g worker now keeps adds stands hands
    (subst (All HasShedAll) (sym set) (All-set HasShedAll f.places pid (PlaceIs.Home after) (home_shed proc after ask (PlaceIs.Asleep proc ask) refl shed shed_is) keeps.sheds))
    (ap (λ xs. length xs) set ∙ length-set f.places pid (PlaceIs.Home after)) t (omega (arith, l, out, fits))
  where
    by_number : (q pid : ℕ) (P : ℕ → Type 0) → P pid → (q ≢ pid → P q) → P q
    by_number q pid P here there = tell (eqb_tells q pid)
      where
        tell : ((nat_eq q pid ≡ true) × (q ≡ pid)) ⊎ ((nat_eq q pid ≡ false) × (q ≢ pid)) → P q
        tell (inl same) = subst P (sym same.1) here
        tell (inr other) = there other.1

-- NOBODY IS DUE

later : (d time : ℕ) → (d ≤ time → ⊥) → time < d
later d time h = by (nat_le d time) refl
  where
    by : (b : Bool) → nat_le d time ≡ b → time < d
    by true e = absurd (h (grind (arith, nat_tests, e)))
    by false e = grind (arith, nat_tests, e)

-- an early TICK
pub node-early : {E O P S L : Type 0} {engines : Meaning E P} {may_ask : P → ℕ → Type 0} {tells : Told S} → SoundLaw → OthersLaw engines tells
    → (begin : P → Start → Option StartRefusal) (at : P → Start → List Call → ℕ → Option Standing) (programs : List P) (old new : Book) (live idle : ℕ) (f g : Fields E O P S L) (worker now : ℕ)
    → NodeKeeps engines may_ask tells (setting_with begin at programs old.births live idle) old f
    → (told old).over ≡ false → 1 ≤ f.spare → IsTimed (told old)
    → ((pid : ℕ) → IsDue f.queue.deadlines (time_at f.time now) pid → ⊥)
    → g.places ≡ f.places → g.queue.ready ≡ f.queue.ready → g.queue.deadlines ≡ f.queue.deadlines → g.row ≡ f.row + 1 → Times f g now
    → AddsEntry old new (Tick worker now)
    → NodeKeeps engines may_ask tells (setting_with begin at programs new.births live idle) new g
node-early {engines = engines} sounds law begin at programs old new live idle f g worker now keeps going spare timed none places ready deadlines row t adds =
    let sound = sounds old (run-told (setting_with begin at programs old.births live idle) old keeps.stands.run) in
    let d = first_deadline old f keeps timed (get f.queue.deadlines 1) refl in
    let g_over : f.over ≡ false = sym keeps.stands.mirrors.over ∙ going in
    let r : f.out + 2 ≤ old.entry_room = spare_two f.out f.spare f.over old.entry_room g_over spare keeps.spare_room in
    let early : time_at f.time now < d.0 = later d.0 (time_at f.time now) (λ passed. none 1 (rw d.1 passed)) in
    let stands = keeps-early-tick old new (held_of f) (held_of g) worker now d.0 sound keeps.stands g_over d.1 early
    (record {
      slots = λ q. ap (λ xs. slot_in (slice_get xs q)) places;
      mail = λ q. ap (λ xs. mail_in (slice_get xs q)) t.mail;
      deadlines = λ q. ap (λ (m : FinMap nat_cmp ℕ). get m q) deadlines;
      ready = ready;
      out = t.out;
      closes = record { streams_are = t.streams; closed_are = ap numbers_of t.closed ∙ sym (append-nil (numbers_of f.closed)) };
    })
    (record { sends_are = t.sends; time_is = t.time; row_is = row; over = t.over }) (records_one old new (Tick worker now) adds) r in
    let l = ap (λ (xs : List ℕ). length xs) ready in
    let fits = keeps.ready_room in
    let out = t.out in
    keeps_tick law begin at programs old new live idle f g worker now keeps adds stands (λ q. ap (λ xs. hands_in (slice_get xs q)) places)
    (subst (All HasShedAll) (sym places) keeps.sheds)
    (ap (λ xs. length xs) places) t (omega (arith, l, out, fits))

-- the row is shorter than the journal with the Tick
pub row-shorter : {E O P S L : Type 0} {engines : Meaning E P} {may_ask : P → ℕ → Type 0} {tells : Told S} {setting : Setting P} (old new : Book) (f : Fields E O P S L) (worker now : ℕ)
    → NodeKeeps engines may_ask tells setting old f → AddsEntry old new (Tick worker now) → f.row < length new.entries
row-shorter old new f worker now keeps adds =
    let l = ap (λ (xs : List Entry). length xs) adds.entries ∙ length-append old.entries (Tick worker now ∷ []) in
    let b = keeps.stands.row_bound in
    omega (arith, l, b)

-- what a Tick shows
pub shows-tick : {P S : Type 0} (old new : Seen P S) (worker now : ℕ) (clock : Option ℕ) → IfSome clock (λ time. now ≡ time) → AddsEntry old.book new.book (Tick worker now) → new.spare + 1 ≡ old.spare
    → Ticks old new worker clock
shows-tick old new worker now clock told adds spare = record { now = now; told = told; recorded = records_one old.book new.book (Tick worker now) adds; spare = spare }
