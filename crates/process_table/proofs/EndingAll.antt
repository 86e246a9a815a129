use Rattle.std.proofs.Common.{◌≡◌, ◌≢◌, ◌<◌, ◌≤◌, ℕ, ◌+◌, ◌-◌, List, [], ◌∷◌, ◌++◌, length, map, All, Option, Some, None, IfSome, Bool}
use Rattle.std.proofs.Common.{true, false, slice_get, slice_set, get_or, length-set, refl, arith, sym, ◌∙◌}
use Rattle.std.proofs.Common.{ap, subst}
use Rattle.std.proofs.lemmas.List.{set-set, map-append}
use Rattle.std.proofs.lemmas.List.Elements.{All-set}
use Rattle.std.proofs.lemmas.Option.{slice_get_read}
use Rattle.std.specs.FinMap.{FinMap, remove}
use Rattle.std.specs.List.{flat_map}
use Rattle.tagged_mailbox.specs.Mail.{Mail}
use Rattle.run_queue.specs.Schedule.{Schedule, without}
use Rattle.message_scratch.specs.Messages.{handles_in}
use Rattle.resource_table.specs.Handles.{Handle, numbers_of}
use Rattle.resource_table.specs.Steps.{Told, Sheds}
use Rattle.resource_table.proofs.Closings.{sheds_none, sheds_more, sheds_length}
use Rattle.host_port.specs.declared.ask.Ask.{Ask}
use Rattle.host_port.specs.declared.call.Call.{Call}
use Rattle.host_port.specs.declared.start.Start.{Start}
use Rattle.host_port.specs.declared.start.StartRefusal.{StartRefusal}
use Rattle.host_port.specs.Standing.{Standing}
use Rattle.world_rules.specs.declared.entry.Entry.{Entry}
use Rattle.world_rules.specs.declared.entry.Entry.TheVariants as EntryIs
use Rattle.world_rules.specs.declared.halt.End.{End}
use Rattle.world_rules.specs.declared.life.Ended.{Ended as EndMemory}
use Rattle.world_rules.specs.Book.{Book, AddsEntry}
use Rattle.world_rules.specs.Told.{told}
use Rattle.world_rules.specs.Lives.{Setting}
use Rattle.world_rules.specs.Time.{timed_processes}
use Rattle.world_rules.specs.Views.{Given, Giving, deed_of}
use Rattle.node_state.specs.Seats.{Meaning, Seat}
use Rattle.node_state.specs.Slots.{Slot, SlotFits, struck, closings_at}
use Rattle.node_state.specs.Held.{Held, StandsFor, kept_places}
use Rattle.node_state.specs.Fits.{ShowMemory, IsLastAt}
use Rattle.node_state.specs.Streaming.{HandsOn}
use Rattle.node_state.specs.Changes.{Records, EndsAll}
use Rattle.node_laws.proofs.Programs.{KeepsSound, run-told}
use Rattle.node_laws.proofs.AllEnds.{keeps-stall, keeps-idle, keeps-starve}
use Rattle.node_laws.proofs.Rooms.{ends-room-going}
use Rattle.node_laws.proofs.Shown.{front-first}
use Rattle.node_laws.proofs.Ticks.{timed}
use Rattle.host_calls.specs.declared.proc.Proc.{Proc}
use Rattle.process_table.specs.Letters.{Letter}
use Rattle.process_table.specs.declared.place.Place.{Place}
use Rattle.process_table.specs.declared.place.Place.TheVariants as PlaceIs
use Rattle.process_table.specs.Seen.{Seen, seen}
use Rattle.process_table.specs.Holds.{Fields, NodeKeeps, HasShedAll, IsVacant, held_of, kept_of, slot_of, slot_in, hands_at, hands_in, streams_of, streams_at, letter_of, letters_in, AddsLast}
use Rattle.process_table.specs.Takes.{MayEndAll}
use Rattle.process_table.proofs.Holding.{setting_with, changes, mail-set, mail-read, streams-read, hands-set, hands-other, deadline-removed, get_set_same}
use Rattle.process_table.proofs.Handing.{OthersLaw, ApartLaw, hands_closed, numbers_shut, closings_are, closings_room}
use Rattle.process_table.proofs.Keeping.{SoundLaw, keeps_new, vacant_hands, vacant_shed}

-- Everybody ends.

-- an entry, and then the ends that it brought
pub records-last : {E P : Type 0} (engines : Meaning E P) (old added new : Book) (entry : Entry) (pid : ℕ) (slot : Slot E) → AddsEntry old added entry → (last : AddsLast engines pid slot added new)
    → Records old new entry last.more
records-last engines old added new entry pid slot adds last = record {
  entries = last.entries ∙ adds.entries;
  births = last.births ∙ adds.births;
  ends_are = last.ends ∙ ap (λ (xs : List EndMemory). xs ++ last.more) adds.ends;
  entry_room = ap (λ (n : ℕ). n + 1) last.entry_room ∙ adds.entry_room;
}

none_timed : (xs : List ℕ) (one : ℕ) → xs ≡ one ∷ [] → xs ≡ [] → ⊥
none_timed xs one some none = let e : one ∷ [] ≡ [] = sym some ∙ none in let h : ⊥ = cc in h

none_unless : (o : Option ℕ) → ((d : ℕ) → o ≡ Some d → ⊥) → o ≡ None
none_unless None h = refl
none_unless (Some d) h = absurd (h d refl)

stands_ended : {E P S : Type 0} {engines : Meaning E P} → KeepsSound → SoundLaw
    → (begin : P → Start → Option StartRefusal) (at : P → Start → List Call → ℕ → Option Standing) (programs : List P) (old new : Book) (live idle spare : ℕ)
    (hs ms : List (List (Handle S))) (cs : List (Handle S)) (was is : Held E)
    (entry : Entry) (end : End) (more : List EndMemory)
    → ShowMemory engines (setting_with begin at programs old.births live idle) → StandsFor engines (setting_with begin at programs old.births live idle) old (told old) was → was.over ≡ false
    → MayEndAll (seen programs old live idle spare hs ms cs) entry end → EndsAll was is end → IsLastAt engines 1 (was.slots 1) more → Records old new entry more
    → StandsFor engines (setting_with begin at programs old.births live idle) new (told new) is
stands_ended k tells begin at programs old new live idle spare hs ms cs was is (EntryIs.Take worker pid) end more show stands going due all last records = absurd due
stands_ended k tells begin at programs old new live idle spare hs ms cs was is (EntryIs.Give worker pid calls fuel halt side) end more show stands going due all last records = absurd due
stands_ended k tells begin at programs old new live idle spare hs ms cs was is (EntryIs.Tick worker now) end more show stands going due all last records = absurd due
stands_ended k tells begin at programs old new live idle spare hs ms cs was is (EntryIs.Stall worker) end more show stands going due all last records =
    let setting = setting_with begin at programs old.births live idle in
    let sound = tells old (run-told setting old stands.run) in
    let m = stands.mirrors in
    let stuck = due.1 in
    let timeless : was.deadlines 1 ≡ None = none_unless (was.deadlines 1) (λ d some. none_timed (timed_processes (told old)) 1 (timed old was d sound stands some) stuck.untimed) in
    keeps-stall old new was is worker more k sound show stands going (sym m.ready.same ∙ stuck.none_ready) (sym m.out ∙ stuck.away) timeless
    (subst (λ (e : End). EndsAll was is e) due.0 all) last records
stands_ended k tells begin at programs old new live idle spare hs ms cs was is (EntryIs.Idle worker) end more show stands going due all last records =
    let setting = setting_with begin at programs old.births live idle in
    keeps-idle old new was is worker more k (tells old (run-told setting old stands.run)) show stands going (rw (← stands.mirrors.row) due.1)
    (subst (λ (e : End). EndsAll was is e) due.0 all) last records
stands_ended k tells begin at programs old new live idle spare hs ms cs was is (EntryIs.Starve worker) end more show stands going due all last records =
    let setting = setting_with begin at programs old.births live idle in
    keeps-starve old new was is worker more k (tells old (run-told setting old stands.run)) show stands going
    (subst (λ (e : End). EndsAll was is e) due all) last records

-- such an entry is no Give
no_give : {P S : Type 0} (node : Seen P S) (entry : Entry) (end : End) → MayEndAll node entry end → (give : Given) → deed_of entry ≢ Giving give
no_give node (EntryIs.Take worker pid) end due give is = absurd due
no_give node (EntryIs.Give worker pid calls fuel halt side) end due give is = absurd due
no_give node (EntryIs.Tick worker now) end due give is = absurd due
no_give node (EntryIs.Stall worker) end due give is = let h : ⊥ = cc in h
no_give node (EntryIs.Idle worker) end due give is = let h : ⊥ = cc in h
no_give node (EntryIs.Starve worker) end due give is = let h : ⊥ = cc in h

-- who is ready is process 1, and it is removed
pub none-left : {E P : Type 0} {engines : Meaning E P} {setting : Setting P} (book : Book) (held : Held E) (ready : List ℕ) → StandsFor engines setting book (told book) held → held.ready ≡ ready
    → without ready 1 ≡ []
none-left book held [] stands is = refl
none-left book held (pid ∷ rest) stands is =
    let first = front-first book held pid rest stands is in
    rw (first.0, first.3) refl

-- the place of a process, and its streams, as they were read
pub slot-read : {E O P S L : Type 0} (places : List (Place E O P S L)) (pid : ℕ) (place : Place E O P S L) → pid < length places → place ≡ get_or places pid place
    → slot_in (slice_get places pid) ≡ slot_of place
slot-read places pid place within is = ap slot_in (slice_get_read places (length places) pid place refl within is)

pub hands-read : {E O P S L : Type 0} (places : List (Place E O P S L)) (pid : ℕ) (place : Place E O P S L) → pid < length places → place ≡ get_or places pid place
    → hands_in (slice_get places pid) ≡ hands_at place
hands-read places pid place within is = ap hands_in (slice_get_read places (length places) pid place refl within is)

-- what was read through a place that was written then
pub read-through : {X : Type 0} (xs : List X) (k : ℕ) (x y : X) → x ≡ y → y ≡ get_or xs k y → x ≡ get_or xs k x
read-through xs k x y same is = subst (λ z. z ≡ get_or xs k z) (sym same) is

-- an empty mailbox has no streams
streams_none : {S : Type 0} (letters : List (Letter S)) → letters ≡ [] → flat_map (λ letter. handles_in letter.message.slots) letters ≡ []
streams_none letters is = ap (λ ls. flat_map (λ letter. handles_in letter.message.slots) ls) is

spare_ends : (new old spare out : ℕ) (over : Bool) → over ≡ false → new + 1 ≡ old → spare + kept_places out over ≤ old → spare + kept_places out true ≤ new
spare_ends new old spare out true going e h = let no : ⊥ = cc in absurd no
spare_ends new old spare out false going e h = omega (arith, e, h)

-- what changes where the run ends by an entry: the place and the mailbox of process 1, and what is closed of it
pub record Ending {E O P S L : Type 0} (tells : Told S) (f g : Fields E O P S L) (end : End) (place after between : Place E O P S L) (box left : Mail (Letter S)) (middle : List (Handle S))
    : Type 0 where
  pub read : place ≡ get_or f.places 1 place
  pub placed : g.places ≡ slice_set (slice_set f.places 1 between) 1 after
  pub struck_is : slot_of after ≡ struck end (slot_of place)
  pub vacant : IsVacant after
  pub boxed : box ≡ get_or f.mail 1 box
  pub empty : left.items ≡ []
  pub mail_is : g.mail ≡ slice_set f.mail 1 left
  pub ready_is : g.queue.ready ≡ without f.queue.ready 1
  pub deadlines_are : g.queue.deadlines ≡ remove f.queue.deadlines 1
  pub room_is : g.queue.room ≡ f.queue.room
  pub sends : g.sends ≡ f.sends
  pub time : g.time ≡ f.time
  pub row : g.row ≡ 0
  pub out : g.out ≡ f.out
  pub over : g.over ≡ true
  pub hands : Sheds tells (hands_at place) f.closed middle
  pub letters : Sheds tells (streams_of box) middle g.closed
  pub streams_are : g.streams ≡ f.streams
  pub closed_room : g.closed_room ≡ f.closed_room
  pub shed : g.shed ≡ []
  pub spare : g.spare ≡ f.spare

-- the run is over by this entry
pub node-ends : {E O P S L : Type 0} {engines : Meaning E P} {may_ask : P → ℕ → Type 0} {tells : Told S} → KeepsSound → SoundLaw → OthersLaw engines tells
    → (begin : P → Start → Option StartRefusal) (at : P → Start → List Call → ℕ → Option Standing) (programs : List P) (old added new : Book) (live idle spare : ℕ)
    (hs ms : List (List (Handle S))) (cs : List (Handle S))
    (f g : Fields E O P S L) (entry : Entry) (end : End) (place after between : Place E O P S L) (box left : Mail (Letter S)) (middle : List (Handle S))
    → ShowMemory engines (setting_with begin at programs old.births live idle)
    → NodeKeeps engines may_ask tells (setting_with begin at programs old.births live idle) old f
    → (told old).over ≡ false → MayEndAll (seen programs old live idle spare hs ms cs) entry end
    → Ending tells f g end place after between box left middle
    → AddsEntry old added entry → AddsLast engines 1 (slot_of place) added new
    → NodeKeeps engines may_ask tells (setting_with begin at programs new.births live idle) new g
node-ends {E = E} {engines = engines} {tells = tells} k sounds law begin at programs old added new live idle spare hs ms cs f g entry end place after between box left middle show keeps going due ends
    adds last =
    let setting = setting_with begin at programs old.births live idle in
    let was = held_of f in
    let held = held_of g in
    let p = keeps.places in
    let b = keeps.mail in
    let within : 1 < length f.places = omega (arith, p) in
    let boxes : 1 < length f.mail = omega (arith, b) in
    let set_once : g.places ≡ slice_set f.places 1 after = ends.placed ∙ set-set f.places 1 between after in
    let slot_is : was.slots 1 ≡ slot_of place = slot-read f.places 1 place within ends.read in
    let letters_are : was.mail 1 ≡ letters_in box = mail-read f.mail 1 box boxes ends.boxed in
    let mails = mail-set f.mail g.mail 1 left boxes ends.mail_is in
    let none_letters : letters_in left ≡ [] = ap (map letter_of) ends.empty in
    let change = changes f g 1 after (letters_in left) (streams_of left) None within set_once mails (deadline-removed f.queue.deadlines g.queue.deadlines 1 ends.deadlines_are) in
    let none : g.queue.ready ≡ [] = ends.ready_is ∙ none-left old was f.queue.ready keeps.stands refl in
    let going_f : f.over ≡ false = sym keeps.stands.mirrors.over ∙ going in
    let sheds : Sheds tells (hands_at place ++ streams_of box) f.closed g.closed = sheds_more tells (hands_at place) (streams_of box) f.closed middle g.closed ends.hands ends.letters in
    let fits : SlotFits engines programs ((told old).process 1) (slot_of place) = subst (λ (s : Slot E). SlotFits engines programs ((told old).process 1) s) slot_is (keeps.stands.mirrors.slots 1) in
    let more : numbers_of sheds.closed ≡ closings_at (was.slots 1) (was.mail 1) = numbers_shut tells (hands_at place ++ streams_of box) sheds.closed sheds.shut
    ∙ closings_are engines programs ((told old).process 1) place box fits (keeps.stands.first.going going) ∙ sym
    (ap (λ s. closings_at s (was.mail 1)) slot_is ∙ ap (closings_at (slot_of place)) letters_are) in
    let all : EndsAll was held end = record {
      change = rw (ends.struck_is ∙ ap (struck end) (sym slot_is), none_letters) at change;
      ready = none;
      sends = ends.sends;
      time = ends.time;
      row = ends.row;
      over = ends.over;
      out = ends.out;
      closes = record {
        streams_are = ends.streams_are;
        closed_are = ap numbers_of sheds.behind ∙ map-append (λ h. h.number) f.closed sheds.closed ∙ ap (λ ns. numbers_of f.closed ++ ns) more;
      };
    } in
    let lasts : IsLastAt engines 1 (was.slots 1) last.more = subst (λ (s : Slot E). IsLastAt engines 1 s last.more) (sym slot_is) last.last in
    let records = records-last engines old added new entry 1 (slot_of place) adds last in
    let stands = stands_ended k sounds begin at programs old new live idle spare hs ms cs was held entry end last.more show keeps.stands going_f due all lasts records in
    let was_kept = kept_of f.places f.mail f.closed in
    let is_kept = kept_of g.places g.mail g.closed in
    let pool : was_kept.hands 1 ++ was_kept.mail 1 ≡ hands_at place ++ streams_of box =
    ap (λ hs. hs ++ was_kept.mail 1) (hands-read f.places 1 place within ends.read) ∙ ap (λ hs. hands_at place ++ hs) (streams-read f.mail 1 box boxes ends.boxed) in
    let hands : HandsOn tells was_kept is_kept 1 (was_kept.hands 1 ++ was_kept.mail 1) [] = hands_closed tells was_kept is_kept 1
    (subst (λ hs. Sheds tells hs f.closed g.closed) (sym pool) sheds)
    (hands-set f.places g.places 1 after within set_once ∙ vacant_hands after ends.vacant) (mails.streams_here ∙ streams_none left.items ends.empty)
    (λ q different. hands-other f.places g.places 1 after q different set_once) mails.other_streams in
    let streams = law setting old new was held was_kept is_kept 1 entry last.more keeps.stands (no_give (seen programs old live idle spare hs ms cs) entry end due) records stands
    keeps.streams hands in
    let no_one : length g.queue.ready ≡ 0 = ap (λ (xs : List ℕ). length xs) none in
    let out = ends.out in
    let numbers = ends.streams_are in
    let wide = ends.closed_room in
    let few = ends.spare in
    let ready_room = keeps.ready_room in
    let closed_room = keeps.closed_room in
    let bound = keeps.spare_bound in
    let turn = keeps.turn_room in
    keeps_new begin at programs old new live idle f g keeps (last.births ∙ adds.births) stands streams
    (ap (λ xs. length xs) set_once ∙ length-set f.places 1 after)
    (ap (λ xs. length xs) ends.mail_is ∙ length-set f.mail 1 left) ends.room_is
    (omega (arith, no_one, out, ready_room)) (omega (arith, out, numbers, wide, closed_room))
    (subst (All HasShedAll) (sym set_once) (All-set HasShedAll f.places 1 after (vacant_shed after ends.vacant) keeps.sheds)) ends.shed
    (rw (ends.spare, ends.out, ends.over) (spare_ends new.entry_room old.entry_room f.spare f.out f.over going_f records.entry_room keeps.spare_room))
    (omega (arith, few, bound))
    (λ enough. let t = turn (omega (arith, enough, few)) in omega (arith, out, numbers, wide, t))

-- there is room for the end that it brings
pub end-room-going : {E O P S L : Type 0} {engines : Meaning E P} {may_ask : P → ℕ → Type 0} {tells : Told S} {setting : Setting P} (book added : Book) (f : Fields E O P S L) (entry : Entry)
    → NodeKeeps engines may_ask tells setting book f → (told book).over ≡ false → AddsEntry book added entry → length added.ends < length added.births
end-room-going book added f entry keeps going adds = rw (adds.ends, adds.births) (ends-room-going book (held_of f) keeps.stands (sym keeps.stands.mirrors.over ∙ going))

-- and a place for the entry
pub entry-room-going : {E O P S L : Type 0} {engines : Meaning E P} {may_ask : P → ℕ → Type 0} {tells : Told S} {setting : Setting P} (book : Book) (f : Fields E O P S L)
    → NodeKeeps engines may_ask tells setting book f → (told book).over ≡ false → 0 < book.entry_room
entry-room-going book f keeps going = some f.out book.entry_room f.over (sym keeps.stands.mirrors.over ∙ going) keeps.stands.room
  where
    some : (out room : ℕ) (over : Bool) → over ≡ false → kept_places out over ≤ room → 0 < room
    some out room true is h = let e : ⊥ = cc in absurd e
    some out room false is h = omega (arith, h)

-- the shed of a process at home is empty
pub shed_read : {E O P S L : Type 0} {engines : Meaning E P} {may_ask : P → ℕ → Type 0} {tells : Told S} {setting : Setting P} (book : Book) (f : Fields E O P S L) (place : Place E O P S L)
    → NodeKeeps engines may_ask tells setting book f → place ≡ get_or f.places 1 place → HasShedAll place
shed_read book f place keeps there = let p = keeps.places in subst HasShedAll (sym there) (keeps.sheds 1 place (omega (arith, p)))

-- there is room for the streams of process 1, and then for those of its mailbox
pub struck_room : {E O P S L : Type 0} {engines : Meaning E P} {may_ask : P → ℕ → Type 0} {tells : Told S} {setting : Setting P} → ApartLaw engines → (book : Book) (f : Fields E O P S L)
    (place : Place E O P S L) → NodeKeeps engines may_ask tells setting book f → place ≡ get_or f.places 1 place → length f.closed + length (hands_at place) ≤ f.closed_room
struck_room apart book f place keeps there =
    let p = keeps.places in
    let room = closings_room apart book f 1 keeps in
    let hands = ap length (hands-read f.places 1 place (omega (arith, p)) there) in
    omega (arith, room, hands)

pub mail_room : {E O P S L : Type 0} {engines : Meaning E P} {may_ask : P → ℕ → Type 0} {tells : Told S} {setting : Setting P} → ApartLaw engines → (book : Book) (f : Fields E O P S L)
    (place : Place E O P S L) (box : Mail (Letter S)) (middle : List (Handle S)) → NodeKeeps engines may_ask tells setting book f → place ≡ get_or f.places 1 place → box ≡ get_or f.mail 1 box
    → Sheds tells (hands_at place) f.closed middle → length middle + length (streams_of box) ≤ f.closed_room
mail_room {tells = tells} apart book f place box middle keeps there boxed sheds =
    let p = keeps.places in
    let b = keeps.mail in
    let room = closings_room apart book f 1 keeps in
    let hands = ap length (hands-read f.places 1 place (omega (arith, p)) there) in
    let mail = ap length (streams-read f.mail 1 box (omega (arith, b)) boxed) in
    let more = sheds_length tells (hands_at place) f.closed middle sheds in
    omega (arith, room, hands, mail, more)

-- a place that was written is vacant where what was written is
pub vacant_set : {E O P S L : Type 0} (places : List (Place E O P S L)) (pid : ℕ) (place : Place E O P S L) → pid < length places → IsVacant place → IfSome
    (slice_get (slice_set places pid place) pid) IsVacant
vacant_set places pid place within vacant = subst (λ (o : Option (Place _ _ _ _ _)). IfSome o IsVacant) (sym (get_set_same places pid place within)) vacant

-- where no process is, nothing is closed
pub nothing_closed : {E O P S L : Type 0} (tells : Told S) (place : Place E O P S L) (closed : List (Handle S)) → ((proc : Proc E O P S L) → place ≡ PlaceIs.Home proc → ⊥)
    → ((proc : Proc E O P S L) (ask : Ask) → place ≡ PlaceIs.Asleep proc ask → ⊥) → Sheds tells (hands_at place) closed closed
nothing_closed tells PlaceIs.Nobody closed home asleep = sheds_none tells closed
nothing_closed tells (PlaceIs.Home proc) closed home asleep = absurd (home proc refl)
nothing_closed tells (PlaceIs.Asleep proc ask) closed home asleep = absurd (asleep proc ask refl)
nothing_closed tells (PlaceIs.Away worker) closed home asleep = sheds_none tells closed
nothing_closed tells (PlaceIs.Fated worker end) closed home asleep = sheds_none tells closed
nothing_closed tells PlaceIs.Gone closed home asleep = sheds_none tells closed
