use Rattle.std.proofs.Common.{◌≡◌, ◌<◌, ◌≤◌, ℕ, ◌+◌, ◌-◌, List, [], ◌∷◌, ◌++◌, length, map, All, Option, Some, None, IsSome, IfSome}
use Rattle.std.proofs.Common.{IsTrue, ◌↔◌, Bool, true, false, slice_get, slice_set, get_or, length-set}
use Rattle.std.proofs.Common.{append-nil, refl, arith, sym, ◌∙◌, ap, subst, ◌⊎◌, inl, inr}
use Rattle.std.proofs.lemmas.List.Elements.{All-set}
use Rattle.std.proofs.lemmas.Option.{slice_get_within, slice_get_read, get_or_from_slice_get}
use Rattle.std.specs.FinMap.{FinMap, get}
use Rattle.std.specs.Ordering.{nat_cmp}
use Rattle.run_queue.specs.Schedule.{Schedule}
use Rattle.tagged_mailbox.specs.Mail.{Mail}
use Rattle.host_port.specs.declared.call.Call.{Call}
use Rattle.host_port.specs.declared.start.Start.{Start}
use Rattle.host_port.specs.declared.start.StartRefusal.{StartRefusal}
use Rattle.host_port.specs.Standing.{Standing}
use Rattle.resource_table.specs.Handles.{Handle, numbers_of}
use Rattle.resource_table.specs.Steps.{Told}
use Rattle.world_rules.specs.declared.entry.Entry.TheVariants.{Take, Stall, Idle}
use Rattle.world_rules.specs.Book.{Book, AddsEntry}
use Rattle.world_rules.specs.World.{World, Out}
use Rattle.world_rules.specs.Streams.{Streamed}
use Rattle.world_rules.specs.Told.{told, IsTold}
use Rattle.world_rules.specs.Time.{timed_processes}
use Rattle.world_rules.specs.Lives.{Setting}
use Rattle.world_rules.specs.Sound.{IsSound}
use Rattle.node_state.specs.Seats.{Meaning, Seat, IsSeatOf, IsOwed, IsOnce, phase_by}
use Rattle.node_state.specs.Slots.{Slot, Nobody, Home, Asleep, Away, Fated, Gone, IsHome}
use Rattle.node_state.specs.Held.{Held, StandsFor, kept_places}
use Rattle.node_state.specs.Rows.{AllHaveRows}
use Rattle.node_state.specs.Streaming.{StreamsStand, HandsOn, IsOpen}
use Rattle.node_state.specs.Changes.{Records, TakesFront}
use Rattle.node_laws.proofs.ReadyList.{true_is_not_false}
use Rattle.node_laws.proofs.Folds.{told-last}
use Rattle.node_laws.proofs.Programs.{KeepsSound, first-program, run-told}
use Rattle.node_laws.proofs.Takes.{keeps-take, front-seat}
use Rattle.node_laws.proofs.Ticks.{timed, untimed, first-timed}
use Rattle.node_laws.proofs.Shown.{shown-taken, front-first}
use Rattle.host_calls.specs.declared.proc.Proc.{Proc}
use Rattle.host_calls.specs.Shown.{seat_of, hands_of}
use Rattle.process_table.specs.Letters.{Letter}
use Rattle.process_table.specs.declared.place.Place.{Place}
use Rattle.process_table.specs.declared.place.Place.TheVariants as PlaceIs
use Rattle.process_table.specs.Seen.{Seen, seen, setting_of, world_of}
use Rattle.process_table.specs.Holds.{Fields, NodeKeeps, HasShedAll, held_of, kept_of, slot_of, slot_in, mail_in, hands_at, hands_in, streams_of, streams_at}
use Rattle.process_table.specs.Takes.{TakesProcess, TakesStreams, TakesNothing, TakesOver, Stalls, RecordsEntry, IsBusy, IsIdle, IsTimed, IsStuckNode, away_in}
use Rattle.process_table.proofs.Holding.{setting_with, changes, mail-same, deadline-same, hands-set, hands-other}
use Rattle.process_table.proofs.EndingAll.{slot-read, hands-read}
use Rattle.process_table.proofs.Handing.{OthersLaw, hands_left}
use Rattle.process_table.proofs.Keeping.{SoundLaw, records_one, keeps_new}
use Rattle.process_table.proofs.Owning.{hands-number}

-- The front of the ready list is handed out.

-- the place at home
home_place : {E O P S L : Type 0} (place : Place E O P S L) (seat : Seat E) → slot_of place ≡ Home seat → (proc : Proc E O P S L) × (place ≡ PlaceIs.Home proc) × (seat_of proc ≡ seat)
home_place PlaceIs.Nobody seat is = let h : ⊥ = cc in absurd h
home_place (PlaceIs.Home proc) seat is = (proc, refl, let e : seat_of proc ≡ seat = cc in e)
home_place (PlaceIs.Asleep proc ask) seat is = let h : ⊥ = cc in absurd h
home_place (PlaceIs.Away worker) seat is = let h : ⊥ = cc in absurd h
home_place (PlaceIs.Fated worker end) seat is = let h : ⊥ = cc in absurd h
home_place PlaceIs.Gone seat is = let h : ⊥ = cc in absurd h

-- the front of the list is process 1, which is at home
record FrontHome {E O P S L : Type 0} (engines : Meaning E P) (setting : Setting P) (book : Book) (f : Fields E O P S L) (pid : ℕ) (place : Place E O P S L) : Type 0 where
  pub one : pid ≡ 1
  pub within : pid < length f.places
  pub proc : Proc E O P S L
  pub is : place ≡ PlaceIs.Home proc
  pub home : IsHome engines setting.programs ((told book).process pid) (seat_of proc)

front_home : {E O P S L : Type 0} {engines : Meaning E P} {may_ask : P → ℕ → Type 0} {tells : Told S} {setting : Setting P} (book : Book) (f : Fields E O P S L) (pid : ℕ)
    (rest : List ℕ) (place : Place E O P S L)
    → NodeKeeps engines may_ask tells setting book f → f.queue.ready ≡ pid ∷ rest → place ≡ get_or f.places pid place → FrontHome engines setting book f pid place
front_home {engines = engines} {setting = setting} book f pid rest place keeps front there =
    let s = front-seat book (held_of f) pid rest keeps.stands front in
    let first = front-first book (held_of f) pid rest keeps.stands front in
    let one : pid ≡ 1 = first.0 in
    let p = keeps.places in
    let within : pid < length f.places = omega (arith, p, one) in
    let h = home_place place s.0 (sym (slot-read f.places pid place within there) ∙ s.1) in
    record {
      one = one;
      within = within;
      proc = h.0;
      is = h.1;
      home = subst (λ (seat : Seat _). IsHome engines setting.programs ((told book).process pid) seat) (sym h.2) s.2;
    }

pub front-within : {E O P S L : Type 0} {engines : Meaning E P} {may_ask : P → ℕ → Type 0} {tells : Told S} {setting : Setting P} (book : Book) (f : Fields E O P S L) (pid : ℕ) (rest : List ℕ)
    → NodeKeeps engines may_ask tells setting book f → f.queue.ready ≡ pid ∷ rest → pid < length f.places
front-within book f pid rest keeps front =
    let first = front-first book (held_of f) pid rest keeps.stands front in
    let one : pid ≡ 1 = first.0 in
    let p = keeps.places in
    omega (arith, p, one)

room_taken : (out room spare : ℕ) (over : Bool) → over ≡ false → 2 ≤ spare → spare + kept_places out over ≤ room → out + 3 ≤ room
room_taken out room spare true is most e = let h : ⊥ = cc in absurd h
room_taken out room spare false is most e = omega (arith, most, e)

spare_taken : (new old spare left out : ℕ) (over : Bool) → new + 1 ≡ old → left + 2 ≡ spare → spare + kept_places out over ≤ old → left + kept_places (out + 1) over ≤ new
spare_taken new old spare left out true e l h = omega (arith, e, l, h)
spare_taken new old spare left out false e l h = omega (arith, e, l, h)

-- what changes by a take: the place of the front of the list
pub record TakesAway {E O P S L : Type 0} (f g : Fields E O P S L) (pid worker : ℕ) : Type 0 where
  pub front : f.queue.ready ≡ pid ∷ g.queue.ready
  pub placed : g.places ≡ slice_set f.places pid (PlaceIs.Away worker)
  pub mail : g.mail ≡ f.mail
  pub deadlines : g.queue.deadlines ≡ f.queue.deadlines
  pub room : g.queue.room ≡ f.queue.room
  pub sends : g.sends ≡ f.sends
  pub time : g.time ≡ f.time
  pub row : g.row ≡ f.row
  pub out : g.out ≡ f.out + 1
  pub over : g.over ≡ f.over
  pub streams : g.streams ≡ f.streams
  pub closed : g.closed ≡ f.closed
  pub closed_room : g.closed_room ≡ f.closed_room
  pub shed : g.shed ≡ f.shed
  pub spare : g.spare + 2 ≡ f.spare

pub node-take : {E O P S L : Type 0} {engines : Meaning E P} {may_ask : P → ℕ → Type 0} {tells : Told S} → OthersLaw engines tells → (begin : P → Start → Option StartRefusal)
    (at : P → Start → List Call → ℕ
    → Option Standing) (programs : List P) (old new : Book) (live idle : ℕ) (f g : Fields E O P S L) (pid worker : ℕ)
    → NodeKeeps engines may_ask tells (setting_with begin at programs old.births live idle) old f
    → f.over ≡ false → 2 ≤ f.spare → TakesAway f g pid worker
    → AddsEntry old new (Take worker pid)
    → NodeKeeps engines may_ask tells (setting_with begin at programs new.births live idle) new g
node-take {engines = engines} {tells = tells} law begin at programs old new live idle f g pid worker keeps going most t adds =
    let setting = setting_with begin at programs old.births live idle in
    let was = held_of f in
    let is = held_of g in
    let within = front-within old f pid g.queue.ready keeps t.front in
    let mails = mail-same f.mail pid in
    let takes : TakesFront was is pid worker = record {
      front = t.front;
      change = changes f g pid (PlaceIs.Away worker) (was.mail pid) (streams_at (slice_get f.mail pid)) (was.deadlines pid) within t.placed
          (rw t.mail mails) (deadline-same f.queue.deadlines g.queue.deadlines pid (was.deadlines pid) t.deadlines refl);
      counts = record { sends_are = t.sends; time_is = t.time; row_is = t.row; over = t.over };
      out = t.out;
      closes = record { streams_are = t.streams; closed_are = ap numbers_of t.closed ∙ sym (append-nil (numbers_of f.closed)) };
    } in
    let records = records_one old new (Take worker pid) adds in
    let stands = keeps-take old new was is pid worker keeps.stands going takes records (room_taken f.out old.entry_room f.spare f.over going most keeps.spare_room) in
    let was_kept = kept_of f.places f.mail f.closed in
    let is_kept = kept_of g.places g.mail g.closed in
    let hands : HandsOn tells was_kept is_kept pid (was_kept.hands pid ++ was_kept.mail pid) [] = hands_left tells was_kept is_kept pid
    (hands-set f.places g.places pid (PlaceIs.Away worker) within t.placed) (ap (λ xs. streams_at (slice_get xs pid)) t.mail) t.closed
    (λ q different. hands-other f.places g.places pid (PlaceIs.Away worker) q different t.placed) (λ q different. ap (λ xs. streams_at (slice_get xs q)) t.mail) in
    let streams = law setting old new was is was_kept is_kept pid (Take worker pid) [] keeps.stands (λ give e. let h : ⊥ = cc in h) records stands keeps.streams hands in
    let fewer : length f.queue.ready ≡ 1 + length g.queue.ready = ap (λ (xs : List ℕ). length xs) t.front ∙ omega arith in
    let ready_room = keeps.ready_room in
    let out = t.out in
    let numbers = t.streams in
    let wide = t.closed_room in
    let left = t.spare in
    let bound = keeps.spare_bound in
    let turn = keeps.turn_room most in
    keeps_new begin at programs old new live idle f g keeps adds.births stands streams
    (ap (λ xs. length xs) t.placed ∙ length-set f.places pid (PlaceIs.Away worker))
    (ap (λ xs. length xs) t.mail) t.room
    (omega (arith, fewer, out, ready_room)) (omega (arith, out, numbers, wide, turn))
    (subst (All HasShedAll) (sym t.placed) (All-set HasShedAll f.places pid (PlaceIs.Away worker) tt keeps.sheds)) (t.shed ∙ keeps.shed)
    (rw (t.out, t.over) (spare_taken new.entry_room old.entry_room f.spare g.spare f.out f.over adds.entry_room t.spare keeps.spare_room))
    (omega (arith, left, bound))
    (λ enough. let h : ⊥ = omega (arith, enough, left, bound) in absurd h)

-- what a worker is handed

streamed_stays : (old new : Book) (pid worker : ℕ) → Records old new (Take worker pid) [] → (told new).streamed ≡ (told old).streamed
streamed_stays old new pid worker records = ap (λ (w : World). w.streamed) (told-last old new (Take worker pid) records.births records.entries)

abbrev pub OnceLaw : {E P : Type 0} → Meaning E P → Type 0
OnceLaw {E = E} {P = P} engines =
    (setting : Setting P) (book : Book) (held : Held E) (pid : ℕ) → StandsFor engines setting book (told book) held → IsOnce ((told book).process pid).part

pub shows-take : {E O P S L : Type 0} (engines : Meaning E P) (may_ask : P → ℕ → Type 0) (tells : Told S) → KeepsSound → OnceLaw engines → (begin : P → Start → Option StartRefusal)
    (at : P → Start → List Call → ℕ → Option Standing) (programs : List P) (old new : Book) (live idle spare spare_after : ℕ) (hs ms hs_after ms_after : List (List (Handle S)))
    (cs cs_after : List (Handle S)) (f : Fields E O P S L) (pid worker : ℕ)
    (rest : List ℕ) (place : Place E O P S L) (proc : Proc E O P S L)
    → NodeKeeps engines may_ask tells (setting_with begin at programs old.births live idle) old f
    → f.over ≡ false → f.row < idle
    → f.queue.ready ≡ pid ∷ rest → place ≡ get_or f.places pid place → place ≡ PlaceIs.Home proc
    → AddsEntry old new (Take worker pid)
    → TakesProcess engines may_ask (seen programs old live idle spare hs ms cs) (seen programs new live idle spare_after hs_after ms_after cs_after) worker (seat_of proc)
shows-take engines may_ask tells k once begin at programs old new live idle spare spare_after hs ms hs_after ms_after cs cs_after f pid worker rest place proc keeps going busy front there is adds =
    let w : World = told old in
    let setting = setting_with begin at programs old.births live idle in
    let m = keeps.stands.mirrors in
    let h = front_home old f pid rest place keeps front there in
    let same : h.proc ≡ proc = let e : PlaceIs.Home h.proc ≡ PlaceIs.Home proc = sym h.is ∙ is in cc in
    let home : IsHome engines programs (w.process pid) (seat_of proc) = subst (λ (x : Proc _ _ _ _ _). IsHome engines programs (w.process pid) (seat_of x)) same h.home in
    let first = front-first old (held_of f) pid rest keeps.stands front in
    let numbered : proc.start.pid ≡ pid = ap (λ (s : Start). s.pid) home.seated.start ∙ first.1 in
    let its = first-program k setting old keeps.stands.run in
    let named : slice_get programs proc.start.«module» ≡ Some its.0 =
    ap (λ (s : Start). slice_get programs s.«module») (home.seated.start ∙ ap (λ (k : ℕ). (w.process k).start) h.one) ∙ its.1 in
    let records = records_one old new (Take worker pid) adds in
    let shown = shown-taken engines programs old new pid worker (seat_of proc) home records in
    record {
      going = m.over ∙ going;
      busy = rw m.row busy;
      front = ap (λ (xs : List ℕ). slice_get xs 0) (m.ready.same ∙ front) ∙ ap Some (sym numbered);
      recorded = subst (λ (k : ℕ). Records old new (Take worker k) []) (sym numbered) records;
      seated = subst (λ (k : ℕ). IsSeatOf engines programs ((told new).process k) (phase_by proc.owed) (seat_of proc)) (sym numbered) shown.0;
      out = subst (λ (k : ℕ). ((told new).process k).stage ≡ Out worker) (sym numbered) shown.1;
      tries = home.tries;
      once = subst IsOnce (sym home.seated.part) (once setting old (held_of f) pid keeps.stands);
      program = its.0;
      found = named;
      rows = keeps.rows proc.start.«module» its.0 named;
    }

shed_home : {E O P S L : Type 0} (place : Place E O P S L) (proc : Proc E O P S L) → place ≡ PlaceIs.Home proc → HasShedAll place → proc.shed ≡ []
shed_home place proc is shed = subst HasShedAll is shed

pub shows-streams : {E O P S L : Type 0} {engines : Meaning E P} {may_ask : P → ℕ → Type 0} {tells : Told S} (begin : P → Start → Option StartRefusal)
    (at : P → Start → List Call → ℕ → Option Standing) (programs : List P) (old new : Book) (live idle spare spare_after : ℕ) (f g : Fields E O P S L) (pid worker : ℕ)
    (place : Place E O P S L) (proc : Proc E O P S L)
    → NodeKeeps engines may_ask tells (setting_with begin at programs old.births live idle) old f
    → TakesAway f g pid worker → place ≡ get_or f.places pid place → place ≡ PlaceIs.Home proc
    → AddsEntry old new (Take worker pid)
    → TakesStreams tells (seen programs old live idle spare (map hands_at f.places) (map streams_of f.mail) f.closed)
    (seen programs new live idle spare_after (map hands_at g.places) (map streams_of g.mail) g.closed) proc.start.pid
    (hands_of proc) proc.shed
shows-streams {engines = engines} {tells = tells} begin at programs old new live idle spare spare_after f g pid worker place proc keeps t there is adds =
    let w : World = told old in
    let within = front-within old f pid g.queue.ready keeps t.front in
    let h = front_home old f pid g.queue.ready place keeps t.front there in
    let same : h.proc ≡ proc = let e : PlaceIs.Home h.proc ≡ PlaceIs.Home proc = sym h.is ∙ is in cc in
    let home : IsHome engines programs (w.process pid) (seat_of proc) = subst (λ (x : Proc _ _ _ _ _). IsHome engines programs (w.process pid) (seat_of x)) same h.home in
    let first = front-first old (held_of f) pid g.queue.ready keeps.stands t.front in
    let numbered : proc.start.pid ≡ pid = ap (λ (s : Start). s.pid) home.seated.start ∙ first.1 in
    let hands : hands_of proc ≡ hands_in (slice_get f.places pid) = sym (hands-read f.places pid place within there ∙ ap (λ x. hands_in (Some x)) is) in
    let stays = streamed_stays old new pid worker (records_one old new (Take worker pid) adds) in
    record {
      hands_are = hands ∙ ap (λ (k : ℕ). hands_in (slice_get f.places k)) (sym numbered) ∙ sym (hands-number f.places proc.start.pid);
      stand = subst (λ (streamed : ℕ → Streamed). All (IsOpen tells streamed) (hands_of proc)) (sym stays)
          (subst (All (IsOpen tells w.streamed)) (sym hands) (keeps.streams.hands pid));
      left = hands-number g.places proc.start.pid ∙ subst (λ (k : ℕ). hands_in (slice_get g.places k) ≡ []) (sym numbered) (hands-set f.places g.places pid (PlaceIs.Away worker) within t.placed);
      closed = t.closed;
      shed_empty = shed_home place proc is (subst HasShedAll (sym there) (keeps.sheds pid place within));
    }

-- the front isn't elsewhere
pub no-home : {E O P S L : Type 0} {engines : Meaning E P} {may_ask : P → ℕ → Type 0} {tells : Told S} {setting : Setting P} (book : Book) (f : Fields E O P S L) (pid : ℕ)
    (rest : List ℕ) (place : Place E O P S L)
    → NodeKeeps engines may_ask tells setting book f → f.queue.ready ≡ pid ∷ rest → place ≡ get_or f.places pid place → ((proc : Proc E O P S L) → place ≡ PlaceIs.Home proc → ⊥) → ⊥
no-home book f pid rest place keeps front there other =
    let h = front_home book f pid rest place keeps front there in
    other h.proc h.is

-- DEADLINES

some_of : (o : Option ℕ) → IsSome o → (d : ℕ) × (o ≡ Some d)
some_of None some = let h : ⊥ = cc in absurd h
some_of (Some d) some = (d, refl)

none_of : (o : Option ℕ) → (IsSome o → ⊥) → o ≡ None
none_of None none = refl
none_of (Some d) none = absurd (none refl)

-- somebody has a deadline, and so process 1 waits with one
pub is-timed : {E O P S L : Type 0} {engines : Meaning E P} {may_ask : P → ℕ → Type 0} {tells : Told S} {setting : Setting P} → SoundLaw
    → (book : Book) (f : Fields E O P S L) → NodeKeeps engines may_ask tells setting book f → (pid : ℕ) × IsSome (get f.queue.deadlines pid) → IsTimed (told book)
is-timed {setting = setting} tells book f keeps some =
    let sound = tells book (run-told setting book keeps.stands.run) in
    let d = some_of (get f.queue.deadlines some.0) some.1 in
    let one : some.0 ≡ 1 = first-timed book (held_of f) some.0 d.0 sound keeps.stands d.1 in
    let here : get f.queue.deadlines 1 ≡ Some d.0 = subst (λ (k : ℕ). get f.queue.deadlines k ≡ Some d.0) one d.1 in
    rw (timed book (held_of f) d.0 sound keeps.stands here) (omega arith)

-- nobody has a deadline, and so nobody waits with one
pub is-untimed : {E O P S L : Type 0} {engines : Meaning E P} {may_ask : P → ℕ → Type 0} {tells : Told S} {setting : Setting P} (book : Book) (f : Fields E O P S L) → NodeKeeps
    engines may_ask tells setting book f
    → ((pid : ℕ) × IsSome (get f.queue.deadlines pid) → ⊥) → timed_processes (told book) ≡ []
is-untimed book f keeps none = untimed book (held_of f) keeps.stands (none_of (get f.queue.deadlines 1) (λ some. none (1, some)))

-- OVER

-- a take that ends an idle run
pub takes-idle : {P S : Type 0} (old new : Seen P S) (worker : ℕ) → (world_of old).over ≡ false → IsIdle old → (world_of new).over ≡ true → RecordsEntry old.book new.book (Idle worker)
    → TakesOver old new worker
takes-idle old new worker going idle over recorded = record {
  over = over;
  was_over = λ o. true_is_not_false (sym o ∙ going);
  idles = λ _ _. recorded;
  stalls = λ _ busy. let h : ⊥ = omega (arith, idle, busy) in absurd h;
}

-- a take that stalls
pub takes-stall : {P S : Type 0} (old new : Seen P S) (worker : ℕ) → (world_of old).over ≡ false → IsBusy old → IsStuckNode (world_of old) → (world_of new).over ≡ true
    → RecordsEntry old.book new.book (Stall worker) → TakesOver old new worker
takes-stall old new worker going busy stuck over recorded = record {
  over = over;
  was_over = λ o. true_is_not_false (sym o ∙ going);
  idles = λ _ idle. let h : ⊥ = omega (arith, idle, busy) in absurd h;
  stalls = λ _ _. record { busy = busy; none_ready = stuck.none_ready; away = stuck.away; untimed = stuck.untimed; recorded = recorded };
}

-- a take of a run that is over
pub takes-over : {P S : Type 0} (old : Seen P S) (worker : ℕ) → (world_of old).over ≡ true → TakesOver old old worker
takes-over old worker over = record {
  over = over;
  was_over = λ _. refl;
  idles = λ going idle. true_is_not_false (sym over ∙ going);
  stalls = λ going busy. true_is_not_false (sym over ∙ going);
}

-- THE QUEUE WAS READ

same_queue : (a b : Schedule) → b.ready ≡ a.ready → b.deadlines ≡ a.deadlines → b.room ≡ a.room → a ≡ b
same_queue a b ready deadlines room = λ i. record { ready = sym ready i; deadlines = sym deadlines i; room = sym room i }

-- a node whose queue is another with the same content
pub keeps-queue : {E O P S L : Type 0} {engines : Meaning E P} {may_ask : P → ℕ → Type 0} {tells : Told S} {setting : Setting P} (book : Book) (f : Fields E O P S L) (queue : Schedule)
    → NodeKeeps engines may_ask tells setting book f
    → queue.ready ≡ f.queue.ready → queue.deadlines ≡ f.queue.deadlines → queue.room ≡ f.queue.room → NodeKeeps engines may_ask tells setting book (record f { queue = queue })
keeps-queue {engines = engines} {may_ask = may_ask} {tells = tells} {setting = setting} book f queue keeps ready deadlines room =
    subst (λ (q : Schedule). NodeKeeps engines may_ask tells setting book (record f { queue = q })) (same_queue f.queue queue ready deadlines room) keeps

-- while somebody is ready no worker has a process
pub none-out : {E O P S L : Type 0} {engines : Meaning E P} {may_ask : P → ℕ → Type 0} {tells : Told S} {setting : Setting P} (book : Book) (f : Fields E O P S L) (pid : ℕ) (rest : List ℕ)
    → NodeKeeps engines may_ask tells setting book f → f.queue.ready ≡ pid ∷ rest → f.out ≡ 0
none-out book f pid rest keeps front = (front-first book (held_of f) pid rest keeps.stands front).2

-- nothing is ready, and the run goes on
pub takes-nothing : {E O P S L : Type 0} {engines : Meaning E P} {may_ask : P → ℕ → Type 0} {tells : Told S} (begin : P → Start → Option StartRefusal) (at : P → Start → List Call → ℕ
    → Option Standing) (programs : List P) (book : Book) (live idle spare spare_after : ℕ) (hs ms hs_after ms_after : List (List (Handle S))) (cs cs_after : List (Handle S)) (f : Fields E O P S L)
    → NodeKeeps engines may_ask tells (setting_with begin at programs book.births live idle) book f → f.over ≡ false → f.row < idle → f.queue.ready ≡ []
    → ∥ (0 < f.out) ⊎ IsTimed (told book) ∥₁ → TakesNothing (seen programs book live idle spare hs ms cs) (seen programs book live idle spare_after hs_after ms_after cs_after)
takes-nothing begin at programs book live idle spare spare_after hs ms hs_after ms_after cs cs_after f keeps going busy none awaits =
    let m = keeps.stands.mirrors in
    record {
      going = m.over ∙ going;
      busy = rw m.row busy;
      none_ready = m.ready.same ∙ none;
      awaits = subst (λ (n : ℕ). ∥ (0 < n) ⊎ IsTimed (told book) ∥₁) (sym m.out) awaits;
      same = refl;
    }

zero_is : (n : ℕ) → n ≤ 0 → n ≡ 0
zero_is n h = omega (arith, h)

-- nothing can happen any more
pub is-stuck : {E O P S L : Type 0} {engines : Meaning E P} {may_ask : P → ℕ → Type 0} {tells : Told S} {setting : Setting P} (book : Book) (f : Fields E O P S L) (b : Bool)
    → NodeKeeps engines may_ask tells setting book f → f.queue.ready ≡ [] → f.out ≤ 0
    → IsTrue b ↔ ((pid : ℕ) × IsSome (get f.queue.deadlines pid)) → b ≡ false → IsStuckNode (told book)
is-stuck book f b keeps none out timed_is untimed_is =
    let m = keeps.stands.mirrors in
    record {
      none_ready = m.ready.same ∙ none;
      away = m.out ∙ zero_is f.out out;
      untimed = is-untimed book f keeps (λ some. true_is_not_false (sym (timed_is.1 some) ∙ untimed_is));
    }
