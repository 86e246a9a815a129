use Rattle.std.proofs.Common.{◌≡◌, ◌≤◌, ◌<◌, ℕ, ◌+◌, ◌-◌, List, [], ◌∷◌, ◌++◌, Option, Some, None, IfSome, Bool, true, false, cond, if◌then◌else◌, is_some, length, nat_eq, slice_get, slice_set, append-nil, vec_capacity, refl, arith, sym, ◌∙◌, ap, subst, inl, inr}
use Rattle.std.specs.Option.{option_to_list}
use Rattle.host_port.specs.declared.call.Call.{Call}
use Rattle.host_port.specs.declared.request.Request.{Request}
use Rattle.host_port.specs.declared.start.Start.{Start}
use Rattle.host_port.specs.declared.start.StartRefusal.{StartRefusal}
use Rattle.host_port.specs.Standing.{Standing}
use Rattle.resource_table.specs.Handles.{Handle, numbers_of}
use Rattle.resource_table.specs.Steps.{Told}
use Rattle.world_rules.specs.declared.entry.Entry.{Entry}
use Rattle.world_rules.specs.declared.entry.Side.{Side}
use Rattle.world_rules.specs.declared.entry.Side.TheVariants as SideIs
use Rattle.world_rules.specs.declared.halt.End.{End}
use Rattle.world_rules.specs.declared.life.Birth.{Birth}
use Rattle.world_rules.specs.declared.life.Ended.{Ended as EndMemory}
use Rattle.world_rules.specs.Allowed.{SpawnFits}
use Rattle.world_rules.specs.Births.{Terms}
use Rattle.world_rules.specs.Book.{Book, AddsEntry}
use Rattle.world_rules.specs.Calls.{HostCall, call_of}
use Rattle.world_rules.specs.Calls as CallIs
use Rattle.world_rules.specs.Ends.{closed_with_first, ended, ended_from_outside}
use Rattle.world_rules.specs.Links.{ended_by_halt}
use Rattle.world_rules.specs.Lives.{Setting, terms_of}
use Rattle.world_rules.specs.Rules.{given, halted, happened, home, is_pending_give, opening_shut, recorded, row_after, row_with, turned}
use Rattle.world_rules.specs.Sound.{is_born}
use Rattle.world_rules.specs.Told.{told}
use Rattle.world_rules.specs.Views.{Given, Giving as Gives, Want, Ends, is_opened, want_of, wanted_in}
use Rattle.world_rules.specs.Arrivals as Came
use Rattle.world_rules.specs.Changes.{with_arrival}
use Rattle.world_rules.specs.World.{World, Process, Stage, Unborn, Ready, Out, Waiting, Doomed, Ended, is_ended, is_live}
use Rattle.node_state.specs.Fits.{Brought, give_of, entry_of}
use Rattle.node_state.specs.Posts.{drawn_beside, opened_number}
use Rattle.node_state.specs.Seats.{Meaning}
use Rattle.node_state.specs.Streaming.{BroughtStreams, StreamsFit, arrived_as, streamed_after}
use Rattle.node_laws.proofs.Falls.{closed-alone, fallen-alone}
use Rattle.node_mirror.specs.Slots.{Slot, SlotFits, Nobody, Home, Asleep, Giving, Away, Fated, Gone, is_home, is_live_slot}
use Rattle.node_mirror.specs.Held.{Held, Mirrors, StandsFor, kept_places}
use Rattle.node_mirror.specs.Steps.{Requeued, over, replaced}
use Rattle.node_mirror.specs.Fits.{Records, TurnFits, HasBirth}
use Rattle.node_mirror.proofs.One.{replaced_here, was_drawn}
use Rattle.node_mirror.proofs.OwnEnds.{gone_back}
use Rattle.process_store.specs.declared.place.Place.TheVariants as PlaceIs
use Rattle.process_store.specs.declared.store.Store.{Store}
use Rattle.process_store.specs.Holds.{Becomes, held_of, kept_of, place_at, ready_of}
use Rattle.process_store.specs.Keeps.{StoreKeeps, is_out}
use Rattle.process_store.specs.NodeKeeps.{NodeKeeps}
use Rattle.process_store.specs.PassOn.{PassesOn}
use Rattle.process_store.specs.Telling.{AddsEndOf}
use Rattle.process_store.proofs.Sets.{IsSet, sum_has, within_of}
use Rattle.process_store.proofs.Emptying.{replaced_twice}
use Rattle.process_store.proofs.EndingAll.{OverLaw, dead_slot}
use Rattle.process_store.proofs.NodeStanding.{AllowedLaw, EntryLaw, entry_place, give_stands, setting_with}
use Rattle.process_store.proofs.GivingBack.{GivenLaw, Steps, given_keeps, held_after, mirrors_after, none_given, places_same}
use Rattle.process_store.proofs.QueuedAgain.{give_requeued}
use Rattle.process_store.proofs.Returning.{fated_place}

-- A process that is given back ends, and the run with it: process 1 is alone.

-- WHO IS DOOMED

-- a process that is doomed under a worker stands so
pub fated_slot : {E P : Type 0} (engines : Meaning E P) (programs : List P) (p : Process) (slot : Slot E) (worker : ℕ) (end : End) → SlotFits engines programs p slot → p.stage ≡ Doomed worker end
    → slot ≡ Fated worker end
fated_slot engines programs p Nobody worker end fits doomed = let h : Unborn ≡ Doomed worker end = ap (λ q. q.stage) (sym fits) ∙ doomed in let none : ⊥ = cc in absurd none
fated_slot engines programs p (Home seat) worker end fits doomed = let h : Ready ≡ Doomed worker end = sym fits.stage ∙ doomed in let none : ⊥ = cc in absurd none
fated_slot engines programs p (Asleep seat ask) worker end fits doomed = let h = sym fits.stage ∙ doomed in let none : ⊥ = cc in absurd none
fated_slot engines programs p (Giving seat ask) worker end fits doomed = let h : Ready ≡ Doomed worker end = sym fits.stage ∙ doomed in let none : ⊥ = cc in absurd none
fated_slot engines programs p (Away other) worker end fits doomed = let h : Out other ≡ Doomed worker end = sym fits ∙ doomed in let none : ⊥ = cc in absurd none
fated_slot engines programs p (Fated other earlier) worker end fits doomed =
    let h : Doomed other earlier ≡ Doomed worker end = sym fits ∙ doomed in
    let same : other ≡ worker = cc in
    let ends : earlier ≡ end = cc in
    ap (λ w. Fated w earlier) same ∙ ap (λ x. Fated worker x) ends
fated_slot engines programs p Gone worker end fits doomed = let h = ap is_ended (sym doomed) ∙ fits.ended in let none : ⊥ = cc in absurd none

pub is_fated_slot : {E O P S L : Type 0} {engines : Meaning E P} {may_ask : P → ℕ → Type 0} {tells : Told S} {setting : Setting P} (book : Book) (store : Store E O P S L)
    (spare pid worker : ℕ) (end : End) → NodeKeeps engines may_ask tells setting book store spare → ((told book).process pid).stage ≡ Doomed worker end → place_at store pid ≡ Fated worker end
is_fated_slot {engines = engines} {setting = setting} book store spare pid worker end keeps doomed =
    fated_slot engines setting.programs ((told book).process pid) (place_at store pid) worker end (keeps.stands.mirrors.slots pid) doomed

-- it is counted
pub fated_some : {E O P S L : Type 0} (store : Store E O P S L) (pid worker : ℕ) (end : End) → StoreKeeps store → place_at store pid ≡ Fated worker end → 1 ≤ store.out
fated_some {E = E} {O = O} {P = P} {S = S} {L = L} store pid worker end keeps fated =
    let there = fated_place (slice_get store.places.items pid) worker end fated in
    let placed : IsSet store.places.items (slice_set store.places.items pid (PlaceIs.Fated worker end)) pid (PlaceIs.Fated worker end) (PlaceIs.Fated worker end) =
    record { within = within_of store.places.items pid (PlaceIs.Fated worker end) there; there = there; set = refl } in
    let has = sum_has placed is_out in
    let out = keeps.out in
    omega (arith, has, out)

pub doomed_some : {E O P S L : Type 0} {engines : Meaning E P} {may_ask : P → ℕ → Type 0} {tells : Told S} {setting : Setting P} (book : Book) (store : Store E O P S L)
    (spare pid worker : ℕ) (end : End) → NodeKeeps engines may_ask tells setting book store spare → ((told book).process pid).stage ≡ Doomed worker end → 1 ≤ store.out
doomed_some book store spare pid worker end keeps doomed = fated_some store pid worker end keeps.keeps (is_fated_slot book store spare pid worker end keeps doomed)

-- its Give has a place
pub doomed_place : {E O P S L : Type 0} {engines : Meaning E P} {may_ask : P → ℕ → Type 0} {tells : Told S} {setting : Setting P} (book : Book) (store : Store E O P S L)
    (spare pid worker : ℕ) (end : End) → NodeKeeps engines may_ask tells setting book store spare → ((told book).process pid).stage ≡ Doomed worker end → 0 < book.entry_room
doomed_place book store spare pid worker end keeps doomed = entry_place book (held_of store) keeps.stands (doomed_some book store spare pid worker end keeps doomed)

-- PROCESS 1 IS ALONE

pub is_first : {E O P S L : Type 0} {engines : Meaning E P} {may_ask : P → ℕ → Type 0} {tells : Told S} {setting : Setting P} (book : Book) (store : Store E O P S L) (spare pid : ℕ)
    → NodeKeeps engines may_ask tells setting book store spare → is_born ((told book).process pid).stage ≡ true → pid ≡ 1
is_first book store spare pid keeps born =
    let drawn = was_drawn (told book) pid keeps.stands.mirrors.order born in
    let low = drawn.low in
    let high = drawn.high in
    let numbers = keeps.stands.mirrors.numbers in
    let alone = keeps.alone in
    omega (arith, low, high, numbers, alone)

-- the run ends with it
over_alone : (v : World) (pid : ℕ) (end : End) → v.numbers_drawn ≡ 1 → pid ≡ 1 → closed_with_first (ended v pid end) ≡ record (ended v pid end) { over = true }
over_alone v pid end drawn one =
    subst (λ (k : ℕ). closed_with_first (ended v k end) ≡ record (ended v k end) { over = true }) (sym one) (closed-alone (ended v 1 end) end drawn refl)

-- nobody falls with it
halted_alone : (v : World) (pid : ℕ) (end : End) → v.numbers_drawn ≡ 1 → pid ≡ 1 → ended_by_halt v pid end ≡ closed_with_first (ended v pid end)
halted_alone v pid end drawn one = subst (λ (k : ℕ). ended_by_halt v k end ≡ closed_with_first (ended v k end)) (sym one) (fallen-alone v (ended v 1 end) end drawn)

-- nobody is live where it has ended
ended_here : (v : World) (pid q : ℕ) (end : End) → q ≡ pid → ((ended v pid end).process q).stage ≡ Ended end
ended_here v pid q end same = ap (λ (k : ℕ). ((ended v pid end).process k).stage) same ∙ ap (λ (p : Process). p.stage) (replaced_here v.process pid _)

none_live : {E P : Type 0} (engines : Meaning E P) (setting : Setting P) (v : World) (pid : ℕ) (end : End) (held : Held E) (ends : List EndMemory) → v.numbers_drawn ≡ 1 → pid ≡ 1
    → Mirrors engines setting (ended v pid end) held ends → (q : ℕ) → is_live_slot (held.slots q) ≡ false
none_live engines setting v pid end held ends drawn one m q =
    let u : World = ended v pid end in
    dead_slot engines setting.programs (u.process q) (held.slots q) (m.slots q) (by (is_born (u.process q).stage) refl)
  where
    first : (low : 0 < q) (high : q ≤ v.numbers_drawn) → q ≡ pid
    first low high = omega (arith, low, high, drawn, one)

    unborn : (stage : Stage) → is_born stage ≡ false → is_live stage ≡ false
    unborn Unborn h = refl
    unborn Ready h = let none : ⊥ = cc in absurd none
    unborn (Out worker) h = let none : ⊥ = cc in absurd none
    unborn (Waiting request) h = let none : ⊥ = cc in absurd none
    unborn (Doomed worker earlier) h = refl
    unborn (Ended earlier) h = refl

    by : (b : Bool) → is_born ((ended v pid end).process q).stage ≡ b → is_live ((ended v pid end).process q).stage ≡ false
    by true born =
        let there = was_drawn (ended v pid end) q m.order born in
        ap is_live (ended_here v pid q end (first there.low there.high))
    by false not_born = unborn ((ended v pid end).process q).stage not_born

-- WHAT HAPPENS

given_out : (stage : Stage) (worker : ℕ) (births : List Birth) (w : World) (give : Given) → stage ≡ Out worker
    → given stage births w give ≡ halted (want_of give.halt) births (home (recorded w give) give.pid) give.pid give.side
given_out stage worker births w give is = rw is refl

given_doomed : (stage : Stage) (worker : ℕ) (end : End) (births : List Birth) (w : World) (give : Given) → stage ≡ Doomed worker end
    → given stage births w give ≡ closed_with_first (ended_from_outside (opening_shut (recorded w give) give) give.pid end)
given_doomed stage worker end births w give is = rw is refl

pub halt_happens : (births : List Birth) (w : World) (give : Given) (worker : ℕ) (end : End) → (w.process give.pid).stage ≡ Out worker → want_of give.halt ≡ Ends end
    → (home (recorded w give) give.pid).numbers_drawn ≡ 1 → give.pid ≡ 1
    → happened births w (Gives give) ≡ closed_with_first (ended (home (recorded w give) give.pid) give.pid end)
halt_happens births w give worker end out ends drawn one =
    given_out (w.process give.pid).stage worker births w give out
    ∙ ap (λ (want : Want). halted want births (home (recorded w give) give.pid) give.pid give.side) ends
    ∙ halted_alone (home (recorded w give) give.pid) give.pid end drawn one

pub doom_happens : (births : List Birth) (w : World) (give : Given) (worker : ℕ) (end : End) → (w.process give.pid).stage ≡ Doomed worker end
    → happened births w (Gives give) ≡ closed_with_first (ended (with_arrival (opening_shut (recorded w give) give) give.pid (Came.Doomed end)) give.pid end)
doom_happens births w give worker end doomed = given_doomed (w.process give.pid).stage worker end births w give doomed

-- the row is broken
pub doomed_row : (w : World) (give : Given) (worker : ℕ) (end : End) → (w.process give.pid).stage ≡ Doomed worker end → row_after w (Gives give) ≡ 0
doomed_row w give worker end doomed = ap (λ (s : Stage). row_with (is_pending_give s give.side) w.row) doomed

-- no spawn is performed
pub none_born : (terms : Option Terms) (births : List Birth) (w : World) (give : Given) (end : End) → want_of give.halt ≡ Ends end → HasBirth terms births w give
none_born terms births w give end ends =
    subst (λ (want : Want). IfSome (wanted_in want (w.process give.pid).owed) (λ (request : Request).
    SpawnFits terms births (call_of request) (w.process give.pid).stage w (turned (w.process give.pid) give) request SideIs.Nothing))
    (sym ends) tt

doomed_spawn : (terms : Option Terms) (births : List Birth) (call : Option HostCall) (stage : Stage) (worker : ℕ) (end : End) (w : World) (parent : Process) (request : Request)
    → stage ≡ Doomed worker end → SpawnFits terms births call stage w parent request SideIs.Nothing
doomed_spawn terms births (Some CallIs.Spawn) (Out other) worker end w parent request is = let h : Out other ≡ Doomed worker end = is in let none : ⊥ = cc in absurd none
doomed_spawn terms births _ _ worker end w parent request is = tt

where_some : {A : Type 0} (o : Option A) (P : A → Type 0) → ((x : A) → P x) → IfSome o P
where_some None P all = tt
where_some (Some x) P all = all x

pub doomed_born : (terms : Option Terms) (births : List Birth) (w : World) (give : Given) (worker : ℕ) (end : End) → (w.process give.pid).stage ≡ Doomed worker end → HasBirth terms births w give
doomed_born terms births w give worker end doomed =
    where_some (wanted_in (want_of give.halt) (w.process give.pid).owed) _
    (λ request. doomed_spawn terms births (call_of request) (w.process give.pid).stage worker end w (turned (w.process give.pid) give) request doomed)

-- A STREAM THAT ARRIVED

-- its number, and the next
pub number_opened : {S : Type 0} (drawn : ℕ) (arrived : Option S) (side : Side) → is_some arrived ≡ is_opened side → numbers_of (arrived_as drawn arrived) ≡ opened_number side drawn
number_opened drawn None side e = ap (λ (b : Bool). cond b (drawn ∷ []) []) e
number_opened drawn (Some s) side e = ap (λ (b : Bool). cond b (drawn ∷ []) []) e

plus_none : (n : ℕ) → n + 0 ≡ n
plus_none n = omega arith

pub next_drawn : {S : Type 0} (drawn : ℕ) (arrived : Option S) (side : Side) → is_some arrived ≡ is_opened side → drawn + length (arrived_as drawn arrived) ≡ drawn_beside side drawn
next_drawn drawn None side e = plus_none drawn ∙ ap (λ (b : Bool). cond b (drawn + 1) drawn) e
next_drawn drawn (Some s) side e = ap (λ (b : Bool). cond b (drawn + 1) drawn) e

pub few_drawn : {S : Type 0} (drawn : ℕ) (arrived : Option S) → drawn + length (arrived_as drawn arrived) ≤ drawn + 1
few_drawn drawn None = omega arith
few_drawn drawn (Some s) = omega arith

-- what is held then, by what arrived
pub arrived_mirrors : {E P : Type 0} (engines : Meaning E P) (setting : Setting P) (w : World) (held : Held E) (pid time time' drawn drawn' : ℕ) (shed opened opened' hands : List ℕ)
    (ends : List EndMemory) → time ≡ time' → drawn ≡ drawn' → opened ≡ opened' → Mirrors engines setting w (gone_back held pid time' drawn' (shed ++ opened') hands) ends
    → Mirrors engines setting w (gone_back held pid time drawn (shed ++ opened) hands) ends
arrived_mirrors engines setting w held pid time time' drawn drawn' shed opened opened' hands ends times draws opens m =
    subst (λ (t : ℕ). Mirrors engines setting w (gone_back held pid t drawn (shed ++ opened) hands) ends) (sym times)
    (subst (λ (n : ℕ). Mirrors engines setting w (gone_back held pid time' n (shed ++ opened) hands) ends) (sym draws)
    (subst (λ (xs : List ℕ). Mirrors engines setting w (gone_back held pid time' drawn' (shed ++ xs) hands) ends) (sym opens) m))

-- THE STEPS

-- the entry was recorded with the end that it brought
pub end_recorded : {E P : Type 0} {engines : Meaning E P} {pid : ℕ} {engine : E} (old added new : Book) (entry : Entry) → AddsEntry old added entry → (last : AddsEndOf engines pid engine added new)
    → Records old new entry [] (last.memory ∷ [])
end_recorded old added new entry adds last = record {
  entries = last.entries ∙ adds.entries;
  births_are = last.births ∙ adds.births ∙ sym (append-nil old.births);
  ends_are = last.ends ∙ ap (λ (xs : List EndMemory). xs ++ last.memory ∷ []) adds.ends;
  entry_room = ap (λ (n : ℕ). n + 1) last.entry_room ∙ adds.entry_room;
}

-- The process has come back and ended, which makes of the store what this says; the run is over, the row was set, and
-- nobody was queued.
pub record LastSteps {E O P S L : Type 0} (tells : Told S) (s0 s1 s2 s3 s4 : Store E O P S L) (held : Held E) (pool shed : List (Handle S)) : Type 0 where
  pub becomes : Becomes s1 held
  pub passes : PassesOn tells (kept_of s0) (kept_of s1) pool shed
  pub rooms : vec_capacity s1.closed ≡ vec_capacity s0.closed
  pub giver_before : s1.giver ≡ s0.giver
  pub ready : s1.queue.ready ≡ s0.queue.ready
  pub overs : s2 ≡ record s1 { over = true }
  pub rows : s3 ≡ record s2 { row = 0 }
  pub settles : Becomes s4 (held_of s3)
  pub kept : kept_of s4 ≡ kept_of s3
  pub keeps : StoreKeeps s4
  pub came : s4.came.items ≡ []
  pub giver : s4.giver ≡ None
  pub queued : Requeued s3.queue.ready (option_to_list s3.giver) (held_of s4)
  pub capacity : vec_capacity s4.closed ≡ vec_capacity s3.closed

as_steps : {E O P S L : Type 0} {tells : Told S} {s0 s1 s2 s3 s4 : Store E O P S L} {held : Held E} {pool shed : List (Handle S)} → LastSteps tells s0 s1 s2 s3 s4 held pool shed
    → Steps tells s0 s2 s3 s4 (over held) 0 pool shed
as_steps {E = E} {O = O} {P = P} {S = S} {L = L} {tells = tells} {s0 = s0} {s1 = s1} {held = held} {pool = pool} {shed = shed} l = record {
  becomes = subst (λ (s : Store E O P S L). Becomes s (over held)) (sym l.overs) (ap (λ (h : Held E). over h) l.becomes);
  passes = subst (λ (s : Store E O P S L). PassesOn tells (kept_of s0) (kept_of s) pool shed) (sym l.overs) l.passes;
  rooms = ap (λ (s : Store E O P S L). vec_capacity s.closed) l.overs ∙ l.rooms;
  rows = l.rows;
  settles = l.settles;
  kept = l.kept;
  keeps = l.keeps;
  came = l.came;
  giver = l.giver;
  capacity = l.capacity;
}

-- WHAT A NODE KEEPS

-- LAST. After a Give by which its process has ended, and the run.
pub last_keeps : {E O P S L : Type 0} {engines : Meaning E P} {may_ask : P → ℕ → Type 0} {tells : Told S} (begin : P → Start → Option StartRefusal)
    (at : P → Start → List Call → ℕ → Option Standing) (programs : List P) (old new : Book) (live idle : ℕ) (s0 s1 s2 s3 s4 : Store E O P S L) (spare time drawn : ℕ)
    (pool shed : List (Handle S)) (closed hands : List ℕ) (worker pid : ℕ) (brought : Brought E) (streams : BroughtStreams S) (v : World) (end : End) (memory : EndMemory)
    → AllowedLaw engines → EntryLaw engines → GivenLaw engines tells → OverLaw engines → NodeKeeps engines may_ask tells (setting_with begin at programs old.births live idle) old s0 spare
    → is_born ((told old).process pid).stage ≡ true → 1 ≤ s0.out
    → TurnFits engines (setting_with begin at programs old.births live idle) old.births (told old) worker pid brought
    → StreamsFit tells (streamed_after ((told old).process pid) (give_of worker pid brought) (told old).streamed) brought.side streams
    → HasBirth (Some (terms_of (setting_with begin at programs old.births live idle))) old.births (told old) (give_of worker pid brought)
    → Records old new (entry_of worker pid brought brought.side) [] (memory ∷ [])
    → LastSteps tells s0 s1 s2 s3 s4 (gone_back (held_of s0) pid time drawn closed hands) pool shed
    → pool ≡ streams.hands ++ arrived_as (told old).streams streams.arrived → shed ≡ streams.shed → drawn ≤ s0.streams + 1
    → row_after (told old) (Gives (give_of worker pid brought)) ≡ 0
    → (v.numbers_drawn ≡ 1 → pid ≡ 1 → happened new.births (told old) (Gives (give_of worker pid brought)) ≡ closed_with_first (ended v pid end))
    → Mirrors engines (setting_with begin at programs old.births live idle) (ended v pid end) (gone_back (held_of s0) pid time drawn closed hands) (old.ends ++ memory ∷ [])
    → NodeKeeps engines may_ask tells (setting_with begin at programs new.births live idle) new s4 spare
last_keeps {E} {O} {P} {S} {L} {engines = engines} {tells = tells} begin at programs old new live idle s0 s1 s2 s3 s4 spare time drawn pool shed closed hands worker pid brought streams v end memory
    allowed entry given_law over_law keeps born some fits came birth records last pool_is shed_is few row_is happens mirrors =
    let setting : Setting P = setting_with begin at programs old.births live idle in
    let w : World = told old in
    let held : Held E = gone_back (held_of s0) pid time drawn closed hands in
    let give : Given = give_of worker pid brought in
    let steps : Steps tells s0 s2 s3 s4 (over held) 0 pool shed = as_steps last in
    let after : held_of s4 ≡ record (over held) { ready = ready_of s4; row = 0 } = held_after steps in
    let one : pid ≡ 1 = is_first old s0 spare pid keeps born in
    let alone = keeps.alone in
    let v_numbers = mirrors.numbers in
    let v_drawn : v.numbers_drawn ≡ 1 = omega (arith, alone, v_numbers) in
    let slots : (q : ℕ) → place_at s4 q ≡ replaced (place_at s0) pid Gone q = λ q. ap (λ (h : Held E). h.slots q) after ∙ sym (replaced_twice (place_at s0) pid Gone Gone q) in
    let ends_are : new.ends ≡ old.ends ++ memory ∷ [] = records.ends_are in
    let happens_so : happened new.births w (Gives give) ≡ record (ended v pid end) { over = true } = happens v_drawn one ∙ over_alone v pid end v_drawn one in
    let m : Mirrors engines setting (happened new.births w (Gives give)) (over held) new.ends =
    subst (λ (u : World). Mirrors engines setting u (over held) new.ends) (sym happens_so)
    (subst (λ (es : List EndMemory). Mirrors engines setting (record (ended v pid end) { over = true }) (over held) es) (sym ends_are)
    (over_law setting (ended v pid end) held (old.ends ++ memory ∷ []) mirrors (none_live engines setting v pid end held (old.ends ++ memory ∷ []) v_drawn one mirrors))) in
    let out_is : s4.out ≡ s0.out - 1 = ap (λ (h : Held E). h.out) after in
    let over_is : s4.over ≡ true = ap (λ (h : Held E). h.over) after in
    let giver_is : s3.giver ≡ None =
    ap (λ (s : Store E O P S L). s.giver) last.rows ∙ ap (λ (s : Store E O P S L). s.giver) last.overs ∙ last.giver_before ∙ keeps.giver in
    let ready_is : s3.queue.ready ≡ s0.queue.ready =
    ap (λ (s : Store E O P S L). s.queue.ready) last.rows ∙ ap (λ (s : Store E O P S L). s.queue.ready) last.overs ∙ last.ready in
    let nobody : Option ℕ = None in
    let queued : Requeued s0.queue.ready (option_to_list nobody) (held_of s4) =
    subst (λ (g : Option ℕ). Requeued s0.queue.ready (option_to_list g) (held_of s4)) giver_is
    (subst (λ (xs : List ℕ). Requeued xs (option_to_list s3.giver) (held_of s4)) ready_is last.queued) in
    let away_home : is_home (place_at s4 pid) ≡ false = ap (λ (s : Slot E). is_home s) (slots pid ∙ replaced_here (place_at s0) pid Gone) in
    let stands : StandsFor engines setting new (told new) (held_of s4) =
    give_stands allowed entry old new (held_of s0) (held_of s4) worker pid brought (memory ∷ []) keeps.stands fits birth records
    (mirrors_after engines setting (happened new.births w (Gives give)) new.ends steps m)
    (ap (λ (h : Held E). h.births) after)
    (give_requeued s0 (held_of s4) pid None keeps.keeps keeps.stands.performed (λ q gone. slots q ∙ stays_gone q (nat_eq q pid) gone) (inr (refl, away_home)) queued)
    (ap (λ (h : Held E). h.row) after ∙ sym row_is)
    (none_given (held_of s0) (held_of s4) pid Gone keeps.stands.performed refl slots)
    (kept_fewer s0.out s4.out old.entry_room new.entry_room s0.over s4.over some out_is over_is records.entry_room keeps.stands.room) in
    given_keeps begin at programs old new live idle s0 s2 s3 s4 spare (over held) 0 pool shed worker pid brought streams brought.side (memory ∷ []) given_law keeps fits came ∣ inl refl ∣₁
    records steps pool_is shed_is some refl (inr refl) few (places_same s0 s4 keeps.keeps steps.keeps (ap (λ (h : Held E). h.numbers) after)) stands
  where
    stays_gone : (q : ℕ) (b : Bool) → place_at s0 q ≡ Gone → (if b then Gone else place_at s0 q) ≡ Gone
    stays_gone q true gone = refl
    stays_gone q false gone = gone

    kept_fewer : (out out' room room' : ℕ) (was is : Bool) → 1 ≤ out → out' ≡ out - 1 → is ≡ true → room' + 1 ≡ room → kept_places out was ≤ room → kept_places out' is ≤ room'
    kept_fewer out out' room room' was is some less so one kept = rw so (by was kept)
      where
        by : (was : Bool) → out + cond was 0 1 ≤ room → out' + 0 ≤ room'
        by true k = omega (arith, some, less, one, k)
        by false k = omega (arith, some, less, one, k)
