use Rattle.std.proofs.Common.{◌≡◌, ◌⊎◌, ◌≤◌, ◌<◌, ℕ, ◌+◌, ◌-◌, List, [], ◌∷◌, ◌++◌, Option, Some, None, Bool, true, false, cond, length, map, nat_eq, slice_get, slice_set, if◌then◌else◌, append-nil, vec_capacity, refl, arith, sym, ◌∙◌, ap, subst, inl, inr}
use Rattle.host_port.specs.declared.call.Call.{Call}
use Rattle.host_port.specs.declared.start.Start.{Start}
use Rattle.host_port.specs.declared.start.StartRefusal.{StartRefusal}
use Rattle.host_port.specs.Standing.{Standing}
use Rattle.std.specs.Option.{option_to_list}
use Rattle.run_queue.specs.Schedule.{Schedule}
use Rattle.resource_table.specs.Handles.{Handle, numbers_of}
use Rattle.resource_table.specs.Steps.{Told}
use Rattle.world_rules.specs.declared.entry.Side.{Side}
use Rattle.world_rules.specs.declared.entry.Side.TheVariants as SideIs
use Rattle.world_rules.specs.declared.life.Birth.{Birth}
use Rattle.world_rules.specs.declared.life.Ended.{Ended as EndMemory}
use Rattle.world_rules.specs.Book.{Book, AddsEntry}
use Rattle.world_rules.specs.Lives.{Setting, terms_of}
use Rattle.world_rules.specs.Rules.{happened, giver_of, is_pending_give, row_after, row_with}
use Rattle.world_rules.specs.Told.{told}
use Rattle.world_rules.specs.Views.{Given, Giving as Gives, deed_of, is_pending}
use Rattle.world_rules.specs.World.{World, Stage, Out}
use Rattle.node_state.specs.Fits.{Brought, give_of, entry_of}
use Rattle.node_state.specs.Seats.{Meaning, Seat, part_handles}
use Rattle.node_state.specs.Streaming.{AreOwned, BroughtStreams, Kept, StreamsFit, StreamsStand, arrived_as, streamed_after}
use Rattle.node_mirror.specs.Slots.{Slot, Home, Away, Giving, is_giving}
use Rattle.node_mirror.specs.Held.{Held, Mirrors, StandsFor, kept_places}
use Rattle.node_mirror.specs.Steps.{Requeued, back, replaced}
use Rattle.node_mirror.specs.Fits.{Records, TurnFits, HasBirth}
use Rattle.host_calls.specs.declared.proc.Proc.{Proc}
use Rattle.host_calls.specs.Shown.{brought_by, hands_of, seat_of, streams_by}
use Rattle.process_store.specs.declared.place.Place.TheVariants as PlaceIs
use Rattle.process_store.specs.declared.store.Store.{Store}
use Rattle.process_store.specs.Holds.{Becomes, held_of, kept_of, place_at, ready_of}
use Rattle.process_store.specs.Keeps.{StoreKeeps, is_out, stream_count}
use Rattle.process_store.specs.NodeKeeps.{NodeKeeps}
use Rattle.process_store.specs.PassOn.{PassesOn}
use Rattle.process_store.proofs.Bringing.{away_place}
use Rattle.process_store.proofs.Emptying.{numbers_hands}
use Rattle.process_store.proofs.Sets.{IsSet, sum_has, within_of}
use Rattle.process_store.proofs.NodeStanding.{AllowedLaw, EntryLaw, away_slot, entry_place, give_stands, keeps_after, mirrors_owned, mirrors_settled, records_one, setting_with}
use Rattle.process_store.proofs.QueuedAgain.{give_requeued, gone_but}

-- A process is given back, and is at home.

-- WHO IS OUT

-- a process that a worker has is counted
pub out_some : {E O P S L : Type 0} (store : Store E O P S L) (pid worker : ℕ) → StoreKeeps store → place_at store pid ≡ Away worker → 1 ≤ store.out
out_some {E = E} {O = O} {P = P} {S = S} {L = L} store pid worker keeps away =
    let there = away_place (slice_get store.places.items pid) worker away in
    let placed : IsSet store.places.items (slice_set store.places.items pid (PlaceIs.Away worker)) pid (PlaceIs.Away worker) (PlaceIs.Away worker) =
    record { within = within_of store.places.items pid (PlaceIs.Away worker) there; there = there; set = refl } in
    let has = sum_has placed is_out in
    let out = keeps.out in
    omega (arith, has, out)

-- its slot, by what the world says
pub is_away_slot : {E O P S L : Type 0} {engines : Meaning E P} {may_ask : P → ℕ → Type 0} {tells : Told S} {setting : Setting P} (book : Book) (store : Store E O P S L) (spare pid worker : ℕ)
    → NodeKeeps engines may_ask tells setting book store spare → ((told book).process pid).stage ≡ Out worker → place_at store pid ≡ Away worker
is_away_slot {engines = engines} {setting = setting} book store spare pid worker keeps out =
    away_slot engines setting.programs ((told book).process pid) (place_at store pid) worker (keeps.stands.mirrors.slots pid) out

-- its Give has a place
pub give_place : {E O P S L : Type 0} {engines : Meaning E P} {may_ask : P → ℕ → Type 0} {tells : Told S} {setting : Setting P} (book : Book) (store : Store E O P S L) (spare pid worker : ℕ)
    → NodeKeeps engines may_ask tells setting book store spare → ((told book).process pid).stage ≡ Out worker → 0 < book.entry_room
give_place book store spare pid worker keeps out =
    entry_place book (held_of store) keeps.stands (out_some store pid worker keeps.keeps (is_away_slot book store spare pid worker keeps out))

-- what the law says of how many streams there are
abbrev pub FewLaw : {E P : Type 0} (O S L : Type 0) → Meaning E P → Type 0
FewLaw {E = E} {P = P} O S L engines =
    (setting : Setting P) (book : Book) (store : Store E O P S L) (worker pid : ℕ) (brought : Brought E) (hands shed : List (Handle S)) →
    StandsFor engines setting book (told book) (held_of store) → AreOwned (told book) (kept_of store) → TurnFits engines setting book.births (told book) worker pid brought →
    numbers_of hands ≡ part_handles brought.seat.part → numbers_of shed ≡ brought.shed → stream_count store + length hands + length shed ≤ store.streams

pub streams_few : {E O P S L : Type 0} {engines : Meaning E P} {may_ask : P → ℕ → Type 0} {tells : Told S} {setting : Setting P} → FewLaw O S L engines → (book : Book)
    (store : Store E O P S L) (spare worker : ℕ) (proc : Proc E O P S L) (brought : Brought E) → NodeKeeps engines may_ask tells setting book store spare
    → TurnFits engines setting book.births (told book) worker proc.start.pid brought → brought.seat ≡ seat_of proc → brought.shed ≡ numbers_of proc.shed
    → stream_count store + length (hands_of proc) + length proc.shed ≤ store.streams
streams_few {engines = engines} {setting = setting} law book store spare worker proc brought keeps fits seat shed =
    law setting book store worker proc.start.pid brought (hands_of proc) proc.shed keeps.stands (mirrors_owned engines setting (told book) store book.ends keeps.stands.mirrors) fits
    (numbers_hands proc ∙ ap (λ (s : Seat _). part_handles s.part) (sym seat)) (sym shed)

-- THE STEPS OF A GIVE

-- The process has come back, which makes of the store what this says; the row was set, and who came home was queued.
pub record Steps {E O P S L : Type 0} (tells : Told S) (s0 s1 s2 s3 : Store E O P S L) (held : Held E) (row : ℕ) (pool shed : List (Handle S)) : Type 0 where
  pub becomes : Becomes s1 held
  pub passes : PassesOn tells (kept_of s0) (kept_of s1) pool shed
  pub rooms : vec_capacity s1.closed ≡ vec_capacity s0.closed
  pub rows : s2 ≡ record s1 { row = row }
  pub settles : Becomes s3 (held_of s2)
  pub kept : kept_of s3 ≡ kept_of s2
  pub keeps : StoreKeeps s3
  pub came : s3.came.items ≡ []
  pub giver : s3.giver ≡ None
  pub capacity : vec_capacity s3.closed ≡ vec_capacity s2.closed

-- what is held after them, but for the ready list
pub held_after : {E O P S L : Type 0} {tells : Told S} {s0 s1 s2 s3 : Store E O P S L} {held : Held E} {row : ℕ} {pool shed : List (Handle S)} → Steps tells s0 s1 s2 s3 held row pool shed
    → held_of s3 ≡ record held { ready = ready_of s3; row = row }
held_after {E = E} {O = O} {P = P} {S = S} {L = L} {s1 = s1} {s3 = s3} {held = held} {row = row} steps =
    steps.settles
    ∙ ap (λ (s : Store E O P S L). record (held_of s) { ready = ready_of s3 }) steps.rows
    ∙ ap (λ (h : Held E). record h { ready = ready_of s3; row = row }) steps.becomes

pub kept_after : {E O P S L : Type 0} {tells : Told S} {s0 s1 s2 s3 : Store E O P S L} {held : Held E} {row : ℕ} {pool shed : List (Handle S)} → Steps tells s0 s1 s2 s3 held row pool shed
    → kept_of s3 ≡ kept_of s1
kept_after {E = E} {O = O} {P = P} {S = S} {L = L} steps = steps.kept ∙ ap (λ (s : Store E O P S L). kept_of s) steps.rows

pub passes_after : {E O P S L : Type 0} {tells : Told S} {s0 s1 s2 s3 : Store E O P S L} {held : Held E} {row : ℕ} {pool shed : List (Handle S)} → Steps tells s0 s1 s2 s3 held row pool shed
    → PassesOn tells (kept_of s0) (kept_of s3) pool shed
passes_after {S = S} {tells = tells} {s0 = s0} {pool = pool} {shed = shed} steps = subst (λ (k : Kept S). PassesOn tells (kept_of s0) k pool shed) (sym (kept_after steps)) steps.passes

pub capacity_after : {E O P S L : Type 0} {tells : Told S} {s0 s1 s2 s3 : Store E O P S L} {held : Held E} {row : ℕ} {pool shed : List (Handle S)} → Steps tells s0 s1 s2 s3 held row pool shed
    → vec_capacity s3.closed ≡ vec_capacity s0.closed
capacity_after {E = E} {O = O} {P = P} {S = S} {L = L} steps = steps.capacity ∙ ap (λ (s : Store E O P S L). vec_capacity s.closed) steps.rows ∙ steps.rooms

pub mirrors_after : {E O P S L : Type 0} {tells : Told S} {s0 s1 s2 s3 : Store E O P S L} {held : Held E} {row : ℕ} {pool shed : List (Handle S)} (engines : Meaning E P) (setting : Setting P) (w : World)
    (ends : List EndMemory) → Steps tells s0 s1 s2 s3 held row pool shed → Mirrors engines setting w held ends → Mirrors engines setting w (held_of s3) ends
mirrors_after {s1 = s1} {s2 = s2} {s3 = s3} {held = held} {row = row} engines setting w ends steps m =
    mirrors_settled engines setting w s1 s2 s3 held row ends steps.becomes steps.rows steps.settles m

-- WHAT A NODE KEEPS AFTER A GIVE

-- what the law says of the streams after a Give
abbrev pub GivenLaw : {E P S : Type 0} → Meaning E P → Told S → Type 0
GivenLaw {E = E} {P = P} {S = S} engines tells =
    (setting : Setting P) (old new : Book) (held after : Held E) (was is : Kept S) (worker pid : ℕ) (brought : Brought E) (streams : BroughtStreams S) (side : Side) (births : List Birth)
    (ends : List EndMemory) → StandsFor engines setting old (told old) held → TurnFits engines setting old.births (told old) worker pid brought →
    ∥ (side ≡ brought.side) ⊎ ((brought.side ≡ SideIs.Nothing) × (side ≡ SideIs.NoMemory)) ∥₁ → Records old new (entry_of worker pid brought side) births ends →
    StandsFor engines setting new (told new) after → StreamsStand tells (told old) was → AreOwned (told old) was →
    StreamsFit tells (streamed_after ((told old).process pid) (give_of worker pid brought) (told old).streamed) brought.side streams →
    PassesOn tells was is (streams.hands ++ arrived_as (told old).streams streams.arrived) streams.shed → StreamsStand tells (told new) is

-- after a Give that was recorded so, whose steps leave one process less out, and the run going on or over
pub given_keeps : {E O P S L : Type 0} {engines : Meaning E P} {may_ask : P → ℕ → Type 0} {tells : Told S} (begin : P → Start → Option StartRefusal)
    (at : P → Start → List Call → ℕ → Option Standing) (programs : List P) (old new : Book) (live idle : ℕ) (s0 s1 s2 s3 : Store E O P S L) (spare : ℕ) (held : Held E) (row : ℕ)
    (pool shed : List (Handle S)) (worker pid : ℕ) (brought : Brought E) (streams : BroughtStreams S) (side : Side) (ends : List EndMemory)
    → GivenLaw engines tells → NodeKeeps engines may_ask tells (setting_with begin at programs old.births live idle) old s0 spare
    → TurnFits engines (setting_with begin at programs old.births live idle) old.births (told old) worker pid brought
    → StreamsFit tells (streamed_after ((told old).process pid) (give_of worker pid brought) (told old).streamed) brought.side streams
    → ∥ (side ≡ brought.side) ⊎ ((brought.side ≡ SideIs.Nothing) × (side ≡ SideIs.NoMemory)) ∥₁ → Records old new (entry_of worker pid brought side) [] ends
    → Steps tells s0 s1 s2 s3 held row pool shed → pool ≡ streams.hands ++ arrived_as (told old).streams streams.arrived → shed ≡ streams.shed
    → 1 ≤ s0.out → held.out ≡ s0.out - 1 → ((held.over ≡ s0.over) ⊎ (held.over ≡ true)) → held.streams ≤ s0.streams + 1 → length s3.places.items ≡ length s0.places.items
    → StandsFor engines (setting_with begin at programs old.births live idle) new (told new) (held_of s3)
    → NodeKeeps engines may_ask tells (setting_with begin at programs new.births live idle) new s3 spare
given_keeps {engines = engines} {tells = tells} begin at programs old new live idle s0 s1 s2 s3 spare held row pool shed worker pid brought streams side ends law keeps fits came how records steps pool_is shed_is
    some out over drawn places stands =
    let setting = setting_with begin at programs old.births live idle in
    let after = held_after steps in
    let out_is : s3.out ≡ s0.out - 1 = ap (λ (h : Held _). h.out) after ∙ out in
    let drawn_is : s3.streams ≡ held.streams = ap (λ (h : Held _). h.streams) after in
    let over_is : s3.over ≡ held.over = ap (λ (h : Held _). h.over) after in
    let capacity = capacity_after steps in
    let entry_room = records.entry_room in
    let was = keeps.spare_room in
    let few = keeps.spare_bound in
    let turn = keeps.turn_room in
    keeps_after begin at programs old new live idle s0 s3 spare spare keeps (records.births_are ∙ append-nil old.births) stands
    (law setting old new (held_of s0) (held_of s3) (kept_of s0) (kept_of s3) worker pid brought streams side [] ends keeps.stands fits how records stands keeps.streams
    (mirrors_owned engines setting (told old) s0 old.ends keeps.stands.mirrors) came
    (subst (λ (hs : List (Handle _)). PassesOn tells (kept_of s0) (kept_of s3) hs streams.shed) pool_is
    (subst (λ (hs : List (Handle _)). PassesOn tells (kept_of s0) (kept_of s3) pool hs) shed_is (passes_after steps))))
    steps.keeps steps.came steps.giver places
    (room_by spare s0.out s3.out old.entry_room new.entry_room s0.over held.over s3.over some out_is over over_is entry_room was)
    few
    (λ two. let t = turn two in omega (arith, t, some, out_is, drawn_is, drawn, capacity))
  where
    kept_by : (spare out out' room room' : ℕ) (over over' : Bool) → 1 ≤ out → out' ≡ out - 1 → (over' ≡ over) ⊎ (over' ≡ true) → room' + 1 ≡ room → spare + (out + cond over 0 1) ≤ room
        → spare + (out' + cond over' 0 1) ≤ room'
    kept_by spare out out' room room' over true some less how one was = cases over was
      where
        cases : (over : Bool) → spare + (out + cond over 0 1) ≤ room → spare + (out' + 0) ≤ room'
        cases true w = omega (arith, some, less, one, w)
        cases false w = omega (arith, some, less, one, w)
    kept_by spare out out' room room' true false some less how one was = omega (arith, some, less, one, was, gone how)
      where
        gone : (false ≡ true) ⊎ (false ≡ true) → 1 ≤ 0
        gone (inl e) = let h : ⊥ = cc in absurd h
        gone (inr e) = let h : ⊥ = cc in absurd h
    kept_by spare out out' room room' false false some less how one was = omega (arith, some, less, one, was)

    room_by : (spare out out' room room' : ℕ) (over mid over' : Bool) → 1 ≤ out → out' ≡ out - 1 → (mid ≡ over) ⊎ (mid ≡ true) → over' ≡ mid → room' + 1 ≡ room → spare + kept_places out over ≤ room
        → spare + kept_places out' over' ≤ room'
    room_by spare out out' room room' over mid over' some less how same one was =
        kept_by spare out out' room room' over over' some less (subst (λ (b : Bool). (b ≡ over) ⊎ (b ≡ true)) (sym same) how) one was

-- AT HOME AGAIN

-- no Give is being performed where one process has come home
pub none_given : {E : Type 0} (was is : Held E) (pid : ℕ) (slot : Slot E) → ((q : ℕ) → is_giving (was.slots q) ≡ false) → is_giving slot ≡ false → ((q : ℕ) → is.slots q ≡ replaced was.slots pid slot q)
    → (q : ℕ) → is_giving (is.slots q) ≡ false
none_given was is pid slot none here slots q = ap is_giving (slots q) ∙ at_each (nat_eq q pid)
  where
    at_each : (b : Bool) → is_giving (if b then slot else was.slots q) ≡ false
    at_each true = here
    at_each false = none q

-- how many places there are, by what is held
pub places_same : {E O P S L : Type 0} (was is : Store E O P S L) → StoreKeeps was → StoreKeeps is → (held_of is).numbers ≡ (held_of was).numbers → length is.places.items ≡ length was.places.items
places_same was is k l same =
    let a = k.some in
    let b = l.some in
    omega (arith, a, b, same)

-- the row after a Give of a process that isn't doomed
pub row_broken : (w : World) (give : Given) (worker : ℕ) → (w.process give.pid).stage ≡ Out worker → is_pending give.side ≡ false → row_after w (Gives give) ≡ 0
row_broken w give worker out none = ap (λ (s : Stage). row_with (is_pending_give s give.side) w.row) out ∙ ap (λ (b : Bool). row_with b w.row) none

pub row_longer : (w : World) (give : Given) (worker : ℕ) → (w.process give.pid).stage ≡ Out worker → is_pending give.side ≡ true → row_after w (Gives give) ≡ w.row + 1
row_longer w give worker out some = ap (λ (s : Stage). row_with (is_pending_give s give.side) w.row) out ∙ ap (λ (b : Bool). row_with b w.row) some

-- the process is home with this seat, so many streams having been drawn
abbrev pub home_with : {E : Type 0} → Held E → ℕ → Seat E → List ℕ → ℕ → Held E
home_with held pid seat shed drawn = record (back held pid (Home seat) held.time shed) { streams = held.streams + drawn }

-- where none was drawn
pub none_drawn : {E P : Type 0} (engines : Meaning E P) (setting : Setting P) (w : World) (held : Held E) (pid : ℕ) (seat : Seat E) (shed : List ℕ) (ends : List EndMemory)
    → Mirrors engines setting w (back held pid (Home seat) held.time shed) ends → Mirrors engines setting w (home_with held pid seat shed 0) ends
none_drawn engines setting w held pid seat shed ends m =
    subst (λ (n : ℕ). Mirrors engines setting w (record (back held pid (Home seat) held.time shed) { streams = n }) ends) (same held.streams) m
  where
    same : (n : ℕ) → n ≡ n + 0
    same n = omega arith

-- HOME. What a node keeps after a Give that leaves its process at home.
pub home_keeps : {E O P S L : Type 0} {engines : Meaning E P} {may_ask : P → ℕ → Type 0} {tells : Told S} (begin : P → Start → Option StartRefusal)
    (at : P → Start → List Call → ℕ → Option Standing) (programs : List P) (old new : Book) (live idle : ℕ) (s0 s1 s2 s3 : Store E O P S L) (spare : ℕ) (row : ℕ) (seat : Seat E)
    (drawn : ℕ) (pool shed : List (Handle S)) (worker pid : ℕ) (brought : Brought E) (streams : BroughtStreams S)
    → AllowedLaw engines → EntryLaw engines → GivenLaw engines tells → NodeKeeps engines may_ask tells (setting_with begin at programs old.births live idle) old s0 spare
    → ((told old).process pid).stage ≡ Out worker
    → TurnFits engines (setting_with begin at programs old.births live idle) old.births (told old) worker pid brought
    → StreamsFit tells (streamed_after ((told old).process pid) (give_of worker pid brought) (told old).streamed) brought.side streams
    → HasBirth (Some (terms_of (setting_with begin at programs old.births live idle))) old.births (told old) (give_of worker pid brought)
    → AddsEntry old new (entry_of worker pid brought brought.side)
    → Steps tells s0 s1 s2 s3 (home_with (held_of s0) pid seat (numbers_of shed) drawn) row pool shed → pool ≡ streams.hands ++ arrived_as (told old).streams streams.arrived → shed ≡ streams.shed
    → drawn ≤ 1 → s1.queue ≡ s0.queue → s1.giver ≡ Some pid → Requeued s2.queue.ready (option_to_list s2.giver) (held_of s3) → row ≡ row_after (told old) (deed_of (entry_of worker pid brought brought.side))
    → Mirrors engines (setting_with begin at programs old.births live idle) (happened new.births (told old) (deed_of (entry_of worker pid brought brought.side)))
    (home_with (held_of s0) pid seat (numbers_of shed) drawn) old.ends
    → NodeKeeps engines may_ask tells (setting_with begin at programs new.births live idle) new s3 spare
home_keeps {engines = engines} {tells = tells} begin at programs old new live idle s0 s1 s2 s3 spare row seat drawn pool shed worker pid brought streams allowed entry given keeps out fits came birth adds steps
    pool_is shed_is one queue_is giver_is queued row_is mirrors =
    let setting = setting_with begin at programs old.births live idle in
    let held = home_with (held_of s0) pid seat (numbers_of shed) drawn in
    let records = records_one old new (entry_of worker pid brought brought.side) adds in
    let after = held_after steps in
    let some = out_some s0 pid worker keeps.keeps (is_away_slot old s0 spare pid worker keeps out) in
    let out_is : s3.out ≡ s0.out - 1 = ap (λ (h : Held _). h.out) after in
    let over_is : s3.over ≡ s0.over = ap (λ (h : Held _). h.over) after in
    let none = none_given (held_of s0) (held_of s3) pid (Home seat) keeps.stands.performed refl (λ q. ap (λ (h : Held _). h.slots q) after) in
    let room = keeps.stands.room in
    let one_less = adds.entry_room in
    let stands = give_stands allowed entry old new (held_of s0) (held_of s3) worker pid brought [] keeps.stands fits birth records
    (mirrors_after engines setting (happened new.births (told old) (deed_of (entry_of worker pid brought brought.side))) new.ends steps
    (subst (λ (es : List EndMemory). Mirrors engines setting (happened new.births (told old) (deed_of (entry_of worker pid brought brought.side))) held es) (sym adds.ends) mirrors))
    (ap (λ (h : Held _). h.births) after)
    (give_requeued s0 (held_of s3) pid s1.giver keeps.keeps keeps.stands.performed
    (gone_but (held_of s0) (held_of s3) pid worker (Home seat) (is_away_slot old s0 spare pid worker keeps out) (λ q. ap (λ (h : Held _). h.slots q) after)) (inl giver_is)
    (subst (λ (xs : List ℕ). Requeued xs (option_to_list s1.giver) (held_of s3)) (ap (λ (q : Schedule). q.ready) queue_is)
    (subst (λ (s : Store _ _ _ _ _). Requeued s.queue.ready (option_to_list s.giver) (held_of s3)) steps.rows queued)))
    (ap (λ (h : Held _). h.row) after ∙ row_is) none
    (kept_fewer s0.out s3.out old.entry_room new.entry_room s0.over s3.over some out_is over_is one_less room) in
    given_keeps begin at programs old new live idle s0 s1 s2 s3 spare held row pool shed worker pid brought streams brought.side [] given keeps fits came ∣ inl refl ∣₁ records steps pool_is shed_is
    some refl (inl refl) (plus_most s0.streams drawn one) (places_same s0 s3 keeps.keeps steps.keeps (ap (λ (h : Held _). h.numbers) after)) stands
  where
    plus_most : (n d : ℕ) → d ≤ 1 → n + d ≤ n + 1
    plus_most n d one = omega (arith, one)

    kept_fewer : (out out' room room' : ℕ) (over over' : Bool) → 1 ≤ out → out' ≡ out - 1 → over' ≡ over → room' + 1 ≡ room → kept_places out over ≤ room → kept_places out' over' ≤ room'
    kept_fewer out out' room room' over over' some less same one was = rw same (by over was)
      where
        by : (over : Bool) → out + cond over 0 1 ≤ room → out' + cond over 0 1 ≤ room'
        by true w = omega (arith, some, less, one, w)
        by false w = omega (arith, some, less, one, w)
