use Rattle.std.proofs.Common.{◌≡◌, ◌≢◌, ◌⊎◌, ◌≤◌, ◌<◌, ℕ, ◌+◌, ◌-◌, List, [], ◌∷◌, ◌++◌, All, Contains, Option, Some, None, Bool, true, false, cond, length, map, nat_eq, slice_get, append-nil, vec_capacity, if◌then◌else◌, refl, arith, sym, ◌∙◌, ap, subst, inl, inr}
use Rattle.std.proofs.lemmas.Bool.Decides.{eqb_tells}
use Rattle.host_port.specs.declared.call.Call.{Call}
use Rattle.host_port.specs.declared.start.Start.{Start}
use Rattle.host_port.specs.declared.start.StartRefusal.{StartRefusal}
use Rattle.host_port.specs.Standing.{Standing}
use Rattle.resource_table.specs.Handles.{Handle}
use Rattle.resource_table.specs.Steps.{Told}
use Rattle.world_rules.specs.declared.entry.Entry.{Entry}
use Rattle.world_rules.specs.declared.entry.Entry.TheVariants.{Take, Stall, Idle}
use Rattle.world_rules.specs.declared.life.Ended.{Ended as EndMemory}
use Rattle.world_rules.specs.Book.{Book, AddsEntry}
use Rattle.world_rules.specs.Lives.{Setting}
use Rattle.world_rules.specs.Streams.{Streamed}
use Rattle.world_rules.specs.Time.{timed_processes}
use Rattle.world_rules.specs.Told.{told}
use Rattle.world_rules.specs.Views.{Given, Giving as Gives, deed_of}
use Rattle.world_rules.specs.World.{World, Stage, Ready, Out}
use Rattle.world_rules.specs.Sound.{is_born}
use Rattle.node_state.specs.Changes.{Records as RecordsAlone}
use Rattle.node_state.specs.Seats.{Meaning, Seat, IsOnce, IsSeatOf, phase_by}
use Rattle.node_state.specs.Slots.{IsHome as IsHomeAlone}
use Rattle.node_state.specs.Streaming.{Kept, IsOpen, StreamsStand}
use Rattle.node_laws.proofs.Folds.{told-last}
use Rattle.node_laws.proofs.Shown.{shown-taken}
use Rattle.node_mirror.specs.Slots.{Slot, SlotFits, Home, IsHome}
use Rattle.node_mirror.specs.Held.{Held, Mirrors, StandsFor, kept_places}
use Rattle.node_mirror.specs.Steps.{replaced, taken}
use Rattle.node_mirror.specs.Fits.{Records}
use Rattle.host_calls.specs.declared.proc.Proc.{Proc}
use Rattle.host_calls.specs.Shown.{hands_of, seat_of}
use Rattle.process_store.specs.declared.store.Store.{Store}
use Rattle.process_store.specs.Holds.{held_of, hands_at, kept_of, place_at, ready_of, streams_of}
use Rattle.process_store.specs.Keeps.{StoreKeeps}
use Rattle.process_store.specs.NodeKeeps.{NodeKeeps}
use Rattle.process_store.specs.PassOn.{PassesOn, Stood}
use Rattle.process_store.specs.Seen.{Seen, seen, world_of}
use Rattle.process_store.specs.Takes.{IsBusy, IsIdle, IsStuckNode, IsTimed, RecordsEntry, TakesNothing, TakesOver, TakesProcess, TakesStreams}
use Rattle.process_store.specs.Takings.{TakesNobody, TakesOut}
use Rattle.process_store.proofs.EndingAll.{OthersLaw}
use Rattle.process_store.proofs.NodeStanding.{hands_number, keeps_after, records_one, records_shown, setting_with}
use Rattle.process_store.proofs.Passing.{in_none, stood_hand, stood_mail}

-- What a Take of a node hands out, and what it answers else.

-- THE STREAMS

none_at : {S : Type 0} (xs : List (Handle S)) (handle : Handle S) → xs ≡ [] → Contains xs handle → ⊥
none_at {S = S} xs handle none at = in_none handle (subst (λ (hs : List (Handle S)). Contains hs handle) none at)

-- one number's are none, and all others stay
pub emptied_at : {X : Type 0} (f : ℕ → List X) (pid : ℕ) → replaced f pid [] pid ≡ []
emptied_at f pid = by (eqb_tells pid pid)
  where
    by : ((nat_eq pid pid ≡ true) × (pid ≡ pid)) ⊎ ((nat_eq pid pid ≡ false) × (pid ≢ pid)) → (if nat_eq pid pid then [] else f pid) ≡ []
    by (inl same) = ap (λ (b : Bool). if b then [] else f pid) same.0
    by (inr other) = absurd (other.1 refl)

-- those of one number leave the store
pub passes_left : {S : Type 0} (tells : Told S) (was is : Kept S) (pid : ℕ) → is ≡ record was { hands = replaced was.hands pid [] } → PassesOn tells was is [] []
passes_left {S = S} tells was is pid left = subst (λ (k : Kept S). PassesOn tells was k [] []) (sym left) (record {
  in_hand = λ q handle at. in_hand q handle (nat_eq q pid) at;
  in_mail = λ q handle at. stood_mail was [] q handle at;
  more = [];
  closed = sym (append-nil was.closed);
  shut = λ handle at. absurd (in_none handle at);
})
  where
    in_hand : (q : ℕ) (handle : Handle S) (b : Bool) → Contains (if b then [] else was.hands q) handle → Stood was [] handle
    in_hand q handle true at = absurd (in_none handle at)
    in_hand q handle false at = stood_hand was [] q handle at

-- TAKEN

-- what the law says of a Take
abbrev pub TakeLaw : {E P : Type 0} → Meaning E P → Type 0
TakeLaw {E = E} {P = P} engines =
    (setting : Setting P) (old new : Book) (was : Held E) (rest : List ℕ) (pid worker : ℕ) → StandsFor engines setting old (told old) was → was.over ≡ false → was.ready ≡ pid ∷ rest →
    Records old new (Take worker pid) [] [] → was.out + 3 ≤ old.entry_room → StandsFor engines setting new (told new) (record (taken was pid worker) { ready = rest })

no_giving : (worker pid : ℕ) (give : Given) → deed_of (Take worker pid) ≢ Gives give
no_giving worker pid give is = cc

pub take_keeps : {E O P S L : Type 0} {engines : Meaning E P} {may_ask : P → ℕ → Type 0} {tells : Told S} (begin : P → Start → Option StartRefusal)
    (at : P → Start → List Call → ℕ → Option Standing) (programs : List P) (old new : Book) (live idle : ℕ) (s0 s1 : Store E O P S L) (spare worker pid : ℕ) (proc : Proc E O P S L)
    → TakeLaw engines → OthersLaw engines tells → NodeKeeps engines may_ask tells (setting_with begin at programs old.births live idle) old s0 spare → s0.over ≡ false → 2 ≤ spare
    → TakesOut s0 s1 worker pid proc → StoreKeeps s1 → s1.giver ≡ s0.giver → s1.came ≡ s0.came → length s1.places.items ≡ length s0.places.items → vec_capacity s1.closed ≡ vec_capacity s0.closed
    → AddsEntry old new (Take worker pid) → NodeKeeps engines may_ask tells (setting_with begin at programs new.births live idle) new s1 (spare - 2)
take_keeps {E} {O} {P} {S} {L} {engines = engines} {tells = tells} begin at programs old new live idle s0 s1 spare worker pid proc law others keeps going most t store giver came places capacity adds =
    let setting = setting_with begin at programs old.births live idle in
    let records = records_one old new (Take worker pid) adds in
    let out_is : s1.out ≡ s0.out + 1 = ap (λ (h : Held E). h.out) t.held in
    let over_is : s1.over ≡ s0.over = ap (λ (h : Held E). h.over) t.held in
    let drawn_is : s1.streams ≡ s0.streams = ap (λ (h : Held E). h.streams) t.held in
    let bound = keeps.spare_bound in
    let stands : StandsFor engines setting new (told new) (held_of s1) = subst (λ (h : Held E). StandsFor engines setting new (told new) h) (sym t.held)
    (law setting old new (held_of s0) t.rest pid worker keeps.stands going t.ready records (room_taken s0.out old.entry_room spare s0.over going most keeps.spare_room)) in
    keeps_after begin at programs old new live idle s0 s1 spare (spare - 2) keeps adds.births stands
    (others setting old new (held_of s0) (held_of s1) (kept_of s0) (kept_of s1) (Take worker pid) [] [] keeps.stands (no_giving worker pid) records stands keeps.streams
    (passes_left tells (kept_of s0) (kept_of s1) pid t.kept))
    store (ap (λ v. v.items) came ∙ keeps.came) (giver ∙ keeps.giver) places
    (spare_taken new.entry_room old.entry_room spare s0.out s1.out s0.over s1.over out_is over_is adds.entry_room most keeps.spare_room)
    (omega (arith, bound))
    (λ enough. let h : ⊥ = omega (arith, enough, bound) in absurd h)
  where
    room_taken : (out room spare : ℕ) (over : Bool) → over ≡ false → 2 ≤ spare → spare + kept_places out over ≤ room → out + 3 ≤ room
    room_taken out room spare true is most e = let h : ⊥ = cc in absurd h
    room_taken out room spare false is most e = omega (arith, most, e)

    spare_at : (new old spare out out' : ℕ) (b : Bool) → out' ≡ out + 1 → new + 1 ≡ old → 2 ≤ spare → spare + kept_places out b ≤ old → spare - 2 + kept_places out' b ≤ new
    spare_at new old spare out out' true a e l h = omega (arith, a, e, l, h)
    spare_at new old spare out out' false a e l h = omega (arith, a, e, l, h)

    spare_taken : (new old spare out out' : ℕ) (was is : Bool) → out' ≡ out + 1 → is ≡ was → new + 1 ≡ old → 2 ≤ spare → spare + kept_places out was ≤ old → spare - 2 + kept_places out' is ≤ new
    spare_taken new old spare out out' was is a b e l h = subst (λ (x : Bool). spare - 2 + kept_places out' x ≤ new) (sym b) (spare_at new old spare out out' was a e l h)

-- the process that is handed out is at home in the world
home_in : {E P : Type 0} (engines : Meaning E P) (setting : Setting P) (w : World) (held : Held E) (ends : List EndMemory) (pid : ℕ) (seat : Seat E) → Mirrors engines setting w held ends → held.slots pid ≡ Home seat
    → IsHome engines setting.programs (w.process pid) seat
home_in {E = E} engines setting w held ends pid seat m is = subst (λ (s : Slot E). SlotFits engines setting.programs (w.process pid) s) is (m.slots pid)

abbrev pub OnceLaw : {E P : Type 0} → Meaning E P → Type 0
OnceLaw {E = E} {P = P} engines =
    (setting : Setting P) (book : Book) (held : Held E) (pid : ℕ) → StandsFor engines setting book (told book) held → IsOnce ((told book).process pid).part

pub shows_take : {E O P S L : Type 0} (engines : Meaning E P) (may_ask : P → ℕ → Type 0) (tells : Told S) → OnceLaw engines → (begin : P → Start → Option StartRefusal)
    (at : P → Start → List Call → ℕ → Option Standing) (programs : List P) (old new : Book) (live idle spare spare_after : ℕ) (hs ms hs_after ms_after : List (List (Handle S)))
    (cs cs_after : List (Handle S)) (s0 s1 : Store E O P S L) (pid worker : ℕ) (proc : Proc E O P S L)
    → NodeKeeps engines may_ask tells (setting_with begin at programs old.births live idle) old s0 spare → s0.over ≡ false → s0.row < idle → TakesOut s0 s1 worker pid proc
    → AddsEntry old new (Take worker pid)
    → TakesProcess engines may_ask (seen programs old live idle spare hs ms cs) (seen programs new live idle spare_after hs_after ms_after cs_after) worker (seat_of proc)
shows_take engines may_ask tells once begin at programs old new live idle spare spare_after hs ms hs_after ms_after cs cs_after s0 s1 pid worker proc keeps going busy t adds =
    let w : World = told old in
    let setting = setting_with begin at programs old.births live idle in
    let m = keeps.stands.mirrors in
    let home : IsHome engines programs (w.process pid) (seat_of proc) = home_in engines setting w (held_of s0) old.ends pid (seat_of proc) m t.home in
    let born : is_born (w.process pid).stage ≡ true = ap is_born home.stage in
    let numbered : proc.start.pid ≡ pid = ap (λ (s : Start). s.pid) home.seated.start ∙ (m.order.each pid).own born in
    let program = m.programs pid born in
    let named : slice_get programs proc.start.«module» ≡ Some program.0 = ap (λ (s : Start). slice_get programs s.«module») home.seated.start ∙ program.1 in
    let records : RecordsAlone old new (Take worker pid) [] = records_shown old new (Take worker pid) [] (records_one old new (Take worker pid) adds) in
    let alone : IsHomeAlone engines programs (w.process pid) (seat_of proc) = record { stage = home.stage; seated = home.seated; tries = home.tries } in
    let shown = shown-taken engines programs old new pid worker (seat_of proc) alone records in
    record {
      going = m.over ∙ going;
      busy = subst (λ (n : ℕ). n < idle) (sym keeps.stands.row) busy;
      front = ap (λ (xs : List ℕ). slice_get xs 0) (keeps.stands.ready ∙ t.ready) ∙ ap Some (sym numbered);
      recorded = subst (λ (k : ℕ). RecordsAlone old new (Take worker k) []) (sym numbered) records;
      seated = subst (λ (k : ℕ). IsSeatOf engines programs ((told new).process k) (phase_by proc.owed) (seat_of proc)) (sym numbered) shown.0;
      out = subst (λ (k : ℕ). ((told new).process k).stage ≡ Out worker) (sym numbered) shown.1;
      tries = home.tries;
      once = subst IsOnce (sym home.seated.part) (once setting old (held_of s0) pid keeps.stands);
      program = program.0;
      found = named;
      rows = keeps.rows proc.start.«module» program.0 named;
    }

pub shows_streams : {E O P S L : Type 0} {engines : Meaning E P} {may_ask : P → ℕ → Type 0} {tells : Told S} (begin : P → Start → Option StartRefusal)
    (at : P → Start → List Call → ℕ → Option Standing) (programs : List P) (old new : Book) (live idle spare spare_after : ℕ) (s0 s1 : Store E O P S L) (pid worker : ℕ) (proc : Proc E O P S L)
    → NodeKeeps engines may_ask tells (setting_with begin at programs old.births live idle) old s0 spare → TakesOut s0 s1 worker pid proc → AddsEntry old new (Take worker pid)
    → TakesStreams tells (seen programs old live idle spare (map hands_at s0.places.items) (map streams_of s0.mail.items) s0.closed.items)
    (seen programs new live idle spare_after (map hands_at s1.places.items) (map streams_of s1.mail.items) s1.closed.items) proc.start.pid (hands_of proc) proc.shed
shows_streams {S = S} {engines = engines} {tells = tells} begin at programs old new live idle spare spare_after s0 s1 pid worker proc keeps t adds =
    let w : World = told old in
    let setting = setting_with begin at programs old.births live idle in
    let m = keeps.stands.mirrors in
    let home : IsHome engines programs (w.process pid) (seat_of proc) = home_in engines setting w (held_of s0) old.ends pid (seat_of proc) m t.home in
    let numbered : proc.start.pid ≡ pid = ap (λ (s : Start). s.pid) home.seated.start ∙ (m.order.each pid).own (ap is_born home.stage) in
    let stays : (told new).streamed ≡ w.streamed = ap (λ (x : World). x.streamed) (told-last old new (Take worker pid) adds.births adds.entries) in
    record {
      hands_are = sym t.hands ∙ ap (kept_of s0).hands (sym numbered) ∙ sym (hands_number s0.places.items proc.start.pid);
      stand = subst (λ (streamed : ℕ → Streamed). All (IsOpen tells streamed) (hands_of proc)) (sym stays)
          (subst (λ (hs : List (Handle S)). All (IsOpen tells w.streamed) hs) t.hands (keeps.streams.hands pid));
      left = hands_number s1.places.items proc.start.pid ∙ ap (λ (k : Kept S). k.hands proc.start.pid) t.kept
          ∙ ap (λ (q : ℕ). replaced (kept_of s0).hands pid [] q) numbered ∙ emptied_at (kept_of s0).hands pid;
      closed = ap (λ (k : Kept S). k.closed) t.kept;
      shed_empty = t.shed;
    }

-- NOBODY

-- nobody is ready: the queue is looked through, and all else stays
pub nobody_keeps : {E O P S L : Type 0} {engines : Meaning E P} {may_ask : P → ℕ → Type 0} {tells : Told S} {setting : Setting P} (book : Book) (s0 s1 : Store E O P S L) (spare : ℕ)
    → NodeKeeps engines may_ask tells setting book s0 spare → TakesNobody s0 s1 → StoreKeeps s1 → s1.giver ≡ s0.giver → s1.came ≡ s0.came → length s1.places.items ≡ length s0.places.items
    → vec_capacity s1.closed ≡ vec_capacity s0.closed → NodeKeeps engines may_ask tells setting book s1 spare
nobody_keeps {E} {O} {P} {S} {L} {engines = engines} {tells = tells} {setting = setting} book s0 s1 spare keeps t store giver came places capacity =
    let out_is : s1.out ≡ s0.out = ap (λ (h : Held E). h.out) t.held in
    let over_is : s1.over ≡ s0.over = ap (λ (h : Held E). h.over) t.held in
    let drawn_is : s1.streams ≡ s0.streams = ap (λ (h : Held E). h.streams) t.held in
    let turn = keeps.turn_room in
    record {
      stands = subst (λ (h : Held E). StandsFor engines setting book (told book) h) (sym t.held) keeps.stands;
      streams = subst (λ (k : Kept S). StreamsStand tells (told book) k) (sym t.kept) keeps.streams;
      keeps = store;
      came = ap (λ v. v.items) came ∙ keeps.came;
      giver = giver ∙ keeps.giver;
      rows = keeps.rows;
      spare_room = subst (λ (b : Bool). spare + kept_places s1.out b ≤ book.entry_room) (sym over_is)
          (subst (λ (n : ℕ). spare + kept_places n s0.over ≤ book.entry_room) (sym out_is) keeps.spare_room);
      spare_bound = keeps.spare_bound;
      turn_room = λ two. let r = turn two in omega (arith, r, out_is, drawn_is, capacity);
      alone = places ∙ keeps.alone;
    }

-- nothing is ready, and the run goes on
pub takes_nothing : {E O P S L : Type 0} {engines : Meaning E P} {may_ask : P → ℕ → Type 0} {tells : Told S} (begin : P → Start → Option StartRefusal)
    (at : P → Start → List Call → ℕ → Option Standing) (programs : List P) (book : Book) (live idle spare spare_after : ℕ) (hs ms hs_after ms_after : List (List (Handle S)))
    (cs cs_after : List (Handle S)) (store : Store E O P S L) (kept : ℕ) → NodeKeeps engines may_ask tells (setting_with begin at programs book.births live idle) book store kept
    → store.over ≡ false → store.row < idle → ready_of store ≡ [] → ∥ (0 < store.out) ⊎ IsTimed (told book) ∥₁
    → TakesNothing (seen programs book live idle spare hs ms cs) (seen programs book live idle spare_after hs_after ms_after cs_after)
takes_nothing begin at programs book live idle spare spare_after hs ms hs_after ms_after cs cs_after store kept keeps going busy none awaits =
    let m = keeps.stands.mirrors in
    record {
      going = m.over ∙ going;
      busy = subst (λ (n : ℕ). n < idle) (sym keeps.stands.row) busy;
      none_ready = keeps.stands.ready ∙ none;
      awaits = subst (λ (n : ℕ). ∥ (0 < n) ⊎ IsTimed (told book) ∥₁) (sym m.out) awaits;
      same = refl;
    }

-- nothing can happen any more
abbrev pub UntimedLaw : {E P : Type 0} → Meaning E P → Type 0
UntimedLaw {E = E} {P = P} engines =
    (setting : Setting P) (w : World) (held : Held E) (ends : List EndMemory) → Mirrors engines setting w held ends → ((pid : ℕ) → held.deadlines pid ≡ None) → timed_processes w ≡ []

pub is_stuck : {E O P S L : Type 0} {engines : Meaning E P} {may_ask : P → ℕ → Type 0} {tells : Told S} {setting : Setting P} → UntimedLaw engines → (book : Book) (store : Store E O P S L) (spare : ℕ)
    → NodeKeeps engines may_ask tells setting book store spare → ready_of store ≡ [] → store.out ≤ 0 → ((pid : ℕ) → (held_of store).deadlines pid ≡ None) → IsStuckNode (told book)
is_stuck {setting = setting} untimed book store spare keeps none out dates =
    let m = keeps.stands.mirrors in
    record {
      none_ready = keeps.stands.ready ∙ none;
      away = m.out ∙ zero_is store.out out;
      untimed = untimed setting (told book) (held_of store) book.ends m dates;
    }
  where
    zero_is : (n : ℕ) → n ≤ 0 → n ≡ 0
    zero_is n h = omega (arith, h)

-- OVER

both_ways : {A : Type 0} (b : Bool) → b ≡ true → b ≡ false → A
both_ways b is isnt = let e : true ≡ false = sym is ∙ isnt in let h : ⊥ = cc in absurd h

-- a take that ends an idle run
pub takes_idle : {P S : Type 0} (old new : Seen P S) (worker : ℕ) → (world_of old).over ≡ false → IsIdle old → (world_of new).over ≡ true → RecordsEntry old.book new.book (Idle worker)
    → TakesOver old new worker
takes_idle old new worker going idle over recorded = record {
  over = over;
  was_over = λ o. both_ways (world_of old).over o going;
  idles = λ _ _. recorded;
  stalls = λ _ busy. let h : ⊥ = omega (arith, idle, busy) in absurd h;
}

-- a take that stalls
pub takes_stall : {P S : Type 0} (old new : Seen P S) (worker : ℕ) → (world_of old).over ≡ false → IsBusy old → IsStuckNode (world_of old) → (world_of new).over ≡ true
    → RecordsEntry old.book new.book (Stall worker) → TakesOver old new worker
takes_stall old new worker going busy stuck over recorded = record {
  over = over;
  was_over = λ o. both_ways (world_of old).over o going;
  idles = λ _ idle. let h : ⊥ = omega (arith, idle, busy) in absurd h;
  stalls = λ _ _. record { busy = busy; none_ready = stuck.none_ready; away = stuck.away; untimed = stuck.untimed; recorded = recorded };
}

-- a take of a run that is over
pub takes_over : {P S : Type 0} (old : Seen P S) (worker : ℕ) → (world_of old).over ≡ true → TakesOver old old worker
takes_over old worker over = record {
  over = over;
  was_over = λ _. refl;
  idles = λ going idle. both_ways (world_of old).over over going;
  stalls = λ going busy. both_ways (world_of old).over over going;
}
