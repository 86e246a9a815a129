use Rattle.std.proofs.Common.{◌≡◌, ◌≢◌, ◌⊎◌, ℕ, ◌+◌, ◌≤◌, List, [], ◌∷◌, ◌++◌, length, slice_get, Option, Some, None, Bool, true, false, nat_eq, refl, sym, ◌∙◌, ap, subst, inl, inr, arith}
use Rattle.std.specs.Prelude.{◌-◌, ◌^◌, min, All, Contains, IfSome}
use Rattle.std.proofs.Math.Logic.{∥∥₁_elim}
use Rattle.std.proofs.Math.Nat.{le_trans}
use Rattle.std.proofs.Props.{props}
use Rattle.std.proofs.lemmas.Bool.Decides.{eqb_tells}
use Rattle.std.proofs.lemmas.List.Elements.{All-append, All-nil, All-contains, All-contains_itself, All-weaker, Contains-append_left, Contains-append_right, Contains-append_cases}
use Rattle.resource_table.specs.Handles.{Handle}
use Rattle.resource_table.specs.Steps.{Told, IsShut}
use Rattle.host_port.specs.declared.request.Request.{Request}
use Rattle.world_rules.specs.declared.entry.Entry.{Entry}
use Rattle.world_rules.specs.declared.entry.Side.{Side}
use Rattle.world_rules.specs.declared.entry.Side.TheVariants as SideIs
use Rattle.world_rules.specs.declared.life.Birth.{Birth}
use Rattle.world_rules.specs.declared.life.Birth.TheVariants.{Born, Refused}
use Rattle.world_rules.specs.declared.life.Ended.{Ended as EndMemory}
use Rattle.world_rules.specs.Allowed.{Allowed, GiveFits, SpawnFits}
use Rattle.world_rules.specs.Births.{Terms, BirthFits}
use Rattle.world_rules.specs.Book.{Book}
use Rattle.world_rules.specs.Calls.{HostCall, call_of}
use Rattle.world_rules.specs.Calls as CallIs
use Rattle.world_rules.specs.Lives.{Setting, IsRun, OwnTurnIsRun, IsTurnOfProgram, terms_of}
use Rattle.world_rules.specs.Placed.{IsPlaced}
use Rattle.world_rules.specs.Rules.{next, turned}
use Rattle.world_rules.specs.Sound.{IsSound}
use Rattle.world_rules.specs.Spawn.{next_birth}
use Rattle.world_rules.specs.Streams.{Streamed, nothing_streamed}
use Rattle.world_rules.specs.Told.{all_after, AllAllowed, told, EntriesAllowed}
use Rattle.world_rules.specs.Touches.{GoOn, counts_of}
use Rattle.world_rules.specs.Views.{Given, Giving, deed_of, want_of, wanted_in}
use Rattle.world_rules.specs.World.{World, Process, Stage, Out, first_world, is_away}
use Rattle.world_rules.specs.laws.BirthLaws.{none_is_some}
use Rattle.world_rules.specs.laws.ToldLaws.{told_last, extended_fold}
use Rattle.node_state.specs.Seats.{Meaning}
use Rattle.node_state.specs.Fits.{Brought, give_of, entry_of}
use Rattle.node_state.specs.Fits as OfOne
use Rattle.node_state.specs.Streaming.{BearsOut, IsOpen, IsClosed, streamed_beside, streamed_after, BroughtStreams, StreamsFit, arrived_as, Kept, StreamsStand, AreOwned}
use Rattle.node_laws.proofs.Apart.{fresh-number}
use Rattle.node_laws.proofs.Entries.{CountsGo}
use Rattle.node_laws.proofs.Gives.{with-away}
use Rattle.node_laws.proofs.Standing.{Ready, give-ready, same-beside, streams-in-hand}
use Rattle.node_laws.proofs.Streamed.{others-stream-nothing, gives-stream}
use Rattle.node_mirror.specs.Fits.{Records, TurnFits}
use Rattle.node_mirror.proofs.MayGive.{refusing}
use Rattle.process_store.specs.PassOn.{PassesOn, Stood}

-- The very streams of a node after a recorded entry: they bear out what was streamed.

-- WHAT IS BROUGHT BACK, where a spawn may be refused

-- the same setting, in which no process more may live
abbrev pub crowded : {P : Type 0} → Setting P → Setting P
crowded setting = record setting { live = 0 }

least : (n : ℕ) → 0 ≤ n
least n = omega arith

found_last : (xs : List Birth) (y : Birth) → slice_get (xs ++ y ∷ []) (length xs) ≡ Some y
found_last [] y = refl
found_last (x ∷ xs) y = found_last xs y

refused_spawn : {P : Type 0} (setting : Setting P) (births : List Birth) (call : Option HostCall) (stage : Stage) (w : World) (parent : Process) (request : Request)
    → next_birth births w ≡ Some (Refused 2) → SpawnFits (Some (terms_of (crowded setting))) births call stage w parent request SideIs.Nothing
refused_spawn setting births (Some CallIs.Spawn) (Out worker) w parent request found =
    subst (λ (birth : Option Birth). BirthFits (Some (terms_of (crowded setting))) w parent request SideIs.Nothing birth) (sym found)
    (inl (record { answer = refl; beside = refl; crowded = least _ }))
refused_spawn setting births _ _ w parent request found = tt

where_some : {A : Type 0} (o : Option A) (P : A → Type 0) → ((x : A) → P x) → IfSome o P
where_some None P all = tt
where_some (Some x) P all = all x

turn_by : {P : Type 0} (setting : Setting P) (p : Process) (give : Given) (owed : Option Request) → OwnTurnIsRun setting p give owed → OwnTurnIsRun (crowded setting) p give owed
turn_by setting p give None turn = record { program = turn.program; found = turn.found; turn = turn.turn }
turn_by setting p give (Some request) turn = tt

-- it fits as that of a node of one process does, in a setting and with a birth that refuse a spawn
pub fits_crowded : {E P : Type 0} (engines : Meaning E P) (setting : Setting P) (old : Book) (worker pid : ℕ) (brought : Brought E) → IsRun setting old
    → TurnFits engines setting old.births (told old) worker pid brought → OfOne.TurnFits engines (crowded setting) (refusing old.births) (told old) worker pid brought
fits_crowded engines setting old worker pid brought run fits =
    let w : World = told old in
    let give : Given = give_of worker pid brought in
    let found : next_birth (refusing old.births) w ≡ Some (Refused 2) =
    ap (λ (k : ℕ). slice_get (refusing old.births) k) (sym run.legal.births) ∙ found_last old.births (Refused 2) in
    record {
      allowed = fits.allowed (Some (terms_of (crowded setting))) (Refused 2 ∷ [])
          (where_some (wanted_in (want_of give.halt) (w.process pid).owed) _
          (λ request. refused_spawn setting (refusing old.births) (call_of request) (w.process pid).stage w (turned (w.process pid) give) request found));
      turn = turn_by setting (w.process pid) give (w.process pid).owed fits.turn;
      seated = record { stands = fits.seated.stands; start = fits.seated.start; part = fits.seated.part; closed = fits.seated.closed };
      phase = fits.phase;
      tries = fits.tries;
      pending = fits.pending;
      asked = fits.asked;
      retried = fits.retried;
    }

-- ONE ENTRY MORE

-- a journal that has a first birth
begins_with : (births : List Birth) (birth : Birth) → slice_get births 0 ≡ Some birth → (rest : List Birth) × (births ≡ birth ∷ rest)
begins_with [] birth found = absurd (none_is_some found)
begins_with (b ∷ rest) birth found = (rest, cc)

last_allowed : (terms : Option Terms) (births : List Birth) (w : World) (entries : List Entry) (entry : Entry) → AllAllowed terms births w (entries ++ entry ∷ [])
    → Allowed terms births (all_after births w entries) entry
last_allowed terms births w [] entry allowed = allowed.0
last_allowed terms births w (e ∷ es) entry allowed = last_allowed terms births (next births w e) es entry allowed.1

-- the entry of a journal that stands was allowed
recorded_allowed : (terms : Option Terms) (old new : Book) (entry : Entry) (birth : Birth) (births more : List Birth) → old.births ≡ birth ∷ births → new.births ≡ birth ∷ births ++ more
    → new.entries ≡ old.entries ++ entry ∷ [] → EntriesAllowed terms old → EntriesAllowed terms new → Allowed terms new.births (told old) entry
unfolding told EntriesAllowed
recorded_allowed terms old new entry birth births more before after entries legal allowed =
    let P : List Birth → Type 0 = λ bs. AllAllowed terms bs (first_world bs) old.entries in
    let Q : List Entry → Type 0 = λ es. AllAllowed terms new.births (first_world new.births) es in
    let same : all_after new.births (first_world new.births) old.entries ≡ all_after old.births (first_world old.births) old.entries =
    ap (λ (bs : List Birth). all_after bs (first_world bs) old.entries) after ∙ extended_fold terms birth births more old.entries (subst P before legal)
    ∙ ap (λ (bs : List Birth). all_after bs (first_world bs) old.entries) (sym before) in
    subst (λ (w : World). Allowed terms new.births w entry) same (last_allowed terms new.births (first_world new.births) old.entries entry (subst Q entries allowed))

-- the world of the longer journal is the next, and no stream number is given back
record Goes (old new : Book) (entry : Entry) : Type 0 where
  told_is : told new ≡ next new.births (told old) entry
  more : (told old).streams ≤ (told new).streams

goes : {P : Type 0} (setting : Setting P) (old new : Book) (entry : Entry) (births : List Birth) (ends : List EndMemory) → CountsGo → IsSound (told old) → Records old new entry births ends
    → IsRun setting old → IsRun setting new → Goes old new entry
goes setting old new entry births ends go sound records run after =
    let terms : Option Terms = Some (terms_of setting) in
    let begun = begins_with old.births (Born setting.first) run.legal.first in
    let longer : new.births ≡ Born setting.first ∷ begun.0 ++ births = records.births_are ∙ ap (λ (bs : List Birth). bs ++ births) begun.1 in
    let told_is : told new ≡ next new.births (told old) entry =
    told_last terms old new entry (Born setting.first) begun.0 births begun.1 longer records.entries run.legal.entries in
    let allowed : Allowed terms new.births (told old) entry =
    recorded_allowed terms old new entry (Born setting.first) begun.0 births begun.1 longer records.entries run.legal.entries after.legal.entries in
    record { told_is = told_is; more = subst (λ (v : World). (told old).streams ≤ v.streams) (sym told_is) (go terms new.births (told old) entry sound allowed).streams }

-- STREAMS THAT ARE SHUT

shut_closed : {S : Type 0} (tells : Told S) (streamed : ℕ → Streamed) (before now : Handle S) → IsOpen tells streamed before → IsShut tells before now → IsClosed tells streamed now
shut_closed tells streamed before now was_open shut =
    let bears : BearsOut tells (streamed now.number) before.stream = subst (λ (n : ℕ). BearsOut tells (streamed n) before.stream) (sym shut.number) was_open.bears_out in
    record {
      bears_out = record {
        taken = subst (λ (o : Option (List ℕ)). IfSome o (λ bytes. bytes ≡ (streamed now.number).taken)) (sym shut.shut.taken) bears.taken;
        put = subst (λ (o : Option (List ℕ)). IfSome o (λ bytes. bytes ≡ (streamed now.number).put)) (sym shut.shut.put) bears.put;
        faults = equal (streamed now.number).faults (tells.faults before.stream) (tells.faults now.stream) bears.faults shut.shut.faults;
        waits = later (streamed now.number).waits (tells.waits before.stream) (tells.waits now.stream) bears.waits shut.shut.waits;
        empties = later (min (streamed now.number).empties (2 ^ 64 - 1)) (tells.empties before.stream) (tells.empties now.stream) bears.empties shut.shut.empties;
      };
      down = shut.shut.down;
    }
  where
    equal : (a b c : ℕ) → a ≤ b → c ≡ b → a ≤ c
    equal a b c e f = omega (arith, e, f)

    later : (a b c : ℕ) → a ≤ b → b ≤ c → a ≤ c
    later a b c e f = omega (arith, e, f)

open_prop : {S : Type 0} (tells : Told S) (streamed : ℕ → Streamed) (handle : Handle S) → IsProp (IsOpen tells streamed handle)
open_prop tells streamed handle = hlevel props

closed_prop : {S : Type 0} (tells : Told S) (streamed : ℕ → Streamed) (handle : Handle S) → IsProp (IsClosed tells streamed handle)
closed_prop tells streamed handle = hlevel props

-- PASSED ON

-- what the streams must be, before they are passed on, for all to stand afterwards
record AllReady {S : Type 0} (tells : Told S) (streamed : ℕ → Streamed) (was : Kept S) (pool shed : List (Handle S)) : Type 0 where
  hands : (q : ℕ) → All (IsOpen tells streamed) (was.hands q)
  mail : (q : ℕ) → All (IsOpen tells streamed) (was.mail q)
  pool_open : All (IsOpen tells streamed) pool
  shed_closed : All (IsClosed tells streamed) shed
  closed : All (IsClosed tells streamed) was.closed

all_of : {X : Type 0} (P : X → Type 0) (xs : List X) → ((x : X) → Contains xs x → P x) → All P xs
all_of P xs each = All-weaker (Contains xs) P each xs (All-contains_itself xs)

stood_open : {S : Type 0} (tells : Told S) (streamed : ℕ → Streamed) (was : Kept S) (pool shed : List (Handle S)) → AllReady tells streamed was pool shed → (handle : Handle S) → Stood was pool handle
    → IsOpen tells streamed handle
stood_open tells streamed was pool shed ready handle stood = ∥∥₁_elim stood (open_prop tells streamed handle) by
  where
    by : ((pid : ℕ) × Contains (was.hands pid) handle) ⊎ ((pid : ℕ) × Contains (was.mail pid) handle) ⊎ (Contains pool handle) → IsOpen tells streamed handle
    by (inl hand) = All-contains (IsOpen tells streamed) (was.hands hand.0) handle (ready.hands hand.0) hand.1
    by (inr (inl mail)) = All-contains (IsOpen tells streamed) (was.mail mail.0) handle (ready.mail mail.0) mail.1
    by (inr (inr has)) = All-contains (IsOpen tells streamed) pool handle ready.pool_open has

passed_on : {S : Type 0} (tells : Told S) (v : World) (was is : Kept S) (pool shed : List (Handle S)) → AllReady tells v.streamed was pool shed → PassesOn tells was is pool shed
    → ((k : ℕ) → v.streams ≤ k → v.streamed k ≡ nothing_streamed) → StreamsStand tells v is
passed_on {S = S} tells v was is pool shed ready passes undrawn = record {
  hands = λ q. all_of (IsOpen tells v.streamed) (is.hands q) (λ h has. stood_open tells v.streamed was pool shed ready h (passes.in_hand q h has));
  mail = λ q. all_of (IsOpen tells v.streamed) (is.mail q) (λ h has. stood_open tells v.streamed was pool shed ready h (passes.in_mail q h has));
  closed = subst (λ (xs : List (Handle S)). All (IsClosed tells v.streamed) xs) (sym passes.closed) (All-append (IsClosed tells v.streamed) was.closed passes.more ready.closed more);
  undrawn = undrawn;
}
  where
    one : (h : Handle S) → (Contains shed h) ⊎ ((before : Handle S) × Stood was pool before × IsShut tells before h) → IsClosed tells v.streamed h
    one h (inl there) = All-contains (IsClosed tells v.streamed) shed h ready.shed_closed there
    one h (inr from) = shut_closed tells v.streamed from.0 h (stood_open tells v.streamed was pool shed ready from.0 from.1) from.2

    more : All (IsClosed tells v.streamed) passes.more
    more = all_of (IsClosed tells v.streamed) passes.more (λ h there. ∥∥₁_elim (passes.shut h there) (closed_prop tells v.streamed h) (one h))

-- AN ENTRY THAT IS NO GIVE

pub others_pass : {P S : Type 0} (setting : Setting P) (tells : Told S) (old new : Book) (was is : Kept S) (entry : Entry) (births : List Birth) (ends : List EndMemory) → CountsGo
    → IsSound (told old) → ((give : Given) → deed_of entry ≢ Giving give) → Records old new entry births ends → IsRun setting old → IsRun setting new
    → StreamsStand tells (told old) was → PassesOn tells was is [] [] → StreamsStand tells (told new) is
others_pass setting tells old new was is entry births ends go sound other records run after stands passes =
    let g : Goes old new entry = goes setting old new entry births ends go sound records run after in
    let same : (told new).streamed ≡ (told old).streamed = ap (λ (v : World). v.streamed) g.told_is ∙ others-stream-nothing new.births (told old) entry other in
    passed_on tells (told new) was is [] []
    (subst (λ (streamed : ℕ → Streamed). AllReady tells streamed was [] []) (sym same) (record {
      hands = stands.hands;
      mail = stands.mail;
      pool_open = All-nil (IsOpen tells (told old).streamed);
      shed_closed = All-nil (IsClosed tells (told old).streamed);
      closed = stands.closed;
    })) passes
    (λ k past. ap (λ (streamed : ℕ → Streamed). streamed k) same ∙ stands.undrawn k (le_trans g.more past))

-- A GIVE

streamed_set : (a b : ℕ → Streamed) → IsProp (a ≡ b)
streamed_set a b = hlevel props

-- the streams of the giver's mailbox are among those that are ready, and it has none in hand
all_ready : {S : Type 0} (tells : Told S) (streamed : ℕ → Streamed) (was : Kept S) (pid : ℕ) (hands come shed : List (Handle S)) → Ready tells streamed was pid (hands ++ was.mail pid ++ come) shed
    → was.hands pid ≡ [] → AllReady tells streamed was (hands ++ come) shed
all_ready {S = S} tells streamed was pid hands come shed ready none = record {
  hands = λ q. hand q (eqb_tells q pid);
  mail = λ q. post q (eqb_tells q pid);
  pool_open = all_of (IsOpen tells streamed) (hands ++ come) (λ h has. from h (Contains-append_cases hands come h has));
  shed_closed = ready.shed_closed;
  closed = ready.closed;
}
  where
    all : List (Handle S)
    all = hands ++ was.mail pid ++ come

    in_all : (h : Handle S) → Contains (hands ++ was.mail pid) h → IsOpen tells streamed h
    in_all h has = All-contains (IsOpen tells streamed) all h ready.pool_open (Contains-append_left (hands ++ was.mail pid) come h has)

    from : (h : Handle S) → Contains hands h ⊎ Contains come h → IsOpen tells streamed h
    from h (inl has) = in_all h (Contains-append_left hands (was.mail pid) h has)
    from h (inr has) = All-contains (IsOpen tells streamed) all h ready.pool_open (Contains-append_right (hands ++ was.mail pid) come h has)

    hand : (q : ℕ) → ((nat_eq q pid ≡ true) × (q ≡ pid)) ⊎ ((nat_eq q pid ≡ false) × (q ≢ pid)) → All (IsOpen tells streamed) (was.hands q)
    hand q (inl same) = subst (λ (xs : List (Handle S)). All (IsOpen tells streamed) xs) (sym (ap was.hands same.1 ∙ none)) (All-nil (IsOpen tells streamed))
    hand q (inr other) = ready.hands q other.1

    post : (q : ℕ) → ((nat_eq q pid ≡ true) × (q ≡ pid)) ⊎ ((nat_eq q pid ≡ false) × (q ≢ pid)) → All (IsOpen tells streamed) (was.mail q)
    post q (inl same) =
        subst (λ (n : ℕ). All (IsOpen tells streamed) (was.mail n)) (sym same.1)
        (all_of (IsOpen tells streamed) (was.mail pid) (λ h has. in_all h (Contains-append_right hands (was.mail pid) h has)))
    post q (inr other) = ready.mail q other.1

pub gives_pass : {E P S : Type 0} (engines : Meaning E P) (setting : Setting P) (tells : Told S) (old new : Book) (was is : Kept S) (worker pid : ℕ) (brought : Brought E)
    (streams : BroughtStreams S) (side : Side) (births : List Birth)
    (ends : List EndMemory) → CountsGo → IsSound (told old) → IsPlaced (told old) → TurnFits engines setting old.births (told old) worker pid brought
    → ∥ (side ≡ brought.side) ⊎ ((brought.side ≡ SideIs.Nothing) × (side ≡ SideIs.NoMemory)) ∥₁ → Records old new (entry_of worker pid brought side) births ends
    → IsRun setting old → IsRun setting new → StreamsStand tells (told old) was → AreOwned (told old) was
    → StreamsFit tells (streamed_after ((told old).process pid) (give_of worker pid brought) (told old).streamed) brought.side streams
    → PassesOn tells was is (streams.hands ++ arrived_as (told old).streams streams.arrived) streams.shed → StreamsStand tells (told new) is
gives_pass {E = E} {S = S} engines setting tells old new was is worker pid brought streams side births ends go sound placed fits beside records run later stands owned come passes =
    let w : World = told old in
    let entry : Entry = entry_of worker pid brought side in
    let g : Goes old new entry = goes setting old new entry births ends go sound records run later in
    let one : OfOne.TurnFits engines (crowded setting) (refusing old.births) w worker pid brought = fits_crowded engines setting old worker pid brought run fits in
    let after : ℕ → Streamed = streamed_after (w.process pid) (give_of worker pid brought) w.streamed in
    let o : Option Request = wanted_in (want_of brought.halt) (w.process pid).owed in
    let give : Given = record (give_of worker pid brought) { side = side } in
    let come_in : List (Handle S) = arrived_as w.streams streams.arrived in
    let came : streamed_beside o side w.streamed ≡ streamed_beside o brought.side w.streamed =
    ∥∥₁_elim beside (streamed_set (streamed_beside o side w.streamed) (streamed_beside o brought.side w.streamed)) (same-beside o side brought.side w.streamed) in
    let same : (told new).streamed ≡ after =
    ap (λ (v : World). v.streamed) g.told_is ∙ gives-stream new.births w give entry refl one.allowed.away ∙ came in
    let away : is_away (w.process pid).stage ≡ true = with-away (w.process pid).stage worker one.allowed.away in
    passed_on tells (told new) was is (streams.hands ++ come_in) streams.shed
    (subst (λ (streamed : ℕ → Streamed). AllReady tells streamed was (streams.hands ++ come_in) streams.shed) (sym same)
    (all_ready tells after was pid streams.hands come_in streams.shed
    (give-ready engines (crowded setting) tells (refusing old.births) w worker pid brought streams was sound placed one stands owned come) (owned.away pid away))) passes
    (λ k past. ap (λ (streamed : ℕ → Streamed). streamed k) same
    ∙ streams-in-hand engines (crowded setting) (refusing old.births) w worker pid brought sound placed one k (fresh-number w sound placed k pid (le_trans g.more past))
    ∙ stands.undrawn k (le_trans g.more past))
