use Rattle.std.specs.Prelude.{◌≡◌, ℕ, ◌+◌, ◌<◌, List, [], ◌∷◌, ◌++◌, length, slice_get, Option, Some, None, Bool, true, false, nat_eq, if◌then◌else◌, refl}
use Rattle.std.proofs.Common.{subst, sym, ◌∙◌, ap, length-append, arith}
use Rattle.std.proofs.lemmas.Bool.Decides.{nat_tests}
use Rattle.std.specs.Option.{option_map_or, unwrap_or}
use Rattle.std.proofs.lemmas.Option.{slice_get_within, slice_get-get_or, get_or_from_slice_get}
use Rattle.std.proofs.lemmas.List.{get_or_append_left}
use Rattle.host_port.specs.declared.request.Request.{Request}
use Rattle.world_rules.specs.declared.entry.Entry.{Entry}
use Rattle.world_rules.specs.declared.entry.Side.{Side}
use Rattle.world_rules.specs.declared.life.Birth.{Birth}
use Rattle.world_rules.specs.Views.{Given, Deed, Taking, Giving, Timing, EndingAll, deed_of, Want, Goes, Wants, Retries, Ends, want_of, wanted_in, is_starved, clock_in, is_pending}
use Rattle.world_rules.specs.Calls.{HostCall, call_of}
use Rattle.world_rules.specs.Calls as CallIs
use Rattle.world_rules.specs.Arrivals as Came
use Rattle.world_rules.specs.Changes.{with_arrival, reached}
use Rattle.world_rules.specs.World.{World, Process, Stage, Unborn, Ready, Out, Waiting, Doomed, Ended, put}
use Rattle.world_rules.specs.Spawn.{next_birth, spawned}
use Rattle.world_rules.specs.Time.{clocked, at_time}
use Rattle.world_rules.specs.Births.{Terms, BirthFits}
use Rattle.world_rules.specs.Allowed.{Allowed, DeedFits, GiveFits, GivesTurn, SpawnFits, WantFits, RetryEndsSo}
use Rattle.world_rules.specs.Rules.{call_performed, performed, asked, retried, halted, given, recorded, home, turned, starved_by, streamed_in, happened, next, with_row, queued, row_after, giver_of}
use Rattle.world_rules.specs.Told.{all_after, AllAllowed}

-- Births are read by performed spawns alone, and each spawn finds its own; so more births behind change no world that
-- was told.

-- AGREEMENT. Two lists of births tell the same of the next spawn, where a spawn is performed.

agree_on_call : (births longer : List Birth) (call : HostCall) (w : World) (pid : ℕ) (request : Request) (side : Side)
    → (call ≡ CallIs.Spawn → next_birth births w ≡ next_birth longer w)
    → call_performed births call w pid request side ≡ call_performed longer call w pid request side
agree_on_call births longer CallIs.Spawn w pid request side agree =
    ap (λ (b : Option Birth). spawned b w pid request) (agree refl)
agree_on_call births longer _ w pid request side agree = refl

agree_on_request : (births longer : List Birth) (call : Option HostCall) (w : World) (pid : ℕ) (request : Request)
    (side : Side)
    → (call ≡ Some CallIs.Spawn → next_birth births w ≡ next_birth longer w)
    → performed births call w pid request side ≡ performed longer call w pid request side
agree_on_request births longer None w pid request side agree = refl
agree_on_request births longer (Some call) w pid request side agree =
    agree_on_call births longer call w pid request side (λ same. agree (ap (λ (c : HostCall). Some c) same))

agree_on_ask : (births longer : List Birth) (pending : Bool) (w : World) (pid : ℕ) (request : Request) (side : Side)
    → (call_of request ≡ Some CallIs.Spawn → next_birth births w ≡ next_birth longer w)
    → asked pending births w pid request side ≡ asked pending longer w pid request side
agree_on_ask births longer true w pid request side agree = refl
agree_on_ask births longer false w pid request side agree =
    agree_on_request births longer (call_of request) w pid request side agree

agree_on_retry : (births longer : List Birth) (owed : Option Request) (w : World) (pid : ℕ) (side : Side)
    → ((request : Request) → owed ≡ Some request → call_of request ≡ Some CallIs.Spawn →
    next_birth births w ≡ next_birth longer w)
    → retried owed births w pid side ≡ retried owed longer w pid side
agree_on_retry births longer None w pid side agree = refl
agree_on_retry births longer (Some request) w pid side agree =
    agree_on_ask births longer (is_pending side) w pid request side (agree request refl)

agree_on_want : (births longer : List Birth) (want : Want) (w : World) (pid : ℕ) (side : Side)
    → ((request : Request) → wanted_in want (w.process pid).owed ≡ Some request →
    call_of request ≡ Some CallIs.Spawn → next_birth births w ≡ next_birth longer w)
    → halted want births w pid side ≡ halted want longer w pid side
agree_on_want births longer Goes w pid side agree = refl
agree_on_want births longer (Wants request) w pid side agree =
    agree_on_ask births longer (is_pending side) w pid request side (agree request refl)
agree_on_want births longer Retries w pid side agree =
    agree_on_retry births longer (w.process pid).owed w pid side agree
agree_on_want births longer (Ends end) w pid side agree = refl

nat_eq_same : (n : ℕ) → nat_eq n n ≡ true
nat_eq_same n = grind (arith, nat_tests)

-- WHAT IS RECORDED performs no spawn, and leaves what the giver owes.

pub put_here : (processes : ℕ → Process) (pid : ℕ) (p : Process) → put processes pid p pid ≡ p
put_here processes pid p = ap (λ (b : Bool). if b then p else processes pid) (nat_eq_same pid)

spawns_clocked : (clock : Option ℕ) (w : World) → (option_map_or (λ now. at_time now w) clock w).spawns ≡ w.spawns
spawns_clocked None w = refl
spawns_clocked (Some now) w = refl

process_clocked : (clock : Option ℕ) (w : World) → (option_map_or (λ now. at_time now w) clock w).process ≡ w.process
process_clocked None w = refl
process_clocked (Some now) w = refl

spawns_streamed : (request : Option Request) (give : Given) (w : World) → (streamed_in request give w).spawns ≡ w.spawns
spawns_streamed None give w = refl
spawns_streamed (Some request) give w = refl

process_streamed : (request : Option Request) (give : Given) (w : World) →
    (streamed_in request give w).process ≡ w.process
process_streamed None give w = refl
process_streamed (Some request) give w = refl

spawns_starved : (starved : Bool) (give : Given) (w : World)
    → (if starved then with_arrival w give.pid (Came.Starved (length give.calls)) else w).spawns ≡ w.spawns
spawns_starved true give w = refl
spawns_starved false give w = refl

owed_starved : (starved : Bool) (give : Given) (w : World)
    → ((if starved then with_arrival w give.pid (Came.Starved (length give.calls))
    else w).process give.pid).owed ≡ (w.process give.pid).owed
owed_starved true give w =
    ap (λ (p : Process). p.owed) (put_here w.process give.pid (reached (w.process give.pid) (Came.Starved
    (length give.calls))))
owed_starved false give w = refl

-- the request that a give wants, in the world before it
abbrev pub wanted_by : World → Given → Option Request
wanted_by w give = wanted_in (want_of give.halt) (w.process give.pid).owed

-- the world in which the time is set and what was streamed is counted
abbrev pub counted : World → Given → World
counted w give = streamed_in (wanted_by w give) give (clocked give.side w)

pub spawns_recorded : (w : World) (give : Given) → (recorded w give).spawns ≡ w.spawns
spawns_recorded w give =
    spawns_starved (is_starved give.halt) give (counted w give)
    ∙ spawns_streamed (wanted_by w give) give (clocked give.side w) ∙ spawns_clocked (clock_in give.side) w

pub process_counted : (w : World) (give : Given) → (counted w give).process ≡ w.process
process_counted w give =
    process_streamed (wanted_by w give) give (clocked give.side w) ∙ process_clocked (clock_in give.side) w

pub owed_home : (w : World) (give : Given) →
    ((home (recorded w give) give.pid).process give.pid).owed ≡ (w.process give.pid).owed
owed_home w give =
    let starved : World = starved_by (counted w give) give in
    ap (λ (p : Process). p.owed) (put_here (recorded w give).process give.pid (record
    ((recorded w give).process give.pid) { stage = Ready }))
    ∙ ap (λ (p : Process). p.owed) (put_here starved.process give.pid (turned (starved.process give.pid) give))
    ∙ owed_starved (is_starved give.halt) give (counted w give)
    ∙ ap (λ (ps : ℕ → Process). (ps give.pid).owed) (process_counted w give)

-- A SPAWN HAS ITS BIRTH where its Give is allowed.

pub none_is_some : {X : Type 0} {x : X} → None ≡ Some x → ⊥
none_is_some {X} same =
    let P : Option X → Type 0 = λ o. elim o as (λ _. Type 0) [ None ↦ Unit {0} | Some y ↦ ⊥ ] in subst P same tt

pub same_some : {X : Type 0} (x y : X) → Some x ≡ Some y → x ≡ y
same_some x y same = λ i. unwrap_or (same i) x

pub birth_found : (terms : Option Terms) (w : World) (parent : Process) (request : Request) (side : Side)
    (birth : Option Birth)
    → BirthFits terms w parent request side birth → (b : Birth) × (birth ≡ Some b)
birth_found terms w parent request side None fits = absurd fits
birth_found terms w parent request side (Some b) fits = (b, refl)

pub spawn_found : (terms : Option Terms) (births : List Birth) (call : Option HostCall) (stage : Stage)
    (worker : ℕ) (w : World) (parent : Process)
    (request : Request) (side : Side) → call ≡ Some CallIs.Spawn → stage ≡ Out worker →
    SpawnFits terms births call stage w parent request side
    → (b : Birth) × (next_birth births w ≡ Some b)
spawn_found terms births call stage worker w parent request side spawns out fits =
    let P : Option HostCall → Type 0 = λ c. SpawnFits terms births c stage w parent request side in
    let Q : Stage → Type 0 = λ s. SpawnFits terms births (Some CallIs.Spawn) s w parent request side in
    birth_found terms w parent request side (next_birth births w) (subst Q out (subst P spawns fits))

-- what comes beside the request that a give wants, for some parent
abbrev pub HasBirth : Option Terms → List Birth → World → Given → Request → Type 0
HasBirth terms births w give request =
    (parent : Process) × SpawnFits terms births (call_of request) (w.process give.pid).stage w parent request give.side

birth_of_other : (terms : Option Terms) (births : List Birth) (w : World) (give : Given) (parent : Process)
    (asked request : Request)
    → Some asked ≡ Some request →
    SpawnFits terms births (call_of asked) (w.process give.pid).stage w parent asked give.side
    → HasBirth terms births w give request
birth_of_other terms births w give parent asked request same fits =
    let P : Request → Type 0 = λ r. SpawnFits terms births (call_of r)
    (w.process give.pid).stage w parent r give.side in
    (parent, subst P (same_some asked request same) fits)

birth_of_want : (terms : Option Terms) (births : List Birth) (w : World) (p : Process) (give : Given) (want : Want)
    (request : Request)
    → WantFits terms births w p give want → wanted_in want None ≡ Some request → HasBirth terms births w give request
birth_of_want terms births w p give Goes request fits same = absurd (none_is_some same)
birth_of_want terms births w p give (Wants asked) request fits same =
    birth_of_other terms births w give (turned p give) asked request same fits.beside.birth
birth_of_want terms births w p give Retries request fits same = absurd fits
birth_of_want terms births w p give (Ends end) request fits same = absurd (none_is_some same)

birth_of_retry : (terms : Option Terms) (births : List Birth) (w : World) (p : Process) (give : Given)
    (owed : Request) (want : Want) (request : Request)
    → RetryEndsSo terms births w p give owed want → wanted_in want (Some owed) ≡ Some request →
    HasBirth terms births w give request
birth_of_retry terms births w p give owed Goes request fits same = absurd fits
birth_of_retry terms births w p give owed (Wants asked) request fits same = absurd fits
birth_of_retry terms births w p give owed Retries request fits same =
    birth_of_other terms births w give p owed request same fits.birth
birth_of_retry terms births w p give owed (Ends end) request fits same = absurd (none_is_some same)

pub birth_of_turn : (terms : Option Terms) (births : List Birth) (w : World) (p : Process) (give : Given)
    (owed : Option Request) (request : Request)
    → GivesTurn terms births w p give owed → wanted_in (want_of give.halt) owed ≡ Some request →
    HasBirth terms births w give request
birth_of_turn terms births w p give None request turn same =
    birth_of_want terms births w p give (want_of give.halt) request turn.halted same
birth_of_turn terms births w p give (Some owed) request turn same =
    birth_of_retry terms births w p give owed (want_of give.halt) request turn.halted same

-- MORE BIRTHS BEHIND

pub found_longer : (births more : List Birth) (k : ℕ) (b : Birth) → slice_get births k ≡ Some b →
    slice_get (births ++ more) k ≡ Some b
found_longer births more k b found =
    let within : k < length births = slice_get_within births k b found in
    let longer : k < length (births ++ more) = simp length-append (omega (arith, within)) in
    slice_get-get_or (births ++ more) k b longer
    ∙ ap (λ (c : Birth). Some c) (get_or_append_left births more b k within ∙ get_or_from_slice_get births k b b found)

agree_on_give : (terms : Option Terms) (births more : List Birth) (w : World) (give : Given) (stage : Stage)
    → (w.process give.pid).stage ≡ stage → GiveFits terms births w give →
    given stage births w give ≡ given stage (births ++ more) w give
agree_on_give terms births more w give Unborn at fits = refl
agree_on_give terms births more w give Ready at fits = refl
agree_on_give terms births more w give (Out worker) at fits =
    let after : World = home (recorded w give) give.pid in
    let same_place : (list : List Birth) →
    next_birth list after ≡ next_birth list w = λ list. ap (λ n. slice_get list (n + 1)) (spawns_recorded w give) in
    agree_on_want births (births ++ more) (want_of give.halt) after give.pid give.side
    (λ request wanted spawns.
    let has : HasBirth terms births w give request =
    birth_of_turn terms births w (w.process give.pid) give (w.process give.pid).owed request fits.turn
    (ap (λ (owed : Option Request). wanted_in (want_of give.halt) owed) (sym (owed_home w give)) ∙ wanted) in
    let found : (b : Birth) × (next_birth births w ≡ Some b) =
    spawn_found terms births (call_of request)
    (w.process give.pid).stage worker w has.0 request give.side spawns at has.1 in
    same_place births ∙ found.1 ∙ sym (found_longer births more (w.spawns + 1) found.0 found.1) ∙ sym (same_place
    (births ++ more)))
agree_on_give terms births more w give (Waiting request) at fits = refl
agree_on_give terms births more w give (Doomed worker end) at fits = refl
agree_on_give terms births more w give (Ended end) at fits = refl

agree_on_deed : (terms : Option Terms) (births more : List Birth) (w : World) (deed : Deed)
    → DeedFits terms births w deed → happened births w deed ≡ happened (births ++ more) w deed
agree_on_deed terms births more w (Taking worker pid) fits = refl
agree_on_deed terms births more w (Giving give) fits =
    agree_on_give terms births more w give (w.process give.pid).stage refl fits
agree_on_deed terms births more w (Timing now) fits = refl
agree_on_deed terms births more w (EndingAll cause) fits = refl

-- NEXT EXTENDS. Where an entry is allowed, more births behind change nothing of the world after it.
pub next_extends : (terms : Option Terms) (births more : List Birth) (w : World) (entry : Entry)
    → Allowed terms births w entry → next births w entry ≡ next (births ++ more) w entry
next_extends terms births more w entry allowed =
    ap (λ (after : World). with_row (row_after w (deed_of entry)) (queued w.ready (giver_of (deed_of entry)) after))
    (agree_on_deed terms births more w (deed_of entry) allowed)

-- TOLD EXTENDS. More births behind change no world that was told.
pub told_extends : (terms : Option Terms) (births more : List Birth) (w : World) (entries : List Entry)
    → AllAllowed terms births w entries → all_after births w entries ≡ all_after (births ++ more) w entries
told_extends terms births more w [] legal = refl
told_extends terms births more w (entry ∷ entries) legal =
    told_extends terms births more (next births w entry) entries legal.1
    ∙ ap (λ (after : World). all_after (births ++ more) after entries) (next_extends terms births more w entry legal.0)
