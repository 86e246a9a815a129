-- A round of one worker, from rest to rest.
use Rattle.std.proofs.Common.{◌≡◌, ◌≢◌, ◌<◌, ◌≤◌, ◌||◌, ◌&&◌, not, ℕ, ◌+◌, List, [], ◌∷◌, ◌++◌, All, Some, None, Bool, true, false, cond, nat_eq, nat_lt, length, max, slice_get, refl, sym}
use Rattle.std.proofs.Common.{◌∙◌, ap, subst, arith, append_assoc, ◌⊎◌, inl, inr}
use Rattle.std.specs.List.{list_any}
use Rattle.std.proofs.lemmas.Bool.Decides.{eqb_tells}
use Rattle.std.proofs.lemmas.List.Elements.{All-push}
use Rattle.std.proofs.lemmas.List.Folds.{list_any-append}
use Rattle.host_port.specs.declared.call.Call.{Call}
use Rattle.host_port.specs.declared.request.Request.{Request}
use Rattle.world_rules.specs.declared.entry.Entry.{Entry}
use Rattle.world_rules.specs.declared.entry.Entry.TheVariants.{Take, Give, Tick, Stall, Idle, Starve}
use Rattle.world_rules.specs.declared.entry.Side.{Side}
use Rattle.world_rules.specs.declared.halt.Halt.{Halt}
use Rattle.world_rules.specs.declared.halt.End.{End}
use Rattle.world_rules.specs.declared.halt.End.TheVariants as EndIs
use Rattle.world_rules.specs.declared.life.Birth.{Birth}
use Rattle.world_rules.specs.Arrivals as Came
use Rattle.world_rules.specs.Calls.{call_of}
use Rattle.world_rules.specs.Views.{Given, Want, Goes, Wants, Retries, Ends, want_of, worker_of, is_pending}
use Rattle.world_rules.specs.World.{World, Process, Stage, Unborn, Ready, Out, Waiting, Doomed, Ended, first_world, is_ready, is_away, is_live, is_waiting, with_process, live_processes}
use Rattle.world_rules.specs.Changes.{readied, with_arrival}
use Rattle.world_rules.specs.Time.{has_deadline, is_due, timed_processes, due_processes, late_reply, timed_out, at_time, ticked}
use Rattle.world_rules.specs.Ends.{ended_from_outside, struck, all_end}
use Rattle.world_rules.specs.Rules.{queued, taken, given, next, with_row, row_with, is_early, is_pending_give}
use Rattle.world_rules.specs.Legal.{AllKeepRounds, TakesWhereReady, can_take}
use Rattle.world_rules.specs.Lives.{Setting}
use Rattle.node_state.specs.Held.{away_count}
use Rattle.node_laws.proofs.ReadyList.{true_is_not_false, nat_eq_other}
use Rattle.node_laws.proofs.Goes.{count-alone}
use Rattle.process_table.specs.Takes.{IsTimed}
use Rattle.lunatic_cli.specs.Statuses.{is_stall, is_idle, is_starve, AsksSomething, IsTurnOfFirst, EndsFirst, NoneEndsAll}
use Rattle.lunatic_cli.specs.Resting.{IsAtHome, IsResting, IsAwake}
use Rattle.lunatic_cli.proofs.GivenBack.{Becomes, IsEndedBy, GoesBy}

-- ENTRIES

-- no element passes in two lists, so none does in both
pub none-append : {X : Type 0} (p : X → Bool) (xs ys : List X) → list_any p xs ≡ false → list_any p ys ≡ false → list_any p (xs ++ ys) ≡ false
none-append p xs ys one two = list_any-append p xs ys ∙ ap (λ (b : Bool). b || list_any p ys) one ∙ two

-- one entry more that ends not all
none-more : (es : List Entry) (entry : Entry) → is_stall entry ≡ false → is_idle entry ≡ false → is_starve entry ≡ false → NoneEndsAll es → NoneEndsAll (es ++ entry ∷ [])
none-more es entry a b c none = record {
  stall = none-append is_stall es (entry ∷ []) none.stall (rw a refl);
  idle = none-append is_idle es (entry ∷ []) none.idle (rw b refl);
  starve = none-append is_starve es (entry ∷ []) none.starve (rw c refl);
}

-- one entry of worker 0 more
by-zero : (es : List Entry) (entry : Entry) → worker_of entry ≡ 0 → All (λ e. worker_of e ≡ 0) es → All (λ e. worker_of e ≡ 0) (es ++ entry ∷ [])
by-zero es entry zero_is all = All-push (λ e. worker_of e ≡ 0) es entry all zero_is

-- the rest stays where the world and the entries do
pub rest-same : {P : Type 0} (setting : Setting P) (births : List Birth) (w v : World) (es fs : List Entry) → v ≡ w → fs ≡ es → IsResting setting births w es → IsResting setting births v fs
rest-same setting births w v es fs same entries rest =
    subst (λ (x : World). IsResting setting births x fs) (sym same) (subst (λ (xs : List Entry). IsResting setting births w xs) (sym entries) rest)

pub awake-same : {P : Type 0} (setting : Setting P) (births : List Birth) (w v : World) (es fs : List Entry) → v ≡ w → fs ≡ es → IsAwake setting births w es → IsAwake setting births v fs
awake-same setting births w v es fs same entries rest =
    subst (λ (x : World). IsAwake setting births x fs) (sym same) (subst (λ (xs : List Entry). IsAwake setting births w xs) (sym entries) rest)

-- STAGES

is-ready : (stage : Stage) → is_ready stage ≡ true → stage ≡ Ready
is-ready Unborn h = true_is_not_false (sym h)
is-ready Ready h = refl
is-ready (Out worker) h = true_is_not_false (sym h)
is-ready (Waiting request) h = true_is_not_false (sym h)
is-ready (Doomed worker end) h = true_is_not_false (sym h)
is-ready (Ended end) h = true_is_not_false (sym h)

is-waiting : (stage : Stage) → is_waiting stage ≡ true → (request : Request) × (stage ≡ Waiting request)
is-waiting Unborn h = true_is_not_false (sym h)
is-waiting Ready h = true_is_not_false (sym h)
is-waiting (Out worker) h = true_is_not_false (sym h)
is-waiting (Waiting request) h = (request, refl)
is-waiting (Doomed worker end) h = true_is_not_false (sym h)
is-waiting (Ended end) h = true_is_not_false (sym h)

-- who is at home, live and not ready waits
waiting-of : (stage : Stage) → is_live stage ≡ true → is_away stage ≡ false → is_ready stage ≡ false → (request : Request) × (stage ≡ Waiting request)
waiting-of Unborn live home unready = true_is_not_false (sym live)
waiting-of Ready live home unready = true_is_not_false unready
waiting-of (Out worker) live home unready = true_is_not_false home
waiting-of (Waiting request) live home unready = (request, refl)
waiting-of (Doomed worker earlier) live home unready = true_is_not_false home
waiting-of (Ended earlier) live home unready = true_is_not_false (sym live)

both-true : (a b : Bool) → (a && b) ≡ true → a ≡ true
both-true true b h = refl
both-true false b h = true_is_not_false (sym h)

some-timed : (b : Bool) → 0 < length (cond {A = List ℕ} b (1 ∷ []) []) → b ≡ true
some-timed true h = refl
some-timed false h = absurd (omega arith)

-- who waits with a deadline is process 1
pub timed-waits : (w : World) → w.numbers_drawn ≡ 1 → IsTimed w → (request : Request) × ((w.process 1).stage ≡ Waiting request)
timed-waits w drawn timed =
    let one : timed_processes w ≡ cond (has_deadline (w.process 1)) (1 ∷ []) [] = rw drawn refl in
    let has : has_deadline (w.process 1) ≡ true = some-timed (has_deadline (w.process 1)) (subst (λ (xs : List ℕ). 0 < length xs) one timed) in
    is-waiting (w.process 1).stage (both-true (is_waiting (w.process 1).stage) _ has)

ended-not-waiting : {X : Type 0} (request : Request) (end : End) → Ended end ≡ Waiting request → X
ended-not-waiting request end e = absurd (cc)

-- where somebody waits the run goes on
pub timed-going : {P : Type 0} (setting : Setting P) (births : List Birth) (w : World) (es : List Entry) (over : Bool) → w.over ≡ over → IsResting setting births w es → IsTimed w → w.over ≡ false
timed-going setting births w es false is rest timed = is
timed-going setting births w es true is rest timed =
    let waits = timed-waits w rest.at_home.drawn timed in
    let ends = rest.ended is in
    ended-not-waiting waits.0 ends.end (sym ends.ended ∙ waits.1)

none-ready : (b : Bool) → cond {A = List ℕ} b (1 ∷ []) [] ≡ [] → b ≡ false
none-ready true e = absurd (let one : List ℕ = 1 ∷ [] in cc)
none-ready false e = refl

-- READ THE CLOCK

-- what a Tick makes of the world in which process 1 waits
pub record IsTickedTo (w u : World) (early : Bool) : Type 0 where
  pub stage : (u.process 1).stage ≡ cond early (w.process 1).stage Ready
  pub start : (u.process 1).start ≡ (w.process 1).start
  pub fuel : (u.process 1).fuel ≡ (w.process 1).fuel
  pub others : (q : ℕ) → q ≢ 1 → (u.process q).stage ≡ (w.process q).stage
  pub drawn : u.numbers_drawn ≡ w.numbers_drawn
  pub over : u.over ≡ w.over
  pub ready : u.ready ≡ cond early [] (1 ∷ [])
  pub row : u.row ≡ row_with early w.row
  pub owed : (u.process 1).owed ≡ cond early (w.process 1).owed None

-- process 1 with the answer of a wait that is over
abbrev woken : World → Request → World
woken w request =
    with_arrival (with_process w 1 (readied (w.process 1) request (late_reply (call_of request)))) 1 (Came.Answered (late_reply (call_of request)))

ticked-is : (w : World) (now : ℕ) (request : Request) → (w.process 1).stage ≡ Waiting request → due_processes (at_time now w) ≡ 1 ∷ [] → ticked w now ≡ woken (at_time now w) request
ticked-is w now request waits due_one = rw due_one (timed_is (w.process 1).stage waits)
  where
    timed_is : (stage : Stage) → stage ≡ Waiting request → timed_out stage (at_time now w) 1 ≡ woken (at_time now w) request
    timed_is stage is = rw is (rw waits refl)

early-is : (b : Bool) (w : World) (now : ℕ) → due_processes (at_time now w) ≡ cond b (1 ∷ []) [] → is_early w now ≡ not b
early-is true w now is = rw is refl
early-is false w now is = rw is refl

ticked-by : (b : Bool) (births : List Birth) (w : World) (now : ℕ) (request : Request) → w.numbers_drawn ≡ 1 → (w.process 1).stage ≡ Waiting request → w.ready ≡ [] →
    due_processes (at_time now w) ≡ cond b (1 ∷ []) [] → IsTickedTo w (next births w (Tick 0 now)) (not b)
ticked-by true births w now request drawn waits none due =
    let v : World = woken (at_time now w) request in
    let u : World = with_row 0 (queued w.ready [] v) in
    let is : next births w (Tick 0 now) ≡ u = (λ i. with_row (row_with (early-is true w now due i) w.row) (queued w.ready [] (ticked-is w now request waits due i))) in
    let at : IsTickedTo w u false = record {
      stage = refl;
      start = refl;
      fuel = refl;
      others = λ q other. rw (nat_eq_other q 1 other) refl;
      drawn = refl;
      over = refl;
      ready = rw (none, drawn) refl;
      row = refl;
      owed = refl;
    } in
    subst (λ (x : World). IsTickedTo w x false) (sym is) at
ticked-by false births w now request drawn waits none due =
    let v : World = at_time now w in
    let u : World = with_row (w.row + 1) (queued w.ready [] v) in
    let same : ticked w now ≡ v = rw due refl in
    let is : next births w (Tick 0 now) ≡ u = (λ i. with_row (row_with (early-is false w now due i) w.row) (queued w.ready [] (same i))) in
    let unready : is_ready (w.process 1).stage ≡ false = ap is_ready waits in
    let at : IsTickedTo w u true = record {
      stage = refl;
      start = refl;
      fuel = refl;
      others = λ q other. refl;
      drawn = refl;
      over = refl;
      ready = rw (none, drawn, unready) refl;
      row = refl;
      owed = refl;
    } in
    subst (λ (x : World). IsTickedTo w x true) (sym is) at

pub ticked-to : (births : List Birth) (w : World) (now : ℕ) (request : Request) → w.numbers_drawn ≡ 1 → (w.process 1).stage ≡ Waiting request → w.ready ≡ [] →
    (early : Bool) × IsTickedTo w (next births w (Tick 0 now)) early
ticked-to births w now request drawn waits none =
    let b : Bool = is_due (max w.time now) (w.process 1) in
    let due : due_processes (at_time now w) ≡ cond b (1 ∷ []) [] = rw drawn refl in
    (not b, ticked-by b births w now request drawn waits none due)

-- at home after a Tick
home-ticked : {P : Type 0} (setting : Setting P) (w u : World) (request : Request) (early : Bool) → IsAtHome setting w → w.over ≡ false → (w.process 1).stage ≡ Waiting request
    → IsTickedTo w u early → IsAtHome setting u
home-ticked setting w u request false home going waits to = record {
  drawn = to.drawn ∙ home.drawn;
  start = to.start ∙ home.start;
  others = λ q other. to.others q other ∙ home.others q other;
  home = ap is_away to.stage;
  ready = to.ready ∙ ap (λ (b : Bool). cond b (1 ∷ []) []) (sym (ap is_ready to.stage));
  waits = λ other e. let x : Ready ≡ Waiting other = sym to.stage ∙ e in absurd (cc);
  live = λ _. ap is_live to.stage;
}
home-ticked setting w u request true home going waits to = record {
  drawn = to.drawn ∙ home.drawn;
  start = to.start ∙ home.start;
  others = λ q other. to.others q other ∙ home.others q other;
  home = ap is_away (to.stage ∙ waits);
  ready = to.ready ∙ ap (λ (b : Bool). cond b (1 ∷ []) []) (sym (ap is_ready (to.stage ∙ waits)));
  waits = λ other e. home.waits request waits;
  live = λ _. ap is_live (to.stage ∙ waits);
}

-- TICK. The worker reads the clock where process 1 waits with a deadline.
pub awake-ticked : {P : Type 0} (setting : Setting P) (births : List Birth) (w : World) (es gs : List Entry) (now : ℕ) → IsResting setting births w es → w.over ≡ false → IsTimed w →
    gs ≡ es ++ Tick 0 now ∷ [] → IsAwake setting births (next births w (Tick 0 now)) gs
awake-ticked setting births w es gs now rest going timed more =
    let waits = timed-waits w rest.at_home.drawn timed in
    let none : w.ready ≡ [] = rest.at_home.ready ∙ ap (λ (s : Stage). cond (is_ready s) (1 ∷ []) []) waits.1 in
    let to = ticked-to births w now waits.0 rest.at_home.drawn waits.1 none in
    record {
      at_home = home-ticked setting w (next births w (Tick 0 now)) waits.0 to.0 rest.at_home going waits.1 to.1;
      rounds = λ rests takes h. rw (more, append_assoc) (rest.rounds (Tick 0 now ∷ rests) (takes, h));
      workers = rw more (by-zero es (Tick 0 now) refl rest.workers);
      asks = λ _ _. rest.at_home.waits waits.0 waits.1;
      none_ended = λ _. rw more (none-more es (Tick 0 now) refl refl refl (rest.none_ended going));
      ended = λ o. true_is_not_false (sym o ∙ to.1.over ∙ going);
    }

-- nobody waits with a deadline: the clock isn't read
pub awake-untimed : {P : Type 0} (setting : Setting P) (births : List Birth) (w : World) (es : List Entry) → IsResting setting births w es → IsAwake setting births w es
awake-untimed setting births w es rest = record {
  at_home = rest.at_home;
  rounds = λ more _ h. rest.rounds more h;
  workers = rest.workers;
  asks = rest.asks;
  none_ended = rest.none_ended;
  ended = rest.ended;
}

takes-none : (over : Bool) (ready : List ℕ) (es : List Entry) → ready ≡ [] → TakesWhereReady (not over && nat_lt 0 (length ready)) 0 es
takes-none true ready es none = tt
takes-none false ready es none = rw none tt

-- nothing is ready, and the run isn't idle: the worker rests
pub rest-none : {P : Type 0} (setting : Setting P) (births : List Birth) (w : World) (es : List Entry) → IsAwake setting births w es → w.ready ≡ [] → w.row < setting.idle
    → IsResting setting births w es
rest-none setting births w es awake none busy = record {
  at_home = awake.at_home;
  rounds = λ more h. awake.rounds more (takes-none w.over w.ready more none) h;
  workers = awake.workers;
  asks = λ _ long. absurd (omega (arith, busy, long));
  none_ended = awake.none_ended;
  ended = awake.ended;
}

-- the run is over
pub rest-over-now : {P : Type 0} (setting : Setting P) (births : List Birth) (w : World) (es : List Entry) → IsAwake setting births w es → w.over ≡ true → IsResting setting births w es
rest-over-now setting births w es awake over = record {
  at_home = awake.at_home;
  rounds = λ more h. awake.rounds more (subst (λ (b : Bool). TakesWhereReady (not b && nat_lt 0 (length w.ready)) 0 more) (sym over) tt) h;
  workers = awake.workers;
  asks = λ going _. true_is_not_false (sym over ∙ going);
  none_ended = awake.none_ended;
  ended = awake.ended;
}

-- TAKE

-- a run in which process 1 is out to worker 0, and nobody else was born
pub record IsOut {P : Type 0} (setting : Setting P) (w : World) : Type 0 where
  pub drawn : w.numbers_drawn ≡ 1
  pub start : (w.process 1).start ≡ setting.first
  pub others : (pid : ℕ) → pid ≢ 1 → (w.process pid).stage ≡ Unborn
  pub out : (w.process 1).stage ≡ Out 0
  pub ready : w.ready ≡ []
  pub going : w.over ≡ false

some-one : (pid : ℕ) → Some 1 ≡ Some pid → pid ≡ 1
some-one pid e = cc

none-some : {X : Type 0} (pid : ℕ) → None ≡ Some pid → X
none-some pid e = absurd (cc)

front-one : (b : Bool) (ready : List ℕ) (pid : ℕ) → ready ≡ cond b (1 ∷ []) [] → slice_get ready 0 ≡ Some pid → (pid ≡ 1) × (b ≡ true)
front-one true ready pid is front = (some-one pid (sym (ap (λ (xs : List ℕ). slice_get xs 0) is) ∙ front), refl)
front-one false ready pid is front = none-some pid (sym (ap (λ (xs : List ℕ). slice_get xs 0) is) ∙ front)

-- the process that is ready is process 1
pub front-is : {P : Type 0} (setting : Setting P) (w : World) (pid : ℕ) → IsAtHome setting w → slice_get w.ready 0 ≡ Some pid → pid ≡ 1
front-is setting w pid home front = (front-one (is_ready (w.process 1).stage) w.ready pid home.ready front).0

ready-taken : (w v : World) → w.ready ≡ 1 ∷ [] → v.numbers_drawn ≡ 1 → is_ready (v.process 1).stage ≡ false → (queued w.ready [] v).ready ≡ []
ready-taken w v one drawn out = rw (one, drawn, out) refl

pub out-taken : {P : Type 0} (setting : Setting P) (births : List Birth) (w : World) (pid : ℕ) → IsAtHome setting w → w.over ≡ false → slice_get w.ready 0 ≡ Some pid
    → IsOut setting (next births w (Take 0 1))
out-taken setting births w pid home going front =
    let is = front-one (is_ready (w.process 1).stage) w.ready pid home.ready front in
    record {
      drawn = home.drawn;
      start = home.start;
      others = λ q other. rw (nat_eq_other q 1 other) (home.others q other);
      out = refl;
      ready = ready-taken w (taken w 0 1) (home.ready ∙ ap (λ (b : Bool). cond b (1 ∷ []) []) is.1) home.drawn refl;
      going = going;
    }

-- GIVE

-- the ready list after the Give
ready-back : (earlier : List ℕ) (v : World) → earlier ≡ [] → v.numbers_drawn ≡ 1 → (queued earlier (1 ∷ []) v).ready ≡ cond (is_ready (v.process 1).stage) (1 ∷ []) []
ready-back earlier v none drawn = rw (none, drawn) refl

takes-front : (b : Bool) (es : List Entry) → TakesWhereReady b 0 (Take 0 1 ∷ es)
takes-front true es = (refl, tt)
takes-front false es = tt

-- the entries with a Take and its Give of worker 0
module _ {P : Type 0} (setting : Setting P) (births : List Birth) (w u : World) (es fs gs : List Entry) (calls : List Call) (fuel : ℕ) (halt : Halt) (side : Side)
    (awake : IsAwake setting births w es) (begun : w.over ≡ false) (is_taken : u ≡ next births w (Take 0 1)) (out : IsOut setting u)
    (took : fs ≡ es ++ Take 0 1 ∷ []) (gave : gs ≡ fs ++ Give 0 1 calls fuel halt side ∷ []) (some_idle : 0 < setting.idle) where
  give : Entry
  give = Give 0 1 calls fuel halt side

  gives-back : (more : List Entry) → AllKeepRounds births (next births u (Give 0 1 calls fuel halt side)) more → AllKeepRounds births (first_world births) (gs ++ more)
  gives-back more h =
      let kept = subst (λ (x : World). AllKeepRounds births (next births x (Give 0 1 calls fuel halt side)) more) is_taken h in
      rw (gave, took, append_assoc, append_assoc) (awake.rounds (Take 0 1 ∷ Give 0 1 calls fuel halt side ∷ more) (takes-front (can_take w) (Give 0 1 calls fuel halt side ∷ more)) (refl, (tt, kept)))

  workers-given : All (λ entry. worker_of entry ≡ 0) gs
  workers-given = rw (gave, took) (by-zero (es ++ Take 0 1 ∷ []) (Give 0 1 calls fuel halt side) refl (by-zero es (Take 0 1) refl awake.workers))

  none-taken : NoneEndsAll fs
  none-taken = rw took (none-more es (Take 0 1) refl refl refl (awake.none_ended begun))

  none-given : NoneEndsAll gs
  none-given = rw gave (none-more fs (Give 0 1 calls fuel halt side) refl refl refl none-taken)

  abbrev give_is : Given
  give_is = record { worker = 0; pid = 1; calls = calls; fuel = fuel; halt = halt; side = side }

  row-given : row_with (is_pending_give (u.process 1).stage side) u.row ≡ row_with (is_pending side) u.row
  row-given = ap (λ (s : Stage). row_with (is_pending_give s side) u.row) out.out

  -- the row has reached the idle limit only where a request can't be answered yet
  long-row : (pends : Bool) (row : ℕ) → is_pending side ≡ pends → setting.idle ≤ row_with pends row → is_pending side ≡ true
  long-row true row is long = is
  long-row false row is long = absurd (omega (arith, some_idle, long))

  -- process 1 goes on
  rest-on : (v : World) (p : Process) → v ≡ given (u.process 1).stage births u give_is →
      Becomes u v p → p.start ≡ (u.process 1).start → v.over ≡ u.over → is_live p.stage ≡ true → is_away p.stage ≡ false →
      ((request : Request) → p.stage ≡ Waiting request → AsksSomething setting) → (is_pending side ≡ true → AsksSomething setting) →
      IsResting setting births (next births u (Give 0 1 calls fuel halt side)) gs
  rest-on v p is alters started over live home waits pends =
      let drawn : v.numbers_drawn ≡ 1 = alters.drawn ∙ out.drawn in
      let x : World = with_row (row_with (is_pending_give (u.process 1).stage side) u.row) (queued u.ready (1 ∷ []) v) in
      let same : next births u (Give 0 1 calls fuel halt side) ≡ x = ap (λ (y : World). with_row (row_with (is_pending_give (u.process 1).stage side) u.row) (queued u.ready (1 ∷ []) y)) (sym is) in
      let at : IsAtHome setting x = record {
        drawn = drawn;
        start = ap (λ (y : Process). y.start) alters.at ∙ started ∙ out.start;
        others = λ q other. ap (λ (y : Process). y.stage) (alters.others q other) ∙ out.others q other;
        home = ap (λ (y : Process). is_away y.stage) alters.at ∙ home;
        ready = ready-back u.ready v out.ready drawn;
        waits = λ request e. waits request (sym (ap (λ (y : Process). y.stage) alters.at) ∙ e);
        live = λ _. ap (λ (y : Process). is_live y.stage) alters.at ∙ live;
      } in
      record {
        at_home = subst (λ (y : World). IsAtHome setting y) (sym same) at;
        rounds = gives-back;
        workers = workers-given;
        asks = λ _ long. pends (long-row (is_pending side) u.row refl (subst (λ (n : ℕ). setting.idle ≤ n) row-given long));
        none_ended = λ _. none-given;
        ended = λ o. true_is_not_false (sym o ∙ ap (λ (y : World). y.over) same ∙ over ∙ out.going);
      }

  -- process 1 ends by its halt
  rest-end : (v : World) (end : End) → v ≡ given (u.process 1).stage births u give_is →
      IsEndedBy end u v (u.process 1).start fuel → want_of halt ≡ Ends end → IsTurnOfFirst setting calls fuel halt → IsResting setting births (next births u (Give 0 1 calls fuel halt side)) gs
  rest-end v end is ends halts turn =
      let drawn : v.numbers_drawn ≡ 1 = ends.drawn ∙ out.drawn in
      let x : World = with_row (row_with (is_pending_give (u.process 1).stage side) u.row) (queued u.ready (1 ∷ []) v) in
      let same : next births u (Give 0 1 calls fuel halt side) ≡ x = ap (λ (y : World). with_row (row_with (is_pending_give (u.process 1).stage side) u.row) (queued u.ready (1 ∷ []) y)) (sym is) in
      let over : (next births u (Give 0 1 calls fuel halt side)).over ≡ true = ap (λ (y : World). y.over) same ∙ ends.over in
      let at : IsAtHome setting x = record {
        drawn = drawn;
        start = ends.start_is ∙ out.start;
        others = λ q other. ap (λ (y : Process). y.stage) (ends.others q other) ∙ out.others q other;
        home = ap is_away ends.stage;
        ready = ready-back u.ready v out.ready drawn;
        waits = λ request e. ended-not-waiting request end (sym ends.stage ∙ e);
        live = λ o. true_is_not_false (sym ends.over ∙ o);
      } in
      record {
        at_home = subst (λ (y : World). IsAtHome setting y) (sym same) at;
        rounds = gives-back;
        workers = workers-given;
        asks = λ o _. true_is_not_false (sym over ∙ o);
        none_ended = λ o. true_is_not_false (sym over ∙ o);
        ended = λ _. record {
          earlier = fs;
          last = Give 0 1 calls fuel halt side;
          entries_are = gave;
          none_earlier = none-taken;
          end = end;
          ended = ap (λ (y : World). (y.process 1).stage) same ∙ ends.stage;
          by = (halts, turn);
        };
      }

  -- GIVE. After the Give the run is at rest again.
  pub rest-given : (v : World) (want : Want) → want_of halt ≡ want → v ≡ given (u.process 1).stage births u give_is → GoesBy want u v (u.process 1).start fuel side →
      ((end : End) → want ≡ Ends end → IsTurnOfFirst setting calls fuel halt) → ((request : Request) → want ≡ Wants request → AsksSomething setting) →
      (is_pending side ≡ true → AsksSomething setting) → IsResting setting births (next births u (Give 0 1 calls fuel halt side)) gs
  rest-given v Goes wants is goes turn asks pends =
      rest-on v goes.process is goes.becomes goes.start_is goes.becomes.over (ap is_live goes.ready) (ap is_away goes.ready) (λ request e. let x : Ready ≡ Waiting request = sym goes.ready
      ∙ e in absurd (cc)) pends
  rest-given v (Wants request) wants is goes turn asks pends =
      rest-on v goes.process is goes.becomes goes.start_is goes.becomes.over
      (elim goes.stage as (λ _. is_live goes.process.stage ≡ true) [ inl e ↦ ap is_live e | inr e ↦ ap is_live e ])
      (elim goes.stage as (λ _. is_away goes.process.stage ≡ false) [ inl e ↦ ap is_away e | inr e ↦ ap is_away e ])
      (λ _ _. asks request refl) pends
  rest-given v Retries wants is goes turn asks pends =
      rest-on v goes.process is goes.becomes goes.start_is goes.becomes.over (ap is_live goes.ready) (ap is_away goes.ready) (λ request e. let x : Ready ≡ Waiting request = sym goes.ready
      ∙ e in absurd (cc)) pends
  rest-given v (Ends end) wants is goes turn asks pends = rest-end v end is goes wants (turn end refl)

-- END OF ALL

struck-home : (stage : Stage) (w : World) (end : End) → is_live stage ≡ true → is_away stage ≡ false → struck stage w 1 end ≡ ended_from_outside w 1 end
struck-home Unborn w end live home = true_is_not_false (sym live)
struck-home Ready w end live home = refl
struck-home (Out worker) w end live home = true_is_not_false home
struck-home (Waiting request) w end live home = refl
struck-home (Doomed worker earlier) w end live home = true_is_not_false home
struck-home (Ended earlier) w end live home = true_is_not_false (sym live)

live-is : (w : World) → w.numbers_drawn ≡ 1 → is_live (w.process 1).stage ≡ true → live_processes w ≡ 1 ∷ []
live-is w drawn live = rw (drawn, live) refl

all-end-is : (w : World) (end : End) → w.numbers_drawn ≡ 1 → is_live (w.process 1).stage ≡ true → is_away (w.process 1).stage ≡ false
    → all_end w end ≡ record (ended_from_outside w 1 end) { over = true }
all-end-is w end drawn live home =
    let one : live_processes w ≡ 1 ∷ [] = live-is w drawn live in
    let s : struck (w.process 1).stage w 1 end ≡ ended_from_outside w 1 end = struck-home (w.process 1).stage w end live home in
    rw (one, s) refl

ready-none : (b : Bool) (w v : World) → w.ready ≡ cond b (1 ∷ []) [] → v.numbers_drawn ≡ 1 → is_ready (v.process 1).stage ≡ false → (queued w.ready [] v).ready ≡ []
ready-none true w v is drawn out = rw (is, drawn, out) refl
ready-none false w v is drawn out = rw (is, drawn, out) refl

-- an entry that ends all
rest-all : {P : Type 0} (setting : Setting P) (births : List Birth) (w : World) (es gs : List Entry) (entry : Entry) (end : End) → IsAtHome setting w → w.over ≡ false → NoneEndsAll es →
    next births w entry ≡ with_row 0 (queued w.ready [] (all_end w end)) → gs ≡ es ++ entry ∷ [] → EndsFirst setting end entry → worker_of entry ≡ 0 → All (λ e. worker_of e ≡ 0) es →
    ((more : List Entry) → AllKeepRounds births (next births w entry) more → AllKeepRounds births (first_world births) (es ++ entry ∷ more)) → IsResting setting births (next births w entry) gs
rest-all setting births w es gs entry end home going none becomes more by zero_is workers before =
    let v : World = record (ended_from_outside w 1 end) { over = true } in
    let x : World = with_row 0 (queued w.ready [] v) in
    let is : next births w entry ≡ x = becomes ∙ ap (λ (y : World). with_row 0 (queued w.ready [] y)) (all-end-is w end home.drawn (home.live going) home.home) in
    let over : (next births w entry).over ≡ true = ap (λ (y : World). y.over) is in
    let at : IsAtHome setting x = record {
      drawn = home.drawn;
      start = home.start;
      others = λ q other. rw (nat_eq_other q 1 other) (home.others q other);
      home = refl;
      ready = ready-none (is_ready (w.process 1).stage) w v home.ready home.drawn refl;
      waits = λ request e. ended-not-waiting request end e;
      live = λ o. true_is_not_false o;
    } in
    record {
      at_home = subst (λ (y : World). IsAtHome setting y) (sym is) at;
      rounds = λ rests h. rw (more, append_assoc) (before rests h);
      workers = rw more (by-zero es entry zero_is workers);
      asks = λ o _. true_is_not_false (sym over ∙ o);
      none_ended = λ o. true_is_not_false (sym over ∙ o);
      ended = λ _. record {
        earlier = es;
        last = entry;
        entries_are = more;
        none_earlier = none;
        end = end;
        ended = ap (λ (y : World). (y.process 1).stage) is;
        by = by;
      };
    }

pub rest-stall : {P : Type 0} (setting : Setting P) (births : List Birth) (w : World) (es gs : List Entry) → IsAwake setting births w es → w.over ≡ false → w.ready ≡ [] → gs ≡ es ++ Stall 0 ∷ []
    → IsResting setting births (next births w (Stall 0)) gs
rest-stall setting births w es gs awake going none more =
    let home = awake.at_home in
    let unready = none-ready (is_ready (w.process 1).stage) (sym home.ready ∙ none) in
    let waits = waiting-of (w.process 1).stage (home.live going) home.home unready in
    rest-all setting births w es gs (Stall 0) EndIs.Stalled home going (awake.none_ended going) refl more (refl, home.waits waits.0 waits.1) refl awake.workers
    (λ rests h. awake.rounds (Stall 0 ∷ rests) (takes-none w.over w.ready (Stall 0 ∷ rests) none) (tt, h))

takes-idle : (b : Bool) (es : List Entry) → TakesWhereReady b 0 (Idle 0 ∷ es)
takes-idle true es = (refl, tt)
takes-idle false es = tt

pub rest-idle : {P : Type 0} (setting : Setting P) (births : List Birth) (w : World) (es gs : List Entry) → IsAwake setting births w es → w.over ≡ false → setting.idle ≤ w.row
    → gs ≡ es ++ Idle 0 ∷ [] → IsResting setting births (next births w (Idle 0)) gs
rest-idle setting births w es gs awake going long more =
    rest-all setting births w es gs (Idle 0) EndIs.Idle awake.at_home going (awake.none_ended going) refl more (refl, awake.asks going long) refl awake.workers
    (λ rests h. awake.rounds (Idle 0 ∷ rests) (takes-idle (can_take w) rests) (tt, h))

pub rest-starve : {P : Type 0} (setting : Setting P) (births : List Birth) (w : World) (es gs : List Entry) → IsResting setting births w es → w.over ≡ false → gs ≡ es ++ Starve 0 ∷ []
    → IsResting setting births (next births w (Starve 0)) gs
rest-starve setting births w es gs rest going more =
    rest-all setting births w es gs (Starve 0) EndIs.NoMemory rest.at_home going (rest.none_ended going) refl more refl refl rest.workers
    (λ rests h. rest.rounds (Starve 0 ∷ rests) (tt, h))

-- nobody is away at rest

pub nobody-out : {P : Type 0} (setting : Setting P) (w : World) → IsAtHome setting w → away_count w.process w.numbers_drawn ≡ 0
nobody-out setting w home = count-alone w home.drawn ∙ ap (λ (b : Bool). cond b 1 0) home.home

pub all-home : {P : Type 0} (setting : Setting P) (w : World) → IsAtHome setting w → (pid : ℕ) → is_away (w.process pid).stage ≡ false
all-home setting w home pid =
    one (eqb_tells pid 1)
  where
    one : ((nat_eq pid 1 ≡ true) × (pid ≡ 1)) ⊎ ((nat_eq pid 1 ≡ false) × (pid ≢ 1)) → is_away (w.process pid).stage ≡ false
    one (inl same) = subst (λ (k : ℕ). is_away (w.process k).stage ≡ false) (sym same.1) home.home
    one (inr other) = ap is_away (home.others pid other.1)
