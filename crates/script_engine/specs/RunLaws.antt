-- Lemmas that prove the laws which `Engine` asks of a script: a law's proof cites files of specs/ alone.
use Rattle.std.proofs.Common.{◌≡◌, ◌≤◌, ℕ, ◌+◌, ◌-◌, ◌&&◌, suc, zero, IsSome, Any, List, [], ◌∷◌, drop, length, Option, Some, None, true, false, Bool, cond, slice_get, nat_le, arith, refl, sym, ◌∙◌}
use Rattle.std.proofs.lemmas.Bool.Decides.{nat_tests}
use Rattle.std.proofs.lemmas.Option.{slice_get_within, get_or_from_slice_get}
use Rattle.wasm_ops.specs.declared.trap.Trap.{Trap}
use Rattle.host_port.specs.declared.ask.Ask.{Ask}
use Rattle.host_port.specs.declared.call.Call.{Call}
use Rattle.host_port.specs.Standing.{State, Standing, Asking, Running, Owing, state_of, MayStep}
use Rattle.script_engine.specs.Runs.{are_of_first, state_before, state_after, state_left, bare, script_at, since, Follows, owing, phase_at}

-- a start has a run
pub begun_has_a_run : (asks : List Ask) (end : Option Trap) (most : ℕ) → IsSome (script_at asks end most [] 0)
begun_has_a_run asks end most = let low : nat_le 0 most ≡ true = grind (arith, nat_tests) in rw low refl

both_hold : (a b : Bool) (o : Option Standing) → IsSome (cond (a && b) o None) → b ≡ true
both_hold true true o h = refl
both_hold true false o h = absurd (cc)
both_hold false b o h = absurd (cc)

-- a run has burnt no more fuel than it may
pub keeps_to_fuel : (asks : List Ask) (end : Option Trap) (most : ℕ) (calls : List Call) (n : ℕ) →
    IsSome (script_at asks end most calls n) → n ≤ most
keeps_to_fuel asks end most calls n h =
    let within : nat_le n most ≡ true = both_hold _ (nat_le n most) _ h in
    grind (arith, nat_tests)

asking_next : (runs starts one : Bool) (left : List Ask) (end : Option Trap) (ask : Ask) →
    state_of (cond runs (bare (cond starts (Some (state_before left end)) (cond one (state_after left end) None))) None)
    ≡ Some (Asking ask) →
    slice_get left 0 ≡ Some ask
asking_next false starts one left end ask h = cc
asking_next true true one [] None ask h = cc
asking_next true true one [] (Some trap) ask h = cc
asking_next true true one (a ∷ left) end ask h = cc
asking_next true false false left end ask h = cc
asking_next true false true [] None ask h = cc
asking_next true false true [] (Some trap) ask h = cc
asking_next true false true (a ∷ left) end ask h = cc

-- what is next after k asks
pub slice_get-drop : (asks : List Ask) (k : ℕ) → slice_get (drop k asks) 0 ≡ slice_get asks k
slice_get-drop [] zero = refl
slice_get-drop [] (suc k) = refl
slice_get-drop (a ∷ asks) zero = refl
slice_get-drop (a ∷ asks) (suc k) = slice_get-drop asks k

-- a run asks what the script has
pub asks_what_it_may : (asks : List Ask) (end : Option Trap) (most : ℕ) (calls : List Call) (n : ℕ) (ask : Ask) →
    state_of (script_at asks end most calls n) ≡ Some (Asking ask) → Any (λ a. a.call ≡ ask.call) asks
asks_what_it_may asks end most calls n ask h =
    let k = length calls in
    let next : slice_get (drop k asks) 0 ≡ Some ask = asking_next _ _ _ (drop k asks) end ask h in
    let found : slice_get asks k ≡ Some ask = sym (slice_get-drop asks k) ∙ next in
    (k, ask, slice_get_within asks k ask found, get_or_from_slice_get asks k ask ask found, refl)

owing_is : (o : Option Ask) (ask : Ask) → owing o ≡ Owing ask → o ≡ Some ask
owing_is None ask h = cc
owing_is (Some a) ask h = cc

-- what is owed: the next ask, which was executed
pub phase_owing : (executed over : Bool) (o : Option Ask) (ask : Ask) →
    phase_at executed over o ≡ Owing ask → (executed ≡ true) × (o ≡ Some ask)
phase_owing true true o ask h = cc
phase_owing false true o ask h = cc
phase_owing false false o ask h = cc
phase_owing true false o ask h = (refl, owing_is o ask h)

-- what may be stepped: the next instruction was not executed
phase_running : (executed over : Bool) (o : Option Ask) → phase_at executed over o ≡ Running → executed ≡ false
phase_running true true o h = cc
phase_running false true o h = refl
phase_running false false o h = refl
phase_running true false None h = cc
phase_running true false (Some ask) h = cc

before_may_step : (left : List Ask) (end : Option Trap) → MayStep (Some (state_before left end))
before_may_step (ask ∷ left) end = tt
before_may_step [] (Some trap) = tt
before_may_step [] None = tt

asking_first : (left : List Ask) (end : Option Trap) (ask : Ask) → slice_get left 0 ≡ Some ask →
    state_after left end ≡ Some (Asking ask)
asking_first [] end ask h = cc
asking_first (a ∷ left) end ask h = cc

some_state : (o : Option State) → IsSome o → (s : State) × (bare o ≡ Some (record { state = s; memory = [] }))
some_state None h = absurd (cc)
some_state (Some s) h = (s, refl)

-- what follows where an engine's numbers show a run
module _ (asks : List Ask) (end : Option Trap) (most : ℕ) (calls : List Call) (fuel answered : ℕ) (executed : Bool)
    (fuel_left : ℕ) (follows : Follows asks end most calls fuel answered executed fuel_left) where
  -- the run stands where the numbers say
  pub at-follows : script_at asks end most calls fuel ≡ bare (state_left (drop answered asks) end (since executed))
  at-follows =
      let count : length calls ≡ answered = follows.as_many in
      let theirs : are_of_first asks calls ≡ true = follows.theirs in
      let used : fuel ≡ answered + since executed = follows.fuel_used in
      let kept : fuel + fuel_left ≡ most = follows.fuel_kept in
      let low : nat_le answered fuel ≡ true = grind (arith, nat_tests) in
      let high : nat_le fuel most ≡ true = grind (arith, nat_tests) in
      let rest : fuel - answered ≡ since executed = omega arith in
      rw (count, theirs, low, high, rest) refl

  -- there is a run, without a memory
  pub shows_memory : (s : State) × (script_at asks end most calls fuel ≡ Some (record { state = s; memory = [] }))
  shows_memory =
      let s = some_state (state_left (drop answered asks) end (since executed)) follows.there in
      (s.0, at-follows ∙ s.1)

  -- what is owed is the ask at which the run stands
  pub owes_its_ask : (over : Bool) (ask : Ask) → phase_at executed over (slice_get asks answered) ≡ Owing ask →
      state_of (script_at asks end most calls fuel) ≡ Some (Asking ask)
  owes_its_ask over ask phase =
      let owed = phase_owing executed over (slice_get asks answered) ask phase in
      let next : slice_get (drop answered asks) 0 ≡ Some ask = slice_get-drop asks answered ∙ owed.1 in
      let now : state_after (drop answered asks) end ≡ Some (Asking ask) = asking_first (drop answered asks) end ask next in
      rw (at-follows, owed.0, now) refl

  -- an engine that may be told to step stands where the run may be stepped
  pub running_may_step : (over : Bool) → phase_at executed over (slice_get asks answered) ≡ Running →
      MayStep (state_of (script_at asks end most calls fuel))
  running_may_step over phase =
      let idle : executed ≡ false = phase_running executed over (slice_get asks answered) phase in
      rw (at-follows, idle) (before_may_step (drop answered asks) end)
