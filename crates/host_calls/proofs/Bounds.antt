-- The end of a turn at one of its bounds.
use Rattle.std.proofs.Common.{◌≡◌, ◌≢◌, ℕ, ◌+◌, ◌-◌, ◌≤◌, List, ◌++◌, length, Option, Some, None, IsSome, refl, ◌∙◌, arith, add-zero, inl, inr}
use Rattle.std.proofs.lemmas.Bool.{cases_lt}
use Rattle.host_port.specs.declared.ask.Ask.{Ask}
use Rattle.host_port.specs.declared.call.Call.{Call}
use Rattle.host_port.specs.declared.start.Start.{Start}
use Rattle.host_port.specs.declared.request.Request.{Request}
use Rattle.host_port.specs.declared.reply.Reply.{Reply}
use Rattle.host_port.specs.declared.stop.Stop.{Stop}
use Rattle.host_port.specs.declared.stop.Stop.TheVariants as stop
use Rattle.host_port.specs.declared.stop.Spent.TheVariants as limit
use Rattle.host_port.specs.Standing.{Standing, State, Ready, Asking, Finished, Trapped, Exhausted, state_of, IsAtEnd, MayStep, Running, phase_after}
use Rattle.host_port.specs.Steps.{IsStep, StopsSo}
use Rattle.turn_rules.specs.Turn.{Sliced, EndsSo, IsUsedUp}
use Rattle.world_rules.specs.declared.halt.Halt.TheVariants as HaltIs
use Rattle.world_rules.specs.World.{Process}
use Rattle.world_rules.specs.Local.{local}
use Rattle.node_state.specs.Seats.{Meaning, Seat}
use Rattle.host_calls.proofs.Turns.{ending_of, is_turn, whole_turn, judged_after, phase_fits, part_fits}
use Rattle.host_calls.specs.Brings.{GoesTo, HasEnded, halt_after}

not_ready : (state : Option State) → IsAtEnd state → state ≡ Some Ready → ⊥
not_ready state ends ready = rw ready at ends

not_asking : (state : Option State) (ask : Ask) → IsAtEnd state → state ≡ Some (Asking ask) → ⊥
not_asking state ask ends asking = rw asking at ends

not_trapped : (state : Option State) (t : _) → IsAtEnd state → state ≡ Some (Trapped t) → ⊥
not_trapped state t ends trapped = rw trapped at ends

-- what a step tells at the end of the run
stops_at_end : {Part : Type 0} (host : Part → Request → Option (Reply × Part)) (state : Option State) (memory : List ℕ) (standing : Option Standing) (part : Part) (m most used answers b : ℕ)
    (reason : Stop) →
    state_of standing ≡ state → IsAtEnd state → StopsSo reason state m most 0 b → EndsSo host (ending_of reason memory) standing part m most used answers
unfolding ending_of
stops_at_end host state memory standing part m most used answers b stop.Slice is ends stops = absurd (not_ready state ends stops.0)
stops_at_end host state memory standing part m most used answers b (stop.Asks ask) is ends stops = absurd (not_asking state ask ends stops)
stops_at_end host state memory standing part m most used answers b stop.Done is ends stops = is ∙ stops
stops_at_end host state memory standing part m most used answers b (stop.Trap t) is ends stops = absurd (not_trapped state t ends stops)
stops_at_end host state memory standing part m most used answers b (stop.Spent limit.Fuel) is ends stops = absurd (not_ready state ends stops.0)
stops_at_end host state memory standing part m most used answers b (stop.Spent limit.Frames) is ends stops = (is ∙ stops, λ e. absurd (cc))
stops_at_end host state memory standing part m most used answers b (stop.Spent limit.Values) is ends stops = (is ∙ stops, λ e. absurd (cc))
stops_at_end host state memory standing part m most used answers b (stop.Spent limit.Traffic) is ends stops = absurd stops

ready_of : (state : Option State) → MayStep state → (IsAtEnd state → ⊥) → state ≡ Some Ready
ready_of None may not_end = absurd may
ready_of (Some Ready) may not_end = refl
ready_of (Some (Asking ask)) may not_end = absurd may
ready_of (Some Finished) may not_end = absurd (not_end tt)
ready_of (Some (Trapped t)) may not_end = absurd may
ready_of (Some (Exhausted s)) may not_end = absurd (not_end may)

stands_at_end : (standing : Option Standing) → IsAtEnd (state_of standing) → IsSome standing
stands_at_end None ends = absurd ends
stands_at_end (Some standing) ends = refl

none_executed : (at : ℕ → Option Standing) (most fuel budget n : ℕ) (reason : Stop) → IsStep at most fuel budget reason n → IsAtEnd (state_of (at fuel)) → n ≡ 0
none_executed at most fuel budget n reason step ends = elim (cases_lt 0 n) as (λ _. n ≡ 0) [
  | inl some ↦ let ready : IsSome (at fuel) → state_of (at fuel) ≡ Some Ready = rw add-zero at (step.ready 0 some) in absurd
      (not_ready (state_of (at fuel)) ends (ready (stands_at_end (at fuel) ends)))
  | inr below ↦ omega arith
]

not_asks : (state : Option State) (m most b : ℕ) (reason : Stop) → IsAtEnd state → StopsSo reason state m most 0 b → (ask : Ask) → reason ≢ stop.Asks ask
not_asks state m most b reason ends stops ask is = not_asking state ask ends (rw is at stops)

module _ {E P : Type 0} (engines : Meaning E P) (at : P → Start → List Call → ℕ → Option Standing) (program : P) (p : Process) where
  -- the run is at its end already
  pub ends_at_end : (seat : Seat E) (shed : List ℕ) (stepped : E) (further : List Call) (n : ℕ) (reason : Stop) →
      GoesTo engines at program p seat shed further → length further ≤ 64 → IsAtEnd (state_of (at program p.start (p.calls ++ further) seat.fuel)) →
      IsStep (at program p.start (p.calls ++ further)) p.start.limits.fuel seat.fuel 1 reason n →
      engines.stands stepped program p.start (p.calls ++ further) (seat.fuel + n) → engines.phase stepped ≡ phase_after reason →
      HasEnded engines at program p (record seat { engine = stepped }) shed further (halt_after reason)
  ends_at_end seat shed stepped further n reason to few ends step there phase =
      let none = none_executed (at program p.start (p.calls ++ further)) p.start.limits.fuel seat.fuel 1 n reason step ends in
      let stops = rw (none, add-zero) at step.stops in
      let there' = rw (none, add-zero) at there in
      let fueled : seat.fuel + n ≤ p.start.limits.fuel = step.fueled in
      let other = not_asks (state_of (at program p.start (p.calls ++ further) seat.fuel)) seat.fuel p.start.limits.fuel 1 reason ends stops in
      let ended = stops_at_end (local p.start) (state_of (at program p.start (p.calls ++ further) seat.fuel)) (engines.memory stepped)
      (at program p.start (p.calls ++ further) seat.fuel) seat.part seat.fuel p.start.limits.fuel (seat.fuel - p.fuel) (length further) 1 reason refl ends stops in
      record {
        gone = record { stands = there'; start = to.gone.start; grown = to.gone.grown; executed = to.gone.executed; local = to.gone.local };
        part = part_fits seat.part p further reason to.part;
        answered = few;
        turn = whole_turn (at program p.start) p further (seat.fuel - p.fuel) reason (engines.memory stepped) other
            (is_turn (at program p.start) (local p.start) p.start.limits.fuel p.part p.calls p.fuel seat.fuel further seat.part
            (ending_of reason (engines.memory stepped)) to.goes to.gone.grown to.gone.executed few (omega arith) ended);
        judged = judged_after p further reason;
        phase = phase_fits engines stepped reason phase;
        closed = to.closed;
      }

  -- another instruction is to come
  pub ends_sliced : (seat : Seat E) (shed : List ℕ) (further : List Call) →
      GoesTo engines at program p seat shed further → length further ≤ 64 → IsUsedUp (seat.fuel - p.fuel) (length further) →
      MayStep (state_of (at program p.start (p.calls ++ further) seat.fuel)) → (IsAtEnd (state_of (at program p.start (p.calls ++ further) seat.fuel)) → ⊥) →
      seat.fuel ≤ p.start.limits.fuel → engines.phase seat.engine ≡ Running → HasEnded engines at program p seat shed further HaltIs.Slice
  ends_sliced seat shed further to few up may not_end fueled running = record {
    gone = to.gone;
    part = to.part;
    closed = to.closed;
    answered = few;
    turn = record {
      ending = Sliced;
      halted = refl;
      turn = is_turn (at program p.start) (local p.start) p.start.limits.fuel p.part p.calls p.fuel seat.fuel further seat.part Sliced to.goes to.gone.grown to.gone.executed few fueled
          (ready_of (state_of (at program p.start (p.calls ++ further) seat.fuel)) may not_end, up);
    };
    judged = tt;
    phase = running;
  }
