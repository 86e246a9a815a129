-- What a turn comes to.
use Rattle.std.proofs.Common.{◌≡◌, ◌≢◌, ℕ, ◌+◌, ◌-◌, ◌<◌, ◌≤◌, List, [], ◌∷◌, ◌++◌, length, Option, Some, None, option_map, Bool, true, false, refl, sym, ◌∙◌, ap, subst, arith, zero-add, append_assoc, append-nil, inl, if◌then◌else◌}
use Rattle.host_port.specs.declared.ask.Ask.{Ask}
use Rattle.host_port.specs.declared.call.Call.{Call}
use Rattle.host_port.specs.declared.start.Start.{Start}
use Rattle.host_port.specs.declared.request.Request.{Request}
use Rattle.host_port.specs.declared.reply.Reply.{Reply}
use Rattle.host_port.specs.declared.stop.Stop.{Stop}
use Rattle.host_port.specs.declared.stop.Stop.TheVariants as stop
use Rattle.host_port.specs.declared.stop.Spent.{Spent}
use Rattle.host_port.specs.declared.stop.Spent.TheVariants as limit
use Rattle.host_port.specs.Standing.{Standing, state_of, Owing, phase_after}
use Rattle.host_port.specs.Steps.{IsStep, StopsSo, RunsOut}
use Rattle.host_port.specs.Areas.{request_of}
use Rattle.turn_rules.specs.Turn.{Ending, Sliced, Meets, Returns, Traps, Exceeds, Requests, GoesOn, EndsSo, IsTurn, IsCutShort}
use Rattle.turn_rules.proofs.StepLaws.{IsStep-executes, spent-ends}
use Rattle.turn_rules.proofs.TurnLaws.{GoesOn-executes, GoesOn-answers}
use Rattle.world_rules.specs.declared.halt.Halt.TheVariants as HaltIs
use Rattle.world_rules.specs.declared.halt.HostFault.{HostFault}
use Rattle.world_rules.specs.World.{Process}
use Rattle.world_rules.specs.Part.{Part}
use Rattle.world_rules.specs.Kinds.{is_local}
use Rattle.world_rules.specs.Judge.{Judgement, Fit, Overdrawn, Faulty, judge, charged}
use Rattle.world_rules.specs.Calls.{call_of}
use Rattle.world_rules.specs.Handles.{local_closings, closings_of}
use Rattle.world_rules.specs.Local.{local, answer_of, if_fit, part_of, part_after, AreLocal}
use Rattle.world_rules.specs.Lives.{IsTurnOf, SpentSo}
use Rattle.node_state.specs.Seats.{Meaning, Seat}
use Rattle.node_state.specs.Fits.{PartFits}
use Rattle.host_calls.specs.Turning.{AsksWell}
use Rattle.host_calls.specs.Brings.{IsAt, GoesTo, HasEnded, EngineFits, IsJudged, turn_part, halt_after}

-- the ending of a turn that stopped so
unfoldable pub ending_of : Stop → List ℕ → Ending
ending_of stop.Slice memory = Sliced
ending_of (stop.Asks ask) memory = Meets (request_of memory ask)
ending_of stop.Done memory = Returns
ending_of (stop.Trap trap) memory = Traps trap
ending_of (stop.Spent spent) memory = Exceeds spent

-- a turn, by the fuel at its end
pub is_turn : {Part : Type 0} (at : List Call → ℕ → Option Standing) (host : Part → Request → Option (Reply × Part)) (most : ℕ) (part : Part) (calls : List Call) (n m : ℕ) (further : List Call)
    (after : Part) (ending : Ending) →
    GoesOn at host part calls 0 n further m after → n ≤ m → m ≤ n + 10000 → length further ≤ 64 → m ≤ most →
    EndsSo host ending (at (calls ++ further) m) after m most (m - n) (length further) → IsTurn at host most part calls n further (m - n) ending
is_turn at host most part calls n m further after ending goes grown within few fueled ends =
    let back : n + (m - n) ≡ m = omega arith in
    record { after = after; goes = rw back goes; within = omega arith; few = few; fueled = omega arith; ends = rw back ends }

is_cut_short : {Part : Type 0} (at : List Call → ℕ → Option Standing) (host : Part → Request → Option (Reply × Part)) (most : ℕ) (part : Part) (calls : List Call) (n m : ℕ) (further : List Call)
    (after : Part) (request : Request) →
    GoesOn at host part calls 0 n further m after → n ≤ m → m ≤ n + 10000 → length further < 64 → m ≤ most →
    Requests (at (calls ++ further) m) request → IsCutShort at host most part calls n further (m - n)
is_cut_short at host most part calls n m further after request goes grown within few fueled meets =
    let back : n + (m - n) ≡ m = omega arith in
    record { after = after; request = request; goes = rw back goes; within = omega arith; few = few; fueled = omega arith; meets = rw back meets }

-- a limit of the run that ends it; traffic is none
spent_so : (start : Start) (after : Part) (spent : Spent) → spent ≢ limit.Traffic → SpentSo start after spent (Exceeds spent)
spent_so start after limit.Fuel other = refl
spent_so start after limit.Frames other = refl
spent_so start after limit.Values other = refl
spent_so start after limit.Traffic other = absurd (other refl)

-- no run stops for its traffic
pub no_traffic : (spent : Spent) (state : Option _) (fuel most used budget : ℕ) → RunsOut spent state fuel most used budget → spent ≢ limit.Traffic
no_traffic limit.Fuel state fuel most used budget out e = cc
no_traffic limit.Frames state fuel most used budget out e = cc
no_traffic limit.Values state fuel most used budget out e = cc
no_traffic limit.Traffic state fuel most used budget out e = out

-- a turn that stopped at no ask has the halt of that
pub whole_turn : (at : List Call → ℕ → Option Standing) (p : Process) (calls : List Call) (burnt : ℕ) (reason : Stop) (memory : List ℕ) → ((ask : Ask) → reason ≢ stop.Asks ask) →
    IsTurn at (local p.start) p.start.limits.fuel p.part p.calls p.fuel calls burnt (ending_of reason memory) → IsTurnOf at p calls burnt (halt_after reason)
unfolding ending_of
whole_turn at p calls burnt stop.Slice memory other turn = record { ending = Sliced; turn = turn; halted = refl }
whole_turn at p calls burnt (stop.Asks ask) memory other turn = absurd (other ask refl)
whole_turn at p calls burnt stop.Done memory other turn = record { ending = Returns; turn = turn; halted = refl }
whole_turn at p calls burnt (stop.Trap trap) memory other turn = record { ending = Traps trap; turn = turn; halted = refl }
whole_turn at p calls burnt (stop.Spent spent) memory other turn = record {
  ending = Exceeds spent;
  turn = turn;
  halted = spent_so p.start turn.after spent (no_traffic spent (state_of (at (p.calls ++ calls) (p.fuel + burnt))) (p.fuel + burnt) p.start.limits.fuel burnt 10000 turn.ends.0);
}

pub judged_after : (p : Process) (calls : List Call) (reason : Stop) → IsJudged p calls (halt_after reason)
judged_after p calls stop.Slice = tt
judged_after p calls (stop.Asks ask) = tt
judged_after p calls stop.Done = tt
judged_after p calls (stop.Trap trap) = tt
judged_after p calls (stop.Spent spent) = tt

pub phase_fits : {E P : Type 0} (engines : Meaning E P) (engine : E) (reason : Stop) → engines.phase engine ≡ phase_after reason → EngineFits engines engine (halt_after reason)
phase_fits engines engine stop.Slice is = is
phase_fits engines engine (stop.Asks ask) is = tt
phase_fits engines engine stop.Done is = tt
phase_fits engines engine (stop.Trap trap) is = tt
phase_fits engines engine (stop.Spent spent) is = tt

-- a step that stopped at no ask asks nothing
pub asks_nothing : (memory : List ℕ) (part : Part) (answers : ℕ) (reason : Stop) → AsksWell memory part answers (halt_after reason)
asks_nothing memory part answers stop.Slice = tt
asks_nothing memory part answers (stop.Asks ask) = tt
asks_nothing memory part answers stop.Done = tt
asks_nothing memory part answers (stop.Trap trap) = tt
asks_nothing memory part answers (stop.Spent spent) = tt

-- but for its traffic
pub traffic_alone : (part after : Part) → part ≡ after → part ≡ record after { traffic = part.traffic }
traffic_alone part after is = subst (λ (q : Part). part ≡ record q { traffic = part.traffic }) is refl

-- a turn that stopped at no ask leaves the part that its calls left
pub part_fits : (part : Part) (p : Process) (calls : List Call) (reason : Stop) → part ≡ part_after p.start p.part calls → PartFits part (halt_after reason) (turn_part p calls (halt_after reason))
part_fits part p calls stop.Slice is = is
part_fits part p calls (stop.Asks ask) is = traffic_alone part (part_after p.start p.part calls) is
part_fits part p calls stop.Done is = is
part_fits part p calls (stop.Trap trap) is = is
part_fits part p calls (stop.Spent spent) is = is

-- a step that stopped at no ask ends the turn
stop_ends : {Part : Type 0} (host : Part → Request → Option (Reply × Part)) (standing : Option Standing) (part : Part) (memory : List ℕ) (m most before n answers : ℕ) (reason : Stop) →
    ((ask : Ask) → reason ≢ stop.Asks ask) → before ≤ 10000 → n ≤ 10000 - before → answers < 64 →
    StopsSo reason (state_of standing) m most n (10000 - before) → EndsSo host (ending_of reason memory) standing part m most (before + n) answers
unfolding ending_of
stop_ends host standing part memory m most before n answers stop.Slice other little within few stops =
    let full : 10000 - before < n + 1 = stops.1 in
    (stops.0, inl (omega arith))
stop_ends host standing part memory m most before n answers (stop.Asks ask) other little within few stops = absurd (other ask refl)
stop_ends host standing part memory m most before n answers stop.Done other little within few stops = stops
stop_ends host standing part memory m most before n answers (stop.Trap t) other little within few stops = stops
stop_ends host standing part memory m most before n answers (stop.Spent s) other little within few stops = spent-ends host s standing part m most before n answers little few stops

-- one local call more at the end
part_after-last : (start : Start) (part : Part) (calls : List Call) (call : Call) →
    part_after start part (calls ++ call ∷ []) ≡ part_of (part_after start part calls) (local start (part_after start part calls) call.request)
part_after-last start part [] call = refl
part_after-last start part (c ∷ calls) call = part_after-last start (part_of part (local start part c.request)) calls call

closings_of-last : (start : Start) (part : Part) (calls : List Call) (call : Call) →
    closings_of start part (calls ++ call ∷ []) ≡ closings_of start part calls ++ local_closings (call_of call.request) (part_after start part calls) call.request
closings_of-last start part [] call = append-nil (local_closings (call_of call.request) part call.request)
closings_of-last start part (c ∷ calls) call =
    ap (λ (s : List ℕ). local_closings (call_of c.request) part c.request ++ s) (closings_of-last start (part_of part (local start part c.request)) calls call)
    ∙ sym (append_assoc (local_closings (call_of c.request) part c.request) (closings_of start (part_of part (local start part c.request)) calls)
    (local_closings (call_of call.request) (part_after start (part_of part (local start part c.request)) calls) call.request))

AreLocal-last : (start : Start) (part : Part) (calls : List Call) (call : Call) → AreLocal start part calls →
    option_map (λ (answer : Reply × Part). answer.0) (local start (part_after start part calls) call.request) ≡ Some call.reply → AreLocal start part (calls ++ call ∷ [])
AreLocal-last start part [] call are is = (is, tt)
AreLocal-last start part (c ∷ calls) call are is = (are.0, AreLocal-last start (part_of part (local start part c.request)) calls call are.1 is)

-- a request that isn't judged fit, and one that isn't local, isn't answered
none_faulty : (own : Bool) (fault : HostFault) (answer : Option (Reply × Part)) → (if own then if_fit (Faulty fault) answer else None) ≡ None
none_faulty true fault answer = refl
none_faulty false fault answer = refl

none_overdrawn : (own : Bool) (answer : Option (Reply × Part)) → (if own then if_fit Overdrawn answer else None) ≡ None
none_overdrawn true answer = refl
none_overdrawn false answer = refl

local_faulty : (start : Start) (part : Part) (request : Request) (fault : HostFault) → judge start part request ≡ Faulty fault → local start part request ≡ None
local_faulty start part request fault is =
    ap (λ (j : Judgement). if is_local request then if_fit j (answer_of (call_of request) start part request) else None) is
    ∙ none_faulty (is_local request) fault (answer_of (call_of request) start part request)

local_overdrawn : (start : Start) (part : Part) (request : Request) → judge start part request ≡ Overdrawn → local start part request ≡ None
local_overdrawn start part request is =
    ap (λ (j : Judgement). if is_local request then if_fit j (answer_of (call_of request) start part request) else None) is
    ∙ none_overdrawn (is_local request) (answer_of (call_of request) start part request)

local_foreign : (start : Start) (part : Part) (request : Request) → is_local request ≡ false → local start part request ≡ None
local_foreign start part request is =
    ap (λ (own : Bool). if own then if_fit (judge start part request) (answer_of (call_of request) start part request) else None) is

module _ {E P : Type 0} (engines : Meaning E P) (at : P → Start → List Call → ℕ → Option Standing) (program : P) (p : Process) where
  -- the turn goes on by the instructions of a step
  pub goes_by_step : (seat : Seat E) (shed : List ℕ) (stepped : E) (further : List Call) (budget n : ℕ) (reason : Stop) →
      GoesTo engines at program p seat shed further → length further < 64 → seat.fuel + budget ≡ p.fuel + 10000 →
      IsStep (at program p.start (p.calls ++ further)) p.start.limits.fuel seat.fuel budget reason n →
      engines.stands stepped program p.start (p.calls ++ further) (seat.fuel + n) →
      GoesTo engines at program p (record seat { engine = stepped; fuel = seat.fuel + n }) shed further
  goes_by_step seat shed stepped further budget n reason to few left step there =
      let within : n ≤ budget = step.within in
      let grown : p.fuel ≤ seat.fuel = to.gone.grown in
      let went = IsStep-executes (at program p.start (p.calls ++ further)) p.start.limits.fuel seat.fuel budget reason n (length further) step few in
      record {
        gone = record {
          stands = there;
          start = to.gone.start;
          grown = omega arith;
          executed = omega arith;
          local = to.gone.local;
        };
        part = to.part;
        goes = GoesOn-executes (local p.start) (at program p.start) p.part p.calls 0 p.fuel further seat.fuel (seat.fuel + n) seat.part to.goes (rw zero-add went);
        closed = to.closed;
      }

  -- a step that stopped at no ask ends it
  pub ends_by_step : (seat : Seat E) (shed : List ℕ) (stepped : E) (further : List Call) (budget n : ℕ) (reason : Stop) →
      GoesTo engines at program p seat shed further → length further < 64 → seat.fuel + budget ≡ p.fuel + 10000 →
      IsStep (at program p.start (p.calls ++ further)) p.start.limits.fuel seat.fuel budget reason n →
      engines.stands stepped program p.start (p.calls ++ further) (seat.fuel + n) →
      engines.phase stepped ≡ phase_after reason → ((ask : Ask) → reason ≢ stop.Asks ask) →
      HasEnded engines at program p (record seat { engine = stepped; fuel = seat.fuel + n }) shed further (halt_after reason)
  ends_by_step seat shed stepped further budget n reason to few left step there phase other =
      let to' = goes_by_step seat shed stepped further budget n reason to few left step there in
      let within : n ≤ budget = step.within in
      let grown : p.fuel ≤ seat.fuel = to.gone.grown in
      let executed : seat.fuel ≤ p.fuel + 10000 = to.gone.executed in
      let budget_is : budget ≡ 10000 - (seat.fuel - p.fuel) = omega arith in
      let used : seat.fuel - p.fuel + n ≡ seat.fuel + n - p.fuel = omega arith in
      let fueled : seat.fuel + n ≤ p.start.limits.fuel = step.fueled in
      let ends = stop_ends (local p.start) (at program p.start (p.calls ++ further) (seat.fuel + n)) seat.part (engines.memory stepped) (seat.fuel + n) p.start.limits.fuel (seat.fuel - p.fuel) n
      (length further) reason other (omega arith) (omega arith) few (rw budget_is at step.stops) in
      record {
        gone = to'.gone;
        part = part_fits seat.part p further reason to.part;
        answered = omega arith;
        turn = whole_turn (at program p.start) p further (seat.fuel + n - p.fuel) reason (engines.memory stepped) other
            (is_turn (at program p.start) (local p.start) p.start.limits.fuel p.part p.calls p.fuel (seat.fuel + n) further seat.part
            (ending_of reason (engines.memory stepped)) to'.goes to'.gone.grown to'.gone.executed (omega arith) fueled (rw used at ends));
        judged = judged_after p further reason;
        phase = phase_fits engines stepped reason phase;
        closed = to.closed;
      }

  -- the turn is cut short at a request
  pub ends_for_memory : (seat : Seat E) (shed : List ℕ) (further : List Call) (request : Request) →
      GoesTo engines at program p seat shed further → length further < 64 → Requests (at program p.start (p.calls ++ further) seat.fuel) request →
      seat.fuel ≤ p.start.limits.fuel → HasEnded engines at program p seat shed further HaltIs.NoMemory
  ends_for_memory seat shed further request to few asks fueled = record {
    gone = to.gone;
    part = traffic_alone seat.part (part_after p.start p.part further) to.part;
    answered = omega arith;
    turn = is_cut_short (at program p.start) (local p.start) p.start.limits.fuel p.part p.calls p.fuel seat.fuel further seat.part request to.goes to.gone.grown to.gone.executed few fueled asks;
    judged = tt;
    phase = tt;
    closed = to.closed;
  }

  meets_turn : (seat : Seat E) (shed : List ℕ) (further : List Call) (request : Request) →
      GoesTo engines at program p seat shed further → length further < 64 → Requests (at program p.start (p.calls ++ further) seat.fuel) request →
      seat.fuel ≤ p.start.limits.fuel → local p.start seat.part request ≡ None →
      IsTurn (at program p.start) (local p.start) p.start.limits.fuel p.part p.calls p.fuel further (seat.fuel - p.fuel) (Meets request)
  meets_turn seat shed further request to few asks fueled none =
      is_turn (at program p.start) (local p.start) p.start.limits.fuel p.part p.calls p.fuel seat.fuel further seat.part (Meets request) to.goes to.gone.grown to.gone.executed
      (omega arith) fueled (asks, none)

  -- what the request is judged, by the start and the part of the process
  judged_so : (seat : Seat E) (shed : List ℕ) (further : List Call) (request : Request) (judgement : Judgement) → GoesTo engines at program p seat shed further →
      judge seat.start seat.part request ≡ judgement → judge p.start (part_after p.start p.part further) request ≡ judgement
  judged_so seat shed further request judgement to is = rw (to.gone.start, to.part) at is

  judged_here : (seat : Seat E) (shed : List ℕ) (further : List Call) (request : Request) (judgement : Judgement) → GoesTo engines at program p seat shed further →
      judge seat.start seat.part request ≡ judgement → judge p.start seat.part request ≡ judgement
  judged_here seat shed further request judgement to is = subst (λ (start : Start). judge start seat.part request ≡ judgement) to.gone.start is

  -- the request is judged a fault
  pub ends_by_fault : (seat : Seat E) (shed : List ℕ) (further : List Call) (request : Request) (fault : HostFault) →
      GoesTo engines at program p seat shed further → length further < 64 → Requests (at program p.start (p.calls ++ further) seat.fuel) request →
      seat.fuel ≤ p.start.limits.fuel → judge seat.start seat.part request ≡ Faulty fault →
      HasEnded engines at program p seat shed further (HaltIs.Host fault request)
  ends_by_fault seat shed further request fault to few asks fueled faulty =
      let none = local_faulty p.start seat.part request fault (judged_here seat shed further request (Faulty fault) to faulty) in
      record {
        gone = to.gone;
        part = to.part;
        answered = omega arith;
        turn = record { ending = Meets request; turn = meets_turn seat shed further request to few asks fueled none; halted = refl };
        judged = judged_so seat shed further request (Faulty fault) to faulty;
        phase = tt;
        closed = to.closed;
      }

  -- the traffic of the request would pass the limit
  pub ends_by_traffic : (seat : Seat E) (shed : List ℕ) (further : List Call) (request : Request) →
      GoesTo engines at program p seat shed further → length further < 64 → Requests (at program p.start (p.calls ++ further) seat.fuel) request →
      seat.fuel ≤ p.start.limits.fuel → judge seat.start seat.part request ≡ Overdrawn →
      HasEnded engines at program p seat shed further (HaltIs.Spent limit.Traffic)
  unfolding meets_turn is_turn
  ends_by_traffic seat shed further request to few asks fueled overdrawn =
      let here = judged_here seat shed further request Overdrawn to overdrawn in
      record {
        gone = to.gone;
        part = to.part;
        answered = omega arith;
        turn = record {
          ending = Meets request;
          turn = meets_turn seat shed further request to few asks fueled (local_overdrawn p.start seat.part request here);
          halted = (request, refl, here);
        };
        judged = tt;
        phase = tt;
        closed = to.closed;
      }

  -- the turn asks for a call of the world, whose cost is added
  pub ends_by_asking : (seat : Seat E) (shed : List ℕ) (part : Part) (further : List Call) (request : Request) →
      GoesTo engines at program p seat shed further → length further < 64 → Requests (at program p.start (p.calls ++ further) seat.fuel) request →
      seat.fuel ≤ p.start.limits.fuel → is_local request ≡ false → judge seat.start seat.part request ≡ Fit → part ≡ charged request seat.part →
      engines.phase seat.engine ≡ Owing request.ask → request ≡ request_of (engines.memory seat.engine) request.ask →
      HasEnded engines at program p (record seat { part = part }) shed further (HaltIs.Asks request)
  ends_by_asking seat shed part further request to few asks fueled foreign fit cost owing bytes = record {
    gone = record { stands = to.gone.stands; start = to.gone.start; grown = to.gone.grown; executed = to.gone.executed; local = to.gone.local };
    part = cost ∙ ap (charged request) to.part;
    answered = omega arith;
    turn = record {
      ending = Meets request;
      turn = meets_turn seat shed further request to few asks fueled (local_foreign p.start seat.part request foreign);
      halted = refl;
    };
    judged = (foreign, judged_so seat shed further request Fit to fit);
    phase = record { phase = owing; bytes = bytes };
    closed = to.closed;
  }

  -- a local call is answered
  pub goes_by_answer : (seat : Seat E) (shed shed_after : List ℕ) (answered : E) (part : Part) (further : List Call) (request : Request) (reply : Reply) →
      GoesTo engines at program p seat shed further → Requests (at program p.start (p.calls ++ further) seat.fuel) request →
      local seat.start seat.part request ≡ Some (reply, part) →
      engines.stands answered program p.start ((p.calls ++ further) ++ record { request = request; reply = reply } ∷ []) seat.fuel →
      shed_after ≡ shed ++ local_closings (call_of request) seat.part request →
      GoesTo engines at program p (record seat { engine = answered; part = part }) shed_after (further ++ record { request = request; reply = reply } ∷ [])
  goes_by_answer seat shed shed_after answered part further request reply to asks is there closed =
      let call : Call = record { request = request; reply = reply } in
      let here : local p.start seat.part request ≡ Some (reply, part) = subst (λ (start : Start). local start seat.part request ≡ Some (reply, part)) to.gone.start is in
      let given : local p.start (part_after p.start p.part further) request ≡ Some (reply, part) = subst (λ (q : Part). local p.start q request ≡ Some (reply, part)) to.part here in
      let last = part_after-last p.start p.part further call in
      let changed : part_of (part_after p.start p.part further) (local p.start (part_after p.start p.part further) request) ≡ part = ap (part_of (part_after p.start p.part further)) given in
      record {
        gone = record {
          stands = rw (← append_assoc p.calls further (call ∷ [])) there;
          start = to.gone.start;
          grown = to.gone.grown;
          executed = to.gone.executed;
          local = AreLocal-last p.start p.part further call to.gone.local (ap (option_map (λ (answer : Reply × Part). answer.0)) given);
        };
        part = sym (last ∙ changed);
        goes = GoesOn-answers (local p.start) (at program p.start) p.part p.calls 0 p.fuel further seat.fuel seat.part part call to.goes asks here;
        closed =
            closed ∙ ap (λ (q : Part). shed ++ local_closings (call_of request) q request) to.part
            ∙ ap (λ (s : List ℕ). s ++ local_closings (call_of request) (part_after p.start p.part further) request) to.closed
            ∙ sym (closings_of-last p.start p.part further call);
      }

  -- at the begin of a turn
  pub goes_begin : (seat : Seat E) → IsAt engines program p seat → GoesTo engines at program p seat [] []
  goes_begin seat here =
      let same = here.fuel in
      record {
        gone = record {
          stands = rw (append-nil p.calls, here.fuel) here.stands;
          start = here.start;
          grown = omega (arith, same);
          executed = omega (arith, same);
          local = tt;
        };
        part = here.part;
        goes = (record { onward = omega (arith, same); ready = λ k low high. absurd (omega (arith, same, low, high)); bounded = λ less. absurd (omega (arith, same, less)) }, sym here.part);
        closed = refl;
      }
