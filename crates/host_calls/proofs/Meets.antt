-- What becomes of an ask that a turn meets.
use Rattle.std.proofs.Common.{◌≡◌, ℕ, ◌≤◌, List, [], ◌∷◌, ◌++◌, IsSome, Option, Some, None, false, refl, sym, subst, ◌∙◌}
use Rattle.std.proofs.lemmas.List.{length-append}
use Rattle.host_port.specs.declared.ask.Ask.{Ask}
use Rattle.host_port.specs.declared.call.Call.{Call}
use Rattle.host_port.specs.declared.start.Start.{Start}
use Rattle.host_port.specs.declared.reply.Reply.{Reply}
use Rattle.host_port.specs.declared.request.Request.{Request}
use Rattle.host_port.specs.declared.stop.Spent.TheVariants as limit
use Rattle.host_port.specs.Areas.{request_of}
use Rattle.host_port.specs.HostTable as Served
use Rattle.host_port.specs.Standing.{Standing, State, Asking, Running, Owing, state_of}
use Rattle.turn_rules.specs.Turn.{Requests}
use Rattle.turn_rules.proofs.StepLaws.{asking-requests}
use Rattle.world_rules.specs.declared.halt.Halt.TheVariants as HaltIs
use Rattle.world_rules.specs.declared.halt.HostFault.{HostFault}
use Rattle.world_rules.specs.World.{Process}
use Rattle.world_rules.specs.Part.{Part}
use Rattle.world_rules.specs.Judge.{Fit, Overdrawn, Faulty, judge, charged}
use Rattle.world_rules.specs.Calls.{call_of}
use Rattle.world_rules.specs.Handles.{local_closings}
use Rattle.world_rules.specs.Local.{local}
use Rattle.node_state.specs.Seats.{Meaning, Seat}
use Rattle.host_calls.specs.Brings.{IsUnderWay, GoesTo, GoesOrEnds}
use Rattle.host_calls.proofs.Asked.{is_there}
use Rattle.host_calls.proofs.Served.{same_kind}
use Rattle.host_calls.proofs.Turns.{ends_for_memory, ends_by_fault, ends_by_traffic, ends_by_asking, goes_by_answer}

-- what is used of an engine's laws
pub record EngineLaws {E P : Type 0} (engines : Meaning E P) (at : P → Start → List Call → ℕ → Option Standing)
    (may_ask : P → ℕ → Type 0) : Type 0 where
  pub shows : (engine : E) (program : P) (start : Start) (calls : List Call) (fuel : ℕ) → engines.stands engine program start calls fuel →
      (state : State) × (at program start calls fuel ≡ Some (record { state = state; memory = engines.memory engine }))
  pub owes : (engine : E) (program : P) (start : Start) (calls : List Call) (fuel : ℕ) (ask : Ask) → engines.stands engine program start calls fuel →
      engines.phase engine ≡ Owing ask → state_of (at program start calls fuel) ≡ Some (Asking ask)
  pub keeps : (program : P) (start : Start) (calls : List Call) (fuel : ℕ) → IsSome (at program start calls fuel) → fuel ≤ start.limits.fuel
  pub asks : (program : P) (start : Start) (calls : List Call) (fuel : ℕ) (ask : Ask) → state_of (at program start calls fuel) ≡ Some (Asking ask) → may_ask program ask.call

-- the seat owes the answer to the request, which has the bytes of its memory
pub record IsMet {E P : Type 0} (engines : Meaning E P) (seat : Seat E) (request : Request) : Type 0 where
  pub owed : engines.phase seat.engine ≡ Owing request.ask
  pub bytes : request ≡ request_of (engines.memory seat.engine) request.ask

module _ {E P : Type 0} (engines : Meaning E P) (at : P → Start → List Call → ℕ → Option Standing) (may_ask : P → ℕ → Type 0) (laws : EngineLaws engines at may_ask)
    (seat : Seat E) (shed : List ℕ) (before : List Call) (request : Request) (asked : IsMet engines seat request) where
  module _ (program : P) (p : Process) (to : GoesTo engines at program p seat shed before) where
    asking : state_of (at program p.start (p.calls ++ before) seat.fuel) ≡ Some (Asking request.ask)
    asking = laws.owes seat.engine program p.start (p.calls ++ before) seat.fuel request.ask to.gone.stands asked.owed

    requests : Requests (at program p.start (p.calls ++ before) seat.fuel) request
    requests =
        let shown = laws.shows seat.engine program p.start (p.calls ++ before) seat.fuel to.gone.stands in
        subst (λ (r : Request). Requests (at program p.start (p.calls ++ before) seat.fuel) r) (sym asked.bytes)
        (asking-requests (at program p.start (p.calls ++ before) seat.fuel) shown.0 (engines.memory seat.engine) request.ask shown.1 asking)

    fueled : seat.fuel ≤ p.start.limits.fuel
    fueled =
        let shown = laws.shows seat.engine program p.start (p.calls ++ before) seat.fuel to.gone.stands in
        laws.keeps program p.start (p.calls ++ before) seat.fuel (is_there _ _ shown.1)

  -- want of memory cuts the turn short
  pub meets_no_memory : GoesOrEnds engines at may_ask seat shed before seat shed before (Some HaltIs.NoMemory)
  meets_no_memory = record {
    start = refl;
    fuel = refl;
    owed = refl;
    way = λ none. absurd (cc);
    count = λ none. absurd (cc);
    goes = λ program p rows few to. ends_for_memory engines at program p seat shed before request to few (requests program p to) (fueled program p to);
  }

  -- the request is judged a fault
  pub meets_fault : (fault : HostFault) → judge seat.start seat.part request ≡ Faulty fault → GoesOrEnds engines at may_ask seat shed before seat shed before (Some (HaltIs.Host fault request))
  meets_fault fault faulty = record {
    start = refl;
    fuel = refl;
    owed = refl;
    way = λ none. absurd (cc);
    count = λ none. absurd (cc);
    goes = λ program p rows few to. ends_by_fault engines at program p seat shed before request fault to few (requests program p to) (fueled program p to) faulty;
  }

  -- its traffic would pass the limit
  pub meets_traffic : judge seat.start seat.part request ≡ Overdrawn → GoesOrEnds engines at may_ask seat shed before seat shed before (Some (HaltIs.Spent limit.Traffic))
  meets_traffic overdrawn = record {
    start = refl;
    fuel = refl;
    owed = refl;
    way = λ none. absurd (cc);
    count = λ none. absurd (cc);
    goes = λ program p rows few to. ends_by_traffic engines at program p seat shed before request to few (requests program p to) (fueled program p to) overdrawn;
  }

  -- it asks for a call of the world or of the outside, whose cost is added
  pub meets_asking : (part : Part) → judge seat.start seat.part request ≡ Fit → Served.is_local request.ask.call ≡ false → part ≡ charged request seat.part →
      GoesOrEnds engines at may_ask seat shed before (record seat { part = part }) shed before (Some (HaltIs.Asks request))
  meets_asking part fit foreign cost = record {
    start = refl;
    fuel = refl;
    owed = refl;
    way = λ none. absurd (cc);
    count = λ none. absurd (cc);
    goes = λ program p rows few to.
        let row = rows request.ask.call (laws.asks program p.start (p.calls ++ before) seat.fuel request.ask (asking program p to)) in
        ends_by_asking engines at program p seat shed part before request to few (requests program p to) (fueled program p to) (same_kind request row ∙ foreign) fit cost asked.owed
        asked.bytes;
  }

  -- it is answered
  pub meets_answer : (answered : E) (part : Part) (shed_after : List ℕ) (reply : Reply) → IsUnderWay engines (Owing request.ask) seat → local seat.start seat.part request ≡ Some (reply, part) →
      shed_after ≡ shed ++ local_closings (call_of request) seat.part request → engines.phase answered ≡ Running →
      ((program : P) (start : Start) (calls : List Call) (fuel : ℕ) → engines.stands seat.engine program start calls fuel →
      engines.stands answered program start (calls ++ record { request = request_of (engines.memory seat.engine) request.ask; reply = reply } ∷ []) fuel) →
      GoesOrEnds engines at may_ask seat shed before (record seat { engine = answered; part = part }) shed_after (before ++ record { request = request; reply = reply } ∷ []) None
  meets_answer answered part shed_after reply under_way given closed running stands = record {
    start = refl;
    fuel = refl;
    owed = refl;
    way = λ none. record {
      program = under_way.program;
      calls = under_way.calls ++ record { request = request_of (engines.memory seat.engine) request.ask; reply = reply } ∷ [];
      stands = stands under_way.program seat.start under_way.calls seat.fuel under_way.stands;
      phase = running;
    };
    count = λ none. length-append before (record { request = request; reply = reply } ∷ []);
    goes = λ program p rows few to.
        let there = stands program p.start (p.calls ++ before) seat.fuel to.gone.stands in
        let there' = subst (λ (r : Request). engines.stands answered program p.start ((p.calls ++ before) ++ record { request = r; reply = reply } ∷ []) seat.fuel) (sym asked.bytes) there in
        goes_by_answer engines at program p seat shed shed_after answered part before request reply to (requests program p to) given there' closed;
  }
