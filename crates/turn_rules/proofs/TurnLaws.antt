use Rattle.std.proofs.Common.{◌≡◌, ℕ, ◌+◌, ◌<◌, ◌≤◌, ◌||◌, List, [], ◌∷◌, ◌++◌, length, Bool, true, false, cond, nat_eq, nat_lt, Option, Some, None, IsSome, refl, sym, ◌∙◌, ap, arith, add-zero, zero-add, append_assoc, inl, inr}
use Rattle.std.proofs.lemmas.Bool.{cases_lt}
use Rattle.std.proofs.lemmas.Bool.Decides.{nat_tests}
use Rattle.std.proofs.lemmas.List.{append-nil}
use Rattle.std.proofs.lemmas.Option.{some_pair_parts}
use Rattle.host_port.specs.declared.ask.Ask.{Ask}
use Rattle.host_port.specs.declared.call.Call.{Call}
use Rattle.host_port.specs.declared.reply.Reply.{Reply}
use Rattle.host_port.specs.declared.request.Request.{Request}
use Rattle.host_port.specs.declared.stop.Spent.TheVariants as limit
use Rattle.host_port.specs.Areas.{request_of}
use Rattle.host_port.specs.Steps.{instruction_cost}
use Rattle.host_port.specs.Standing.{Standing, State, Ready, Asking, Finished, Trapped, Exhausted, state_of, memory_of}
use Rattle.turn_rules.specs.TurnLaws.{IsSameTurn}
use Rattle.turn_rules.specs.Turn.{turn_fuel, most_answers, Executes, Requests, GoesOn, IsUsedUp, EndsSo, Ending, Sliced, Meets, Returns, Traps, Exceeds, IsTurn}

-- no instruction is executed from m to m
pub executes_none : (at : ℕ → Option Standing) (answered m : ℕ) → Executes at answered m m
executes_none at answered m = record {
  onward = omega arith;
  ready = λ k low high there. absurd (omega arith);
  bounded = λ less. absurd (omega arith);
}

-- instructions after instructions
pub executes_on : (at : ℕ → Option Standing) (answered n m p : ℕ) → Executes at answered n m →
    Executes at answered m p → Executes at answered n p
executes_on at answered n m p first then =
    let a : n ≤ m = first.onward in
    let b : m ≤ p = then.onward in
    record {
      onward = omega arith;
      ready = λ k low high there. elim (cases_lt k m) as (λ _. state_of (at k) ≡ Some Ready) [ inl less ↦ first.ready k low less there | inr more ↦ then.ready k more high there ];
      bounded = λ less. elim (cases_lt n m) as (λ _. answered < most_answers) [ inl l ↦ first.bounded l | inr more ↦ then.bounded (omega arith) ];
    }

-- a run that asks is not ready
asking_not_ready : (standing : Option Standing) (request : Request) → Requests standing request →
    state_of standing ≡ Some Ready → ⊥
asking_not_ready standing request asks ready = let a = asks.asking in cc

-- where a run asks, it stands
asking_stands : (standing : Option Standing) (request : Request) → Requests standing request → IsSome standing
asking_stands None request asks = let a = asks.asking in cc
asking_stands (Some standing) request asks = refl

-- what a run asks is one request
requests_same : (standing : Option Standing) (r s : Request) → Requests standing r → Requests standing s → r ≡ s
requests_same standing r s a b =
    let both = sym a.asking ∙ b.asking in
    let memory : a.memory ≡ b.memory = ap memory_of both in
    let state : Some (Asking r.ask) ≡ Some (Asking s.ask) = ap state_of both in
    let ask : r.ask ≡ s.ask = cc in
    a.bytes ∙ ap (λ (m : List ℕ). request_of m r.ask) memory ∙ ap (λ (k : Ask). request_of b.memory k) ask ∙ sym b.bytes

or_true : (b : Bool) → (b || true) ≡ true
or_true true = refl
or_true false = refl

is_used_up : (used answers : ℕ) → Bool
is_used_up used answers = nat_lt turn_fuel (used + instruction_cost) || nat_eq answers most_answers

used_up : (used answers : ℕ) → IsUsedUp used answers → is_used_up used answers ≡ true
unfolding is_used_up
used_up used answers (inl last) = let t : nat_lt 10000 (used + 1) ≡ true = grind (arith, nat_tests) in rw t refl
used_up used answers (inr last) = let t : nat_eq answers 64 ≡ true = grind (arith, nat_tests) in rw t (or_true (nat_lt 10000 (used + 1)))

not_used_up : (used answers : ℕ) → used + instruction_cost ≤ turn_fuel → answers < most_answers → is_used_up used answers ≡ false
unfolding is_used_up
not_used_up used answers little few =
    let a : nat_lt 10000 (used + 1) ≡ false = grind (arith, nat_tests) in
    let b : nat_eq answers 64 ≡ false = grind (arith, nat_tests) in
    rw (a, b) refl

-- how a turn ends at this state and memory, where a bound of it is reached or not
abbrev ending_at : State → List ℕ → Bool → Ending
ending_at Ready memory full = cond full Sliced (Exceeds limit.Fuel)
ending_at (Asking ask) memory full = Meets (request_of memory ask)
ending_at Finished memory full = Returns
ending_at (Trapped trap) memory full = Traps trap
ending_at (Exhausted spent) memory full = Exceeds spent

module _ {Part : Type 0} (local : Part → Request → Option (Reply × Part)) where
  -- where an instruction is to come, and is left of the turn and of the fuel, no turn ends
  no_end_at_ready : (ending : Ending) (standing : Option Standing) (part : Part) (m most used answers : ℕ) →
      EndsSo local ending standing part m most used answers → state_of standing ≡ Some Ready →
      used + instruction_cost ≤ turn_fuel → answers < most_answers → m + instruction_cost ≤ most → ⊥
  no_end_at_ready Sliced standing part m most used answers (r, inl u) ready little few fueled = omega arith
  no_end_at_ready Sliced standing part m most used answers (r, inr u) ready little few fueled = omega arith
  no_end_at_ready (Meets request) standing part m most used answers e ready little few fueled = asking_not_ready standing request e.0 ready
  no_end_at_ready Returns standing part m most used answers e ready little few fueled = cc
  no_end_at_ready (Traps trap) standing part m most used answers e ready little few fueled = cc
  no_end_at_ready (Exceeds limit.Fuel) standing part m most used answers e ready little few fueled = let full : most < m + instruction_cost = e.0.1 in omega arith
  no_end_at_ready (Exceeds limit.Frames) standing part m most used answers e ready little few fueled = let x = e.0 in cc
  no_end_at_ready (Exceeds limit.Values) standing part m most used answers e ready little few fueled = let x = e.0 in cc
  no_end_at_ready (Exceeds limit.Traffic) standing part m most used answers e ready little few fueled = e.0

  -- where a local call is asked that is judged fit, no turn ends
  no_end_at_local : (ending : Ending) (standing : Option Standing) (part : Part) (m most used answers : ℕ)
      (request : Request) (answer : Reply × Part) →
      EndsSo local ending standing part m most used answers → Requests standing request →
      local part request ≡ Some answer → ⊥
  no_end_at_local Sliced standing part m most used answers request answer e asks given = asking_not_ready standing request asks e.0
  no_end_at_local (Meets other) standing part m most used answers request answer e asks given =
      let same : other ≡ request = requests_same standing other request e.0 asks in
      let none : local part other ≡ None = e.1 in
      let none' : local part request ≡ None = rw same at none in
      cc
  no_end_at_local Returns standing part m most used answers request answer e asks given = let a = asks.asking in cc
  no_end_at_local (Traps trap) standing part m most used answers request answer e asks given = let a = asks.asking in cc
  no_end_at_local (Exceeds limit.Fuel) standing part m most used answers request answer e asks given = asking_not_ready standing request asks e.0.0
  no_end_at_local (Exceeds limit.Frames) standing part m most used answers request answer e asks given = let a = asks.asking in let x = e.0 in cc
  no_end_at_local (Exceeds limit.Values) standing part m most used answers request answer e asks given = let a = asks.asking in let x = e.0 in cc
  no_end_at_local (Exceeds limit.Traffic) standing part m most used answers request answer e asks given = e.0

  no_end_nowhere : (ending : Ending) (part : Part) (m most used answers : ℕ) →
      EndsSo local ending None part m most used answers → ⊥
  no_end_nowhere Sliced part m most used answers e = let x = e.0 in cc
  no_end_nowhere (Meets request) part m most used answers e = let x = e.0.asking in cc
  no_end_nowhere Returns part m most used answers e = cc
  no_end_nowhere (Traps trap) part m most used answers e = cc
  no_end_nowhere (Exceeds limit.Fuel) part m most used answers e = let x = e.0.0 in cc
  no_end_nowhere (Exceeds limit.Frames) part m most used answers e = let x = e.0 in cc
  no_end_nowhere (Exceeds limit.Values) part m most used answers e = let x = e.0 in cc
  no_end_nowhere (Exceeds limit.Traffic) part m most used answers e = e.0

  -- where a turn ends, a run stands
  stands_at_end : (ending : Ending) (standing : Option Standing) (part : Part) (m most used answers : ℕ) →
      EndsSo local ending standing part m most used answers → IsSome standing
  stands_at_end ending None part m most used answers e = absurd (no_end_nowhere ending part m most used answers e)
  stands_at_end ending (Some standing) part m most used answers e = refl

  -- how a turn ends follows from where the run stands
  ending_is : (ending : Ending) (standing : Standing) (part : Part) (m most used answers : ℕ) →
      EndsSo local ending (Some standing) part m most used answers →
      ending ≡ ending_at standing.state standing.memory (is_used_up used answers)
  ending_is Sliced standing part m most used answers (r, up) =
      let ready : standing.state ≡ Ready = cc in
      let full : is_used_up used answers ≡ true = used_up used answers up in
      rw (ready, full) refl
  ending_is (Meets request) standing part m most used answers e =
      let asking = e.0.asking in
      let state : Some standing.state ≡ Some (Asking request.ask) = ap state_of asking in
      let here : standing.state ≡ Asking request.ask = cc in
      let memory : standing.memory ≡ e.0.memory = ap memory_of asking in
      rw (here, memory) (ap (λ (r : Request). Meets r) e.0.bytes)
  ending_is Returns standing part m most used answers e = let here : standing.state ≡ Finished = cc in rw here refl
  ending_is (Traps trap) standing part m most used answers e = let here : standing.state ≡ Trapped trap = cc in rw here refl
  ending_is (Exceeds limit.Fuel) standing part m most used answers e =
      let r = e.0.0 in
      let ready : standing.state ≡ Ready = cc in
      let full : is_used_up used answers ≡ false = not_used_up used answers e.0.2 (e.1 refl) in
      rw (ready, full) refl
  ending_is (Exceeds limit.Frames) standing part m most used answers e = let r = e.0 in let here : standing.state ≡ Exhausted limit.Frames = cc in rw here refl
  ending_is (Exceeds limit.Values) standing part m most used answers e = let r = e.0 in let here : standing.state ≡ Exhausted limit.Values = cc in rw here refl
  ending_is (Exceeds limit.Traffic) standing part m most used answers e = absurd e.0

  -- a turn ends in one way
  endings_same : (one two : Ending) (standing : Option Standing) (part : Part) (m most used answers : ℕ) →
      EndsSo local one standing part m most used answers → EndsSo local two standing part m most used answers →
      one ≡ two
  endings_same one two None part m most used answers a b = absurd (no_end_nowhere one part m most used answers a)
  endings_same one two (Some standing) part m most used answers a b = ending_is one standing part m most used answers a ∙ sym (ending_is two standing part m most used answers b)

  -- where a turn ends, no other execution with as many answers goes on
  ends_where_it_stops : (at : ℕ → Option Standing) (ending : Ending) (part : Part) (base most n m k answered : ℕ)
      (used : ℕ) →
      Executes at answered n k → n ≤ m → m ≡ base + used → k ≤ base + turn_fuel → k ≤ most →
      EndsSo local ending (at m) part m most used answered → m < k → ⊥
  ends_where_it_stops at ending part base most n m k answered used goes from here bound fueled ends less =
      no_end_at_ready ending (at m) part m most used answered ends (goes.ready m from less (stands_at_end ending (at m) part m most used answered ends)) (omega arith) (goes.bounded (omega arith)) (omega arith)

  -- an execution does not go past a request
  no_way_past : (at : ℕ → Option Standing) (n m k answered : ℕ) (request : Request) → Executes at answered n k →
      n ≤ m → Requests (at m) request → m < k → ⊥
  no_way_past at n m k answered request goes from asks less = asking_not_ready (at m) request asks (goes.ready m from less (asking_stands (at m) request asks))

  module _ (at : List Call → ℕ → Option Standing) where
    -- a turn goes forward
    goes_forward : (part : Part) (calls : List Call) (answered n : ℕ) (further : List Call) (m : ℕ) (after : Part) →
        GoesOn at local part calls answered n further m after → n ≤ m
    goes_forward part calls answered n [] m after goes = goes.0.onward
    goes_forward part calls answered n (call ∷ further) m after (k, changed, first, asks, given, goes) =
        let a : n ≤ k = first.onward in
        let b : k ≤ m = goes_forward changed (calls ++ call ∷ []) (answered + 1) k further m after goes in
        omega arith

    -- and executes further instructions
    pub GoesOn-executes : (part : Part) (calls : List Call) (answered n : ℕ) (further : List Call) (m p : ℕ)
        (after : Part) →
        GoesOn at local part calls answered n further m after →
        Executes (at (calls ++ further)) (answered + length further) m p →
        GoesOn at local part calls answered n further p after
    GoesOn-executes part calls answered n [] m p after goes then =
        let here : Executes (at calls) answered m p = rw (append-nil, add-zero) at then in
        (executes_on (at calls) answered n m p goes.0 here, goes.1)
    GoesOn-executes part calls answered n (call ∷ further) m p after (k, changed, first, asks, given, goes) then =
        let count : answered + length (call ∷ further) ≡ answered + 1 + length further = omega arith in
        let along : calls ++ call ∷ further ≡ (calls ++ call ∷ []) ++ further = sym (append_assoc calls (call ∷ []) further) in
        let there : Executes (at ((calls ++ call ∷ []) ++ further)) (answered + 1 + length further) m p = rw (along, count) at then in
        (k, changed, first, asks, given, GoesOn-executes changed (calls ++ call ∷ []) (answered + 1) k further m p after goes there)

    -- and answers one more local call
    pub GoesOn-answers : (part : Part) (calls : List Call) (answered n : ℕ) (further : List Call) (m : ℕ)
        (after changed : Part) (call : Call) →
        GoesOn at local part calls answered n further m after → Requests (at (calls ++ further) m) call.request →
        local after call.request ≡ Some (call.reply, changed) →
        GoesOn at local part calls answered n (further ++ call ∷ []) m changed
    GoesOn-answers part calls answered n [] m after changed call goes asks given =
        (m, changed, goes.0, rw append-nil at asks, rw goes.1 given, (executes_none (at (calls ++ call ∷ [])) (answered + 1) m, refl))
    GoesOn-answers part calls answered n (c ∷ further) m after changed call (k, next, first, asks, given, goes) asked answer =
        let along : calls ++ c ∷ further ≡ (calls ++ c ∷ []) ++ further = sym (append_assoc calls (c ∷ []) further) in
        (k, next, first, asks, given, GoesOn-answers next (calls ++ c ∷ []) (answered + 1) k further m after changed call goes (rw along at asked) answer)

call_same : (call other : Call) → call.request ≡ other.request → call.reply ≡ other.reply → call ≡ other
call_same call other request reply = ap (λ (r : Request). record { request = r; reply = call.reply }) request ∙ ap (λ (r : Reply). record { request = other.request; reply = r }) reply

cons_same : (call other : Call) (calls others : List Call) → call ≡ other → calls ≡ others →
    (call ∷ calls) ≡ (other ∷ others)
cons_same call other calls others a b = ap (λ (c : Call). c ∷ calls) a ∙ ap (λ (cs : List Call). other ∷ cs) b

-- where a turn ends that goes on from these calls by the further ones
record Tail {Part : Type 0} (local : Part → Request → Option (Reply × Part)) (at : List Call → ℕ → Option Standing) (base most : ℕ) (calls further : List Call) (answered m : ℕ) (after : Part) (used : ℕ) (ending : Ending) : Type 0 where
  all : List Call
  answers : ℕ
  is_all : all ≡ calls ++ further
  is_count : answers ≡ answered + length further
  is_end : m ≡ base + used
  little : used ≤ turn_fuel
  fueled : m ≤ most
  ends : EndsSo local ending (at all m) after m most used answers

module _ {Part : Type 0} (local : Part → Request → Option (Reply × Part)) (at : List Call → ℕ → Option Standing) (base most : ℕ) where
  tail_next : (calls further : List Call) (call : Call) (answered m : ℕ) (after : Part) (used : ℕ) (ending : Ending) →
      Tail local at base most calls (call ∷ further) answered m after used ending →
      Tail local at base most (calls ++ call ∷ []) further (answered + 1) m after used ending
  tail_next calls further call answered m after used ending tail = record {
    all = tail.all;
    answers = tail.answers;
    is_all = tail.is_all ∙ sym (append_assoc calls (call ∷ []) further);
    is_count = let c : tail.answers ≡ answered + length (call ∷ further) = tail.is_count in omega arith;
    is_end = tail.is_end;
    little = tail.little;
    fueled = tail.fueled;
    ends = tail.ends;
  }

  tail_here : (calls : List Call) (answered m : ℕ) (part after : Part) (used : ℕ) (ending : Ending) →
      Tail local at base most calls [] answered m after used ending → part ≡ after →
      EndsSo local ending (at calls m) part m most used answered
  tail_here calls answered m part after used ending tail same =
      let all : tail.all ≡ calls = tail.is_all ∙ append-nil calls in
      let count : tail.answers ≡ answered = tail.is_count ∙ add-zero answered in
      let ends = rw (all, count, ← same) at tail.ends in
      ends

  -- a turn that ends here answers no further call
  none_further : (part : Part) (calls : List Call) (answered n m k : ℕ) (used : ℕ) (ending : Ending) (call : Call)
      (changed : Part) →
      Executes (at calls) answered n m → EndsSo local ending (at calls m) part m most used answered →
      m ≡ base + used → Executes (at calls) answered n k → Requests (at calls k) call.request →
      local part call.request ≡ Some (call.reply, changed) → k ≤ base + turn_fuel → k ≤ most → ⊥
  none_further part calls answered n m k used ending call changed here ends is_end there asks given bound fueled =
      elim (cases_lt m k) as (λ _. ⊥) [
        | inl before ↦ ends_where_it_stops local (at calls) ending part base most n m k answered used there here.onward is_end bound fueled ends before
        | inr behind ↦ elim (cases_lt k m) as (λ _. ⊥) [
          | inl past ↦ no_way_past local (at calls) n k m answered call.request here there.onward asks past
          | inr not_past ↦
              let same : k ≡ m = omega arith in
              no_end_at_local local ending (at calls m) part m most used answered call.request (call.reply, changed) ends (rw same at asks) given
        ]
      ]

  -- two turns from here are one
  one_turn : (part : Part) (calls : List Call) (answered n : ℕ) (one two : List Call) (m p : ℕ) (after other : Part)
      (used again : ℕ) (ending end : Ending) →
      GoesOn at local part calls answered n one m after → GoesOn at local part calls answered n two p other →
      Tail local at base most calls one answered m after used ending →
      Tail local at base most calls two answered p other again end → (one ≡ two) × (m ≡ p) × (ending ≡ end)
  one_turn part calls answered n [] [] m p after other used again ending end goes goes' tail tail' =
      let ends = tail_here calls answered m part after used ending tail goes.1 in
      let ends' = tail_here calls answered p part other again end tail' goes'.1 in
      let is_end : m ≡ base + used = tail.is_end in
      let is_end' : p ≡ base + again = tail'.is_end in
      let little : used ≤ turn_fuel = tail.little in
      let little' : again ≤ turn_fuel = tail'.little in
      elim (cases_lt m p) as (λ _. (◌≡◌ {A = List Call} [] []) × (m ≡ p) × (ending ≡ end)) [
        | inl less ↦ absurd (ends_where_it_stops local (at calls) ending part base most n m p answered used goes'.0 goes.0.onward is_end (omega arith) tail'.fueled ends less)
        | inr more ↦ elim (cases_lt p m) as (λ _. (◌≡◌ {A = List Call} [] []) × (m ≡ p) × (ending ≡ end)) [
          | inl less ↦ absurd (ends_where_it_stops local (at calls) end part base most n p m answered again goes.0 goes'.0.onward is_end' (omega arith) tail.fueled ends' less)
          | inr not_less ↦
              let same : m ≡ p = omega arith in
              let same_used : used ≡ again = omega arith in
              (refl, same, endings_same local ending end (at calls p) part p most again answered (rw (same, same_used) at ends) ends')
        ]
      ]
  one_turn part calls answered n [] (call ∷ two) m p after other used again ending end goes (k, changed, first, asks, given, rest) tail tail' =
      let ends = tail_here calls answered m part after used ending tail goes.1 in
      let forward : k ≤ p = goes_forward local at changed (calls ++ call ∷ []) (answered + 1) k two p other rest in
      let is_end' : p ≡ base + again = tail'.is_end in
      let little' : again ≤ turn_fuel = tail'.little in
      let fueled' : p ≤ most = tail'.fueled in
      absurd (none_further part calls answered n m k used ending call changed goes.0 ends tail.is_end first asks given (omega arith) (omega arith))
  one_turn part calls answered n (call ∷ one) [] m p after other used again ending end (k, changed, first, asks, given, rest) goes' tail tail' =
      let ends' = tail_here calls answered p part other again end tail' goes'.1 in
      let forward : k ≤ m = goes_forward local at changed (calls ++ call ∷ []) (answered + 1) k one m after rest in
      let is_end : m ≡ base + used = tail.is_end in
      let little : used ≤ turn_fuel = tail.little in
      let fueled : m ≤ most = tail.fueled in
      absurd (none_further part calls answered n p k again end call changed goes'.0 ends' tail'.is_end first asks given (omega arith) (omega arith))
  one_turn part calls answered n (call ∷ one) (call' ∷ two) m p after other used again ending end (k, changed, first, asks, given, rest) (k', changed', first', asks', given', rest') tail tail' =
      let place : k ≡ k' = elim (cases_lt k k') as (λ _. k ≡ k') [
        | inl less ↦ absurd (no_way_past local (at calls) n k k' answered call.request first' first.onward asks less)
        | inr more ↦ elim (cases_lt k' k) as (λ _. k ≡ k') [
          | inl less ↦ absurd (no_way_past local (at calls) n k' k answered call'.request first first'.onward asks' less)
          | inr not_less ↦ omega arith
        ]
      ] in
      let request : call'.request ≡ call.request = requests_same (at calls k') call'.request call.request asks' (rw place at asks) in
      let answers : Some (call'.reply, changed') ≡ Some (call.reply, changed) = sym given' ∙ ap (λ (r : Request). local part r) request ∙ given in
      let pair = some_pair_parts call'.reply call.reply changed' changed answers in
      let same_call : call' ≡ call = call_same call' call request pair.0 in
      let rest'' = rw (same_call, pair.1, ← place) at rest' in
      let tail'' = rw same_call at (tail_next calls two call' answered p other again end tail') in
      let then = one_turn changed (calls ++ call ∷ []) (answered + 1) k one two m p after other used again ending end rest rest'' (tail_next calls one call answered m after used ending tail) tail'' in
      (cons_same call call' one two (sym same_call) then.0, then.1, then.2)

-- The turn from a point is one.
pub turns_are_one : {Part : Type 0} (at : List Call → ℕ → Option Standing)
    (local : Part → Request → Option (Reply × Part)) (most : ℕ) (part : Part) (calls : List Call) (n : ℕ)
    (one two : List Call) (used again : ℕ) (ending end : Ending) →
    IsTurn at local most part calls n one used ending → IsTurn at local most part calls n two again end →
    IsSameTurn one two used again ending end
turns_are_one at local most part calls n one two used again ending end first second =
    let tail : Tail local at n most calls one 0 (n + used) first.after used ending = record { all = calls ++ one; answers = length one; is_all = refl; is_count = sym (zero-add (length one)); is_end = refl; little = first.within; fueled = first.fueled; ends = first.ends } in
    let tail' : Tail local at n most calls two 0 (n + again) second.after again end = record { all = calls ++ two; answers = length two; is_all = refl; is_count = sym (zero-add (length two)); is_end = refl; little = second.within; fueled = second.fueled; ends = second.ends } in
    let same = one_turn local at n most part calls 0 n one two (n + used) (n + again) first.after second.after used again ending end first.goes second.goes tail tail' in
    record {
      same_calls = same.0;
      same_used = let e : n + used ≡ n + again = same.1 in omega arith;
      same_ending = same.2;
    }
