use Rattle.std.proofs.Common.{◌≡◌, ◌≤◌, ℕ, ◌+◌, ◌-◌, ◌&&◌, IsTrue, IsSome, ◌↔◌, List, [], ◌∷◌, ◌++◌, drop, length, length-append, length-drop, Option, Some, None, true, false, Bool, slice_get, nat_eq, leb, is_some, arith, refl, ◌∙◌, ap}
use Rattle.std.proofs.lemmas.Bool.Decides.{nat_tests}
use Rattle.std.specs.Cmp.Lexicographic.{pointwise}
use Rattle.wasm_ops.specs.declared.trap.Trap.{Trap}
use Rattle.host_port.specs.declared.ask.Ask.{Ask}
use Rattle.host_port.specs.declared.call.Call.{Call}
use Rattle.host_port.specs.declared.reply.Reply.{Reply}
use Rattle.host_port.specs.declared.request.Request.{Request}
use Rattle.host_port.specs.Areas.{request_of}
use Rattle.host_port.specs.Standing.{Owing, state_of, IsAtEnd}
use Rattle.script_engine.specs.Runs.{same_request, same_truth, are_of_first, state_left, bare, script_at, since, Follows, phase_at}
use Rattle.script_engine.specs.RunLaws.{at-follows, phase_owing}

more : (b x y : Bool) → (x ≡ true → y ≡ true) → (b && x) ≡ true → (b && y) ≡ true
more true x y f e = f e
more false x y f e = cc

-- one more call leaves one ask less
one_more_call : (asks : List Ask) (calls : List Call) (call : Call) (ask : Ask) →
    are_of_first asks calls ≡ true → slice_get asks (length calls) ≡ Some ask →
    same_request call.request (request_of [] ask) ≡ true → are_of_first asks (calls ++ call ∷ []) ≡ true
one_more_call [] [] call ask e next h = cc
one_more_call (a ∷ asks) [] call ask e next h =
    let same : a ≡ ask = cc in
    rw (same, h) refl
one_more_call [] (c ∷ calls) call ask e next h = cc
one_more_call (a ∷ asks) (c ∷ calls) call ask e next h =
    more (same_request c.request (request_of [] a)) (are_of_first asks calls) (are_of_first asks (calls ++ call ∷ []))
    (λ g. one_more_call asks calls call ask g next h) e

pointwise_self : (xs : List ℕ) → pointwise nat_eq xs xs ≡ true
pointwise_self [] = refl
pointwise_self (x ∷ xs) = let k : nat_eq x x ≡ true = grind (arith, nat_tests) in rw (k, pointwise_self xs) refl

truth_self : (b : Bool) → same_truth b b ≡ true
truth_self true = refl
truth_self false = refl

request_self : (r : Request) → same_request r r ≡ true
request_self r =
    let k : nat_eq r.ask.call r.ask.call ≡ true = grind (arith, nat_tests) in
    rw (k, pointwise_self r.ask.args, truth_self r.fits, pointwise_self r.first, pointwise_self r.second) refl

starts_again : (left : List Ask) (end : Option Trap) → IsSome (state_left left end 0)
starts_again left end = refl

-- a script is at its end where the next instruction was not executed, no ask is left and no trap ends it
ends_where : (left : List Ask) (end : Option Trap) (executed : Bool) →
    IsAtEnd (state_of (bare (state_left left end (since executed)))) ↔ ((executed ≡ false) × (length left ≡ 0) × (end ≡ None))
ends_where [] None false = (λ h. (refl, refl, refl), λ h. tt)
ends_where [] None true = (λ h. absurd h, λ h. absurd (cc))
ends_where [] (Some trap) false = (λ h. absurd h, λ h. absurd (cc))
ends_where [] (Some trap) true = (λ h. absurd h, λ h. absurd (cc))
ends_where (a ∷ left) end false = (λ h. absurd h, λ h. absurd (omega arith))
ends_where (a ∷ left) end true = (λ h. absurd h, λ h. absurd (cc))

none_of : (end : Option Trap) → is_some end ≡ false → end ≡ None
none_of None h = refl
none_of (Some trap) h = cc

-- what follows where an engine's numbers show a run
module _ (asks : List Ask) (end : Option Trap) (most : ℕ) (calls : List Call) (fuel answered : ℕ) (executed : Bool)
    (fuel_left : ℕ) (follows : Follows asks end most calls fuel answered executed fuel_left) where
  -- the ask that is owed is answered
  pub follows-answer : (over : Bool) (ask : Ask) (reply : Reply) →
      phase_at executed over (slice_get asks answered) ≡ Owing ask →
      Follows asks end most (calls ++ record { request = request_of [] ask; reply = reply } ∷ []) fuel (answered + 1) false fuel_left
  follows-answer over ask reply phase =
      let owed = phase_owing executed over (slice_get asks answered) ask phase in
      let count : length calls ≡ answered = follows.as_many in
      let used : fuel ≡ answered + since true = rw owed.0 at follows.fuel_used in
      let call : Call = record { request = request_of [] ask; reply = reply } in
      record {
        as_many = length-append calls (call ∷ []) ∙ ap (λ (m : ℕ). m + 1) count;
        theirs = one_more_call asks calls call ask follows.theirs (rw count owed.1) (request_self (request_of [] ask));
        fuel_used = omega arith;
        fuel_kept = follows.fuel_kept;
        there = starts_again (drop (answered + 1) asks) end;
      }

  stands-at : script_at asks end most calls fuel ≡ bare (state_left (drop answered asks) end (since executed))
  stands-at = at-follows asks end most calls fuel answered executed fuel_left follows

  -- the run is at its end where the next instruction was not executed, each ask was answered and no trap ends it
  done_where : IsAtEnd (state_of (script_at asks end most calls fuel)) ↔ ((executed ≡ false) × (length asks ≤ answered) × (end ≡ None))
  done_where =
      let ends = ends_where (drop answered asks) end executed in
      let left : length (drop answered asks) ≡ length asks - answered = length-drop answered asks in
      rw stands-at (
        λ h. let e = ends.0 h in (e.0, omega (arith, e.1), e.2),
        λ h. ends.1 (h.0, omega (arith, h.1), h.2),
      )

  -- what the code compares where the next instruction was not executed and no trap is to come
  pub done_test : (listed : List Ask) → listed ≡ asks → executed ≡ false → is_some end ≡ false →
      IsTrue (leb (length listed) answered) ↔ IsAtEnd (state_of (script_at asks end most calls fuel))
  done_test listed same idle ends =
      rw same (
        λ t. let reached : length asks ≤ answered = grind (arith, nat_tests) in done_where.1 (idle, reached, none_of end ends),
        λ e. let reached : length asks ≤ answered = (done_where.0 e).1 in grind (arith, nat_tests),
      )
