-- The moves of calls are the steps of the trees.
use Rattle.std.proofs.Common.{◌≡◌, ◌≢◌, ◌≤◌, ◌<◌, ℕ, ◌+◌, ◌-◌, ◌&&◌, inl, inr, Bool, true, false, cond, nat_eq, nat_le, nat_lt, List, [], ◌∷◌, length, take, drop, reverse, slice_get, Option, Some, None, arith, refl, sym, ◌∙◌, ap, subst, eq-eqb, ne_eqb}
use Rattle.std.proofs.lemmas.Bool.Decides.{nat_tests}
use Rattle.std.proofs.lemmas.List.{length-drop}
use Rattle.host_port.specs.declared.stop.Spent.TheVariants as limit
use Rattle.wasm_ops.specs.declared.trap.Trap.TheVariants as traps
use Rattle.wasm_form.specs.declared.instr.Instr.{Instr}
use Rattle.wasm_form.specs.declared.instr.Imm.TheVariants as imm
use Rattle.wasm_form.specs.declared.parts.Parts.{Parts}
use Rattle.code_map.specs.declared.callee.Callee.{Callee}
use Rattle.code_map.specs.declared.callee.Callee.TheVariants as callee
use Rattle.code_map.specs.declared.map.CodeMap.{CodeMap}
use Rattle.code_map.specs.Targets.{count_if}
use Rattle.tree_machine.specs.Calls.{ask_of}
use Rattle.tree_machine.specs.Config.{Config}
use Rattle.tree_machine.specs.Limits.{most_frames, most_values, places, judged}
use Rattle.tree_machine.specs.Outcomes.{Gives, Outcome, Calls, Exceeds}
use Rattle.tree_machine.specs.Step.{next}
use Rattle.tree_machine.specs.Typed.{IsTyped, IsTypedModule, IsKept}
use Rattle.tree_machine.proofs.StepTyped.{next_kept}
use Rattle.flat_machine.specs.Flat.{Flat, goes_on}
use Rattle.flat_machine.specs.Tells.{IsInstrAt}
use Rattle.flat_machine.specs.Mapping.{Follows}
use Rattle.flat_machine.specs.Calls.{enter_body}
use Rattle.flat_machine.specs.MappedModule.{IsMappedModule}
use Rattle.flat_machine.specs.Called.{AsksHost, EntersOwn, Called, CallsIndex, CallsElement, CallsThrough}
use Rattle.flat_machine.specs.Moves.{Move, Asks, Exceeds as Passed, Traps as Trapped, Stuck as Stopped, class_of, places_in, executes, where_holds, has_body, call, call_function, call_class, call_element, call_top, call_indirect}
use Rattle.flat_machine.specs.MovesAgree.{MoveAgrees}
use Rattle.flat_machine.proofs.Rooms.{places_counted}
use Rattle.flat_machine.proofs.CallsFollow.{index_called, through_called}
use Rattle.flat_machine.proofs.Executing.{ready_next, step_is, step_exceeds, step_traps, executes_agree}

pub both_true : (a b : Bool) → a ≡ true → b ≡ true → (a && b) ≡ true
both_true true true e f = refl
both_true true false e f = absurd (cc)
both_true false b e f = absurd (cc)

-- what holds is no hindrance
pub held : (b : Bool) (move : Move) → b ≡ true → where_holds b move ≡ move
held b move e = ap (λ (x : Bool). cond x move Stopped) e

pub body_there_is : (m : Parts) (map : CodeMap) (body : ℕ) → body < length m.bodies → body < length map.bodies → has_body m map body ≡ true
body_there_is m map body less more =
    let one : nat_lt body (length m.bodies) ≡ true = grind (arith, nat_tests) in
    let two : nat_lt body (length map.bodies) ≡ true = grind (arith, nat_tests) in
    both_true (nat_lt body (length m.bodies)) (nat_lt body (length map.bodies)) one two

module _ (m : Parts) (map : CodeMap) (flat : Flat) (c : Config) (values : List ℕ) (o : Outcome) (is : next m c ≡ o) (kept : IsKept m o) where
  -- the machine with these values
  abbrev here : Flat
  here = record flat { values = values }

  own_moves : (body params locals : ℕ) → EntersOwn m map.bodies here o body params locals →
      MoveAgrees m map flat c (cond (nat_le (length flat.callers + 2) most_frames) (executes (Gives (enter_body body params locals here))) (Passed limit.Frames))
  own_moves body params locals (inl (room, agrees)) =
      let yes : nat_le (length flat.callers + 2) most_frames ≡ true = grind (arith, nat_tests) in
      subst (λ (b : Bool). MoveAgrees m map flat c (cond b (executes (Gives (enter_body body params locals here))) (Passed limit.Frames))) (sym yes)
      (executes_agree m map flat c (Gives (enter_body body params locals here)) o is agrees kept)
  own_moves body params locals (inr (past, exceeds)) =
      let no : nat_le (length flat.callers + 2) most_frames ≡ false = grind (arith, nat_tests) in
      subst (λ (b : Bool). MoveAgrees m map flat c (cond b (executes (Gives (enter_body body params locals here))) (Passed limit.Frames))) (sym no)
      (step_exceeds m c limit.Frames (is ∙ exceeds))

  asks_if : (number params results : ℕ) (asks : AsksHost m map.bodies here o number params results) →
      places asks.waits.frames ≡ places_in (goes_on (drop params values) here) → (room : Bool) → nat_le (places asks.waits.frames + results) most_values ≡ room →
      MoveAgrees m map flat c (cond room (Asks (ask_of number (reverse (take params values))) results (goes_on (drop params values) flat)) (Passed limit.Values))
  unfolding judged
  asks_if number params results asks counted true room =
      let ask = ask_of number (reverse (take params values)) in
      let calls : Outcome = Calls ask results asks.waits in
      let fits : judged calls ≡ calls = ap (λ (b : Bool). cond b calls (Exceeds limit.Values)) room in
      record {
        config = asks.waits;
        steps = step_is m c calls calls (is ∙ asks.asks) fits;
        waits_for = record {
          follows = asks.follows;
          index = asks.index;
          ty = asks.ty;
          callee_is = asks.callee_is;
          results_are = asks.results_are;
          room = let within : places asks.waits.frames + results ≤ most_values = grind (arith, nat_tests) in omega arith;
          typed = asks.typed;
        };
      }
  asks_if number params results asks counted false room =
      let calls : Outcome = Calls (ask_of number (reverse (take params values))) results asks.waits in
      let over : judged calls ≡ Exceeds limit.Values = ap (λ (b : Bool). cond b calls (Exceeds limit.Values)) room in
      step_is m c calls (Exceeds limit.Values) (is ∙ asks.asks) over

  host_moves : (number params results : ℕ) → AsksHost m map.bodies here o number params results →
      MoveAgrees m map flat c (cond (nat_le (length values - params + flat.place.opens + results) most_values)
      (Asks (ask_of number (reverse (take params values))) results (goes_on (drop params values) flat)) (Passed limit.Values))
  host_moves number params results asks =
      let counted : length (drop params values) + flat.place.opens ≡ places asks.waits.frames =
      places_counted m (goes_on (drop params values) here) asks.waits asks.follows.tells in
      let left : length (drop params values) ≡ length values - params = length-drop params values in
      let same : places asks.waits.frames + results ≡ length values - params + flat.place.opens + results =
      ap (λ (n : ℕ). n + results) (sym counted) ∙ ap (λ (n : ℕ). n + flat.place.opens + results) left in
      asks_if number params results asks (sym counted) (nat_le (length values - params + flat.place.opens + results) most_values) (ap (λ (n : ℕ). nat_le n most_values) same)

  -- what is called
  pub called_moves : (found : Callee) → Called m map.bodies here o found → MoveAgrees m map flat c (call m map (Some found) values flat)
  called_moves (callee.Own body params locals gives class) (room, first, second, enters) =
      let one : nat_le params (length values) ≡ true = grind (arith, nat_tests) in
      let holds = both_true (nat_le params (length values)) (has_body m map body) one (body_there_is m map body first second) in
      let goes : Move = cond (nat_le (length flat.callers + 2) most_frames) (executes (Gives (enter_body body params locals here))) (Passed limit.Frames) in
      subst (MoveAgrees m map flat c) (sym (held (nat_le params (length values) && has_body m map body) goes holds)) (own_moves body params locals enters)
  called_moves (callee.Host number params gives class) (room, few, asks) =
      let one : nat_le params (length values) ≡ true = grind (arith, nat_tests) in
      let two : nat_le params 8 ≡ true = grind (arith, nat_tests) in
      let holds = both_true (nat_le params (length values)) (nat_le params 8) one two in
      let goes : Move = cond (nat_le (length values - params + flat.place.opens + count_if gives) most_values)
      (Asks (ask_of number (reverse (take params values))) (count_if gives) (goes_on (drop params values) flat)) (Passed limit.Values) in
      subst (MoveAgrees m map flat c) (sym (held (nat_le params (length values) && nat_le params 8) goes holds)) (host_moves number params (count_if gives) asks)

  -- what is called by its index
  index_moves : (index : ℕ) → CallsIndex m map here o index → MoveAgrees m map flat c (call m map (slice_get map.callees index) values flat)
  index_moves index (found, there, called) =
      subst (λ (f : Option Callee). MoveAgrees m map flat c (call m map f values flat)) (sym there) (called_moves found called)

  element_moves : (ty : ℕ) (element : Option (Option ℕ)) → CallsElement m map here o ty element → MoveAgrees m map flat c (call_element m map ty element values flat)
  element_moves ty None traps_so = step_traps m c traps.TableBounds (is ∙ traps_so)
  element_moves ty (Some None) traps_so = step_traps m c traps.NoElement (is ∙ traps_so)
  element_moves ty (Some (Some function)) (class, found, classed, there, cases) =
      subst (λ (k : Option ℕ). MoveAgrees m map flat c (call_class m map k (slice_get map.callees function) values flat)) (sym classed)
      (subst (λ (f : Option Callee). MoveAgrees m map flat c (call_class m map (Some class) f values flat)) (sym there)
      (elim cases as (λ w. MoveAgrees m map flat c (cond (nat_eq (class_of found) class) (call m map (Some found) values flat) (Trapped traps.WrongType))) [
        | inl other ↦
            subst (λ (b : Bool). MoveAgrees m map flat c (cond b (call m map (Some found) values flat) (Trapped traps.WrongType))) (sym (ne_eqb (class_of found) class other.0))
            (step_traps m c traps.WrongType (is ∙ other.1))
        | inr same ↦
            subst (λ (b : Bool). MoveAgrees m map flat c (cond b (call m map (Some found) values flat) (Trapped traps.WrongType))) (sym (eq-eqb (class_of found) class same.0))
            (called_moves found same.1)
      ]))

through_moves : (m : Parts) (map : CodeMap) (flat : Flat) (c : Config) (ty : ℕ) (values : List ℕ) (o : Outcome) → next m c ≡ o → IsKept m o →
    CallsThrough m map flat o ty values → MoveAgrees m map flat c (call_top m map ty values flat)
through_moves m map flat c ty [] o is kept h = absurd h
through_moves m map flat c ty (place ∷ below) o is kept h = element_moves m map flat c below o is kept ty (slice_get flat.table place) h

module _ (m : Parts) (map : CodeMap) (module_typed : IsTypedModule m) (mapped : IsMappedModule m map) (flat : Flat) (c : Config) (follows : Follows m map.bodies flat c)
    (typed : IsTyped m [] c) (i : Instr) (at : IsInstrAt m flat.place i) where
  coded : (code : ℕ) → i.code ≡ code → code ≢ 0x0B → code ≢ 0x05 → IsKept m (next m c)
  coded code e end other =
      next_kept m module_typed c typed (ready_next m map flat c follows typed (i, at, λ w. end (sym e ∙ w), λ w. other (sym e ∙ w)))

  -- call
  pub call_agrees : (index : ℕ) → i.code ≡ 0x10 → i.imm ≡ imm.Index index → MoveAgrees m map flat c (call_function m map (Some index) flat)
  call_agrees index code number =
      index_moves m map flat c flat.values (next m c) refl (coded 0x10 code (λ w. absurd (omega (arith, w))) (λ w. absurd (omega (arith, w)))) index
      (index_called m map module_typed mapped flat c follows typed i index code number at)

  -- call_indirect
  pub call_through_agrees : (ty : ℕ) → i.code ≡ 0x11 → i.imm ≡ imm.Index ty → MoveAgrees m map flat c (call_indirect m map (Some ty) flat)
  call_through_agrees ty code number =
      through_moves m map flat c ty flat.values (next m c) refl (coded 0x11 code (λ w. absurd (omega (arith, w))) (λ w. absurd (omega (arith, w))))
      (through_called m map module_typed mapped flat c follows typed i ty code number at)
