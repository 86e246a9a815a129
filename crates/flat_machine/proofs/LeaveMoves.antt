-- Behind the end of a body the moves are those of the trees: the return to a caller, and the next function.
use Rattle.std.proofs.Common.{◌≡◌, ◌≤◌, ℕ, pred, ◌+◌, ◌-◌, ◌&&◌, Bool, true, false, cond, nat_eq, nat_le, List, [], ◌∷◌, ◌++◌, length, reverse, slice_get, Option, Some, arith, refl, sym, ◌∙◌, ap, subst, eq-eqb, length-append}
use Rattle.std.proofs.lemmas.Bool.Decides.{nat_tests}
use Rattle.wasm_form.specs.declared.types.FuncType.{FuncType}
use Rattle.wasm_form.specs.declared.body.Body.{Body}
use Rattle.wasm_form.specs.declared.parts.Parts.{Parts}
use Rattle.wasm_form.specs.Context.{functions_of}
use Rattle.code_map.specs.declared.callee.Callee.{Callee}
use Rattle.code_map.specs.declared.callee.Callee.TheVariants as callee
use Rattle.code_map.specs.declared.map.CodeMap.{CodeMap}
use Rattle.code_map.specs.Callees.{imported_of, IsCalleeOf}
use Rattle.code_map.specs.Targets.{count_if}
use Rattle.tree_machine.specs.Config.{Cont, Frame, Invocation, Config}
use Rattle.tree_machine.specs.Limits.{most_values}
use Rattle.tree_machine.specs.Typed.{IsTyped, IsTypedModule}
use Rattle.tree_machine.proofs.ModuleTyped.{body_below, body_there}
use Rattle.flat_machine.specs.Flat.{Place, Flat}
use Rattle.flat_machine.specs.Values.{operands_with, all_values}
use Rattle.flat_machine.specs.Tells.{opens_of, PlacesStand, IsOver}
use Rattle.flat_machine.specs.Control.{return_to}
use Rattle.flat_machine.specs.Mapping.{results_from, HasResults, PlacesMapped, Follows, StandsOn}
use Rattle.flat_machine.specs.MappedModule.{IsMappedModule}
use Rattle.flat_machine.specs.Entering.{EntersNext, enter_alone}
use Rattle.flat_machine.specs.Moves.{Move, Passes, Overfull, has_body, enter, enter_next, callee_with, return_from, leave}
use Rattle.flat_machine.specs.MovesAgree.{MoveAgrees}
use Rattle.flat_machine.proofs.Standing.{same_some}
use Rattle.flat_machine.proofs.Returns.{none_left, return_leaves}
use Rattle.flat_machine.proofs.ModuleMapped.{append_at}
use Rattle.flat_machine.proofs.Enterings.{enters_next, finishes}
use Rattle.flat_machine.proofs.CallMoves.{both_true, held, body_there_is}

-- the callee of a body
pub record HasBodyCallee (m : Parts) (map : CodeMap) (body count : ℕ) : Type 0 where
  pub params : ℕ
  pub locals : ℕ
  pub gives : Bool
  pub class : ℕ
  pub there : callee_with m map body ≡ Some (callee.Own body params locals gives class)
  pub results : count ≡ count_if gives

body_callee_is : (m : Parts) (map : CodeMap) (calls : List ℕ) (body index count at : ℕ) (ty : FuncType) → at ≡ length (imported_of m) + body →
    callee_with m map body ≡ slice_get map.callees at → slice_get m.types index ≡ Some ty → length ty.results ≡ count → (c : Callee) → slice_get map.callees at ≡ Some c →
    IsCalleeOf m calls at index c → HasBodyCallee m map body count
body_callee_is m map calls body index count at ty place same type_is results (callee.Own other params locals gives class) there (at_is, body_is, shape) =
    let bodies : other ≡ body = omega arith in
    let types : shape.ty ≡ ty = same_some (slice_get m.types index) shape.ty ty shape.found type_is in
    record {
      params = params;
      locals = locals;
      gives = gives;
      class = class;
      there = same ∙ there ∙ ap (λ (n : ℕ). Some (callee.Own n params locals gives class)) bodies;
      results = sym results ∙ ap (λ (t : FuncType). length t.results) (sym types) ∙ shape.results;
    }
body_callee_is m map calls body index count at ty place same type_is results (callee.Host call params gives class) there (less, called, shape) = absurd (omega arith)

-- the function with a body has its callee in the map
pub body_callee : (m : Parts) (map : CodeMap) → IsMappedModule m map → (body count : ℕ) → HasResults m body count → HasBodyCallee m map body count
body_callee m map is body count (index, ty, has_index, has_type, results) =
    let at = length (imported_of m) + body in
    let typed : slice_get (functions_of m) at ≡ Some index = append_at (imported_of m) m.functions body ∙ has_index in
    let within = body_below (functions_of m) at index typed in
    let counted = is.mapped.callees.count in
    let both = length-append (imported_of m) m.functions in
    let counts = is.counts in
    let found = body_there map.callees at (omega arith) in
    let place : length map.callees - length m.bodies + body ≡ at = omega arith in
    body_callee_is m map is.calls body index count at ty refl (ap (slice_get map.callees) place) has_type results found.0 found.1
    (is.mapped.callees.each at index found.0 typed found.1)

-- a function has one count of results
results_one : (m : Parts) (body a b : ℕ) → HasResults m body a → HasResults m body b → a ≡ b
results_one m body a b (i, t, at_i, is_t, one) (j, u, at_j, is_u, two) =
    let same : i ≡ j = same_some (slice_get m.functions body) i j at_i at_j in
    let types : t ≡ u = same_some (slice_get m.types j) t u (ap (slice_get m.types) (sym same) ∙ is_t) is_u in
    sym one ∙ ap (λ (x : FuncType). length x.results) types ∙ two

module _ (m : Parts) (map : CodeMap) (module_typed : IsTypedModule m) (mapped : IsMappedModule m map) (flat : Flat) (c : Config) (follows : Follows m map.bodies flat c)
    (typed : IsTyped m [] c) (over : IsOver m flat.place) where
  -- what a return takes is there
  returns_fit : (frames : List Frame) → c.frames ≡ frames → (caller : Place) (callers : List Place) → flat.callers ≡ caller ∷ callers → (count : ℕ) →
      HasResults m flat.place.body count → (flat.place.base + count ≤ length flat.values) × (caller.opens ≤ flat.place.opens)
  returns_fit [] e caller callers waits count results = absurd (subst (λ (frames : List Frame). PlacesStand m (flat.place ∷ flat.callers) frames) e follows.tells.places)
  returns_fit (f ∷ below) e caller callers waits count results =
      let places : PlacesStand m (flat.place ∷ flat.callers) (f ∷ below) =
      subst (λ (frames : List Frame). PlacesStand m (flat.place ∷ flat.callers) frames) e follows.tells.places in
      let placed : PlacesMapped m map.bodies 0 (flat.place ∷ flat.callers) (f ∷ below) =
      subst (λ (frames : List Frame). PlacesMapped m map.bodies 0 (flat.place ∷ flat.callers) frames) e follows.mapped in
      let left = places.0 in
      let body : over.0 ≡ left.body = same_some (slice_get m.bodies flat.place.body) over.0 left.body over.1 left.is in
      let past : flat.place.pc ≡ length left.body.expr.code = subst (λ (b : Body). flat.place.pc ≡ length b.expr.code) body over.2 in
      let none : f.conts ≡ [] = none_left left.body.expr flat.place.pc left.afters f.conts past left.lists in
      let given : HasResults m flat.place.body (length f.operands) =
      subst (λ (ks : List Cont). HasResults m flat.place.body (results_from f.operands ks)) none placed.1.0 in
      let same : count ≡ length f.operands = results_one m flat.place.body count (length f.operands) results given in
      let low = all_values below in
      let values : flat.values ≡ (f.operands ++ reverse f.locals) ++ low =
      follows.tells.values ∙ ap all_values e ∙ ap (λ (x : List Cont). (operands_with f.operands x ++ reverse f.locals) ++ low) none in
      let lengths = ap length values ∙ length-append (f.operands ++ reverse f.locals) low in
      let tops = length-append f.operands (reverse f.locals) in
      let base = places.1 in
      let opens : flat.place.opens ≡ caller.opens + pred (length f.conts) =
      places.2 ∙ ap (λ (list : List Place). opens_of list + pred (length f.conts)) waits in
      (omega arith, omega arith)

  return_moves : (caller : Place) (callers : List Place) → flat.callers ≡ caller ∷ callers →
      MoveAgrees m map flat c (return_from (callee_with m map flat.place.body) caller callers flat)
  return_moves caller callers waits =
      let leaves = return_leaves m map.bodies flat c follows typed caller callers waits over in
      let count = leaves.0 in
      let found = body_callee m map mapped flat.place.body count leaves.1 in
      let fit = returns_fit c.frames refl caller callers waits count leaves.1 in
      let room : flat.place.base + count ≤ length flat.values = fit.0 in
      let open_blocks : caller.opens ≤ flat.place.opens = fit.1 in
      let results : count ≡ count_if found.gives = found.results in
      let one : nat_le (flat.place.base + count_if found.gives) (length flat.values) ≡ true = grind (arith, nat_tests) in
      let two : nat_le caller.opens flat.place.opens ≡ true = grind (arith, nat_tests) in
      let holds = both_true (nat_le (flat.place.base + count_if found.gives) (length flat.values)) (nat_le caller.opens flat.place.opens) one two in
      let stands : StandsOn m map.bodies (return_to (count_if found.gives) caller callers flat) c =
      subst (λ (n : ℕ). StandsOn m map.bodies (return_to n caller callers flat) c) results leaves.2 in
      subst (λ (o : Option Callee). MoveAgrees m map flat c (return_from o caller callers flat)) (sym found.there)
      (subst (MoveAgrees m map flat c)
      (sym (held (nat_le (flat.place.base + count_if found.gives) (length flat.values) && nat_le caller.opens flat.place.opens)
      (Passes (return_to (count_if found.gives) caller callers flat)) holds)) stands)

  enter_if : (i : Invocation) (rest : List Invocation) (is : EntersNext m map flat c i rest) (room : Bool) →
      nat_le (length is.function.ty.params + is.function.locals) most_values ≡ room →
      MoveAgrees m map flat c (cond room (Passes (enter_alone is.callee.body is.function.locals i.arguments rest flat)) Overfull)
  enter_if i rest is true e = is.enters (grind (arith, nat_tests))
  enter_if i rest is false e = is.exceeds (grind (arith, nat_tests))

  next_moves : (list : List Invocation) → flat.invocations ≡ list → flat.callers ≡ [] → MoveAgrees m map flat c (enter_next m map list flat)
  next_moves [] none alone = finishes m map.bodies flat c follows typed over alone none
  next_moves (i ∷ rest) next_is alone =
      let is = enters_next m map flat c i rest module_typed mapped follows typed over alone next_is in
      let body = is.callee.body in
      let function = is.callee.mapped in
      let holds = both_true (nat_eq (length i.arguments) (length is.function.ty.params)) (has_body m map body)
      (eq-eqb (length i.arguments) (length is.function.ty.params) is.count)
      (body_there_is m map body (body_below m.bodies body function.body function.body_is) (body_below map.bodies body function.map function.map_is)) in
      let goes : Move = cond (nat_le (length is.function.ty.params + is.function.locals) most_values)
      (Passes (enter_alone body is.function.locals i.arguments rest flat)) Overfull in
      subst (λ (o : Option Callee). MoveAgrees m map flat c (enter m map o i.arguments rest flat)) (sym is.callee.there)
      (subst (MoveAgrees m map flat c) (sym (held (nat_eq (length i.arguments) (length is.function.ty.params) && has_body m map body) goes holds))
      (enter_if i rest is (nat_le (length is.function.ty.params + is.function.locals) most_values) refl))

  leave_if : (callers : List Place) → flat.callers ≡ callers → MoveAgrees m map flat c (leave m map callers flat)
  leave_if [] alone = next_moves flat.invocations refl alone
  leave_if (caller ∷ callers) waits = return_moves caller callers waits

  -- behind the end of a body
  pub leave_agrees : MoveAgrees m map flat c (leave m map flat.callers flat)
  leave_agrees = leave_if flat.callers refl
