-- Where no function is at work the next one is entered, and where none is left the run is over.
use Rattle.std.proofs.Common.{◌≡◌, ◌≤◌, ◌<◌, ℕ, ◌+◌, Bool, true, false, cond, nat_le, List, [], ◌∷◌, ◌++◌, length, reverse, replicate, slice_get, Option, Some, arith, refl, sym, ◌∙◌, ap, subst, append-nil, length-append}
use Rattle.std.proofs.lemmas.Bool.Decides.{nat_tests}
use Rattle.std.proofs.lemmas.List.{reverse-append, length-replicate}
use Rattle.std.proofs.lemmas.List.Sums.{sum_by-cons}
use Rattle.host_port.specs.Standing.{Finished, Exhausted}
use Rattle.host_port.specs.declared.stop.Spent.TheVariants as limit
use Rattle.wasm_form.specs.declared.body.Body.{Body}
use Rattle.wasm_form.specs.declared.parts.Parts.{Parts}
use Rattle.code_map.specs.declared.body_map.BodyMap.{BodyMap}
use Rattle.code_map.specs.declared.map.CodeMap.{CodeMap}
use Rattle.tree_machine.specs.Functions.{Function, own_function}
use Rattle.tree_machine.specs.Config.{Cont, Frame, Invocation, Config, frame_of, with_frames}
use Rattle.tree_machine.specs.Exits.{settled}
use Rattle.tree_machine.specs.Limits.{places_of, places, most_values}
use Rattle.tree_machine.specs.Point.{Point, point, unless_left, entered, enter_next, settle}
use Rattle.tree_machine.specs.Typed.{AreValues, InvocationsTyped, IsTyped, IsTypedModule}
use Rattle.tree_machine.proofs.Values.{as_many}
use Rattle.tree_machine.proofs.ExitsTyped.{entered_typed}
use Rattle.flat_machine.specs.Flat.{Place, Flat}
use Rattle.flat_machine.specs.Values.{frame_values, all_values}
use Rattle.flat_machine.specs.Tells.{PlacesStand, IsOver}
use Rattle.flat_machine.specs.Mapping.{Follows, StandsOn}
use Rattle.flat_machine.specs.Calls.{IsMappedFunction}
use Rattle.flat_machine.specs.MappedModule.{IsMappedModule}
use Rattle.flat_machine.specs.Entering.{EntersNext, StandsIn, enter_alone}
use Rattle.flat_machine.proofs.Settling.{settled_frame, left_same}
use Rattle.flat_machine.proofs.Standing.{same_some}
use Rattle.flat_machine.proofs.StraightAgrees.{flat_of, same_flat}
use Rattle.flat_machine.proofs.Inner.{follows_with}
use Rattle.flat_machine.proofs.Returns.{none_left}
use Rattle.flat_machine.proofs.CallsAgree.{turned_with, entered_mapped}
use Rattle.flat_machine.proofs.ModuleMapped.{own_mapped}

-- what follows hangs neither on the frames nor on the functions that were to be entered
enter_same : (m : Parts) (c : Config) (invocations : List Invocation) (frames : List Frame) (list : List Invocation) →
    enter_next m (record c { invocations = invocations; frames = frames }) list ≡ enter_next m c list
enter_same m c invocations frames [] = refl
enter_same m c invocations frames (i ∷ rest) =
    ap (λ (p : Point). entered (own_function m i.function) i.arguments (record c { invocations = i ∷ rest; frames = [] })
    (record c { invocations = rest; frames = [] }) p)
    (enter_same m c invocations frames rest)

-- a frame none of whose lists is left, and no other
pub settled_last : (f : Frame) → f.conts ≡ [] → settled (f ∷ []) ≡ []
unfolding settled
settled_last f none =
    let same : f ∷ [] ≡ record f { conts = [] } ∷ [] = ap (λ (ks : List Cont). record f { conts = ks } ∷ []) none in
    ap settled same ∙ settled_frame f f.operands []

-- where no frame goes on
settled_none : (m : Parts) (c : Config) (list : List Invocation) → settled c.frames ≡ [] → c.invocations ≡ list → settle m c ≡ enter_next m c list
unfolding settle
settled_none m c list none is =
    ap (λ (frames : List Frame). unless_left frames c (enter_next m c c.invocations)) none ∙ ap (λ (l : List Invocation). enter_next m c l) is

-- the places of a function that is entered
entry_places : (function : Function) (arguments : List ℕ) → places (frame_of function arguments ∷ []) ≡ length arguments + function.locals
entry_places function arguments =
    let both = length-append arguments (replicate function.locals 0) in
    let zeros : length {A = ℕ} (replicate function.locals 0) ≡ function.locals = length-replicate function.locals 0 in
    let all = sum_by-cons places_of (frame_of function arguments) [] in
    omega arith

-- the function is entered, where there is room for its locals
settled_entered : (m : Parts) (c : Config) (i : Invocation) (rest : List Invocation) (function : Function) → settled c.frames ≡ [] → c.invocations ≡ i ∷ rest →
    own_function m i.function ≡ Some function → length i.arguments + function.locals ≤ most_values →
    settle m (record c { invocations = rest; frames = frame_of function i.arguments ∷ [] }) ≡ settle m c
unfolding settle
settled_entered m c i rest function none is own room =
    let frames : List Frame = frame_of function i.arguments ∷ [] in
    let before : Config = record c { invocations = i ∷ rest; frames = [] } in
    let after : Config = record c { invocations = rest; frames = [] } in
    let count = entry_places function i.arguments in
    let yes : nat_le (places frames) most_values ≡ true = grind (arith, nat_tests) in
    let others = enter_next m c rest in
    let goes : Point = unless_left (settled frames) after others in
    let there : settle m c ≡ goes =
    settled_none m c (i ∷ rest) none is ∙ ap (λ (o : Option Function). entered o i.arguments before after others) own
    ∙ ap (λ (b : Bool). cond b goes (point (Exhausted limit.Values) before)) yes in
    let here : settle m (record c { invocations = rest; frames = frames }) ≡ goes =
    ap (λ (p : Point). unless_left (settled frames) (record c { invocations = rest; frames = frames }) p) (enter_same m c rest frames rest)
    ∙ left_same after frames (settled frames) others in
    here ∙ sym there

-- where there is none the run is exhausted
settled_past : (m : Parts) (c : Config) (i : Invocation) (rest : List Invocation) (function : Function) → settled c.frames ≡ [] → c.invocations ≡ i ∷ rest →
    own_function m i.function ≡ Some function → most_values < length i.arguments + function.locals →
    settle m c ≡ point (Exhausted limit.Values) (record c { invocations = i ∷ rest; frames = [] })
settled_past m c i rest function none is own past =
    let frames : List Frame = frame_of function i.arguments ∷ [] in
    let before : Config = record c { invocations = i ∷ rest; frames = [] } in
    let after : Config = record c { invocations = rest; frames = [] } in
    let count = entry_places function i.arguments in
    let no : nat_le (places frames) most_values ≡ false = grind (arith, nat_tests) in
    let others = enter_next m c rest in
    settled_none m c (i ∷ rest) none is ∙ ap (λ (o : Option Function). entered o i.arguments before after others) own
    ∙ ap (λ (b : Bool). cond b (unless_left (settled frames) after others) (point (Exhausted limit.Values) before)) no

module _ (m : Parts) (maps : List BodyMap) (flat : Flat) (c : Config) (follows : Follows m maps flat c) (typed : IsTyped m [] c)
    (over : IsOver m flat.place) (alone : flat.callers ≡ []) where
  last_at : (frames : List Frame) → c.frames ≡ frames → settled c.frames ≡ []
  last_at [] e = absurd (subst (λ (frames : List Frame). PlacesStand m (flat.place ∷ flat.callers) frames) e follows.tells.places)
  last_at (f ∷ g ∷ below) e =
      let places : PlacesStand m (flat.place ∷ flat.callers) (f ∷ g ∷ below) =
      subst (λ (frames : List Frame). PlacesStand m (flat.place ∷ flat.callers) frames) e follows.tells.places in
      absurd (subst (λ (list : List Place). PlacesStand m list (g ∷ below)) alone places.3)
  last_at (f ∷ []) e =
      let places : PlacesStand m (flat.place ∷ flat.callers) (f ∷ []) =
      subst (λ (frames : List Frame). PlacesStand m (flat.place ∷ flat.callers) frames) e follows.tells.places in
      let left = places.0 in
      let body : over.0 ≡ left.body = same_some (slice_get m.bodies flat.place.body) over.0 left.body over.1 left.is in
      let past : flat.place.pc ≡ length left.body.expr.code = subst (λ (b : Body). flat.place.pc ≡ length b.expr.code) body over.2 in
      ap settled e ∙ settled_last f (none_left left.body.expr flat.place.pc left.afters f.conts past left.lists)

  none_goes_on : settled c.frames ≡ []
  none_goes_on = last_at c.frames refl

  -- no function is left
  pub finishes : flat.invocations ≡ [] → StandsIn Finished flat.memory (settle m c)
  finishes none =
      let ends : settle m c ≡ point Finished (record c { invocations = []; frames = [] }) =
      settled_none m c [] none_goes_on (sym follows.tells.invocations ∙ none) in
      record {
        state_is = ap (λ (p : Point). p.state) ends;
        memory_is = ap (λ (p : Point). p.config.memory) ends ∙ sym follows.tells.memory;
      }

  module _ (i : Invocation) (rest : List Invocation) (next_is : flat.invocations ≡ i ∷ rest) (function : Function) (own : own_function m i.function ≡ Some function)
      (body : ℕ) (is : IsMappedFunction m maps function body) (arguments : AreValues function.ty.params i.arguments) (others : InvocationsTyped m rest) where
    waits : c.invocations ≡ i ∷ rest
    waits = sym follows.tells.invocations ∙ next_is

    count_is : length i.arguments ≡ length function.ty.params
    count_is = as_many function.ty.params i.arguments arguments

    -- the next function is entered
    enters : IsTypedModule m → length function.ty.params + function.locals ≤ most_values → StandsOn m maps (enter_alone body function.locals i.arguments rest flat) c
    enters module_typed room =
        let f : Frame = frame_of function i.arguments in
        let zeros : List ℕ = replicate function.locals 0 in
        let to : Config = record c { invocations = rest; frames = f ∷ [] } in
        let without : Config = record c { invocations = rest } in
        let place : Place = record { pc = 0; body = body; base = 0; opens = 0 } in
        let count = count_is in
        let turned : reverse (i.arguments ++ zeros) ≡ zeros ++ reverse i.arguments =
        reverse-append i.arguments zeros ∙ ap (λ (l : List ℕ). l ++ reverse i.arguments) (turned_with 0 function.locals) in
        let values : zeros ++ reverse i.arguments ≡ frame_values f ++ all_values [] =
        sym turned ∙ sym (append-nil (reverse (i.arguments ++ zeros))) in
        let done : Follows m maps (flat_of (zeros ++ reverse i.arguments) place [] without) (with_frames (f ∷ []) without) =
        follows_with m maps without (zeros ++ reverse i.arguments) place [] f [] values
        (entered_mapped m maps function body 0 0 i.arguments is count_is) refl refl tt (is.results, tt, tt) in
        let at : flat_of (zeros ++ reverse i.arguments) place [] without ≡ enter_alone body function.locals i.arguments rest flat =
        ap (λ (x : Flat). record x { values = zeros ++ reverse i.arguments; place = place; callers = []; invocations = rest })
        (sym (same_flat m flat c flat.values refl follows.tells)) in
        record {
          to = to;
          point = settled_entered m c i rest function none_goes_on waits own (omega arith);
          typed = record {
            globals = typed.globals;
            table = typed.table;
            memory = typed.memory;
            invocations = others;
            frames = (function.ty, entered_typed m function i.arguments (module_typed.functions i.function function own) arguments, tt);
          };
          follows = subst (λ (x : Flat). Follows m maps x to) at done;
        }

    -- its locals are more than may be
    exceeds : most_values < length function.ty.params + function.locals → StandsIn (Exhausted limit.Values) flat.memory (settle m c)
    exceeds past =
        let count = count_is in
        let ends = settled_past m c i rest function none_goes_on waits own (omega arith) in
        record {
          state_is = ap (λ (p : Point). p.state) ends;
          memory_is = ap (λ (p : Point). p.config.memory) ends ∙ sym follows.tells.memory;
        }

-- the next function is entered, or is too much
pub enters_next : (m : Parts) (map : CodeMap) (flat : Flat) (c : Config) (i : Invocation) (rest : List Invocation) → IsTypedModule m → IsMappedModule m map →
    Follows m map.bodies flat c → IsTyped m [] c → IsOver m flat.place → flat.callers ≡ [] → flat.invocations ≡ i ∷ rest → EntersNext m map flat c i rest
enters_next m map flat c i rest module_typed mapped follows typed over alone next_is =
    let all : InvocationsTyped m (i ∷ rest) = subst (InvocationsTyped m) (sym follows.tells.invocations ∙ next_is) typed.invocations in
    let one = all.0 in
    let callee = own_mapped m map mapped i.function one.0 one.1 in
    record {
      function = one.0;
      own = one.1;
      callee = callee;
      count = as_many one.0.ty.params i.arguments one.2;
      enters = λ room. enters m map.bodies flat c follows typed over alone i rest next_is one.0 one.1 callee.body callee.mapped one.2 all.1 module_typed room;
      exceeds = λ past. exceeds m map.bodies flat c follows typed over alone i rest next_is one.0 one.1 callee.body callee.mapped one.2 all.1 past;
    }
