-- Calls along the map of the module: of its own functions and of the host, and through the table.
use Rattle.std.proofs.Common.{◌≡◌, ◌≤◌, ◌<◌, ◌⊎◌, ℕ, suc, pred, ◌+◌, ◌-◌, inl, inr, Bool, true, false, cond, nat_le, List, [], ◌∷◌, ◌++◌, length, take, drop, reverse, replicate, slice_get, Option, Some, None, arith, refl, sym, ◌∙◌, ap, subst, append_assoc, length-append}
use Rattle.std.proofs.lemmas.Bool.Decides.{nat_tests}
use Rattle.std.proofs.lemmas.List.{length-reverse, reverse-append, reverse-reverse, take-append-drop, take_at, drop_at, length-drop, length-take-le}
use Rattle.wasm_ops.specs.declared.trap.Trap.TheVariants as traps
use Rattle.host_port.specs.declared.stop.Spent.TheVariants as limit
use Rattle.wasm_form.specs.declared.value_type.ValType.{ValType}
use Rattle.wasm_form.specs.declared.value_type.ValType.TheVariants.{I32}
use Rattle.wasm_form.specs.declared.types.FuncType.{FuncType}
use Rattle.wasm_form.specs.declared.instr.Instr.{Instr}
use Rattle.wasm_form.specs.declared.instr.Imm.TheVariants as imm
use Rattle.wasm_form.specs.declared.parts.Parts.{Parts}
use Rattle.wasm_form.specs.Matching.{IsPlain}
use Rattle.wasm_form.specs.Context.{Context, context_of, functions_of, IsFunctionType}
use Rattle.wasm_form.specs.Typing.{arrow, Leads, HasType, Numeric, Parametric, Local, Global, Access, MemorySize, Nop, BranchIf, Call, CallIndirect}
use Rattle.wasm_form.specs.Trees.{Code, Then}
use Rattle.code_map.specs.declared.body_map.BodyMap.{BodyMap}
use Rattle.code_map.specs.declared.callee.Callee.{Callee as MapCallee}
use Rattle.code_map.specs.declared.callee.Callee.TheVariants as callee
use Rattle.code_map.specs.declared.map.CodeMap.{CodeMap}
use Rattle.code_map.specs.Callees.{IsClass}
use Rattle.code_map.specs.Flows.{IsContextOf}
use Rattle.code_map.specs.Targets.{count_if}
use Rattle.tree_machine.specs.Instructions.{Plain, plain_of}
use Rattle.tree_machine.specs.Instructions as op
use Rattle.tree_machine.specs.Functions.{Function, Callee, Own, Host, type_of, callee_of, same_type}
use Rattle.tree_machine.specs.Config.{Cont, Frame, Config, frame_of, with_frames, with_operands}
use Rattle.tree_machine.specs.Calls.{ask_of, call, call_typed, call_element, call_indirect, invoke}
use Rattle.tree_machine.specs.Limits.{most_frames}
use Rattle.tree_machine.specs.Outcomes.{Gives, Outcome, Goes, Calls, Traps, Exceeds, Stuck}
use Rattle.tree_machine.specs.Step.{execute_plain, execute, with_rest, next_of, next_in, next_among, next}
use Rattle.tree_machine.specs.Typed.{AreValues, HasInstrs, ContsTyped, FramesTyped, IsTyped, IsTypedModule, IsNext, HasNext, HasNextIn, IsKept}
use Rattle.tree_machine.proofs.PlainOf.{plain_within, load_within, store_within, plain_call, plain_call_indirect}
use Rattle.tree_machine.proofs.CallTyped.{own_is}
use Rattle.tree_machine.proofs.ModuleTyped.{body_below}
use Rattle.tree_machine.proofs.StepTyped.{next_kept}
use Rattle.tree_machine.proofs.Values.{as_many}
use Rattle.flat_machine.specs.Flat.{Place, Flat, goes_on}
use Rattle.flat_machine.specs.Values.{frame_values, all_values}
use Rattle.flat_machine.specs.Tells.{opens_of, PlacesStand, IsInstrAt, Agrees}
use Rattle.flat_machine.specs.Mapping.{PlacesMapped, Follows}
use Rattle.flat_machine.specs.Calls.{enter_body, IsMappedFunction}
use Rattle.flat_machine.specs.MappedModule.{IsMappedModule, HasClass}
use Rattle.flat_machine.specs.Waiting.{FollowsGiven}
use Rattle.flat_machine.specs.Moves.{class_of}
use Rattle.flat_machine.specs.Called.{EntersOwn, Called, CallsIndex, CallsElement, CallsThrough}
use Rattle.flat_machine.proofs.Standing.{plain_comes}
use Rattle.flat_machine.proofs.StraightAgrees.{flat_of, cont_with, next_place, low_values, values_are}
use Rattle.flat_machine.proofs.Inner.{follows_with}
use Rattle.flat_machine.proofs.BlocksAgree.{Work, work}
use Rattle.flat_machine.proofs.BranchesAgree.{values_here}
use Rattle.flat_machine.proofs.Counts.{call_type}
use Rattle.flat_machine.proofs.StraightFollows.{next_mapped, LeadsAt, leads_in}
use Rattle.flat_machine.proofs.ConditionalBranches.{later_stands}
use Rattle.flat_machine.proofs.CallsAgree.{turned_with, entered_mapped}
use Rattle.flat_machine.proofs.Classes.{types_same, class_there, classes_differ, classes_agree}
use Rattle.flat_machine.proofs.ModuleMapped.{own_mapped, host_mapped, few_params}

-- as many functions at work as frames
places_count : (m : Parts) (list : List Place) (frames : List Frame) → PlacesStand m list frames → length list ≡ length frames
places_count m [] [] h = refl
places_count m [] (f ∷ below) h = absurd h
places_count m (place ∷ callers) [] h = absurd h
places_count m (place ∷ callers) (f ∷ below) h = ap suc (places_count m callers below h.3)

-- a frame is left, or none is
frame_if : (n : ℕ) (b : Bool) → nat_le n most_frames ≡ b → (n ≤ most_frames) ⊎ (most_frames < n)
frame_if n true e = inl (grind (arith, nat_tests))
frame_if n false e = inr (grind (arith, nat_tests))

module _ (m : Parts) (maps : List BodyMap) (flat : Flat) (c : Config) (follows : Follows m maps flat c) (typed : IsTyped m [] c) (i : Instr) (f : Frame) (below : List Frame)
    (w : Work m maps flat c follows typed i f below) (rest : Code) (rest_is : w.inner.k.rest ≡ Then i rest) (context : Context) (inside : IsContextOf m context)
    (known : FuncType) (has_type : HasType context i known) (b : ℕ) (enough : length f.operands ≡ length known.params + b)
    (operands : List ℕ) (ty : FuncType) (enough_left : length operands ≡ length ty.params + b) (gives : length known.results ≡ length ty.results) where
  abbrev arity : ℕ
  arity = length ty.params

  -- the frame of the caller, whose operands are taken
  abbrev caller : Frame
  caller = with_operands (drop arity operands) (with_rest rest f w.inner.k w.inner.around)

  abbrev low : List ℕ
  low = low_values f.locals w.inner.k w.inner.around below

  -- the machine with these operands
  abbrev here : Flat
  here = record flat { values = operands ++ low }

  there_are : arity ≤ length operands
  there_are = let e = enough_left in omega arith

  -- the caller goes on behind the call, once it has the results
  caller_mapped : PlacesMapped m maps (length ty.results) (next_place flat.place ∷ flat.callers) (caller ∷ below)
  caller_mapped =
      let e = enough_left in
      let g = gives in
      let left : length (drop arity operands) ≡ b = length-drop arity operands ∙ (let n : length operands - arity ≡ b = omega arith in n) in
      next_mapped m maps flat c follows typed i (length ty.results) f below w rest rest_is context inside known has_type b enough caller refl refl (omega arith)

  caller_stands : PlacesStand m (next_place flat.place ∷ flat.callers) (caller ∷ below)
  caller_stands =
      let opens : flat.place.opens ≡ opens_of flat.callers + length w.inner.around =
      w.opens ∙ ap (λ (x : List Cont). opens_of flat.callers + pred (length x)) w.inner.is in
      (later_stands m maps flat c follows typed i f below w rest rest_is, w.base, opens, w.outer)

  caller_values : drop arity operands ++ low ≡ all_values (caller ∷ below)
  caller_values = sym (values_are (drop arity operands) f.locals w.inner.k w.inner.around below)

  split_values : operands ++ low ≡ take arity operands ++ all_values (caller ∷ below)
  split_values =
      ap (λ (l : List ℕ). l ++ low) (sym (take-append-drop arity operands)) ∙ append_assoc (take arity operands) (drop arity operands) low
      ∙ ap (λ (l : List ℕ). take arity operands ++ l) caller_values

  taken_count : length (take arity operands) ≡ arity
  taken_count = length-take-le arity operands there_are

  room : arity ≤ length (operands ++ low)
  room = let e = length-append operands low in let n = there_are in omega arith

  invoked : (callee : Callee) → type_of callee ≡ ty →
      call (Some callee) operands c (with_rest rest f w.inner.k w.inner.around) below ≡ invoke callee (reverse (take arity operands)) c (caller ∷ below)
  invoked callee same =
      let n = there_are in
      let yes : nat_le arity (length operands) ≡ true = grind (arith, nat_tests) in
      let g : Frame = with_rest rest f w.inner.k w.inner.around in
      ap (λ (t : FuncType). cond (nat_le (length t.params) (length operands))
      (invoke callee (reverse (take (length t.params) operands)) c (with_operands (drop (length t.params) operands) g ∷ below)) Stuck) same
      ∙ ap (λ (x : Bool). cond x (invoke callee (reverse (take arity operands)) c (caller ∷ below)) Stuck) yes

  -- a function of the module is entered
  own_enters : (function : Function) (body : ℕ) → function.ty ≡ ty → IsMappedFunction m maps function body →
      Follows m maps (enter_body body arity function.locals here) (with_frames (frame_of function (reverse (take arity operands)) ∷ caller ∷ below) c)
  own_enters function body same is =
      let taken = take arity operands in
      let zeros : List ℕ = replicate function.locals 0 in
      let params : length function.ty.params ≡ arity = ap (λ (t : FuncType). length t.params) same in
      let count : length (reverse taken) ≡ length function.ty.params = length-reverse taken ∙ taken_count ∙ sym params in
      let arguments : reverse (reverse taken ++ zeros) ≡ zeros ++ taken =
      reverse-append (reverse taken) zeros ∙ ap (λ (l : List ℕ). l ++ reverse (reverse taken)) (turned_with 0 function.locals)
      ∙ ap (λ (l : List ℕ). zeros ++ l) (reverse-reverse taken) in
      let new : zeros ++ (operands ++ low) ≡ frame_values (frame_of function (reverse taken)) ++ all_values (caller ∷ below) =
      ap (λ (l : List ℕ). zeros ++ l) split_values ∙ sym (append_assoc zeros taken (all_values (caller ∷ below)))
      ∙ ap (λ (l : List ℕ). l ++ all_values (caller ∷ below)) (sym arguments) in
      let lengths = ap length split_values ∙ length-append taken (all_values (caller ∷ below)) in
      let first = taken_count in
      let base : length (operands ++ low) - arity ≡ length (all_values (caller ∷ below)) = omega arith in
      let waits : 0 < length (cont_with rest w.inner.k ∷ w.inner.around) = omega arith in
      let place : Place = record { pc = 0; body = body; base = length (operands ++ low) - arity; opens = flat.place.opens } in
      let results : length ty.results ≡ length function.ty.results = ap (λ (t : FuncType). length t.results) (sym same) in
      let mapped : PlacesMapped m maps (length function.ty.results) (next_place flat.place ∷ flat.callers) (caller ∷ below) =
      subst (λ (n : ℕ). PlacesMapped m maps n (next_place flat.place ∷ flat.callers) (caller ∷ below)) results caller_mapped in
      let done : Follows m maps (flat_of (zeros ++ (operands ++ low)) place (next_place flat.place ∷ flat.callers) c)
      (with_frames (frame_of function (reverse taken) ∷ caller ∷ below) c) =
      follows_with m maps c (zeros ++ (operands ++ low)) place (next_place flat.place ∷ flat.callers) (frame_of function (reverse taken)) (caller ∷ below) new
      (entered_mapped m maps function body (length (operands ++ low) - arity) flat.place.opens (reverse taken) is count) base
      (let e : flat.place.opens ≡ flat.place.opens + 0 = omega arith in e) caller_stands (is.results, waits, mapped) in
      let at : flat_of (zeros ++ (operands ++ low)) place (next_place flat.place ∷ flat.callers) c ≡ enter_body body arity function.locals here =
      ap (λ (x : Flat). record x { values = zeros ++ (operands ++ low); place = place; callers = next_place flat.place ∷ flat.callers }) (sym w.same) in
      subst (λ (x : Flat). Follows m maps x (with_frames (frame_of function (reverse taken) ∷ caller ∷ below) c)) at done

  own_if : (function : Function) (body : ℕ) → function.ty ≡ ty → IsMappedFunction m maps function body →
      (length flat.callers + 2 ≤ most_frames) ⊎ (most_frames < length flat.callers + 2) →
      EntersOwn m maps here (call (Some (Own function)) operands c (with_rest rest f w.inner.k w.inner.around) below) body arity function.locals
  own_if function body same is (inl left) =
      let counted = places_count m flat.callers below w.outer in
      let yes : nat_le (length (caller ∷ below) + 1) most_frames ≡ true = grind (arith, nat_tests) in
      let goes : Outcome = Goes (with_frames (frame_of function (reverse (take arity operands)) ∷ caller ∷ below) c) in
      let outcome : call (Some (Own function)) operands c (with_rest rest f w.inner.k w.inner.around) below ≡ goes =
      invoked (Own function) same ∙ ap (λ (x : Bool). cond x goes (Exceeds limit.Frames)) yes in
      inl (
        left,
        subst (λ (o : Outcome). Agrees (Follows m maps) (Gives (enter_body body arity function.locals here)) o) (sym outcome) (own_enters function body same is),
      )
  own_if function body same is (inr past) =
      let counted = places_count m flat.callers below w.outer in
      let no : nat_le (length (caller ∷ below) + 1) most_frames ≡ false = grind (arith, nat_tests) in
      let goes : Outcome = Goes (with_frames (frame_of function (reverse (take arity operands)) ∷ caller ∷ below) c) in
      inr (past, invoked (Own function) same ∙ ap (λ (x : Bool). cond x goes (Exceeds limit.Frames)) no)

  own_called : (function : Function) (body class : ℕ) (one : Bool) → function.ty ≡ ty → IsMappedFunction m maps function body →
      Called m maps here (call (Some (Own function)) operands c (with_rest rest f w.inner.k w.inner.around) below)
      (callee.Own body (length function.ty.params) function.locals one class)
  own_called function body class one same is =
      subst (λ (n : ℕ). Called m maps here (call (Some (Own function)) operands c (with_rest rest f w.inner.k w.inner.around) below) (callee.Own body n function.locals one class))
      (sym (ap (λ (t : FuncType). length t.params) same))
      (room, body_below m.bodies body is.body is.body_is, body_below maps body is.map is.map_is, own_if function body same is (frame_if (length flat.callers + 2) _ refl))

  -- the host is asked
  host_waits : FollowsGiven m maps (length ty.results) (goes_on (drop arity (operands ++ low)) here) (with_frames (caller ∷ below) c)
  host_waits =
      let left : drop arity (operands ++ low) ≡ all_values (caller ∷ below) =
      ap (drop arity) split_values ∙ drop_at (take arity operands) (all_values (caller ∷ below)) arity taken_count in
      let tells = follows.tells in
      record {
        tells = record {
          values = left;
          places = caller_stands;
          globals = tells.globals;
          table = tells.table;
          memory = tells.memory;
          invocations = tells.invocations;
        };
        waits = let e : 0 < length (cont_with rest w.inner.k ∷ w.inner.around) = omega arith in e;
        mapped = caller_mapped;
      }

  host_called : (number class : ℕ) (one : Bool) → arity ≤ 8 → length ty.results ≡ count_if one →
      IsKept m (call (Some (Host ty number)) operands c (with_rest rest f w.inner.k w.inner.around) below) →
      Called m maps here (call (Some (Host ty number)) operands c (with_rest rest f w.inner.k w.inner.around) below) (callee.Host number arity one class)
  host_called number class one few counted kept =
      let asks = invoked (Host ty number) refl in
      let known_kept : IsKept m (Calls (ask_of number (reverse (take arity operands))) (length ty.results) (with_frames (caller ∷ below) c)) = subst (IsKept m) asks kept in
      let same : take arity operands ≡ take arity (operands ++ low) =
      sym (ap (take arity) split_values ∙ take_at (take arity operands) (all_values (caller ∷ below)) arity taken_count) in (
        room,
        few,
        record {
          waits = with_frames (caller ∷ below) c;
          asks = asks ∙ ap (λ (l : List ℕ). Calls (ask_of number (reverse l)) (length ty.results) (with_frames (caller ∷ below) c)) same
              ∙ ap (λ (n : ℕ). Calls (ask_of number (reverse (take arity (operands ++ low)))) n (with_frames (caller ∷ below) c)) counted;
          follows = subst (λ (n : ℕ). FollowsGiven m maps n (goes_on (drop arity (operands ++ low)) here) (with_frames (caller ∷ below) c)) counted host_waits;
          index = known_kept.0;
          ty = known_kept.1;
          callee_is = known_kept.2;
          results_are = sym counted ∙ known_kept.3;
          typed = known_kept.4;
        },
      )

-- the callee in the map, for each callee
record CalledBy (m : Parts) (map : CodeMap) (flat : Flat) (outcome : Outcome) (index : ℕ) (ty : FuncType) : Type 0 where
  callee_of_map : MapCallee
  there : slice_get map.callees index ≡ Some callee_of_map
  classed : HasClass m ty (class_of callee_of_map)
  called : Called m map.bodies flat outcome callee_of_map

module _ (m : Parts) (map : CodeMap) (mapped : IsMappedModule m map) (flat : Flat) (c : Config) (follows : Follows m map.bodies flat c) (typed : IsTyped m [] c)
    (i : Instr) (f : Frame) (below : List Frame)
    (w : Work m map.bodies flat c follows typed i f below) (rest : Code) (rest_is : w.inner.k.rest ≡ Then i rest) (context : Context) (inside : IsContextOf m context)
    (known : FuncType) (has_type : HasType context i known) (b : ℕ) (enough : length f.operands ≡ length known.params + b)
    (operands : List ℕ) where
  any_called : (index : ℕ) (callee : Callee) → callee_of m index ≡ Some callee → length operands ≡ length (type_of callee).params + b →
      length known.results ≡ length (type_of callee).results → IsKept m (call (Some callee) operands c (with_rest rest f w.inner.k w.inner.around) below) →
      CalledBy m map (record flat { values = operands ++ low_values f.locals w.inner.k w.inner.around below })
      (call (Some callee) operands c (with_rest rest f w.inner.k w.inner.around) below) index (type_of callee)
  any_called index (Own function) is left gives kept =
      let own = own_mapped m map mapped index function (own_is m index function is) in
      record {
        callee_of_map = callee.Own own.body (length function.ty.params) function.locals own.gives own.class;
        there = own.there;
        classed = own.classed;
        called = own_called m map.bodies flat c follows typed i f below w rest rest_is context inside known has_type b enough operands function.ty left gives
            function own.body own.class own.gives refl own.mapped;
      }
  any_called index (Host ty number) is left gives kept =
      let host = host_mapped m map mapped index ty number is in
      record {
        callee_of_map = callee.Host number (length ty.params) host.gives host.class;
        there = host.there;
        classed = host.classed;
        called = host_called m map.bodies flat c follows typed i f below w rest rest_is context inside known has_type b enough operands ty left gives
            number host.class host.gives (few_params m mapped.hosts index ty number is) host.results kept;
      }

-- the callee in the map, and its class
any_there : (m : Parts) (map : CodeMap) → IsMappedModule m map → (index : ℕ) (callee : Callee) → callee_of m index ≡ Some callee →
    (found : MapCallee) × (slice_get map.callees index ≡ Some found) × HasClass m (type_of callee) (class_of found)
any_there m map mapped index (Own function) is =
    let own = own_mapped m map mapped index function (own_is m index function is) in
    (callee.Own own.body (length function.ty.params) function.locals own.gives own.class, own.there, own.classed)
any_there m map mapped index (Host ty number) is =
    let host = host_mapped m map mapped index ty number is in (callee.Host number (length ty.params) host.gives host.class, host.there, host.classed)

-- the innermost frame has an instruction to come
next_comes : (f : Frame) (k : Cont) (ks : List Cont) (i : Instr) (rest : Code) → f.conts ≡ k ∷ ks → k.rest ≡ Then i rest → HasNextIn f.conts
next_comes f k ks i rest is comes = subst HasNextIn (sym is) (subst IsNext (sym comes) tt)

-- the type of a call through the table
indirect_type : (context : Context) (i : Instr) (x : ℕ) (ty : FuncType) → i.code ≡ 0x11 → i.imm ≡ imm.Index x → HasType context i ty →
    (known : FuncType) × (slice_get context.types x ≡ Some known) × (ty ≡ arrow (known.params ++ I32 ∷ []) known.results)
indirect_type context i x ty e number (Numeric (inl (t, inl (code, t_is), known))) = absurd (omega (arith, e, code))
indirect_type context i x ty e number (Numeric (inl (t, inr (code, t_is), known))) = absurd (omega (arith, e, code))
indirect_type context i x ty e number (Numeric (inr (kind, listed))) =
    let least : 0x45 ≤ i.code = (plain_within i.code kind).0 in absurd (omega (arith, e, least))
indirect_type context i x ty e number (Parametric (inl (t, code, known))) = absurd (omega (arith, e, code))
indirect_type context i x ty e number (Parametric (inr (t, code, known))) = absurd (omega (arith, e, code))
indirect_type context i x ty e number (Local (y, t, index, place, inl (code, known))) = absurd (omega (arith, e, code))
indirect_type context i x ty e number (Local (y, t, index, place, inr (inl (code, known)))) = absurd (omega (arith, e, code))
indirect_type context i x ty e number (Local (y, t, index, place, inr (inr (code, known)))) = absurd (omega (arith, e, code))
indirect_type context i x ty e number (Global (y, g, index, place, inl (code, known))) = absurd (omega (arith, e, code))
indirect_type context i x ty e number (Global (y, g, index, place, inr (code, mutable, known))) = absurd (omega (arith, e, code))
indirect_type context i x ty e number (Access (align, offset, numbers, aligned, there, inl kind, known)) =
    let least : 0x28 ≤ i.code = (load_within i.code kind).0 in absurd (omega (arith, e, least))
indirect_type context i x ty e number (Access (align, offset, numbers, aligned, there, inr kind, known)) =
    let least : 0x36 ≤ i.code = (store_within i.code kind).0 in absurd (omega (arith, e, least))
indirect_type context i x ty e number (MemorySize (there, inl (code, known))) = absurd (omega (arith, e, code))
indirect_type context i x ty e number (MemorySize (there, inr (code, known))) = absurd (omega (arith, e, code))
indirect_type context i x ty e number (Nop code known) = absurd (omega (arith, e, code))
indirect_type context i x ty e number (BranchIf (label, carried, code, index, place, known)) = absurd (omega (arith, e, code))
indirect_type context i x ty e number (Call (function, code, index, known)) = absurd (omega (arith, e, code))
indirect_type context i x ty e number (CallIndirect (y, known, code, index, there, place, is)) =
    let numbers : imm.Index y ≡ imm.Index x = sym index ∙ number in
    let same : y ≡ x = cc in
    (known, ap (slice_get context.types) (sym same) ∙ place, is)

module _ (m : Parts) (map : CodeMap) (module_typed : IsTypedModule m) (mapped : IsMappedModule m map) (flat : Flat) (c : Config) (follows : Follows m map.bodies flat c)
    (typed : IsTyped m [] c) (i : Instr) where
  -- what is called has a callee, by the typing of the call
  callee_known : (context : Context) → IsContextOf m context → (index : ℕ) (known : FuncType) → IsFunctionType context index known →
      (callee : Callee) × (callee_of m index ≡ Some callee) × (type_of callee ≡ known)
  callee_known context inside index known (place, found, ty) =
      let functions : slice_get (functions_of m) index ≡ Some place = ap (λ (l : List ℕ). slice_get l index) (sym inside.functions) ∙ found in
      let types : slice_get m.types place ≡ Some known = ap (λ (l : List FuncType). slice_get l place) (sym inside.types) ∙ ty in
      module_typed.callees index place known functions types

  index_led : (index : ℕ) (f : Frame) (below : List Frame) (w : Work m map.bodies flat c follows typed i f below) (rest : Code) → w.inner.k.rest ≡ Then i rest →
      i.code ≡ 0x10 → plain_of i ≡ Some (op.Call index) → (stack : List ValType) → AreValues stack f.operands → IsPlain i → (at : LeadsAt m i stack) →
      IsKept m (call (callee_of m index) f.operands c (with_rest rest f w.inner.k w.inner.around) below) →
      (lead : Leads at.context i stack at.after) →
      CallsIndex m map flat (call (callee_of m index) f.operands c (with_rest rest f w.inner.k w.inner.around) below) index
  index_led index f below w rest rest_is code plain stack operands plain_is at kept (inl (known, has_type, applies)) =
      let b = applies.0 in
      let count = as_many stack f.operands operands ∙ ap length applies.1 ∙ length-append (reverse known.params) b in
      let turned = length-reverse known.params in
      let callee = callee_known at.context at.inside index known (call_type at.context i index known plain plain_is has_type) in
      let params : length (type_of callee.0).params ≡ length known.params = ap (λ (t : FuncType). length t.params) callee.2 in
      let results : length known.results ≡ length (type_of callee.0).results = ap (λ (t : FuncType). length t.results) (sym callee.2) in
      let g : Frame = with_rest rest f w.inner.k w.inner.around in
      let done = any_called m map mapped flat c follows typed i f below w rest rest_is at.context at.inside known has_type (length b) (omega arith) f.operands
      index callee.0 callee.1 (omega arith) results (subst (λ (o : Option Callee). IsKept m (call o f.operands c g below)) callee.1 kept) in
      let values : record flat { values = f.operands ++ low_values f.locals w.inner.k w.inner.around below } ≡ flat =
      ap (λ (l : List ℕ). record flat { values = l }) (sym (values_here m map.bodies flat c follows typed i f below w)) in
      let outcome : call (Some callee.0) f.operands c g below ≡ call (callee_of m index) f.operands c g below =
      ap (λ (o : Option Callee). call o f.operands c g below) (sym callee.1) in (
        done.callee_of_map,
        done.there,
        subst (λ (x : Flat). Called m map.bodies x (call (callee_of m index) f.operands c g below) done.callee_of_map) values
            (subst (λ (o : Outcome). Called m map.bodies (record flat { values = f.operands ++ low_values f.locals w.inner.k w.inner.around below }) o done.callee_of_map)
            outcome done.called),
      )
  index_led index f below w rest rest_is code plain stack operands plain_is at kept (inr (needs, inl (other, none), ends)) = absurd (omega (arith, code, other))
  index_led index f below w rest rest_is code plain stack operands plain_is at kept (inr (needs, inr (inl (label, other, number, place)), ends)) =
      absurd (omega (arith, code, other))
  index_led index f below w rest rest_is code plain stack operands plain_is at kept (inr (needs, inr (inr (other, results)), ends)) =
      absurd (omega (arith, code, other))

  -- a rule applies to the configuration
  kept_by : (f : Frame) (below : List Frame) → c.frames ≡ f ∷ below → HasNextIn f.conts → (o : Outcome) → next m c ≡ o → IsKept m o
  kept_by f below e comes o is = subst (IsKept m) is (next_kept m module_typed c typed (subst HasNext (sym e) comes))

  index_at : (index : ℕ) (frames : List Frame) → c.frames ≡ frames → next m c ≡ next_among m c frames → i.code ≡ 0x10 → i.imm ≡ imm.Index index →
      IsInstrAt m flat.place i → CallsIndex m map flat (next_among m c frames) index
  unfolding execute_plain
  index_at index [] e same code number at = absurd (subst (λ (frames : List Frame). PlacesStand m (flat.place ∷ flat.callers) frames) e follows.tells.places)
  index_at index (f ∷ below) e same code number at =
      let w = work m map.bodies flat c follows typed i f below at e in
      let there = w.inner in
      let plain = plain_call i index code number in
      let comes = plain_comes i (op.Call index) there.k.rest plain there.begins in
      let rest = comes.0 in
      let g : Frame = with_rest rest f there.k there.around in
      let next_is : next_among m c (f ∷ below) ≡ call (callee_of m index) f.operands c g below =
      ap (λ (x : List Cont). next_in m c f x below) there.is ∙ ap (λ (x : Code). next_of m x c f there.k there.around below) comes.1
      ∙ ap (λ (o : Option Plain). execute m o c g below) plain in
      let kept = kept_by f below e (next_comes f there.k there.around i rest there.is comes.1) (call (callee_of m index) f.operands c g below) (same ∙ next_is) in
      let frames : FramesTyped m [] (f ∷ below) = subst (λ (frames : List Frame). FramesTyped m [] frames) e typed.frames in
      let frame = frames.1 in
      let instrs : HasInstrs (Then i rest) = subst HasInstrs comes.1 w.instrs in
      let conts : ContsTyped (context_of m frames.0 frame.runs) frame.labels (there.k ∷ there.around) frame.stack =
      subst (λ (x : List Cont). ContsTyped (context_of m frames.0 frame.runs) frame.labels x frame.stack) there.is frame.conts in
      let leads = leads_in m frames.0 frame.runs frame.labels there.k there.around frame.stack i rest comes.1 conts in
      subst (λ (o : Outcome). CallsIndex m map flat o index) (sym next_is)
      (index_led index f below w rest comes.1 code plain frame.stack frame.operands instrs.0 leads kept leads.leads)

  -- a call
  pub index_called : (index : ℕ) → i.code ≡ 0x10 → i.imm ≡ imm.Index index → IsInstrAt m flat.place i → CallsIndex m map flat (next m c) index
  unfolding next
  index_called index code number at = index_at index c.frames refl refl code number at

  -- a call of what has to be of this type
  typed_called : (x : ℕ) (f : Frame) (below : List Frame) (w : Work m map.bodies flat c follows typed i f below) (rest : Code) → w.inner.k.rest ≡ Then i rest →
      (context : Context) → IsContextOf m context → (known : FuncType) → HasType context i known → (b : ℕ) → length f.operands ≡ length known.params + b →
      (ty : FuncType) → slice_get m.types x ≡ Some ty → (operands : List ℕ) → length operands ≡ length ty.params + b → length known.results ≡ length ty.results →
      (function : ℕ) (callee : Callee) → callee_of m function ≡ Some callee → (class : ℕ) → slice_get map.classes x ≡ Some class → IsClass m.types x class →
      (o : Outcome) → o ≡ cond (same_type (type_of callee) ty) (call (Some callee) operands c (with_rest rest f w.inner.k w.inner.around) below) (Traps traps.WrongType) →
      IsKept m o → (same : Bool) → same_type (type_of callee) ty ≡ same →
      CallsElement m map (record flat { values = operands ++ low_values f.locals w.inner.k w.inner.around below }) o x (Some (Some function))
  typed_called x f below w rest rest_is context inside known has_type b enough ty type_is operands left gives function callee is class there classed o tested kept true test =
      let g : Frame = with_rest rest f w.inner.k w.inner.around in
      let outcome : o ≡ call (Some callee) operands c g below =
      tested ∙ ap (λ (t : Bool). cond t (call (Some callee) operands c g below) (Traps traps.WrongType)) test in
      let same : type_of callee ≡ ty = types_same (type_of callee) ty test in
      let params : length ty.params ≡ length (type_of callee).params = ap (λ (t : FuncType). length t.params) (sym same) in
      let results : length ty.results ≡ length (type_of callee).results = ap (λ (t : FuncType). length t.results) (sym same) in
      let done = any_called m map mapped flat c follows typed i f below w rest rest_is context inside known has_type b enough operands
      function callee is (omega arith) (gives ∙ results) (subst (IsKept m) outcome kept) in
      let one = classes_agree m (type_of callee) ty x (class_of done.callee_of_map) class done.classed type_is classed same in (
        class,
        done.callee_of_map,
        there,
        done.there,
        inr (
          one,
          subst (λ (z : Outcome). Called m map.bodies (record flat { values = operands ++ low_values f.locals w.inner.k w.inner.around below }) z done.callee_of_map) (sym outcome)
              done.called,
        ),
      )
  typed_called x f below w rest rest_is context inside known has_type b enough ty type_is operands left gives function callee is class there classed o tested kept false test =
      let g : Frame = with_rest rest f w.inner.k w.inner.around in
      let outcome : o ≡ Traps traps.WrongType =
      tested ∙ ap (λ (t : Bool). cond t (call (Some callee) operands c g below) (Traps traps.WrongType)) test in
      let found = any_there m map mapped function callee is in
      (class, found.0, there, found.1, inl (classes_differ m (type_of callee) ty x (class_of found.0) class found.2 type_is classed test, outcome))

  -- a call of an element of the table, where this is left of the operands
  element_called : (x : ℕ) (f : Frame) (below : List Frame) (w : Work m map.bodies flat c follows typed i f below) (rest : Code) → w.inner.k.rest ≡ Then i rest →
      (context : Context) → IsContextOf m context → (known : FuncType) → HasType context i known → (b : ℕ) → length f.operands ≡ length known.params + b →
      (ty : FuncType) → slice_get m.types x ≡ Some ty → (operands : List ℕ) → length operands ≡ length ty.params + b → length known.results ≡ length ty.results →
      (place : ℕ) (element : Option (Option ℕ)) → slice_get c.table place ≡ element →
      IsKept m (call_element m x element operands c (with_rest rest f w.inner.k w.inner.around) below) →
      CallsElement m map (record flat { values = operands ++ low_values f.locals w.inner.k w.inner.around below })
      (call_element m x element operands c (with_rest rest f w.inner.k w.inner.around) below) x element
  element_called x f below w rest rest_is context inside known has_type b enough ty type_is operands left gives place None at kept = refl
  element_called x f below w rest rest_is context inside known has_type b enough ty type_is operands left gives place (Some None) at kept = refl
  element_called x f below w rest rest_is context inside known has_type b enough ty type_is operands left gives place (Some (Some function)) at kept =
      let g : Frame = with_rest rest f w.inner.k w.inner.around in
      let callee = typed.table place function at in
      let class = class_there m map mapped x ty type_is in
      let tested : call_element m x (Some (Some function)) operands c g below
      ≡ cond (same_type (type_of callee.0) ty) (call (Some callee.0) operands c g below) (Traps traps.WrongType) =
      ap (λ (t : Option FuncType). call_typed t (callee_of m function) operands c g below) type_is
      ∙ ap (λ (o : Option Callee). call_typed (Some ty) o operands c g below) callee.1 in
      typed_called x f below w rest rest_is context inside known has_type b enough ty type_is operands left gives function callee.0 callee.1 class.0 class.1 class.2
      _ tested kept (same_type (type_of callee.0) ty) refl

  through_taken : (x : ℕ) (f : Frame) (below : List Frame) (w : Work m map.bodies flat c follows typed i f below) (rest : Code) → w.inner.k.rest ≡ Then i rest →
      (context : Context) → IsContextOf m context → (known : FuncType) → HasType context i known → (b : ℕ) → length f.operands ≡ length known.params + b →
      (ty : FuncType) → slice_get m.types x ≡ Some ty → known ≡ arrow (ty.params ++ I32 ∷ []) ty.results → (operands : List ℕ) → f.operands ≡ operands →
      IsKept m (call_indirect m x operands c (with_rest rest f w.inner.k w.inner.around) below) →
      CallsThrough m map flat (call_indirect m x operands c (with_rest rest f w.inner.k w.inner.around) below) x
      (operands ++ low_values f.locals w.inner.k w.inner.around below)
  through_taken x f below w rest rest_is context inside known has_type b enough ty type_is known_is [] is kept =
      let params : length known.params ≡ length (ty.params ++ I32 ∷ []) = ap (λ (t : FuncType). length t.params) known_is in
      let more = length-append ty.params (I32 ∷ []) in
      let none : length f.operands ≡ 0 = ap length is in
      absurd (omega arith)
  through_taken x f below w rest rest_is context inside known has_type b enough ty type_is known_is (place ∷ operands) is kept =
      let params : length known.params ≡ length (ty.params ++ I32 ∷ []) = ap (λ (t : FuncType). length t.params) known_is in
      let results : length known.results ≡ length ty.results = ap (λ (t : FuncType). length t.results) known_is in
      let more = length-append ty.params (I32 ∷ []) in
      let all : length f.operands ≡ suc (length operands) = ap length is in
      let done = element_called x f below w rest rest_is context inside known has_type b enough ty type_is operands (omega arith) results
      place (slice_get c.table place) refl kept in
      subst (λ (t : List (Option ℕ)). CallsElement m map (record flat { values = operands ++ low_values f.locals w.inner.k w.inner.around below })
      (call_element m x (slice_get c.table place) operands c (with_rest rest f w.inner.k w.inner.around) below) x (slice_get t place))
      (sym follows.tells.table) done

  through_led : (x : ℕ) (f : Frame) (below : List Frame) (w : Work m map.bodies flat c follows typed i f below) (rest : Code) → w.inner.k.rest ≡ Then i rest →
      i.code ≡ 0x11 → i.imm ≡ imm.Index x → (stack : List ValType) → AreValues stack f.operands → (at : LeadsAt m i stack) →
      IsKept m (call_indirect m x f.operands c (with_rest rest f w.inner.k w.inner.around) below) →
      (lead : Leads at.context i stack at.after) →
      CallsThrough m map flat (call_indirect m x f.operands c (with_rest rest f w.inner.k w.inner.around) below) x flat.values
  through_led x f below w rest rest_is code number stack operands at kept (inl (known, has_type, applies)) =
      let b = applies.0 in
      let count = as_many stack f.operands operands ∙ ap length applies.1 ∙ length-append (reverse known.params) b in
      let turned = length-reverse known.params in
      let ty = indirect_type at.context i x known code number has_type in
      let type_is : slice_get m.types x ≡ Some ty.0 = ap (λ (l : List FuncType). slice_get l x) (sym at.inside.types) ∙ ty.1 in
      subst (CallsThrough m map flat (call_indirect m x f.operands c (with_rest rest f w.inner.k w.inner.around) below) x)
      (sym (values_here m map.bodies flat c follows typed i f below w))
      (through_taken x f below w rest rest_is at.context at.inside known has_type (length b) (omega arith) ty.0 type_is ty.2 f.operands refl kept)
  through_led x f below w rest rest_is code number stack operands at kept (inr (needs, inl (other, none), ends)) = absurd (omega (arith, code, other))
  through_led x f below w rest rest_is code number stack operands at kept (inr (needs, inr (inl (label, other, index, place)), ends)) =
      absurd (omega (arith, code, other))
  through_led x f below w rest rest_is code number stack operands at kept (inr (needs, inr (inr (other, results)), ends)) =
      absurd (omega (arith, code, other))

  through_at : (x : ℕ) (frames : List Frame) → c.frames ≡ frames → next m c ≡ next_among m c frames → i.code ≡ 0x11 → i.imm ≡ imm.Index x →
      IsInstrAt m flat.place i → CallsThrough m map flat (next_among m c frames) x flat.values
  unfolding execute_plain
  through_at x [] e same code number at = absurd (subst (λ (frames : List Frame). PlacesStand m (flat.place ∷ flat.callers) frames) e follows.tells.places)
  through_at x (f ∷ below) e same code number at =
      let w = work m map.bodies flat c follows typed i f below at e in
      let there = w.inner in
      let plain = plain_call_indirect i x code number in
      let comes = plain_comes i (op.CallIndirect x) there.k.rest plain there.begins in
      let rest = comes.0 in
      let g : Frame = with_rest rest f there.k there.around in
      let next_is : next_among m c (f ∷ below) ≡ call_indirect m x f.operands c g below =
      ap (λ (x : List Cont). next_in m c f x below) there.is ∙ ap (λ (x : Code). next_of m x c f there.k there.around below) comes.1
      ∙ ap (λ (o : Option Plain). execute m o c g below) plain in
      let kept = kept_by f below e (next_comes f there.k there.around i rest there.is comes.1) (call_indirect m x f.operands c g below) (same ∙ next_is) in
      let frames : FramesTyped m [] (f ∷ below) = subst (λ (frames : List Frame). FramesTyped m [] frames) e typed.frames in
      let frame = frames.1 in
      let conts : ContsTyped (context_of m frames.0 frame.runs) frame.labels (there.k ∷ there.around) frame.stack =
      subst (λ (x : List Cont). ContsTyped (context_of m frames.0 frame.runs) frame.labels x frame.stack) there.is frame.conts in
      let leads = leads_in m frames.0 frame.runs frame.labels there.k there.around frame.stack i rest comes.1 conts in
      subst (λ (o : Outcome). CallsThrough m map flat o x flat.values) (sym next_is)
      (through_led x f below w rest comes.1 code number frame.stack frame.operands leads kept leads.leads)

  -- a call through the table
  pub through_called : (x : ℕ) → i.code ≡ 0x11 → i.imm ≡ imm.Index x → IsInstrAt m flat.place i → CallsThrough m map flat (next m c) x flat.values
  unfolding next
  through_called x code number at = through_at x c.frames refl refl code number at
