-- Straight code goes on along the map.
use Rattle.std.specs.Prelude.{⊤}
use Rattle.std.proofs.Common.{◌≡◌, ◌≢◌, ◌⊎◌, ℕ, ◌+◌, inl, inr, Bool, true, false, cond, nat_lt, nat_le, List, [], ◌∷◌, ◌++◌, length, reverse, slice_get, slice_set, Option, Some, None, arith, refl, sym, ◌∙◌, ap, subst, length-append}
use Rattle.std.proofs.lemmas.List.{length-reverse}
use Rattle.wasm_ops.specs.declared.trap.Trap.{Trap}
use Rattle.wasm_ops.specs.declared.trap.Trap.TheVariants as traps
use Rattle.wasm_ops.specs.Table.{width_of}
use Rattle.linear_memory.specs.Bytes.{low_bytes, written}
use Rattle.linear_memory.specs.Contents.{Contents}
use Rattle.wasm_form.specs.declared.value_type.ValType.{ValType}
use Rattle.wasm_form.specs.declared.types.FuncType.{FuncType}
use Rattle.wasm_form.specs.declared.body.LocalRun.{LocalRun}
use Rattle.wasm_form.specs.declared.instr.Instr.{Instr}
use Rattle.wasm_form.specs.declared.parts.Parts.{Parts}
use Rattle.wasm_form.specs.Context.{Context, context_of}
use Rattle.wasm_form.specs.Matching.{IsPlain}
use Rattle.wasm_form.specs.Typing.{Types, Leads, HasType}
use Rattle.wasm_form.specs.Trees.{Code, Then, end_instr, size}
use Rattle.code_map.specs.declared.body_map.BodyMap.{BodyMap}
use Rattle.code_map.specs.Flows.{IsContextOf, GoesOn}
use Rattle.code_map.specs.Targets.{HasTarget}
use Rattle.code_map.specs.Mapped.{Mapped}
use Rattle.tree_machine.specs.Instructions.{Plain, plain_of}
use Rattle.tree_machine.specs.Instructions as op
use Rattle.tree_machine.specs.Config.{Cont, Frame, Config}
use Rattle.tree_machine.specs.Outcomes.{Effect, Gives, Fails, Undefined, Outcome, Goes, Calls, Traps, Exceeds, Stuck}
use Rattle.tree_machine.specs.Numeric.{unary, binary}
use Rattle.tree_machine.specs.Parametric.{drop_one, select}
use Rattle.tree_machine.specs.Variables.{push_value}
use Rattle.tree_machine.specs.MemoryAccess.{load_from}
use Rattle.tree_machine.specs.MemorySize.{pages_in, size_of, minus_one, grown}
use Rattle.tree_machine.specs.Step.{execute_plain, execute, with_rest, next_of, next_in, next_among, next}
use Rattle.tree_machine.specs.Typed.{AreValues, HasInstrs, ContsTyped, with_labels, FramesTyped, IsTyped}
use Rattle.tree_machine.proofs.PlainOf.{plain_unreachable, plain_br, plain_return}
use Rattle.tree_machine.proofs.Values.{as_many}
use Rattle.flat_machine.specs.Flat.{Place, Flat, goes_on}
use Rattle.flat_machine.specs.Text.{IsAt, StandsAt, ListsStand}
use Rattle.flat_machine.specs.Values.{operands_with}
use Rattle.flat_machine.specs.Tells.{Tells, PlacesStand, IsInstrAt, Agrees}
use Rattle.flat_machine.specs.Straight.{to_values, local_value, set_top, tee_top, put_global, put_top, grow_memory, straight, IsStraight}
use Rattle.flat_machine.specs.Mapping.{ListsMapped, results_from, CallersMapped, PlacesMapped, Follows}
use Rattle.flat_machine.proofs.Standing.{same_some, plain_comes}
use Rattle.flat_machine.proofs.StraightAgrees.{cont_with, next_place, straight_agrees}
use Rattle.flat_machine.proofs.Inner.{results_same}
use Rattle.flat_machine.proofs.BlocksAgree.{Work, work}
use Rattle.flat_machine.proofs.Counts.{pops, pushes, never, type_counts, Counted, plain_counted}

-- what goes on stands at the next place, with the same callers
abbrev PlaceKept : Flat → Effect Flat → Type 0
PlaceKept flat (Gives to) = (to.place ≡ next_place flat.place) × (to.callers ≡ flat.callers)
PlaceKept flat (Fails trap) = ⊤
PlaceKept flat Undefined = ⊤

values_keep : (flat : Flat) (e : Effect (List ℕ)) → PlaceKept flat (to_values flat e)
values_keep flat (Gives values) = (refl, refl)
values_keep flat (Fails trap) = tt
values_keep flat Undefined = tt

cond_keeps : (flat : Flat) (test : Bool) (one two : Effect Flat) → PlaceKept flat one → PlaceKept flat two → PlaceKept flat (cond test one two)
cond_keeps flat true one two h k = h
cond_keeps flat false one two h k = k

global_keeps : (x : ℕ) (values : List ℕ) (flat : Flat) → PlaceKept flat (put_global x values flat)
global_keeps x [] flat = tt
global_keeps x (value ∷ below) flat =
    cond_keeps flat (nat_lt x (length flat.globals)) (Gives (record (goes_on below flat) { globals = slice_set flat.globals x value })) Undefined (refl, refl) tt

store_keeps : (code offset : ℕ) (o : Option Contents) (values : List ℕ) (flat : Flat) → PlaceKept flat (put_top code offset o values flat)
store_keeps code offset None values flat = tt
store_keeps code offset (Some memory) [] flat = tt
store_keeps code offset (Some memory) (value ∷ []) flat = tt
store_keeps code offset (Some memory) (value ∷ address ∷ below) flat =
    cond_keeps flat (nat_le (address + offset + width_of code) (length memory.bytes))
    (Gives (record (goes_on below flat) {
      memory = Some (record memory { bytes = written memory.bytes (address + offset) (low_bytes (width_of code) value) });
    }))
    (Fails traps.Bounds) (refl, refl) tt

grow_keeps : (o : Option Contents) (values : List ℕ) (flat : Flat) → PlaceKept flat (grow_memory o values flat)
grow_keeps None values flat = tt
grow_keeps (Some memory) [] flat = tt
grow_keeps (Some memory) (pages ∷ below) flat =
    cond_keeps flat (nat_le (pages_in memory + pages) memory.most)
    (Gives (record (goes_on (pages_in memory ∷ below) flat) { memory = Some (grown pages memory) }))
    (Gives (goes_on (minus_one ∷ below) flat)) (refl, refl) (refl, refl)

straight_keeps : (p : Plain) (flat : Flat) → PlaceKept flat (straight p flat)
unfolding straight
straight_keeps op.Unreachable flat = tt
straight_keeps op.Nop flat = (refl, refl)
straight_keeps (op.Br label) flat = tt
straight_keeps (op.BrIf label) flat = tt
straight_keeps op.Return flat = tt
straight_keeps (op.Call function) flat = tt
straight_keeps (op.CallIndirect ty) flat = tt
straight_keeps op.Drop flat = values_keep flat (drop_one flat.values)
straight_keeps op.Select flat = values_keep flat (select flat.values)
straight_keeps (op.LocalGet x) flat = values_keep flat (push_value (local_value flat.place.base x flat.values) flat.values)
straight_keeps (op.LocalSet x) flat = values_keep flat (set_top flat.place.base x flat.values)
straight_keeps (op.LocalTee x) flat = values_keep flat (tee_top flat.place.base x flat.values)
straight_keeps (op.GlobalGet x) flat = values_keep flat (push_value (slice_get flat.globals x) flat.values)
straight_keeps (op.GlobalSet x) flat = global_keeps x flat.values flat
straight_keeps (op.Load code offset) flat = values_keep flat (load_from code offset flat.memory flat.values)
straight_keeps (op.Store code offset) flat = store_keeps code offset flat.memory flat.values flat
straight_keeps op.MemorySize flat = values_keep flat (size_of flat.memory flat.values)
straight_keeps op.MemoryGrow flat = grow_keeps flat.memory flat.values flat
straight_keeps (op.Const value) flat = (refl, refl)
straight_keeps (op.Unary code) flat = values_keep flat (unary code flat.values)
straight_keeps (op.Binary code) flat = values_keep flat (binary code flat.values)

-- the frame goes on with these counts
abbrev GoesMapped : Parts → List BodyMap → Flat → Frame → List Frame → (takes gives : ℕ) → Type 0
GoesMapped m maps flat f below takes gives =
    (g : Frame) → g.conts ≡ f.conts → length g.locals ≡ length f.locals → length g.operands + takes ≡ length f.operands + gives →
    PlacesMapped m maps 0 (next_place flat.place ∷ flat.callers) (g ∷ below)

agrees_more : (m : Parts) (maps : List BodyMap) (flat : Flat) (f : Frame) (below : List Frame) (takes gives : ℕ) (e : Effect Flat) (o : Outcome) →
    Agrees (Tells m) e o → PlaceKept flat e → Counted f below takes gives o → GoesMapped m maps flat f below takes gives → Agrees (Follows m maps) e o
agrees_more m maps flat f below takes gives (Gives to) (Goes c) h place counted mapped =
    let g = counted.0 in
    let there : PlacesMapped m maps 0 (next_place flat.place ∷ flat.callers) (g ∷ below) = mapped g counted.2 counted.3 counted.4 in
    let at : PlacesMapped m maps 0 (to.place ∷ to.callers) (g ∷ below) =
    subst (λ (p : Place). PlacesMapped m maps 0 (p ∷ to.callers) (g ∷ below)) (sym place.0)
    (subst (λ (ps : List Place). PlacesMapped m maps 0 (next_place flat.place ∷ ps) (g ∷ below)) (sym place.1) there) in
    record { tells = h; mapped = subst (λ (frames : List Frame). PlacesMapped m maps 0 (to.place ∷ to.callers) frames) (sym counted.1) at }
agrees_more m maps flat f below takes gives (Gives to) (Calls ask results waits) h place counted mapped = absurd h
agrees_more m maps flat f below takes gives (Gives to) (Traps trap) h place counted mapped = absurd h
agrees_more m maps flat f below takes gives (Gives to) (Exceeds spent) h place counted mapped = absurd h
agrees_more m maps flat f below takes gives (Gives to) Stuck h place counted mapped = absurd h
agrees_more m maps flat f below takes gives (Fails trap) (Traps other) h place counted mapped = h
agrees_more m maps flat f below takes gives (Fails trap) (Goes c) h place counted mapped = absurd h
agrees_more m maps flat f below takes gives (Fails trap) (Calls ask results waits) h place counted mapped = absurd h
agrees_more m maps flat f below takes gives (Fails trap) (Exceeds spent) h place counted mapped = absurd h
agrees_more m maps flat f below takes gives (Fails trap) Stuck h place counted mapped = absurd h
agrees_more m maps flat f below takes gives Undefined (Goes c) h place counted mapped = absurd h
agrees_more m maps flat f below takes gives Undefined (Calls ask results waits) h place counted mapped = absurd h
agrees_more m maps flat f below takes gives Undefined (Traps trap) h place counted mapped = absurd h
agrees_more m maps flat f below takes gives Undefined (Exceeds spent) h place counted mapped = absurd h
agrees_more m maps flat f below takes gives Undefined Stuck h place counted mapped = absurd h

traps_agree : (m : Parts) (maps : List BodyMap) (e : Effect Flat) (trap : Trap) → Agrees (Tells m) e (Traps trap) → Agrees (Follows m maps) e (Traps trap)
traps_agree m maps (Gives to) trap h = absurd h
traps_agree m maps (Fails other) trap h = h
traps_agree m maps Undefined trap h = absurd h

-- the typing of the first instruction of the innermost list
pub record LeadsAt (m : Parts) (i : Instr) (stack : List ValType) : Type 0 where
  pub context : Context
  pub inside : IsContextOf m context
  pub after : List ValType
  pub leads : Leads context i stack after

pub leads_in : (m : Parts) (ty : FuncType) (runs : List LocalRun) (labels : List (List ValType)) (k : Cont) (ks : List Cont) (stack : List ValType) (i : Instr) (rest : Code) →
    k.rest ≡ Then i rest → ContsTyped (context_of m ty runs) labels (k ∷ ks) stack → LeadsAt m i stack
leads_in m ty runs [] k ks stack i rest is conts = absurd conts
leads_in m ty runs (carried ∷ around) k ks stack i rest is conts =
    let context : Context = with_labels (carried ∷ around) (context_of m ty runs) in
    let types : Types context (Then i rest) stack conts.0 = subst (λ (code : Code). Types context code stack conts.0) is conts.2.leads in
    record { context = context; inside = record { types = refl; functions = refl }; after = types.0; leads = types.1 }

module _ (m : Parts) (maps : List BodyMap) (flat : Flat) (c : Config) (follows : Follows m maps flat c) (typed : IsTyped m [] c) (i : Instr) where
  -- the frame goes on, mapped at the height that the instruction leaves
  pub next_mapped : (given : ℕ) (f : Frame) (below : List Frame) (w : Work m maps flat c follows typed i f below) (rest : Code) → w.inner.k.rest ≡ Then i rest →
      (context : Context) → IsContextOf m context → (known : FuncType) → HasType context i known → (b : ℕ) →
      length f.operands ≡ length known.params + b → (g : Frame) → g.conts ≡ cont_with rest w.inner.k ∷ w.inner.around → length g.locals ≡ length f.locals →
      given + length g.operands ≡ length known.results + b → PlacesMapped m maps given (next_place flat.place ∷ flat.callers) (g ∷ below)
  next_mapped given f below w rest is context inside known has_type b enough g conts locals counted =
      let there = w.inner in
      let k = there.k in
      let ks = there.around in
      let low = length (operands_with k.under ks) in
      let height = given + (length f.locals + (length g.operands + low)) in
      let joined = length-append f.operands (operands_with k.under ks) in
      let high : w.height ≡ length f.locals + length (f.operands ++ operands_with k.under ks) =
      w.high ∙ ap (λ (x : List Cont). length f.locals + length (operands_with f.operands x)) there.is in
      let next_on : GoesOn m i w.height height = record {
        context = context;
        inside = inside;
        ty = known;
        typed = has_type;
        below = length f.locals + (b + low);
        stood = omega arith;
        stands = omega arith;
      } in
      let here = there.list in
      let stands : StandsAt there.body.expr flat.place.pc (Then i rest) = subst (λ (code : Code). StandsAt there.body.expr flat.place.pc code) is here.stands in
      let mapped : Mapped m there.map (there.target ∷ there.labels) flat.place.pc w.height (Then i rest) =
      subst (λ (code : Code). Mapped m there.map (there.target ∷ there.labels) flat.place.pc w.height code) is there.mapped.mapped in
      let sizes : size k.rest ≡ 1 + size rest = ap size is in
      let place_is : flat.place.pc + size k.rest ≡ flat.place.pc + 1 + size rest = omega arith in
      let around = there.mapped in
      let over = length-append g.operands (operands_with k.under ks) in
      let all : length (operands_with g.operands g.conts) ≡ length (g.operands ++ operands_with k.under ks) = ap (λ (x : List Cont). length (operands_with g.operands x)) conts in
      let results : results_from f.operands f.conts ≡ results_from g.operands g.conts =
      ap (λ (x : List Cont). results_from f.operands x) there.is ∙ results_same f.operands g.operands k (cont_with rest k) ks refl
      ∙ ap (λ (x : List Cont). results_from g.operands x) (sym conts) in
      let lists : ListsMapped m there.map there.body.expr (length f.locals) (there.target ∷ there.labels) (flat.place.pc + 1) height (there.after ∷ there.afters) (cont_with rest k ∷ ks) = (
        record {
          mapped = mapped.1 height next_on;
          leads = around.leads;
          height_is = around.height_is;
          opens_is = around.opens_is;
          closes = subst (λ (n : ℕ). IsAt there.body.expr n end_instr ⊎ (HasTarget there.map n there.target × (there.target.to ≡ there.after))) place_is around.closes;
          loops = around.loops;
          outermost = around.outermost;
        },
        there.outer_mapped,
      ) in
      let text : ListsStand there.body.expr (flat.place.pc + 1) (there.after ∷ there.afters) (cont_with rest k ∷ ks) =
      (record { stop = here.stop; stops = here.stops ∙ place_is; ends = here.ends; stands = stands.1; loops = here.loops }, there.outer) in (
        record {
          left = record {
            body = there.body;
            is = there.body_is;
            afters = there.after ∷ there.afters;
            lists = subst (λ (x : List Cont). ListsStand there.body.expr (flat.place.pc + 1) (there.after ∷ there.afters) x) (sym conts) text;
          };
          map = there.map;
          map_is = there.map_is;
          labels = there.target ∷ there.labels;
          height = height;
          height_is = omega arith;
          lists = subst
              (λ (x : List Cont). ListsMapped m there.map there.body.expr (length g.locals) (there.target ∷ there.labels) (flat.place.pc + 1) height (there.after ∷ there.afters) x)
              (sym conts)
              (subst
              (λ (n : ℕ). ListsMapped m there.map there.body.expr n (there.target ∷ there.labels) (flat.place.pc + 1) height (there.after ∷ there.afters) (cont_with rest k ∷ ks))
              (sym locals) lists);
        },
        subst (λ (n : ℕ). CallersMapped m maps flat.place.body n flat.callers below) results w.outer_mapped,
      )

module _ (m : Parts) (maps : List BodyMap) (flat : Flat) (c : Config) (follows : Follows m maps flat c) (typed : IsTyped m [] c) (i : Instr) (p : Plain)
    (plain : plain_of i ≡ Some p) (straight_is : IsStraight p) where
  goes_mapped : (f : Frame) (below : List Frame) (w : Work m maps flat c follows typed i f below) (rest : Code) → w.inner.k.rest ≡ Then i rest →
      (context : Context) → IsContextOf m context → (known : FuncType) → HasType context i known → IsPlain i → (b : ℕ) →
      length f.operands ≡ length known.params + b → GoesMapped m maps flat (with_rest rest f w.inner.k w.inner.around) below (pops p) (pushes p)
  goes_mapped f below w rest is context inside known has_type plain_is b enough g conts locals counted =
      let counts = type_counts context i p known plain straight_is plain_is has_type in
      let takes = counts.0 in
      let gives = counts.1 in
      next_mapped m maps flat c follows typed i 0 f below w rest is context inside known has_type b enough g conts locals (omega arith)

  led : (f : Frame) (below : List Frame) (w : Work m maps flat c follows typed i f below) (rest : Code) → w.inner.k.rest ≡ Then i rest → (stack : List ValType) →
      AreValues stack f.operands → IsPlain i → (at : LeadsAt m i stack) →
      Agrees (Tells m) (straight p flat) (execute_plain m p c (with_rest rest f w.inner.k w.inner.around) below) →
      (lead : Leads at.context i stack at.after) →
      Agrees (Follows m maps) (straight p flat) (execute_plain m p c (with_rest rest f w.inner.k w.inner.around) below)
  unfolding execute_plain
  led f below w rest is stack operands plain_is at h (inl (known, has_type, applies)) =
      let b = applies.0 in
      let count = as_many stack f.operands operands ∙ ap length applies.1 ∙ length-append (reverse known.params) b in
      let turned = length-reverse known.params in
      agrees_more m maps flat (with_rest rest f w.inner.k w.inner.around) below (pops p) (pushes p) (straight p flat)
      (execute_plain m p c (with_rest rest f w.inner.k w.inner.around) below) h (straight_keeps p flat)
      (plain_counted m c (with_rest rest f w.inner.k w.inner.around) below p straight_is)
      (goes_mapped f below w rest is at.context at.inside known has_type plain_is (length b) (omega arith))
  led f below w rest is stack operands plain_is at h (inr (needs, inl (code, none), ends)) =
      let same : p ≡ op.Unreachable = same_some (plain_of i) p op.Unreachable plain (plain_unreachable i code) in
      let o = execute_plain m p c (with_rest rest f w.inner.k w.inner.around) below in
      let outcome : o ≡ Traps traps.Unreachable = ap (λ (x : Plain). execute_plain m x c (with_rest rest f w.inner.k w.inner.around) below) same in
      subst (λ (x : Outcome). Agrees (Follows m maps) (straight p flat) x) (sym outcome)
      (traps_agree m maps (straight p flat) traps.Unreachable (subst (λ (x : Outcome). Agrees (Tells m) (straight p flat) x) outcome h))
  led f below w rest is stack operands plain_is at h (inr (needs, inr (inl (label, code, index, place)), ends)) =
      absurd (never i p (op.Br label) plain (plain_br i label code index) straight_is (λ w. w))
  led f below w rest is stack operands plain_is at h (inr (needs, inr (inr (code, results)), ends)) =
      absurd (never i p op.Return plain (plain_return i code) straight_is (λ w. w))

  straight_at : (frames : List Frame) → c.frames ≡ frames → IsInstrAt m flat.place i → Agrees (Tells m) (straight p flat) (next_among m c frames) →
      Agrees (Follows m maps) (straight p flat) (next_among m c frames)
  straight_at [] e at h = absurd (subst (λ (frames : List Frame). PlacesStand m (flat.place ∷ flat.callers) frames) e follows.tells.places)
  straight_at (f ∷ below) e at h =
      let w = work m maps flat c follows typed i f below at e in
      let there = w.inner in
      let comes = plain_comes i p there.k.rest plain there.begins in
      let rest = comes.0 in
      let next_is : next_among m c (f ∷ below) ≡ execute_plain m p c (with_rest rest f there.k there.around) below =
      ap (λ (x : List Cont). next_in m c f x below) there.is
      ∙ ap (λ (code : Code). next_of m code c f there.k there.around below) comes.1
      ∙ ap (λ (o : Option Plain). execute m o c (with_rest rest f there.k there.around) below) plain in
      let frames : FramesTyped m [] (f ∷ below) = subst (λ (frames : List Frame). FramesTyped m [] frames) e typed.frames in
      let frame = frames.1 in
      let instrs : HasInstrs (Then i rest) = subst HasInstrs comes.1 w.instrs in
      let conts : ContsTyped (context_of m frames.0 frame.runs) frame.labels (there.k ∷ there.around) frame.stack =
      subst (λ (x : List Cont). ContsTyped (context_of m frames.0 frame.runs) frame.labels x frame.stack) there.is frame.conts in
      let leads = leads_in m frames.0 frame.runs frame.labels there.k there.around frame.stack i rest comes.1 conts in
      subst (λ (o : Outcome). Agrees (Follows m maps) (straight p flat) o) (sym next_is)
      (led f below w rest comes.1 frame.stack frame.operands instrs.0 leads (subst (λ (o : Outcome). Agrees (Tells m) (straight p flat) o) next_is h) leads.leads)

  -- straight code
  pub straight_follows : IsInstrAt m flat.place i → next m c ≢ Stuck → Agrees (Follows m maps) (straight p flat) (next m c)
  unfolding next
  straight_follows at goes =
      straight_at c.frames refl at (straight_agrees m flat c i p follows.tells at plain straight_is goes)
