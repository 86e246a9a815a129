-- A call of a function of the module enters it in the flat machine as in the configuration that the machine stands for.
use Rattle.std.proofs.Common.{◌≡◌, ◌≤◌, ◌<◌, ℕ, zero, suc, pred, ◌+◌, ◌-◌, inl, inr, Bool, true, false, cond, nat_le, List, [], ◌∷◌, ◌++◌, length, take, drop, reverse, replicate, slice_get, Option, Some, arith, refl, sym, ◌∙◌, ap, subst, append_assoc, length-append}
use Rattle.std.proofs.lemmas.Bool.Decides.{nat_tests}
use Rattle.std.proofs.lemmas.List.{length-reverse, reverse-append, reverse-reverse, take-append-drop, length-drop, length-take-le, replicate_more, length-replicate}
use Rattle.wasm_form.specs.declared.value_type.ValType.{ValType}
use Rattle.wasm_form.specs.declared.types.FuncType.{FuncType}
use Rattle.wasm_form.specs.declared.instr.Instr.{Instr}
use Rattle.wasm_form.specs.declared.instr.Imm.TheVariants as imm
use Rattle.wasm_form.specs.declared.parts.Parts.{Parts}
use Rattle.wasm_form.specs.Matching.{IsPlain}
use Rattle.wasm_form.specs.Context.{Context, context_of, functions_of, IsFunctionType}
use Rattle.wasm_form.specs.Typing.{Leads, HasType}
use Rattle.wasm_form.specs.Trees.{Code, Then, end_instr, size}
use Rattle.code_map.specs.declared.body_map.BodyMap.{BodyMap}
use Rattle.code_map.specs.Flows.{IsContextOf}
use Rattle.code_map.specs.Maps.{body_label}
use Rattle.tree_machine.specs.Instructions.{Plain, plain_of}
use Rattle.tree_machine.specs.Instructions as op
use Rattle.tree_machine.specs.Functions.{Function, Callee, Own, type_of, callee_of}
use Rattle.tree_machine.specs.Config.{Cont, Frame, Config, frame_of, with_frames, with_operands}
use Rattle.tree_machine.specs.Calls.{call, invoke}
use Rattle.tree_machine.specs.Limits.{most_frames}
use Rattle.tree_machine.specs.Outcomes.{Gives, Outcome, Goes, Exceeds, Stuck}
use Rattle.host_port.specs.declared.stop.Spent.TheVariants as limit
use Rattle.tree_machine.specs.Step.{execute_plain, execute, with_rest, next_of, next_in, next_among, next}
use Rattle.tree_machine.specs.Typed.{AreValues, HasInstrs, ContsTyped, FramesTyped, IsTyped, IsTypedModule}
use Rattle.tree_machine.proofs.PlainOf.{plain_call}
use Rattle.tree_machine.proofs.Values.{as_many}
use Rattle.flat_machine.specs.Flat.{Place, Flat}
use Rattle.flat_machine.specs.Text.{IsAt}
use Rattle.flat_machine.specs.Values.{frame_values, all_values}
use Rattle.flat_machine.specs.Tells.{opens_of, PlacesStand, IsInstrAt, Agrees}
use Rattle.flat_machine.specs.Mapping.{FrameMapped, PlacesMapped, Follows}
use Rattle.flat_machine.specs.Calls.{enter_body, IsMappedFunction}
use Rattle.flat_machine.proofs.Texts.{body_stands}
use Rattle.flat_machine.proofs.Standing.{same_some, plain_comes}
use Rattle.flat_machine.proofs.StraightAgrees.{flat_of, cont_with, next_place, low_values, values_are}
use Rattle.flat_machine.proofs.Inner.{follows_with}
use Rattle.flat_machine.proofs.BlocksAgree.{Work, work}
use Rattle.flat_machine.proofs.BranchesAgree.{values_here}
use Rattle.flat_machine.proofs.Counts.{call_type}
use Rattle.flat_machine.proofs.StraightFollows.{next_mapped, LeadsAt, leads_in}
use Rattle.flat_machine.proofs.ConditionalBranches.{later_stands}

pub turned_with : (z : ℕ) (n : ℕ) → reverse (replicate n z) ≡ replicate n z
turned_with z zero = refl
turned_with z (suc n) =
    let step : reverse (z ∷ replicate n z) ≡ reverse (replicate n z) ++ z ∷ [] = reverse-append (z ∷ []) (replicate n z) in
    let next : n + 1 ≡ suc n = omega arith in
    step ∙ ap (λ (l : List ℕ). l ++ z ∷ []) (turned_with z n) ∙ replicate_more n z ∙ ap (λ (k : ℕ). replicate k z) next

-- the frame of a function that is entered, mapped
pub entered_mapped : (m : Parts) (maps : List BodyMap) (function : Function) (body base opens : ℕ) (arguments : List ℕ) → IsMappedFunction m maps function body →
    length arguments ≡ length function.ty.params →
    FrameMapped m maps 0 (record { pc = 0; body = body; base = base; opens = opens }) (frame_of function arguments)
entered_mapped m maps function body base opens arguments is count =
    let stands = body_stands is.body.expr function.code is.flat in
    let locals = length function.ty.params + function.locals in
    let all : length (arguments ++ replicate function.locals 0) ≡ locals =
    length-append arguments (replicate function.locals 0) ∙ ap (λ (n : ℕ). length arguments + n) (length-replicate function.locals 0)
    ∙ ap (λ (n : ℕ). n + function.locals) count in
    let start : size function.code ≡ 0 + size function.code = omega arith in
    let end : IsAt is.body.expr (0 + size function.code) end_instr = subst (λ (n : ℕ). IsAt is.body.expr n end_instr) start stands.ends in
    let past = stands.count in
    record {
      left = record {
        body = is.body;
        is = is.body_is;
        afters = (size function.code + 1) ∷ [];
        lists = (
          record { stop = 0 + size function.code; stops = refl; ends = inl (end, omega arith); stands = stands.stands; loops = tt },
          sym stands.count,
        );
      };
      map = is.map;
      map_is = is.map_is;
      labels = body_label (size function.code) locals is.gives ∷ [];
      height = locals;
      height_is = omega arith;
      lists = (
        record {
          mapped = is.mapped;
          leads = (refl, is.gives_is);
          height_is = omega arith;
          opens_is = refl;
          closes = inl end;
          loops = tt;
          outermost = λ e. refl;
        },
        tt,
      );
    }

module _ (m : Parts) (maps : List BodyMap) (module_typed : IsTypedModule m) (flat : Flat) (c : Config) (follows : Follows m maps flat c) (typed : IsTyped m [] c)
    (i : Instr) (index : ℕ) (function : Function) (body : ℕ) (is_own : callee_of m index ≡ Some (Own function)) (is : IsMappedFunction m maps function body) where
  abbrev arity : ℕ
  arity = length function.ty.params

  -- the call's type is the function's
  type_is : (context : Context) → IsContextOf m context → (known : FuncType) → IsFunctionType context index known → known ≡ function.ty
  type_is context inside known (place, found, ty) =
      let functions : slice_get (functions_of m) index ≡ Some place = ap (λ (l : List ℕ). slice_get l index) (sym inside.functions) ∙ found in
      let types : slice_get m.types place ≡ Some known = ap (λ (l : List FuncType). slice_get l place) (sym inside.types) ∙ ty in
      let callee = module_typed.callees index place known functions types in
      let same : callee.0 ≡ Own function = same_some (callee_of m index) callee.0 (Own function) callee.1 is_own in
      sym callee.2 ∙ ap type_of same

  enters : (f : Frame) (below : List Frame) (w : Work m maps flat c follows typed i f below) (rest : Code) → w.inner.k.rest ≡ Then i rest →
      (context : Context) → IsContextOf m context → (known : FuncType) → HasType context i known → known ≡ function.ty → (b : ℕ) →
      length f.operands ≡ length known.params + b →
      Follows m maps (enter_body body arity function.locals flat)
      (with_frames (frame_of function (reverse (take arity f.operands)) ∷ with_operands (drop arity f.operands) (with_rest rest f w.inner.k w.inner.around) ∷ below) c)
  enters f below w rest rest_is context inside known has_type same b enough =
      let there = w.inner in
      let k = there.k in
      let ks = there.around in
      let taken = take arity f.operands in
      let others = drop arity f.operands in
      let g : Frame = with_operands others (with_rest rest f k ks) in
      let params : length known.params ≡ arity = ap (λ (t : FuncType). length t.params) same in
      let gives : length known.results ≡ length function.ty.results = ap (λ (t : FuncType). length t.results) same in
      let there_are : arity ≤ length f.operands = omega arith in
      let left : length others ≡ b = length-drop arity f.operands ∙ (let e : length f.operands - arity ≡ b = omega arith in e) in
      let count : length (reverse taken) ≡ arity = length-reverse taken ∙ length-take-le arity f.operands there_are in
      let caller : PlacesMapped m maps (length function.ty.results) (next_place flat.place ∷ flat.callers) (g ∷ below) =
      next_mapped m maps flat c follows typed i (length function.ty.results) f below w rest rest_is context inside known has_type b enough g refl refl (omega arith) in
      let opens_are : flat.place.opens ≡ opens_of flat.callers + length ks = w.opens ∙ ap (λ (x : List Cont). opens_of flat.callers + pred (length x)) there.is in
      let outer : PlacesStand m (next_place flat.place ∷ flat.callers) (g ∷ below) = (later_stands m maps flat c follows typed i f below w rest rest_is, w.base, opens_are, w.outer) in
      let low = low_values f.locals k ks below in
      let lower : others ++ low ≡ all_values (g ∷ below) = sym (values_are others f.locals k ks below) in
      let values : flat.values ≡ taken ++ all_values (g ∷ below) =
      values_here m maps flat c follows typed i f below w
      ∙ ap (λ (l : List ℕ). l ++ low) (sym (take-append-drop arity f.operands))
      ∙ append_assoc taken others low ∙ ap (λ (l : List ℕ). taken ++ l) lower in
      let zeros : List ℕ = replicate function.locals 0 in
      let arguments : reverse (reverse taken ++ zeros) ≡ zeros ++ taken =
      reverse-append (reverse taken) zeros ∙ ap (λ (l : List ℕ). l ++ reverse (reverse taken)) (turned_with 0 function.locals)
      ∙ ap (λ (l : List ℕ). zeros ++ l) (reverse-reverse taken) in
      let new : zeros ++ flat.values ≡ frame_values (frame_of function (reverse taken)) ++ all_values (g ∷ below) =
      ap (λ (l : List ℕ). zeros ++ l) values ∙ sym (append_assoc zeros taken (all_values (g ∷ below)))
      ∙ ap (λ (l : List ℕ). l ++ all_values (g ∷ below)) (sym arguments) in
      let lengths = ap length values ∙ length-append taken (all_values (g ∷ below)) in
      let first = length-take-le arity f.operands there_are in
      let base : length flat.values - arity ≡ length (all_values (g ∷ below)) = omega arith in
      let waits : 0 < length (cont_with rest k ∷ ks) = omega arith in
      let place : Place = record { pc = 0; body = body; base = length flat.values - arity; opens = flat.place.opens } in
      let done : Follows m maps (flat_of (zeros ++ flat.values) place (next_place flat.place ∷ flat.callers) c)
      (with_frames (frame_of function (reverse taken) ∷ g ∷ below) c) =
      follows_with m maps c (zeros ++ flat.values) place (next_place flat.place ∷ flat.callers) (frame_of function (reverse taken)) (g ∷ below) new
      (entered_mapped m maps function body (length flat.values - arity) flat.place.opens (reverse taken) is count) base
      (let e : flat.place.opens ≡ flat.place.opens + 0 = omega arith in e) outer (is.results, waits, caller) in
      let at : flat_of (zeros ++ flat.values) place (next_place flat.place ∷ flat.callers) c ≡ enter_body body arity function.locals flat =
      ap (λ (x : Flat). record x { values = zeros ++ flat.values; place = place; callers = next_place flat.place ∷ flat.callers }) (sym w.same) in
      subst (λ (x : Flat). Follows m maps x (with_frames (frame_of function (reverse taken) ∷ g ∷ below) c)) at done

  -- whether there is a frame left, and whether there are the arguments
  called : (f : Frame) (below : List Frame) (w : Work m maps flat c follows typed i f below) (rest : Code) → w.inner.k.rest ≡ Then i rest →
      (context : Context) → IsContextOf m context → (known : FuncType) → HasType context i known → known ≡ function.ty → (b : ℕ) →
      length f.operands ≡ length known.params + b → length (f ∷ below) + 1 ≤ most_frames →
      Agrees (Follows m maps) (Gives (enter_body body arity function.locals flat))
      (call (Some (Own function)) f.operands c (with_rest rest f w.inner.k w.inner.around) below)
  called f below w rest rest_is context inside known has_type same b enough room =
      let params : length known.params ≡ arity = ap (λ (t : FuncType). length t.params) same in
      let g : Frame = with_operands (drop arity f.operands) (with_rest rest f w.inner.k w.inner.around) in
      let one : nat_le arity (length f.operands) ≡ true = grind (arith, nat_tests) in
      let two : nat_le (length (g ∷ below) + 1) most_frames ≡ true = grind (arith, nat_tests) in
      let goes : Outcome = Goes (with_frames (frame_of function (reverse (take arity f.operands)) ∷ g ∷ below) c) in
      let outcome : call (Some (Own function)) f.operands c (with_rest rest f w.inner.k w.inner.around) below ≡ goes =
      ap (λ (x : Bool). cond x (invoke (Own function) (reverse (take arity f.operands)) c (g ∷ below)) Stuck) one
      ∙ ap (λ (x : Bool). cond x goes (Exceeds limit.Frames)) two in
      subst (λ (o : Outcome). Agrees (Follows m maps) (Gives (enter_body body arity function.locals flat)) o) (sym outcome)
      (enters f below w rest rest_is context inside known has_type same b enough)

  call_led : (f : Frame) (below : List Frame) (w : Work m maps flat c follows typed i f below) (rest : Code) → w.inner.k.rest ≡ Then i rest → i.code ≡ 0x10 →
      plain_of i ≡ Some (op.Call index) → (stack : List ValType) → AreValues stack f.operands → IsPlain i → (at : LeadsAt m i stack) →
      length (f ∷ below) + 1 ≤ most_frames → (lead : Leads at.context i stack at.after) →
      Agrees (Follows m maps) (Gives (enter_body body arity function.locals flat))
      (call (Some (Own function)) f.operands c (with_rest rest f w.inner.k w.inner.around) below)
  call_led f below w rest rest_is code plain stack operands plain_is at room (inl (known, has_type, applies)) =
      let b = applies.0 in
      let count = as_many stack f.operands operands ∙ ap length applies.1 ∙ length-append (reverse known.params) b in
      let turned = length-reverse known.params in
      called f below w rest rest_is at.context at.inside known has_type
      (type_is at.context at.inside known (call_type at.context i index known plain plain_is has_type)) (length b) (omega arith) room
  call_led f below w rest rest_is code plain stack operands plain_is at room (inr (needs, inl (other, none), ends)) = absurd (omega (arith, code, other))
  call_led f below w rest rest_is code plain stack operands plain_is at room (inr (needs, inr (inl (label, other, number, place)), ends)) =
      absurd (omega (arith, code, other))
  call_led f below w rest rest_is code plain stack operands plain_is at room (inr (needs, inr (inr (other, results)), ends)) = absurd (omega (arith, code, other))

  frames_count : (list : List Place) (frames : List Frame) → PlacesStand m list frames → length list ≡ length frames
  frames_count [] [] h = refl
  frames_count [] (f ∷ below) h = absurd h
  frames_count (place ∷ callers) [] h = absurd h
  frames_count (place ∷ callers) (f ∷ below) h = ap suc (frames_count callers below h.3)

  call_at : (frames : List Frame) → c.frames ≡ frames → i.code ≡ 0x10 → i.imm ≡ imm.Index index → IsInstrAt m flat.place i →
      length flat.callers + 2 ≤ most_frames → Agrees (Follows m maps) (Gives (enter_body body arity function.locals flat)) (next_among m c frames)
  unfolding execute_plain
  call_at [] e code number at room = absurd (subst (λ (frames : List Frame). PlacesStand m (flat.place ∷ flat.callers) frames) e follows.tells.places)
  call_at (f ∷ below) e code number at room =
      let w = work m maps flat c follows typed i f below at e in
      let there = w.inner in
      let plain = plain_call i index code number in
      let comes = plain_comes i (op.Call index) there.k.rest plain there.begins in
      let rest = comes.0 in
      let counted : length flat.callers ≡ length below = frames_count flat.callers below w.outer in
      let next_is : next_among m c (f ∷ below) ≡ call (Some (Own function)) f.operands c (with_rest rest f there.k there.around) below =
      ap (λ (x : List Cont). next_in m c f x below) there.is ∙ ap (λ (x : Code). next_of m x c f there.k there.around below) comes.1
      ∙ ap (λ (o : Option Plain). execute m o c (with_rest rest f there.k there.around) below) plain
      ∙ ap (λ (o : Option Callee). call o f.operands c (with_rest rest f there.k there.around) below) is_own in
      let frames : FramesTyped m [] (f ∷ below) = subst (λ (frames : List Frame). FramesTyped m [] frames) e typed.frames in
      let frame = frames.1 in
      let instrs : HasInstrs (Then i rest) = subst HasInstrs comes.1 w.instrs in
      let conts : ContsTyped (context_of m frames.0 frame.runs) frame.labels (there.k ∷ there.around) frame.stack =
      subst (λ (x : List Cont). ContsTyped (context_of m frames.0 frame.runs) frame.labels x frame.stack) there.is frame.conts in
      let leads = leads_in m frames.0 frame.runs frame.labels there.k there.around frame.stack i rest comes.1 conts in
      subst (λ (o : Outcome). Agrees (Follows m maps) (Gives (enter_body body arity function.locals flat)) o) (sym next_is)
      (call_led f below w rest comes.1 code plain frame.stack frame.operands instrs.0 leads (omega arith) leads.leads)

  -- a call
  pub call_agrees : i.code ≡ 0x10 → i.imm ≡ imm.Index index → IsInstrAt m flat.place i → length flat.callers + 2 ≤ most_frames →
      Agrees (Follows m maps) (Gives (enter_body body arity function.locals flat)) (next m c)
  unfolding next
  call_agrees code number at room = call_at c.frames refl code number at room

  -- a call where no frame is left
  past : (f : Frame) (below : List Frame) (g : Frame) (b : ℕ) → length f.operands ≡ arity + b → most_frames < length (f ∷ below) + 1 →
      call (Some (Own function)) f.operands c g below ≡ Exceeds limit.Frames
  past f below g b enough room =
      let one : nat_le arity (length f.operands) ≡ true = grind (arith, nat_tests) in
      let h : Frame = with_operands (drop arity f.operands) g in
      let two : nat_le (length (h ∷ below) + 1) most_frames ≡ false = grind (arith, nat_tests) in
      ap (λ (x : Bool). cond x (invoke (Own function) (reverse (take arity f.operands)) c (h ∷ below)) Stuck) one
      ∙ ap (λ (x : Bool). cond x (Goes (with_frames (frame_of function (reverse (take arity f.operands)) ∷ h ∷ below) c)) (Exceeds limit.Frames)) two

  past_led : (f : Frame) (below : List Frame) (g : Frame) → i.code ≡ 0x10 → plain_of i ≡ Some (op.Call index) → (stack : List ValType) → AreValues stack f.operands →
      IsPlain i → (at : LeadsAt m i stack) → most_frames < length (f ∷ below) + 1 → (lead : Leads at.context i stack at.after) →
      call (Some (Own function)) f.operands c g below ≡ Exceeds limit.Frames
  past_led f below g code plain stack operands plain_is at room (inl (known, has_type, applies)) =
      let b = applies.0 in
      let count = as_many stack f.operands operands ∙ ap length applies.1 ∙ length-append (reverse known.params) b in
      let turned = length-reverse known.params in
      let same : known ≡ function.ty = type_is at.context at.inside known (call_type at.context i index known plain plain_is has_type) in
      let params : length known.params ≡ arity = ap (λ (t : FuncType). length t.params) same in
      past f below g (length b) (omega arith) room
  past_led f below g code plain stack operands plain_is at room (inr (needs, inl (other, none), ends)) = absurd (omega (arith, code, other))
  past_led f below g code plain stack operands plain_is at room (inr (needs, inr (inl (label, other, number, place)), ends)) = absurd (omega (arith, code, other))
  past_led f below g code plain stack operands plain_is at room (inr (needs, inr (inr (other, results)), ends)) = absurd (omega (arith, code, other))

  past_at : (frames : List Frame) → c.frames ≡ frames → i.code ≡ 0x10 → i.imm ≡ imm.Index index → IsInstrAt m flat.place i →
      most_frames < length flat.callers + 2 → next_among m c frames ≡ Exceeds limit.Frames
  unfolding execute_plain
  past_at [] e code number at room = absurd (subst (λ (frames : List Frame). PlacesStand m (flat.place ∷ flat.callers) frames) e follows.tells.places)
  past_at (f ∷ below) e code number at room =
      let w = work m maps flat c follows typed i f below at e in
      let there = w.inner in
      let plain = plain_call i index code number in
      let comes = plain_comes i (op.Call index) there.k.rest plain there.begins in
      let rest = comes.0 in
      let g : Frame = with_rest rest f there.k there.around in
      let counted : length flat.callers ≡ length below = frames_count flat.callers below w.outer in
      let frames : FramesTyped m [] (f ∷ below) = subst (λ (frames : List Frame). FramesTyped m [] frames) e typed.frames in
      let frame = frames.1 in
      let instrs : HasInstrs (Then i rest) = subst HasInstrs comes.1 w.instrs in
      let conts : ContsTyped (context_of m frames.0 frame.runs) frame.labels (there.k ∷ there.around) frame.stack =
      subst (λ (x : List Cont). ContsTyped (context_of m frames.0 frame.runs) frame.labels x frame.stack) there.is frame.conts in
      let leads = leads_in m frames.0 frame.runs frame.labels there.k there.around frame.stack i rest comes.1 conts in
      ap (λ (x : List Cont). next_in m c f x below) there.is ∙ ap (λ (x : Code). next_of m x c f there.k there.around below) comes.1
      ∙ ap (λ (o : Option Plain). execute m o c g below) plain ∙ ap (λ (o : Option Callee). call o f.operands c g below) is_own
      ∙ past_led f below g code plain frame.stack frame.operands instrs.0 leads (omega arith) leads.leads

  -- a call past the last frame
  pub call_exceeds : i.code ≡ 0x10 → i.imm ≡ imm.Index index → IsInstrAt m flat.place i → most_frames < length flat.callers + 2 → next m c ≡ Exceeds limit.Frames
  unfolding next
  call_exceeds code number at room = past_at c.frames refl code number at room
