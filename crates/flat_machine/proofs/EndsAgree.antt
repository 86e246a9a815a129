-- Ends: the flat machine passes them, and the configuration that it stands for leaves its innermost list.
use Rattle.std.proofs.Common.{◌≡◌, ◌≢◌, ◌<◌, ◌⊎◌, ℕ, pred, ◌+◌, inl, inr, List, [], ◌∷◌, ◌++◌, length, reverse, slice_get, Option, Some, None, option_to_list, arith, refl, sym, ◌∙◌, ap, subst, append_assoc, length-append}
use Rattle.std.proofs.lemmas.List.{length-reverse}
use Rattle.wasm_form.specs.declared.value_type.ValType.{ValType}
use Rattle.wasm_form.specs.declared.types.FuncType.{FuncType}
use Rattle.wasm_form.specs.declared.body.Body.{Body}
use Rattle.wasm_form.specs.declared.body.LocalRun.{LocalRun}
use Rattle.wasm_form.specs.declared.expr.Expr.{Expr}
use Rattle.wasm_form.specs.declared.instr.Instr.{Instr}
use Rattle.wasm_form.specs.declared.parts.Parts.{Parts}
use Rattle.wasm_form.specs.Context.{Context, context_of}
use Rattle.wasm_form.specs.Typing.{Types}
use Rattle.wasm_form.specs.Trees.{Code, Empty, end_instr, else_instr, size}
use Rattle.code_map.specs.declared.target.Target.{Target}
use Rattle.code_map.specs.declared.body_map.BodyMap.{BodyMap}
use Rattle.code_map.specs.Targets.{HasTarget}
use Rattle.tree_machine.specs.Config.{Label, Leave, Again, Cont, Frame, Config, with_frames}
use Rattle.tree_machine.specs.Control.{result_count}
use Rattle.tree_machine.specs.Point.{settle}
use Rattle.tree_machine.specs.Typed.{AreValues, ContsTyped, with_labels, LabelTyped, FrameTyped, FramesTyped, IsTyped}
use Rattle.tree_machine.proofs.Values.{as_many, values_append}
use Rattle.tree_machine.proofs.ExitsTyped.{with_typed}
use Rattle.flat_machine.specs.Flat.{Flat}
use Rattle.flat_machine.specs.Text.{IsAt, EndsAt, ListsStand}
use Rattle.flat_machine.specs.Values.{operands_with, frame_values, all_values}
use Rattle.flat_machine.specs.Ends.{frame_with}
use Rattle.flat_machine.specs.Tells.{opens_of, PlacesStand, IsInstrAt}
use Rattle.flat_machine.specs.Control.{end_list, skip_other}
use Rattle.flat_machine.specs.Mapping.{left_by, results_from, CallersMapped, Follows, HasTargetAt, StandsOn}
use Rattle.flat_machine.proofs.Settling.{settle_list}
use Rattle.flat_machine.proofs.Standing.{same_some}
use Rattle.flat_machine.proofs.StraightAgrees.{flat_of}
use Rattle.flat_machine.proofs.Inner.{results_same, follows_with}
use Rattle.flat_machine.proofs.Coming.{end_comes, else_comes}
use Rattle.flat_machine.proofs.BlocksAgree.{Work, work}

-- operands that come on those below a list
pub operands_joined : (operands under : List ℕ) (ks : List Cont) → operands_with (operands ++ under) ks ≡ operands ++ operands_with under ks
operands_joined operands under [] = refl
operands_joined operands under (k ∷ ks) = append_assoc operands under (operands_with k.under ks)

listed_count : (result : Option ValType) → length (option_to_list result) ≡ result_count result
listed_count None = refl
listed_count (Some ty) = refl

label_count : (context : Context) (label : Label) (carried ends : List ValType) (around : List (List ValType)) → LabelTyped context label carried ends around →
    length ends ≡ left_by label
label_count context (Leave results) carried ends around h = ap length h.1 ∙ length-reverse carried ∙ sym h.0
label_count context (Again result inside) carried ends [] h = absurd h
label_count context (Again result inside) carried ends (a ∷ around) h = ap length h.1 ∙ listed_count result

-- a typed frame whose innermost list is over: its operands are the list's results, and it is typed without the list
record OverTyped (m : Parts) (f : Frame) (ty : FuncType) (k : Cont) (ks : List Cont) : Type 0 where
  count : length f.operands ≡ left_by k.label
  typed : FrameTyped m [] (frame_with (f.operands ++ k.under) ks f) ty

over_lists : (m : Parts) (f : Frame) (ty : FuncType) (k : Cont) (ks : List Cont) (runs : List LocalRun) (labels : List (List ValType)) (stack : List ValType) → k.rest ≡ Empty →
    AreValues (context_of m ty runs).locals f.locals → AreValues stack f.operands → ContsTyped (context_of m ty runs) labels (k ∷ ks) stack → OverTyped m f ty k ks
over_lists m f ty k ks runs [] stack over locals operands conts = absurd conts
over_lists m f ty k ks runs (carried ∷ around) stack over locals operands conts =
    let ends = conts.0 in
    let below = conts.1 in
    let typed = conts.2 in
    let same : ends ≡ stack =
    subst (λ (code : Code). Types (with_labels (carried ∷ around) (context_of m ty runs)) code stack ends) over typed.leads in
    record {
      count = as_many stack f.operands operands ∙ ap length (sym same) ∙ label_count (context_of m ty runs) k.label carried ends around typed.label;
      typed = record {
        runs = runs;
        labels = around;
        stack = ends ++ below;
        locals = locals;
        operands = values_append ends below f.operands k.under (subst (λ (s : List ValType). AreValues s f.operands) (sym same) operands) typed.under;
        conts = conts.3;
      };
    }

over_typed : (m : Parts) (f : Frame) (ty : FuncType) (k : Cont) (ks : List Cont) → k.rest ≡ Empty → f.conts ≡ k ∷ ks → FrameTyped m [] f ty → OverTyped m f ty k ks
over_typed m f ty k ks over is typed =
    over_lists m f ty k ks typed.runs typed.labels typed.stack over typed.locals typed.operands
    (subst (λ (x : List Cont). ContsTyped (context_of m ty typed.runs) typed.labels x typed.stack) is typed.conts)

-- the results of a function whose innermost list is left
pub results_left : (operands : List ℕ) (k : Cont) (ks : List Cont) → length operands ≡ left_by k.label → (ks ≡ [] → k.under ≡ []) →
    results_from operands (k ∷ ks) ≡ results_from (operands ++ k.under) ks
results_left operands k [] count outermost =
    let all = length-append operands k.under in
    let none : length k.under ≡ 0 = ap length (outermost refl) in
    omega arith
results_left operands k (d ∷ ks) count outermost = results_same operands (operands ++ k.under) d d ks refl

-- behind the body's end there is no more code
last_after : (e : Expr) (after : ℕ) (afters : List ℕ) → ListsStand e after afters [] → after ≡ length e.code
last_after e after [] h = h
last_after e after (next ∷ afters) h = absurd h

not_both : (i j : Instr) (o : Option Instr) → o ≡ Some i → o ≡ Some j → i.code ≢ j.code → ⊥
not_both i j o a b differ = differ (ap (λ (x : Instr). x.code) (same_some o i j a b))

-- a list that ends with an end goes on behind it
pub end_after : (e : Expr) (pc stop after : ℕ) → stop ≡ pc + 0 → IsAt e pc end_instr → EndsAt e stop after → after ≡ pc + 1
end_after e pc stop after place at (inl (closed, is)) = omega arith
end_after e pc stop after place at (inr (other, closed, is)) =
    let same : pc ≡ stop = omega arith in
    absurd (not_both end_instr else_instr (slice_get e.code pc) at (ap (λ (n : ℕ). slice_get e.code n) same ∙ closed)
    (λ (w : 0x0B ≡ 0x05). absurd (omega (arith, w))))

-- one that ends with an else goes on at its target
pub else_leads : (e : Expr) (map : BodyMap) (pc stop after : ℕ) (t : Target) → stop ≡ pc + 0 → IsAt e pc else_instr →
    IsAt e stop end_instr ⊎ (HasTarget map stop t × (t.to ≡ after)) → HasTarget map pc t × (t.to ≡ after)
else_leads e map pc stop after t place at (inl closed) =
    let same : pc ≡ stop = omega arith in
    absurd (not_both else_instr end_instr (slice_get e.code pc) at (ap (λ (n : ℕ). slice_get e.code n) same ∙ closed)
    (λ (w : 0x05 ≡ 0x0B). absurd (omega (arith, w))))
else_leads e map pc stop after t place at (inr (has, is)) =
    let same : stop ≡ pc = omega arith in
    (subst (λ (n : ℕ). HasTarget map n t) same has, is)

-- one block fewer is open
fewer : (outer opens : ℕ) (ks : List Cont) → opens ≡ outer + length ks → (ks ≡ [] → ⊥) → pred opens ≡ outer + pred (length ks)
fewer outer opens [] e some = absurd (some refl)
fewer outer opens (k ∷ ks) e some = omega arith

module _ (m : Parts) (maps : List BodyMap) (flat : Flat) (c : Config) (follows : Follows m maps flat c) (typed : IsTyped m [] c) where
  -- the innermost list, which is over, is left
  pub list_left : (i : Instr) (f : Frame) (below : List Frame) (w : Work m maps flat c follows typed i f below) → c.frames ≡ f ∷ below → w.inner.k.rest ≡ Empty →
      (now : ℕ) → now ≡ opens_of flat.callers + pred (length w.inner.around) →
      StandsOn m maps (flat_of flat.values (record flat.place { pc = w.inner.after; opens = now }) flat.callers c) c
  list_left i f below w e over now opens =
      let there = w.inner in
      let k = there.k in
      let ks = there.around in
      let frames : FramesTyped m [] (f ∷ below) = subst (λ (frames : List Frame). FramesTyped m [] frames) e typed.frames in
      let done = over_typed m f frames.0 k ks over there.is frames.1 in
      let g : Frame = frame_with (f.operands ++ k.under) ks f in
      let height = there.target.height + left_by k.label in
      let joined : operands_with (f.operands ++ k.under) ks ≡ f.operands ++ operands_with k.under ks = operands_joined f.operands k.under ks in
      let lengths : length (operands_with (f.operands ++ k.under) ks) ≡ length f.operands + length (operands_with k.under ks) =
      ap length joined ∙ length-append f.operands (operands_with k.under ks) in
      let under = there.mapped.height_is in
      let count = done.count in
      let values : flat.values ≡ frame_values g ++ all_values below =
      w.values ∙ ap (λ (x : List Cont). (operands_with f.operands x ++ reverse f.locals) ++ all_values below) there.is
      ∙ ap (λ (x : List ℕ). (x ++ reverse f.locals) ++ all_values below) (sym joined) in
      let results : results_from f.operands f.conts ≡ results_from (f.operands ++ k.under) ks =
      ap (λ (x : List Cont). results_from f.operands x) there.is ∙ results_left f.operands k ks count there.mapped.outermost in
      let before : c ≡ with_frames (frame_with f.operands (k ∷ ks) f ∷ below) c =
      ap (λ (x : List Frame). with_frames x c) e ∙ ap (λ (x : List Cont). with_frames (frame_with f.operands x f ∷ below) c) there.is in
      record {
        to = with_frames (g ∷ below) c;
        point = sym (settle_list m c f f.operands k ks below over) ∙ ap (settle m) (sym before);
        typed = with_typed m [] [] c (g ∷ below) typed (frames.0, done.typed, frames.2);
        follows = follows_with m maps c flat.values (record flat.place { pc = there.after; opens = now }) flat.callers g below values
            (record {
              left = record { body = there.body; is = there.body_is; afters = there.afters; lists = there.outer };
              map = there.map;
              map_is = there.map_is;
              labels = there.labels;
              height = height;
              height_is = omega arith;
              lists = there.outer_mapped;
            })
            w.base opens w.outer (subst (λ (n : ℕ). CallersMapped m maps flat.place.body n flat.callers below) results w.outer_mapped);
      }

  pub at_zero : (pc : ℕ) (code : Code) → code ≡ Empty → pc + size code ≡ pc + 0
  at_zero pc code e = ap (λ (x : Code). pc + size x) e

  pub moved : (i : Instr) (f : Frame) (below : List Frame) (w : Work m maps flat c follows typed i f below) (pc now : ℕ) → w.inner.after ≡ pc →
      StandsOn m maps (flat_of flat.values (record flat.place { pc = w.inner.after; opens = now }) flat.callers c) c →
      StandsOn m maps (record flat { place = record flat.place { pc = pc; opens = now } }) c
  moved i f below w pc now e leaves =
      let same : flat_of flat.values (record flat.place { pc = w.inner.after; opens = now }) flat.callers c ≡ record flat { place = record flat.place { pc = pc; opens = now } } =
      ap (λ (n : ℕ). flat_of flat.values (record flat.place { pc = n; opens = now }) flat.callers c) e
      ∙ ap (λ (x : Flat). record x { place = record flat.place { pc = pc; opens = now } }) (sym w.same) in
      subst (λ (x : Flat). StandsOn m maps x c) same leaves

  end_at : (frames : List Frame) → c.frames ≡ frames → (at : IsInstrAt m flat.place end_instr) → flat.place.pc + 1 < length at.0.expr.code → StandsOn m maps (end_list flat) c
  end_at [] e at more = absurd (subst (λ (frames : List Frame). PlacesStand m (flat.place ∷ flat.callers) frames) e follows.tells.places)
  end_at (f ∷ below) e at more =
      let w = work m maps flat c follows typed end_instr f below at e in
      let there = w.inner in
      let over = end_comes there.k.rest w.instrs there.begins in
      let body : at.0 ≡ there.body = same_some (slice_get m.bodies flat.place.body) at.0 there.body at.1 there.body_is in
      let here : IsAt there.body.expr flat.place.pc end_instr = subst (λ (b : Body). IsAt b.expr flat.place.pc end_instr) body at.2 in
      let less : flat.place.pc + 1 < length there.body.expr.code = subst (λ (b : Body). flat.place.pc + 1 < length b.expr.code) body more in
      let after : there.after ≡ flat.place.pc + 1 =
      end_after there.body.expr flat.place.pc there.list.stop there.after (there.list.stops ∙ at_zero flat.place.pc there.k.rest over) here there.list.ends in
      let opens : pred flat.place.opens ≡ opens_of flat.callers + pred (length there.around) =
      fewer (opens_of flat.callers) flat.place.opens there.around (w.opens ∙ ap (λ (x : List Cont). opens_of flat.callers + pred (length x)) there.is)
      (λ (none : there.around ≡ []).
      let ended : ListsStand there.body.expr there.after there.afters [] =
      subst (λ (x : List Cont). ListsStand there.body.expr there.after there.afters x) none there.outer in
      let past : there.after ≡ length there.body.expr.code = last_after there.body.expr there.after there.afters ended in
      omega arith) in
      moved end_instr f below w (flat.place.pc + 1) (pred flat.place.opens) after (list_left end_instr f below w e over (pred flat.place.opens) opens)

  else_at : (frames : List Frame) → c.frames ≡ frames → IsInstrAt m flat.place else_instr →
      (t : Target) × HasTargetAt maps flat.place t × StandsOn m maps (skip_other t flat) c
  else_at [] e at = absurd (subst (λ (frames : List Frame). PlacesStand m (flat.place ∷ flat.callers) frames) e follows.tells.places)
  else_at (f ∷ below) e at =
      let w = work m maps flat c follows typed else_instr f below at e in
      let there = w.inner in
      let over = else_comes there.k.rest w.instrs there.begins in
      let body : at.0 ≡ there.body = same_some (slice_get m.bodies flat.place.body) at.0 there.body at.1 there.body_is in
      let here : IsAt there.body.expr flat.place.pc else_instr = subst (λ (b : Body). IsAt b.expr flat.place.pc else_instr) body at.2 in
      let t = there.target in
      let leads = else_leads there.body.expr there.map flat.place.pc (flat.place.pc + size there.k.rest) there.after t (at_zero flat.place.pc there.k.rest over) here there.mapped.closes in
      let now = opens_of flat.callers + t.opens in (
        t,
        (there.map, there.map_is, leads.0),
        moved else_instr f below w t.to now (sym leads.1)
            (list_left else_instr f below w e over now (ap (λ (n : ℕ). opens_of flat.callers + n) there.mapped.opens_is)),
      )

  -- the end of a block, a loop or an if
  pub end_leaves : (at : IsInstrAt m flat.place end_instr) → flat.place.pc + 1 < length at.0.expr.code → StandsOn m maps (end_list flat) c
  end_leaves at more = end_at c.frames refl at more

  -- an else
  pub else_leaves : IsInstrAt m flat.place else_instr → (t : Target) × HasTargetAt maps flat.place t × StandsOn m maps (skip_other t flat) c
  else_leaves at = else_at c.frames refl at
