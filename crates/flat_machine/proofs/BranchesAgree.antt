-- Branches: the machine goes to the label's target.
use Rattle.std.proofs.Common.{◌≡◌, ◌≢◌, ◌≤◌, ◌⊎◌, ℕ, zero, suc, pred, ◌+◌, ◌-◌, inl, inr, Bool, true, false, cond, nat_le, List, [], ◌∷◌, ◌++◌, length, take, drop, reverse, slice_get, Option, Some, None, arith, refl, sym, ◌∙◌, ap, subst, append_assoc, length-append}
use Rattle.std.proofs.lemmas.Bool.Decides.{nat_tests}
use Rattle.std.proofs.lemmas.List.{drop_at, take-append-le, length-reverse, length-take-le}
use Rattle.wasm_form.specs.declared.value_type.ValType.{ValType}
use Rattle.wasm_form.specs.declared.body.Body.{Body}
use Rattle.wasm_form.specs.declared.instr.Instr.{Instr}
use Rattle.wasm_form.specs.declared.instr.Imm.TheVariants as imm
use Rattle.wasm_form.specs.declared.parts.Parts.{Parts}
use Rattle.wasm_form.specs.Trees.{Code, Then, LoopOf, end_instr, size}
use Rattle.code_map.specs.declared.target.Target.{Target}
use Rattle.code_map.specs.declared.body_map.BodyMap.{BodyMap}
use Rattle.code_map.specs.Flows.{MayBranch}
use Rattle.code_map.specs.Targets.{count_if, HasTarget}
use Rattle.code_map.specs.Mapped.{Mapped}
use Rattle.tree_machine.specs.Instructions.{Plain, plain_of}
use Rattle.tree_machine.specs.Instructions as op
use Rattle.tree_machine.specs.Config.{Label, Leave, Again, Cont, Frame, Config, with_frames, with_operands}
use Rattle.tree_machine.specs.Control.{leave_block, land, branch_in, branch}
use Rattle.tree_machine.specs.Outcomes.{Effect, Gives, Outcome, Stuck, to_frame}
use Rattle.tree_machine.specs.Step.{execute_plain, execute, with_rest, next_of, next_in, next_among, next}
use Rattle.tree_machine.specs.Typed.{IsTyped}
use Rattle.tree_machine.proofs.PlainOf.{plain_br, plain_return}
use Rattle.flat_machine.specs.Flat.{Place, Flat}
use Rattle.flat_machine.specs.Text.{IsAt, StandsAt, LoopStands, ListsStand}
use Rattle.flat_machine.specs.Values.{operands_with, frame_values, all_values}
use Rattle.flat_machine.specs.Tells.{opens_of, PlacesStand, IsInstrAt, Agrees}
use Rattle.flat_machine.specs.Control.{lowest, jump}
use Rattle.flat_machine.specs.Mapping.{LabelLeads, left_by, LoopMapped, ListsMapped, results_from, CallersMapped, Follows, HasTargetAt}
use Rattle.flat_machine.proofs.StraightAgrees.{flat_of, cont_with, low_values, values_are}
use Rattle.flat_machine.proofs.Inner.{labels_count, results_same, follows_with}
use Rattle.flat_machine.proofs.Standing.{plain_comes}
use Rattle.flat_machine.proofs.BlocksAgree.{Work, work}
use Rattle.flat_machine.proofs.EndsAgree.{operands_joined, results_left}

-- where a branch comes to, by the lists around and the values
module _ (m : Parts) (maps : List BodyMap) (c : Config) (place : Place) (callers : List Place) (f : Frame) (below : List Frame) (body : Body) (map : BodyMap)
    (body_is : slice_get m.bodies place.body ≡ Some body) (map_is : slice_get maps place.body ≡ Some map)
    (base : place.base ≡ length (all_values below)) (outer : PlacesStand m callers below) where
  -- the values from the first of the function's locals down
  abbrev foot : List ℕ
  foot = reverse f.locals ++ all_values below

  -- the machine with these values
  abbrev here : List ℕ → Flat
  here values = flat_of values place callers c

  -- the values down to the target's height
  lowest_is : (t : Target) (pre under values : List ℕ) → t.height ≡ length f.locals + length under → values ≡ pre ++ (under ++ foot) →
      lowest (place.base + t.height) values ≡ under ++ foot
  lowest_is t pre under values high e =
      let one = length-append pre (under ++ foot) in
      let two = length-append under foot in
      let three = length-append (reverse f.locals) (all_values below) in
      let four = length-reverse f.locals in
      let all : length values ≡ length pre + length (under ++ foot) = ap length e ∙ one in
      let cut : length pre ≡ length values - (place.base + t.height) = omega arith in
      ap (λ (l : List ℕ). drop (length values - (place.base + t.height)) l) e ∙ drop_at pre (under ++ foot) (length values - (place.base + t.height)) cut

  -- what a branch carries is there
  carried_is : (n : ℕ) (operands low : List ℕ) → n ≤ length operands → take n (operands ++ low) ≡ take n operands
  carried_is n operands low h = take-append-le n operands low h

  -- the branch leaves a block
  leaves_block : (t : Target) (labels : List Target) (height after : ℕ) (afters : List ℕ) (k : Cont) (ks : List Cont) (results : ℕ) (low values pre : List ℕ) → k.label ≡ Leave results →
      t.height ≡ length f.locals + length (operands_with k.under ks) → t.opens ≡ pred (length ks) → (t.to ≡ after) × (results ≡ count_if t.carries) → (ks ≡ [] → k.under ≡ []) →
      ListsStand body.expr after afters ks → ListsMapped m map body.expr (length f.locals) labels after (t.height + left_by k.label) afters ks →
      CallersMapped m maps place.body (results_from f.operands (k ∷ ks)) callers below → results ≤ length f.operands →
      values ≡ f.operands ++ low → values ≡ pre ++ (operands_with k.under ks ++ foot) →
      Follows m maps (jump t values (here values)) (with_frames (record f { operands = take results f.operands ++ k.under; conts = ks } ∷ below) c)
  leaves_block t labels height after afters k ks results low values pre is high opens leads outermost lists mapped outer_mapped enough top e =
      let vs = take results f.operands in
      let g : Frame = record f { operands = vs ++ k.under; conts = ks } in
      let joined : operands_with (vs ++ k.under) ks ≡ vs ++ operands_with k.under ks = operands_joined vs k.under ks in
      let count : length vs ≡ results = length-take-le results f.operands enough in
      let by : left_by k.label ≡ results = ap left_by is in
      let carries : take (count_if t.carries) values ≡ vs =
      ap (λ (n : ℕ). take n values) (sym leads.1) ∙ ap (take results) top ∙ carried_is results f.operands low enough in
      let new : take (count_if t.carries) values ++ lowest (place.base + t.height) values ≡ frame_values g ++ all_values below =
      ap (λ (l : List ℕ). l ++ lowest (place.base + t.height) values) carries
      ∙ ap (λ (l : List ℕ). vs ++ l) (lowest_is t pre (operands_with k.under ks) values high e)
      ∙ sym (append_assoc vs (operands_with k.under ks) foot)
      ∙ ap (λ (l : List ℕ). l ++ foot) (sym joined)
      ∙ sym (append_assoc (operands_with (vs ++ k.under) ks) (reverse f.locals) (all_values below)) in
      let lengths : length (operands_with (vs ++ k.under) ks) ≡ length vs + length (operands_with k.under ks) =
      ap length joined ∙ length-append vs (operands_with k.under ks) in
      let results_are : results_from f.operands (k ∷ ks) ≡ results_from (vs ++ k.under) ks =
      results_same f.operands vs k k ks refl ∙ results_left vs k ks (count ∙ sym by) outermost in
      let moved : ListsStand body.expr t.to afters ks = subst (λ (n : ℕ). ListsStand body.expr n afters ks) (sym leads.0) lists in
      let moved_map : ListsMapped m map body.expr (length f.locals) labels t.to (t.height + left_by k.label) afters ks =
      subst (λ (n : ℕ). ListsMapped m map body.expr (length f.locals) labels n (t.height + left_by k.label) afters ks) (sym leads.0) mapped in
      follows_with m maps c (take (count_if t.carries) values ++ lowest (place.base + t.height) values)
      (record place { pc = t.to; opens = opens_of callers + t.opens }) callers g below new
      (record {
        left = record { body = body; is = body_is; afters = afters; lists = moved };
        map = map;
        map_is = map_is;
        labels = labels;
        height = t.height + left_by k.label;
        height_is = omega arith;
        lists = moved_map;
      })
      base (ap (λ (n : ℕ). opens_of callers + n) opens) outer (subst (λ (n : ℕ). CallersMapped m maps place.body n callers below) results_are outer_mapped)

  -- the branch executes a loop again
  repeats_loop : (t u : Target) (labels : List Target) (height after next : ℕ) (afters : List ℕ) (k d : Cont) (ks : List Cont) (result : Option ValType) (inside : Code) (values pre : List ℕ) →
      t.height ≡ length f.locals + length (operands_with k.under (d ∷ ks)) → t.opens ≡ length ks → (after ≡ t.to + 1 + size inside + 1) × (t.carries ≡ false) →
      LoopStands body.expr after (Again result inside) (d ∷ ks) → Mapped m map (u ∷ labels) t.to t.height (LoopOf result inside d.rest) →
      ListsStand body.expr after (next ∷ afters) (d ∷ ks) → ListsMapped m map body.expr (length f.locals) (u ∷ labels) after height (next ∷ afters) (d ∷ ks) →
      CallersMapped m maps place.body (results_from f.operands (d ∷ ks)) callers below → values ≡ pre ++ (operands_with k.under (d ∷ ks) ++ foot) →
      Follows m maps (jump t values (here values))
      (with_frames (record f { operands = k.under; conts = cont_with (LoopOf result inside d.rest) d ∷ ks } ∷ below) c)
  repeats_loop t u labels height after next afters k d ks result inside values pre high opens leads loop loop_mapped lists mapped outer_mapped e =
      let again = cont_with (LoopOf result inside d.rest) d in
      let g : Frame = record f { operands = k.under; conts = again ∷ ks } in
      let where_to = loop.1 in
      let to_is = leads.0 in
      let to : loop.0 ≡ t.to = omega arith in
      let stands : StandsAt body.expr t.to (LoopOf result inside d.rest) = subst (λ (n : ℕ). StandsAt body.expr n (LoopOf result inside d.rest)) to loop.2 in
      let stops = lists.0.stops in
      let place_is : after + size d.rest ≡ t.to + (2 + size inside + size d.rest) = omega arith in
      let none : take (count_if t.carries) values ≡ [] = ap (λ (b : Bool). take (count_if b) values) leads.1 in
      let new : take (count_if t.carries) values ++ lowest (place.base + t.height) values ≡ frame_values g ++ all_values below =
      ap (λ (l : List ℕ). l ++ lowest (place.base + t.height) values) none
      ∙ lowest_is t pre (operands_with k.under (d ∷ ks)) values high e
      ∙ sym (append_assoc (operands_with k.under (d ∷ ks)) (reverse f.locals) (all_values below)) in
      let head = mapped.0 in
      follows_with m maps c (take (count_if t.carries) values ++ lowest (place.base + t.height) values)
      (record place { pc = t.to; opens = opens_of callers + t.opens }) callers g below new
      (record {
        left = record {
          body = body;
          is = body_is;
          afters = next ∷ afters;
          lists = (record { stop = lists.0.stop; stops = stops ∙ place_is; ends = lists.0.ends; stands = stands; loops = lists.0.loops }, lists.1);
        };
        map = map;
        map_is = map_is;
        labels = u ∷ labels;
        height = t.height;
        height_is = omega arith;
        lists = (
          record {
            mapped = loop_mapped;
            leads = head.leads;
            height_is = head.height_is;
            opens_is = head.opens_is;
            closes = subst (λ (n : ℕ). IsAt body.expr n end_instr ⊎ (HasTarget map n u × (u.to ≡ next))) place_is head.closes;
            loops = head.loops;
            outermost = head.outermost;
          },
          mapped.1,
        );
      })
      base (ap (λ (n : ℕ). opens_of callers + n) opens) outer
      (subst (λ (n : ℕ). CallersMapped m maps place.body n callers below) (results_same f.operands k.under d again ks refl) outer_mapped)

  left_block : (test : Bool) (t : Target) (labels : List Target) (height after : ℕ) (afters : List ℕ) (k : Cont) (ks : List Cont) (results : ℕ) (low values pre : List ℕ) →
      nat_le results (length f.operands) ≡ test → k.label ≡ Leave results →
      t.height ≡ length f.locals + length (operands_with k.under ks) → t.opens ≡ pred (length ks) → (t.to ≡ after) × (results ≡ count_if t.carries) → (ks ≡ [] → k.under ≡ []) →
      ListsStand body.expr after afters ks → ListsMapped m map body.expr (length f.locals) labels after (t.height + left_by k.label) afters ks →
      CallersMapped m maps place.body (results_from f.operands (k ∷ ks)) callers below →
      values ≡ f.operands ++ low → values ≡ pre ++ (operands_with k.under ks ++ foot) →
      to_frame c below (leave_block (cond test (Some (take results f.operands)) None) k.under f ks) ≢ Stuck →
      Agrees (Follows m maps) (Gives (jump t values (here values))) (to_frame c below (leave_block (cond test (Some (take results f.operands)) None) k.under f ks))
  left_block true t labels height after afters k ks results low values pre test is high opens leads outermost lists mapped outer_mapped top e goes =
      leaves_block t labels height after afters k ks results low values pre is high opens leads outermost lists mapped outer_mapped (grind (arith, nat_tests)) top e
  left_block false t labels height after afters k ks results low values pre test is high opens leads outermost lists mapped outer_mapped top e goes = absurd (goes refl)

  -- a branch to the innermost label
  lands : (label : Label) (t : Target) (labels : List Target) (pc height after : ℕ) (afters : List ℕ) (k : Cont) (ks : List Cont) (low values pre : List ℕ) → k.label ≡ label →
      LabelLeads t after label → LoopStands body.expr after label ks → LoopMapped m map t labels label ks →
      t.height ≡ length f.locals + length (operands_with k.under ks) → t.opens ≡ pred (length ks) → (ks ≡ [] → k.under ≡ []) →
      ListsStand body.expr after afters ks → ListsMapped m map body.expr (length f.locals) labels after (t.height + left_by k.label) afters ks →
      CallersMapped m maps place.body (results_from f.operands (k ∷ ks)) callers below →
      values ≡ f.operands ++ low → values ≡ pre ++ (operands_with k.under ks ++ foot) → to_frame c below (land label k.under f ks) ≢ Stuck →
      Agrees (Follows m maps) (Gives (jump t values (here values))) (to_frame c below (land label k.under f ks))
  lands (Leave results) t labels pc height after afters k ks low values pre is leads loop loop_mapped high opens outermost lists mapped outer_mapped top e goes =
      left_block (nat_le results (length f.operands)) t labels height after afters k ks results low values pre refl is high opens leads outermost lists mapped outer_mapped top e goes
  lands (Again result inside) t labels pc height after afters k [] low values pre is leads loop loop_mapped high opens outermost lists mapped outer_mapped top e goes = absurd (goes refl)
  lands (Again result inside) t [] pc height after [] k (d ∷ ks) low values pre is leads loop loop_mapped high opens outermost lists mapped outer_mapped top e goes = absurd lists
  lands (Again result inside) t [] pc height after (next ∷ afters) k (d ∷ ks) low values pre is leads loop loop_mapped high opens outermost lists mapped outer_mapped top e goes = absurd mapped
  lands (Again result inside) t (u ∷ labels) pc height after [] k (d ∷ ks) low values pre is leads loop loop_mapped high opens outermost lists mapped outer_mapped top e goes = absurd lists
  lands (Again result inside) t (u ∷ labels) pc height after (next ∷ afters) k (d ∷ ks) low values pre is leads loop loop_mapped high opens outermost lists mapped outer_mapped top e goes =
      repeats_loop t u labels (t.height + left_by k.label) after next afters k d ks result inside values pre high opens leads loop loop_mapped lists mapped outer_mapped e

  -- where lists are left the function's results stay
  shorter : (l : ℕ) (k : Cont) (ks : List Cont) → CallersMapped m maps place.body (results_from f.operands (k ∷ ks)) callers below → to_frame c below (branch_in l f ks) ≢ Stuck →
      CallersMapped m maps place.body (results_from f.operands ks) callers below
  shorter l k [] h goes = absurd (goes refl)
  shorter l k (d ∷ ks) h goes = h

  -- a branch finds its label's target, and goes there
  pub branch_follows : (l : ℕ) (labels : List Target) (pc height : ℕ) (afters : List ℕ) (ks : List Cont) (operands low values pre : List ℕ) →
      ListsStand body.expr pc afters ks → ListsMapped m map body.expr (length f.locals) labels pc height afters ks →
      CallersMapped m maps place.body (results_from f.operands ks) callers below → values ≡ f.operands ++ low → values ≡ pre ++ (operands_with operands ks ++ foot) →
      to_frame c below (branch_in l f ks) ≢ Stuck →
      (t : Target) × (slice_get labels l ≡ Some t) × Agrees (Follows m maps) (Gives (jump t values (here values))) (to_frame c below (branch_in l f ks))
  branch_follows l labels pc height afters [] operands low values pre lists mapped outer_mapped top e goes = absurd (goes refl)
  branch_follows l [] pc height [] (k ∷ ks) operands low values pre lists mapped outer_mapped top e goes = absurd lists
  branch_follows l [] pc height (after ∷ afters) (k ∷ ks) operands low values pre lists mapped outer_mapped top e goes = absurd mapped
  branch_follows l (t ∷ labels) pc height [] (k ∷ ks) operands low values pre lists mapped outer_mapped top e goes = absurd lists
  branch_follows zero (t ∷ labels) pc height (after ∷ afters) (k ∷ ks) operands low values pre lists mapped outer_mapped top e goes =
      let head = mapped.0 in
      let split : values ≡ (pre ++ operands) ++ (operands_with k.under ks ++ foot) =
      e ∙ ap (λ (l : List ℕ). pre ++ l) (append_assoc operands (operands_with k.under ks) foot) ∙ sym (append_assoc pre operands (operands_with k.under ks ++ foot)) in (
        t,
        refl,
        lands k.label t labels pc height after afters k ks low values (pre ++ operands) refl head.leads lists.0.loops head.loops head.height_is head.opens_is head.outermost
            lists.1 mapped.1 outer_mapped top split goes,
      )
  branch_follows (suc l) (t ∷ labels) pc height (after ∷ afters) (k ∷ ks) operands low values pre lists mapped outer_mapped top e goes =
      let split : values ≡ (pre ++ operands) ++ (operands_with k.under ks ++ foot) =
      e ∙ ap (λ (l : List ℕ). pre ++ l) (append_assoc operands (operands_with k.under ks) foot) ∙ sym (append_assoc pre operands (operands_with k.under ks ++ foot)) in
      branch_follows l labels after (t.height + left_by k.label) afters ks k.under low values (pre ++ operands) lists.1 mapped.1 (shorter l k ks outer_mapped goes) top split goes

pub branch_same : (l : ℕ) (f : Frame) (rest : Code) (k : Cont) (ks : List Cont) → branch_in l f (cont_with rest k ∷ ks) ≡ branch_in l f (k ∷ ks)
branch_same zero f rest k ks = refl
branch_same (suc l) f rest k ks = refl

module _ (m : Parts) (maps : List BodyMap) (flat : Flat) (c : Config) (follows : Follows m maps flat c) (typed : IsTyped m [] c) where
  -- a branch from a frame with these operands, whose innermost list has this rest
  pub goes_to : (i : Instr) (f : Frame) (below : List Frame) (w : Work m maps flat c follows typed i f below) (l : ℕ) (rest : Code) (operands values : List ℕ) →
      values ≡ operands ++ low_values f.locals w.inner.k w.inner.around below →
      to_frame c below (branch l (with_operands operands (with_rest rest f w.inner.k w.inner.around))) ≢ Stuck →
      (t : Target) × (slice_get (w.inner.target ∷ w.inner.labels) l ≡ Some t)
      × Agrees (Follows m maps) (Gives (jump t values flat)) (to_frame c below (branch l (with_operands operands (with_rest rest f w.inner.k w.inner.around))))
  goes_to i f below w l rest operands values e goes =
      let there = w.inner in
      let k = there.k in
      let ks = there.around in
      let g : Frame = with_operands operands (with_rest rest f k ks) in
      let same : branch l g ≡ branch_in l g (k ∷ ks) = branch_same l g rest k ks in
      let results : results_from f.operands f.conts ≡ results_from operands (k ∷ ks) =
      ap (λ (x : List Cont). results_from f.operands x) there.is ∙ results_same f.operands operands k k ks refl in
      let foot = reverse f.locals ++ all_values below in
      let split : values ≡ [] ++ (operands_with operands (k ∷ ks) ++ foot) =
      e ∙ sym (append_assoc operands (operands_with k.under ks) foot) in
      let found = branch_follows m maps c flat.place flat.callers g below there.body there.map there.body_is there.map_is w.base w.outer l (there.target ∷ there.labels)
      flat.place.pc w.height (there.after ∷ there.afters) (k ∷ ks) operands (low_values f.locals k ks below) values []
      (there.list, there.outer) (there.mapped, there.outer_mapped) (subst (λ (n : ℕ). CallersMapped m maps flat.place.body n flat.callers below) results w.outer_mapped) e split
      (λ v. goes (ap (to_frame c below) same ∙ v)) in
      let here : jump found.0 values (flat_of values flat.place flat.callers c) ≡ jump found.0 values flat =
      ap (jump found.0 values) (sym (ap (λ (x : Flat). record x { values = values }) w.same)) in (
        found.0,
        found.1,
        subst (λ (x : Effect Frame). Agrees (Follows m maps) (Gives (jump found.0 values flat)) (to_frame c below x)) (sym same)
            (subst (λ (x : Flat). Agrees (Follows m maps) (Gives x) (to_frame c below (branch_in l g (k ∷ ks)))) here found.2),
      )

  -- the values of the machine
  pub values_here : (i : Instr) (f : Frame) (below : List Frame) (w : Work m maps flat c follows typed i f below) →
      flat.values ≡ f.operands ++ low_values f.locals w.inner.k w.inner.around below
  values_here i f below w =
      w.values ∙ ap (λ (x : List Cont). (operands_with f.operands x ++ reverse f.locals) ++ all_values below) w.inner.is
      ∙ values_are f.operands f.locals w.inner.k w.inner.around below

  -- the target in the map, where the instruction may branch to the label
  pub target_at : (i : Instr) (f : Frame) (below : List Frame) (w : Work m maps flat c follows typed i f below) (rest : Code) → w.inner.k.rest ≡ Then i rest →
      (l : ℕ) (t : Target) → MayBranch (length (w.inner.target ∷ w.inner.labels)) i l → slice_get (w.inner.target ∷ w.inner.labels) l ≡ Some t → HasTargetAt maps flat.place t
  target_at i f below w rest is l t may found =
      let there = w.inner in
      let mapped : Mapped m there.map (there.target ∷ there.labels) flat.place.pc w.height (Then i rest) =
      subst (λ (code : Code). Mapped m there.map (there.target ∷ there.labels) flat.place.pc w.height code) is there.mapped.mapped in
      (there.map, there.map_is, mapped.0 l t may found)

  br_at : (i : Instr) (l : ℕ) (frames : List Frame) → c.frames ≡ frames → i.code ≡ 0x0C → i.imm ≡ imm.Index l → IsInstrAt m flat.place i → next_among m c frames ≢ Stuck →
      (t : Target) × HasTargetAt maps flat.place t × Agrees (Follows m maps) (Gives (jump t flat.values flat)) (next_among m c frames)
  unfolding execute_plain
  br_at i l [] e code index at goes = absurd (goes refl)
  br_at i l (f ∷ below) e code index at goes =
      let w = work m maps flat c follows typed i f below at e in
      let there = w.inner in
      let plain = plain_br i l code index in
      let comes = plain_comes i (op.Br l) there.k.rest plain there.begins in
      let next_is : next_among m c (f ∷ below) ≡ to_frame c below (branch l (with_rest comes.0 f there.k there.around)) =
      ap (λ (x : List Cont). next_in m c f x below) there.is ∙ ap (λ (x : Code). next_of m x c f there.k there.around below) comes.1
      ∙ ap (λ (o : Option Plain). execute m o c (with_rest comes.0 f there.k there.around) below) plain in
      let done = goes_to i f below w l comes.0 f.operands flat.values (values_here i f below w) (λ v. goes (next_is ∙ v)) in (
        done.0,
        target_at i f below w comes.0 comes.1 l done.0 (inl (inl code, index)) done.1,
        subst (λ (o : Outcome). Agrees (Follows m maps) (Gives (jump done.0 flat.values flat)) o) (sym next_is) done.2,
      )

  return_at : (i : Instr) (frames : List Frame) → c.frames ≡ frames → i.code ≡ 0x0F → IsInstrAt m flat.place i → next_among m c frames ≢ Stuck →
      (t : Target) × HasTargetAt maps flat.place t × Agrees (Follows m maps) (Gives (jump t flat.values flat)) (next_among m c frames)
  unfolding execute_plain
  return_at i [] e code at goes = absurd (goes refl)
  return_at i (f ∷ below) e code at goes =
      let w = work m maps flat c follows typed i f below at e in
      let there = w.inner in
      let plain = plain_return i code in
      let comes = plain_comes i op.Return there.k.rest plain there.begins in
      let l = length there.around in
      let next_is : next_among m c (f ∷ below) ≡ to_frame c below (branch l (with_rest comes.0 f there.k there.around)) =
      ap (λ (x : List Cont). next_in m c f x below) there.is ∙ ap (λ (x : Code). next_of m x c f there.k there.around below) comes.1
      ∙ ap (λ (o : Option Plain). execute m o c (with_rest comes.0 f there.k there.around) below) plain in
      let count = labels_count m there.map there.body.expr (length f.locals) there.labels there.after (there.target.height + left_by there.k.label) there.afters there.around there.outer_mapped in
      let outermost : length (there.target ∷ there.labels) ≡ l + 1 = omega arith in
      let done = goes_to i f below w l comes.0 f.operands flat.values (values_here i f below w) (λ v. goes (next_is ∙ v)) in (
        done.0,
        target_at i f below w comes.0 comes.1 l done.0 (inr (code, outermost)) done.1,
        subst (λ (o : Outcome). Agrees (Follows m maps) (Gives (jump done.0 flat.values flat)) o) (sym next_is) done.2,
      )

  -- br
  pub br_agrees : (i : Instr) (l : ℕ) → i.code ≡ 0x0C → i.imm ≡ imm.Index l → IsInstrAt m flat.place i → next m c ≢ Stuck →
      (t : Target) × HasTargetAt maps flat.place t × Agrees (Follows m maps) (Gives (jump t flat.values flat)) (next m c)
  unfolding next
  br_agrees i l code index at goes = br_at i l c.frames refl code index at goes

  -- return
  pub return_agrees : (i : Instr) → i.code ≡ 0x0F → IsInstrAt m flat.place i → next m c ≢ Stuck →
      (t : Target) × HasTargetAt maps flat.place t × Agrees (Follows m maps) (Gives (jump t flat.values flat)) (next m c)
  unfolding next
  return_agrees i code at goes = return_at i c.frames refl code at goes
