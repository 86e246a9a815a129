-- Blocks, loops and ifs begin in the flat machine as in the configuration that it stands for.
use Rattle.std.proofs.Common.{◌≡◌, ◌≢◌, ℕ, suc, pred, ◌+◌, ◌-◌, inl, inr, Bool, true, false, cond, nat_eq, List, [], ◌∷◌, ◌++◌, length, reverse, Option, Some, None, arith, refl, sym, ◌∙◌, ap, subst}
use Rattle.wasm_form.specs.declared.value_type.ValType.{ValType}
use Rattle.wasm_form.specs.declared.instr.Instr.{Instr}
use Rattle.wasm_form.specs.declared.parts.Parts.{Parts}
use Rattle.wasm_form.specs.Trees.{Code, Empty, BlockOf, LoopOf, IfOf, IfElseOf, end_instr, block_instr, loop_instr, if_instr, size}
use Rattle.code_map.specs.declared.target.Target.{Target}
use Rattle.code_map.specs.declared.body_map.BodyMap.{BodyMap}
use Rattle.code_map.specs.Targets.{gives_value, count_if, HasTarget}
use Rattle.code_map.specs.Mapped.{Mapped, block_label, loop_label, skipped}
use Rattle.tree_machine.specs.Config.{Label, Leave, Again, Cont, cont, Frame, Config, with_frames, with_operands}
use Rattle.tree_machine.specs.Control.{result_count, begin_block, begin_loop, begin_if}
use Rattle.tree_machine.specs.Outcomes.{Gives, Outcome, Stuck, to_frame}
use Rattle.tree_machine.specs.Step.{with_rest, next_of, next_in, next_among, next}
use Rattle.tree_machine.specs.Typed.{HasInstrs, IsTyped}
use Rattle.flat_machine.specs.Flat.{Place, Flat}
use Rattle.flat_machine.specs.Text.{IsAt, StandsAt}
use Rattle.flat_machine.specs.Values.{operands_with, frame_values, all_values}
use Rattle.flat_machine.specs.Tells.{opens_of, PlacesStand, IsInstrAt, Agrees}
use Rattle.flat_machine.specs.Control.{at_place, begin_list, begin_chosen}
use Rattle.flat_machine.specs.Mapping.{left_by, results_from, CallersMapped, PlacesMapped, Follows, HasTargetAt}
use Rattle.flat_machine.proofs.StraightAgrees.{flat_of, cont_with, low_values, values_are, same_flat}
use Rattle.flat_machine.proofs.Inner.{Inner, inner, labels_count, results_same, follows_with}
use Rattle.flat_machine.proofs.Begins.{Begun, begun_mapped}
use Rattle.flat_machine.proofs.Coming.{typed_instrs, block_comes, loop_comes, IsIf, if_comes}

-- as many blocks are open around a list as lists stand around it, but for the body
one_less : (t : Target) (labels : List Target) → length (t ∷ labels) - 1 ≡ length labels
one_less t labels = omega arith

results_counted : (result : Option ValType) → result_count result ≡ count_if (gives_value result)
results_counted None = refl
results_counted (Some ty) = refl

module _ (m : Parts) (maps : List BodyMap) (c : Config) (place : Place) (callers : List Place) (i : Instr) (f : Frame) (below : List Frame) (height : ℕ)
    (high : height ≡ length f.locals + length (operands_with f.operands f.conts)) (inner : Inner m maps place i (length f.locals) height f.conts)
    (base : place.base ≡ length (all_values below)) (opens : place.opens ≡ opens_of callers + pred (length f.conts)) (outer : PlacesStand m callers below)
    (outer_mapped : CallersMapped m maps place.body (results_from f.operands f.conts) callers below) where
  abbrev k : Cont
  k = inner.k

  abbrev ks : List Cont
  ks = inner.around

  opens_here : place.opens ≡ opens_of callers + length ks
  opens_here = opens ∙ ap (λ (x : List Cont). opens_of callers + pred (length x)) inner.is

  -- where a list has begun
  begun_follows : (pc now : ℕ) (inside rest : Code) (label : Label) (under : List ℕ) (t : Target) (middle : ℕ) (values : List ℕ) →
      Begun m maps place i f height inner pc inside rest label under t middle → now ≡ opens_of callers + suc (length ks) →
      values ≡ (operands_with under (cont_with rest k ∷ ks) ++ reverse f.locals) ++ all_values below →
      Follows m maps (flat_of values (record place { pc = pc; opens = now }) callers c)
      (with_frames (record f { operands = []; conts = cont inside label under ∷ cont_with rest k ∷ ks } ∷ below) c)
  begun_follows pc now inside rest label under t middle values b count e =
      let results : results_from f.operands f.conts ≡ results_from [] (cont_with rest k ∷ ks) =
      ap (λ (x : List Cont). results_from f.operands x) inner.is ∙ results_same f.operands [] k (cont_with rest k) ks refl in
      follows_with m maps c values (record place { pc = pc; opens = now }) callers
      (record f { operands = []; conts = cont inside label under ∷ cont_with rest k ∷ ks }) below e
      (begun_mapped m maps place i f height inner pc now inside rest label under t middle b) base count outer
      (subst (λ (n : ℕ). CallersMapped m maps place.body n callers below) results outer_mapped)

  labels_are : length inner.labels ≡ length ks
  labels_are =
      labels_count m inner.map inner.body.expr (length f.locals) inner.labels inner.after (inner.target.height + left_by inner.k.label) inner.afters inner.around inner.outer_mapped

  higher : (rest : Code) → height ≡ length f.locals + length (operands_with f.operands (cont_with rest k ∷ ks))
  higher rest = high ∙ ap (λ (x : List Cont). length f.locals + length (operands_with f.operands x)) inner.is

  block_begun : (result : Option ValType) (inside rest : Code) → k.rest ≡ BlockOf result inside rest →
      Begun m maps place i f height inner (place.pc + 1) inside rest (Leave (result_count result)) f.operands
      (block_label (inner.target ∷ inner.labels) (place.pc + 1 + size inside) height result) (place.pc + 1 + size inside + 1)
  block_begun result inside rest is =
      let stands : StandsAt inner.body.expr place.pc (BlockOf result inside rest) = subst (λ (code : Code). StandsAt inner.body.expr place.pc code) is inner.list.stands in
      let mapped : Mapped m inner.map (inner.target ∷ inner.labels) place.pc height (BlockOf result inside rest) =
      subst (λ (code : Code). Mapped m inner.map (inner.target ∷ inner.labels) place.pc height code) is inner.mapped.mapped in
      let count = results_counted result in
      let sizes : size k.rest ≡ 2 + size inside + size rest = ap size is in
      record {
        ends = inl (stands.2, refl);
        stands = stands.1;
        loops = tt;
        inside_mapped = mapped.0;
        leads = (refl, count);
        height_is = higher rest;
        opens_is = one_less inner.target inner.labels;
        closes = inl stands.2;
        loop_mapped = tt;
        goes_on = stands.3;
        place_is = omega arith;
        rest_mapped = subst (λ (n : ℕ). Mapped m inner.map (inner.target ∷ inner.labels) (place.pc + 1 + size inside + 1) (height + n) rest) (sym count) mapped.1;
      }

  loop_begun : (result : Option ValType) (inside rest : Code) → k.rest ≡ LoopOf result inside rest →
      Begun m maps place i f height inner (place.pc + 1) inside rest (Again result inside) f.operands
      (loop_label (inner.target ∷ inner.labels) place.pc height) (place.pc + 1 + size inside + 1)
  loop_begun result inside rest is =
      let stands : StandsAt inner.body.expr place.pc (LoopOf result inside rest) = subst (λ (code : Code). StandsAt inner.body.expr place.pc code) is inner.list.stands in
      let mapped : Mapped m inner.map (inner.target ∷ inner.labels) place.pc height (LoopOf result inside rest) =
      subst (λ (code : Code). Mapped m inner.map (inner.target ∷ inner.labels) place.pc height code) is inner.mapped.mapped in
      let count = results_counted result in
      let sizes : size k.rest ≡ 2 + size inside + size rest = ap size is in
      record {
        ends = inl (stands.2, refl);
        stands = stands.1;
        loops = (place.pc, refl, stands);
        inside_mapped = mapped.0;
        leads = (refl, refl);
        height_is = higher rest;
        opens_is = one_less inner.target inner.labels;
        closes = inl stands.2;
        loop_mapped = mapped;
        goes_on = stands.3;
        place_is = omega arith;
        rest_mapped = subst (λ (n : ℕ). Mapped m inner.map (inner.target ∷ inner.labels) (place.pc + 1 + size inside + 1) (height + n) rest) (sym count) mapped.1;
      }

  module _ (number : ℕ) (operands : List ℕ) (top : f.operands ≡ number ∷ operands) where
    lower : (rest : Code) → height - 1 ≡ length f.locals + length (operands_with operands (cont_with rest k ∷ ks))
    lower rest =
        let h : height ≡ length f.locals + suc (length (operands ++ operands_with k.under ks)) =
        higher rest ∙ ap (λ (x : List ℕ). length f.locals + length (operands_with x (cont_with rest k ∷ ks))) top in
        omega arith

    then_begun : (result : Option ValType) (inside rest : Code) → k.rest ≡ IfOf result inside rest →
        Begun m maps place i f height inner (place.pc + 1) inside rest (Leave (result_count result)) operands
        (block_label (inner.target ∷ inner.labels) (place.pc + 1 + size inside) (height - 1) result) (place.pc + 1 + size inside + 1)
    then_begun result inside rest is =
        let stands : StandsAt inner.body.expr place.pc (IfOf result inside rest) = subst (λ (code : Code). StandsAt inner.body.expr place.pc code) is inner.list.stands in
        let mapped : Mapped m inner.map (inner.target ∷ inner.labels) place.pc height (IfOf result inside rest) =
        subst (λ (code : Code). Mapped m inner.map (inner.target ∷ inner.labels) place.pc height code) is inner.mapped.mapped in
        let count = results_counted result in
        let sizes : size k.rest ≡ 2 + size inside + size rest = ap size is in
        record {
          ends = inl (stands.2, refl);
          stands = stands.1;
          loops = tt;
          inside_mapped = mapped.1;
          leads = (refl, count);
          height_is = lower rest;
          opens_is = one_less inner.target inner.labels;
          closes = inl stands.2;
          loop_mapped = tt;
          goes_on = stands.3;
          place_is = omega arith;
          rest_mapped = subst (λ (n : ℕ). Mapped m inner.map (inner.target ∷ inner.labels) (place.pc + 1 + size inside + 1) (height - 1 + n) rest) (sym count) mapped.2;
        }

    skip_begun : (result : Option ValType) (inside rest : Code) → k.rest ≡ IfOf result inside rest →
        Begun m maps place i f height inner (place.pc + 1 + size inside) Empty rest (Leave (result_count result)) operands
        (block_label (inner.target ∷ inner.labels) (place.pc + 1 + size inside) (height - 1) result) (place.pc + 1 + size inside + 1)
    skip_begun result inside rest is =
        let stands : StandsAt inner.body.expr place.pc (IfOf result inside rest) = subst (λ (code : Code). StandsAt inner.body.expr place.pc code) is inner.list.stands in
        let b = then_begun result inside rest is in
        let stop : place.pc + 1 + size inside ≡ place.pc + 1 + size inside + 0 = omega arith in
        let end : IsAt inner.body.expr (place.pc + 1 + size inside + 0) end_instr = subst (λ (n : ℕ). IsAt inner.body.expr n end_instr) stop stands.2 in
        record {
          ends = inl (end, omega arith);
          stands = tt;
          loops = tt;
          inside_mapped = tt;
          leads = b.leads;
          height_is = b.height_is;
          opens_is = one_less inner.target inner.labels;
          closes = inl end;
          loop_mapped = tt;
          goes_on = b.goes_on;
          place_is = b.place_is;
          rest_mapped = b.rest_mapped;
        }

    if_begun : (result : Option ValType) (inside other rest : Code) → k.rest ≡ IfElseOf result inside other rest →
        Begun m maps place i f height inner (place.pc + 1) inside rest (Leave (result_count result)) operands
        (block_label (inner.target ∷ inner.labels) (place.pc + 1 + size inside + 1 + size other) (height - 1) result) (place.pc + 1 + size inside + 1 + size other + 1)
    if_begun result inside other rest is =
        let stands : StandsAt inner.body.expr place.pc (IfElseOf result inside other rest) = subst (λ (code : Code). StandsAt inner.body.expr place.pc code) is inner.list.stands in
        let mapped : Mapped m inner.map (inner.target ∷ inner.labels) place.pc height (IfElseOf result inside other rest) =
        subst (λ (code : Code). Mapped m inner.map (inner.target ∷ inner.labels) place.pc height code) is inner.mapped.mapped in
        let count = results_counted result in
        let sizes : size k.rest ≡ 3 + size inside + size other + size rest = ap size is in
        record {
          ends = inr (other, stands.2, refl);
          stands = stands.1;
          loops = tt;
          inside_mapped = mapped.1;
          leads = (refl, count);
          height_is = lower rest;
          opens_is = one_less inner.target inner.labels;
          closes = inr (mapped.2, refl);
          loop_mapped = tt;
          goes_on = stands.5;
          place_is = omega arith;
          rest_mapped = subst (λ (n : ℕ). Mapped m inner.map (inner.target ∷ inner.labels) (place.pc + 1 + size inside + 1 + size other + 1) (height - 1 + n) rest) (sym count) mapped.4;
        }

    else_begun : (result : Option ValType) (inside other rest : Code) → k.rest ≡ IfElseOf result inside other rest →
        Begun m maps place i f height inner (place.pc + 1 + size inside + 1) other rest (Leave (result_count result)) operands
        (block_label (inner.target ∷ inner.labels) (place.pc + 1 + size inside + 1 + size other) (height - 1) result) (place.pc + 1 + size inside + 1 + size other + 1)
    else_begun result inside other rest is =
        let stands : StandsAt inner.body.expr place.pc (IfElseOf result inside other rest) = subst (λ (code : Code). StandsAt inner.body.expr place.pc code) is inner.list.stands in
        let mapped : Mapped m inner.map (inner.target ∷ inner.labels) place.pc height (IfElseOf result inside other rest) =
        subst (λ (code : Code). Mapped m inner.map (inner.target ∷ inner.labels) place.pc height code) is inner.mapped.mapped in
        let b = if_begun result inside other rest is in
        record {
          ends = inl (stands.4, refl);
          stands = stands.3;
          loops = tt;
          inside_mapped = mapped.3;
          leads = b.leads;
          height_is = b.height_is;
          opens_is = one_less inner.target inner.labels;
          closes = inl stands.4;
          loop_mapped = tt;
          goes_on = b.goes_on;
          place_is = b.place_is;
          rest_mapped = b.rest_mapped;
        }

  -- the machine before the instruction
  abbrev here : List ℕ → Flat
  here values = flat_of values place callers c

  all : (rest : Code) (values : List ℕ) → values ≡ frame_values f ++ all_values below →
      values ≡ (operands_with f.operands (cont_with rest k ∷ ks) ++ reverse f.locals) ++ all_values below
  all rest values e = e ∙ ap (λ (x : List Cont). (operands_with f.operands x ++ reverse f.locals) ++ all_values below) inner.is

  more_opens : place.opens + 1 ≡ opens_of callers + suc (length ks)
  more_opens = let e = opens_here in omega arith

  block_follows : (result : Option ValType) (inside rest : Code) (values : List ℕ) → k.rest ≡ BlockOf result inside rest → values ≡ frame_values f ++ all_values below →
      Agrees (Follows m maps) (Gives (begin_list values (here values))) (next_among m c (f ∷ below))
  block_follows result inside rest values is e =
      let next_is : next_among m c (f ∷ below) ≡ to_frame c below (Gives (begin_block result inside (with_rest rest f k ks))) =
      ap (λ (x : List Cont). next_in m c f x below) inner.is ∙ ap (λ (code : Code). next_of m code c f k ks below) is in
      subst (λ (o : Outcome). Agrees (Follows m maps) (Gives (begin_list values (here values))) o) (sym next_is)
      (begun_follows (place.pc + 1) (place.opens + 1) inside rest (Leave (result_count result)) f.operands
      (block_label (inner.target ∷ inner.labels) (place.pc + 1 + size inside) height result) (place.pc + 1 + size inside + 1) values
      (block_begun result inside rest is) more_opens (all rest values e))

  loop_follows : (result : Option ValType) (inside rest : Code) (values : List ℕ) → k.rest ≡ LoopOf result inside rest → values ≡ frame_values f ++ all_values below →
      Agrees (Follows m maps) (Gives (begin_list values (here values))) (next_among m c (f ∷ below))
  loop_follows result inside rest values is e =
      let next_is : next_among m c (f ∷ below) ≡ to_frame c below (Gives (begin_loop result inside (with_rest rest f k ks))) =
      ap (λ (x : List Cont). next_in m c f x below) inner.is ∙ ap (λ (code : Code). next_of m code c f k ks below) is in
      subst (λ (o : Outcome). Agrees (Follows m maps) (Gives (begin_list values (here values))) o) (sym next_is)
      (begun_follows (place.pc + 1) (place.opens + 1) inside rest (Again result inside) f.operands
      (loop_label (inner.target ∷ inner.labels) place.pc height) (place.pc + 1 + size inside + 1) values
      (loop_begun result inside rest is) more_opens (all rest values e))

  -- the two lists of an if, where its number is this
  chosen_follows : (b : Bool) (result : Option ValType) (one two rest : Code) (operands values : List ℕ) (to : ℕ) (t u : Target) (middle : ℕ) →
      Begun m maps place i f height inner (place.pc + 1) one rest (Leave (result_count result)) operands t middle →
      Begun m maps place i f height inner u.to two rest (Leave (result_count result)) operands t middle → u.opens ≡ suc (length ks) →
      values ≡ (operands_with operands (cont_with rest k ∷ ks) ++ reverse f.locals) ++ all_values below →
      Follows m maps (cond b (at_place u.to u.opens values (here values)) (begin_list values (here values)))
      (with_frames (begin_block result (cond b two one) (with_operands operands (with_rest rest f k ks)) ∷ below) c)
  chosen_follows true result one two rest operands values to t u middle x y count e =
      begun_follows u.to (opens_of callers + u.opens) two rest (Leave (result_count result)) operands t middle values y
      (ap (λ (n : ℕ). opens_of callers + n) count) e
  chosen_follows false result one two rest operands values to t u middle x y count e =
      begun_follows (place.pc + 1) (place.opens + 1) one rest (Leave (result_count result)) operands t middle values x more_opens e

  low_here : (rest : Code) (operands : List ℕ) → operands ++ low_values f.locals k ks below ≡ (operands_with operands (cont_with rest k ∷ ks) ++ reverse f.locals) ++ all_values below
  low_here rest operands = sym (values_are operands f.locals k ks below)

  -- how an if goes on, by its operands
  if_without_follows : (result : Option ValType) (inside rest : Code) (operands values : List ℕ) → k.rest ≡ IfOf result inside rest → f.operands ≡ operands →
      values ≡ operands ++ low_values f.locals k ks below →
      to_frame c below (begin_if result inside Empty operands (with_rest rest f k ks)) ≢ Stuck →
      (t : Target) × HasTarget inner.map place.pc t
      × Agrees (Follows m maps) (begin_chosen t values (here values)) (to_frame c below (begin_if result inside Empty operands (with_rest rest f k ks)))
  if_without_follows result inside rest [] values is top e goes = absurd (goes refl)
  if_without_follows result inside rest (number ∷ operands) values is top e goes =
      let mapped : Mapped m inner.map (inner.target ∷ inner.labels) place.pc height (IfOf result inside rest) =
      subst (λ (code : Code). Mapped m inner.map (inner.target ∷ inner.labels) place.pc height code) is inner.mapped.mapped in
      let u = skipped (inner.target ∷ inner.labels) (place.pc + 1 + size inside) (height - 1) in
      let low = operands ++ low_values f.locals k ks below in
      let goes_on : Follows m maps (cond (nat_eq number 0) (at_place u.to u.opens low (here low)) (begin_list low (here low)))
      (with_frames (begin_block result (cond (nat_eq number 0) Empty inside) (with_operands operands (with_rest rest f k ks)) ∷ below) c) =
      chosen_follows (nat_eq number 0) result inside Empty rest operands low 0
      (block_label (inner.target ∷ inner.labels) (place.pc + 1 + size inside) (height - 1) result) u (place.pc + 1 + size inside + 1)
      (then_begun number operands top result inside rest is) (skip_begun number operands top result inside rest is) (ap suc labels_are) (low_here rest operands) in (
        u,
        mapped.0,
        subst (λ (v : List ℕ). Agrees (Follows m maps) (begin_chosen u v (here v)) (to_frame c below (begin_if result inside Empty (number ∷ operands) (with_rest rest f k ks))))
            (sym e) goes_on,
      )

  if_with_follows : (result : Option ValType) (inside other rest : Code) (operands values : List ℕ) → k.rest ≡ IfElseOf result inside other rest → f.operands ≡ operands →
      values ≡ operands ++ low_values f.locals k ks below →
      to_frame c below (begin_if result inside other operands (with_rest rest f k ks)) ≢ Stuck →
      (t : Target) × HasTarget inner.map place.pc t
      × Agrees (Follows m maps) (begin_chosen t values (here values)) (to_frame c below (begin_if result inside other operands (with_rest rest f k ks)))
  if_with_follows result inside other rest [] values is top e goes = absurd (goes refl)
  if_with_follows result inside other rest (number ∷ operands) values is top e goes =
      let mapped : Mapped m inner.map (inner.target ∷ inner.labels) place.pc height (IfElseOf result inside other rest) =
      subst (λ (code : Code). Mapped m inner.map (inner.target ∷ inner.labels) place.pc height code) is inner.mapped.mapped in
      let u = skipped (inner.target ∷ inner.labels) (place.pc + 1 + size inside + 1) (height - 1) in
      let low = operands ++ low_values f.locals k ks below in
      let goes_on : Follows m maps (cond (nat_eq number 0) (at_place u.to u.opens low (here low)) (begin_list low (here low)))
      (with_frames (begin_block result (cond (nat_eq number 0) other inside) (with_operands operands (with_rest rest f k ks)) ∷ below) c) =
      chosen_follows (nat_eq number 0) result inside other rest operands low 0
      (block_label (inner.target ∷ inner.labels) (place.pc + 1 + size inside + 1 + size other) (height - 1) result) u
      (place.pc + 1 + size inside + 1 + size other + 1)
      (if_begun number operands top result inside other rest is) (else_begun number operands top result inside other rest is) (ap suc labels_are) (low_here rest operands) in (
        u,
        mapped.0,
        subst (λ (v : List ℕ). Agrees (Follows m maps) (begin_chosen u v (here v)) (to_frame c below (begin_if result inside other (number ∷ operands) (with_rest rest f k ks))))
            (sym e) goes_on,
      )

  if_follows : (result : Option ValType) (values : List ℕ) → IsIf result k.rest → values ≡ frame_values f ++ all_values below → next_among m c (f ∷ below) ≢ Stuck →
      (t : Target) × HasTarget inner.map place.pc t × Agrees (Follows m maps) (begin_chosen t values (here values)) (next_among m c (f ∷ below))
  if_follows result values (inl (inside, rest, is)) e goes =
      let next_is : next_among m c (f ∷ below) ≡ to_frame c below (begin_if result inside Empty f.operands (with_rest rest f k ks)) =
      ap (λ (x : List Cont). next_in m c f x below) inner.is ∙ ap (λ (code : Code). next_of m code c f k ks below) is in
      let done = if_without_follows result inside rest f.operands values is refl (all rest values e ∙ sym (low_here rest f.operands)) (λ w. goes (next_is ∙ w)) in
      (done.0, done.1, subst (λ (o : Outcome). Agrees (Follows m maps) (begin_chosen done.0 values (here values)) o) (sym next_is) done.2)
  if_follows result values (inr (inside, other, rest, is)) e goes =
      let next_is : next_among m c (f ∷ below) ≡ to_frame c below (begin_if result inside other f.operands (with_rest rest f k ks)) =
      ap (λ (x : List Cont). next_in m c f x below) inner.is ∙ ap (λ (code : Code). next_of m code c f k ks below) is in
      let done = if_with_follows result inside other rest f.operands values is refl (all rest values e ∙ sym (low_here rest f.operands)) (λ w. goes (next_is ∙ w)) in
      (done.0, done.1, subst (λ (o : Outcome). Agrees (Follows m maps) (begin_chosen done.0 values (here values)) o) (sym next_is) done.2)

-- at a configuration

module _ (m : Parts) (maps : List BodyMap) (flat : Flat) (c : Config) (follows : Follows m maps flat c) (typed : IsTyped m [] c) where
  -- what is known of the innermost frame
  pub record Work (i : Instr) (f : Frame) (below : List Frame) : Type 0 where
    pub height : ℕ
    pub high : height ≡ length f.locals + length (operands_with f.operands f.conts)
    pub inner : Inner m maps flat.place i (length f.locals) height f.conts
    pub base : flat.place.base ≡ length (all_values below)
    pub opens : flat.place.opens ≡ opens_of flat.callers + pred (length f.conts)
    pub outer : PlacesStand m flat.callers below
    pub outer_mapped : CallersMapped m maps flat.place.body (results_from f.operands f.conts) flat.callers below
    pub values : flat.values ≡ frame_values f ++ all_values below
    pub instrs : HasInstrs inner.k.rest
    pub same : flat ≡ flat_of flat.values flat.place flat.callers c

  pub work : (i : Instr) (f : Frame) (below : List Frame) → IsInstrAt m flat.place i → c.frames ≡ f ∷ below → Work i f below
  work i f below at e =
      let tells = follows.tells in
      let places : PlacesStand m (flat.place ∷ flat.callers) (f ∷ below) =
      subst (λ (frames : List Frame). PlacesStand m (flat.place ∷ flat.callers) frames) e tells.places in
      let mapped : PlacesMapped m maps 0 (flat.place ∷ flat.callers) (f ∷ below) =
      subst (λ (frames : List Frame). PlacesMapped m maps 0 (flat.place ∷ flat.callers) frames) e follows.mapped in
      let fm = mapped.0 in
      let there = inner m maps 0 flat.place i f at fm in
      record {
        height = fm.height;
        high = let h = fm.height_is in omega arith;
        inner = there;
        base = places.1;
        opens = places.2;
        outer = places.3;
        outer_mapped = mapped.1;
        values = tells.values ∙ ap all_values e;
        instrs = typed_instrs m c f below there.k there.around typed e there.is;
        same = same_flat m flat c flat.values refl tells;
      }

  block_at : (result : Option ValType) (frames : List Frame) → c.frames ≡ frames → IsInstrAt m flat.place (block_instr result) →
      Agrees (Follows m maps) (Gives (begin_list flat.values flat)) (next_among m c frames)
  block_at result [] e at = absurd (subst (λ (frames : List Frame). PlacesStand m (flat.place ∷ flat.callers) frames) e follows.tells.places)
  block_at result (f ∷ below) e at =
      let w = work (block_instr result) f below at e in
      let comes = block_comes result w.inner.k.rest w.instrs w.inner.begins in
      subst (λ (x : Flat). Agrees (Follows m maps) (Gives (begin_list flat.values x)) (next_among m c (f ∷ below))) (sym w.same)
      (block_follows m maps c flat.place flat.callers (block_instr result) f below w.height w.high w.inner w.base w.opens w.outer w.outer_mapped
      result comes.0 comes.1 flat.values comes.2 w.values)

  loop_at : (result : Option ValType) (frames : List Frame) → c.frames ≡ frames → IsInstrAt m flat.place (loop_instr result) →
      Agrees (Follows m maps) (Gives (begin_list flat.values flat)) (next_among m c frames)
  loop_at result [] e at = absurd (subst (λ (frames : List Frame). PlacesStand m (flat.place ∷ flat.callers) frames) e follows.tells.places)
  loop_at result (f ∷ below) e at =
      let w = work (loop_instr result) f below at e in
      let comes = loop_comes result w.inner.k.rest w.instrs w.inner.begins in
      subst (λ (x : Flat). Agrees (Follows m maps) (Gives (begin_list flat.values x)) (next_among m c (f ∷ below))) (sym w.same)
      (loop_follows m maps c flat.place flat.callers (loop_instr result) f below w.height w.high w.inner w.base w.opens w.outer w.outer_mapped
      result comes.0 comes.1 flat.values comes.2 w.values)

  if_at : (result : Option ValType) (frames : List Frame) → c.frames ≡ frames → IsInstrAt m flat.place (if_instr result) → next_among m c frames ≢ Stuck →
      (t : Target) × HasTargetAt maps flat.place t × Agrees (Follows m maps) (begin_chosen t flat.values flat) (next_among m c frames)
  if_at result [] e at goes = absurd (goes refl)
  if_at result (f ∷ below) e at goes =
      let w = work (if_instr result) f below at e in
      let done = if_follows m maps c flat.place flat.callers (if_instr result) f below w.height w.high w.inner w.base w.opens w.outer w.outer_mapped
      result flat.values (if_comes result w.inner.k.rest w.instrs w.inner.begins) w.values goes in (
        done.0,
        (w.inner.map, w.inner.map_is, done.1),
        subst (λ (x : Flat). Agrees (Follows m maps) (begin_chosen done.0 flat.values x) (next_among m c (f ∷ below))) (sym w.same) done.2,
      )

  pub block_agrees : (result : Option ValType) → IsInstrAt m flat.place (block_instr result) → Agrees (Follows m maps) (Gives (begin_list flat.values flat)) (next m c)
  unfolding next
  block_agrees result at = block_at result c.frames refl at

  pub loop_agrees : (result : Option ValType) → IsInstrAt m flat.place (loop_instr result) → Agrees (Follows m maps) (Gives (begin_list flat.values flat)) (next m c)
  unfolding next
  loop_agrees result at = loop_at result c.frames refl at

  pub if_agrees : (result : Option ValType) → IsInstrAt m flat.place (if_instr result) → next m c ≢ Stuck →
      (t : Target) × HasTargetAt maps flat.place t × Agrees (Follows m maps) (begin_chosen t flat.values flat) (next m c)
  unfolding next
  if_agrees result at goes = if_at result c.frames refl at goes
