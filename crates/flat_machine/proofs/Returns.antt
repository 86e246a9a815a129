-- The end of a body, and the return to the caller.
use Rattle.std.proofs.Common.{◌≡◌, ◌<◌, ℕ, pred, ◌+◌, ◌-◌, inl, inr, List, [], ◌∷◌, ◌++◌, length, take, drop, reverse, slice_get, arith, refl, sym, ◌∙◌, ap, subst, append_assoc, length-append}
use Rattle.std.proofs.lemmas.List.{take_at, drop_at}
use Rattle.std.proofs.lemmas.Option.{slice_get_within}
use Rattle.wasm_form.specs.declared.value_type.ValType.{ValType}
use Rattle.wasm_form.specs.declared.body.Body.{Body}
use Rattle.wasm_form.specs.declared.expr.Expr.{Expr}
use Rattle.wasm_form.specs.declared.parts.Parts.{Parts}
use Rattle.wasm_form.specs.Context.{Context, context_of}
use Rattle.wasm_form.specs.Trees.{end_instr, else_instr}
use Rattle.code_map.specs.declared.body_map.BodyMap.{BodyMap}
use Rattle.tree_machine.specs.Config.{Cont, Frame, Config, with_frames, with_operands}
use Rattle.tree_machine.specs.Point.{settle}
use Rattle.tree_machine.specs.Typed.{AreValues, ContsTyped, FramesTyped, IsTyped}
use Rattle.tree_machine.proofs.Values.{values_append}
use Rattle.tree_machine.proofs.ExitsTyped.{with_typed}
use Rattle.flat_machine.specs.Flat.{Place, Flat}
use Rattle.flat_machine.specs.Text.{IsAt, EndsAt, ListsStand}
use Rattle.flat_machine.specs.Values.{operands_with, frame_values, all_values}
use Rattle.flat_machine.specs.Ends.{frame_with}
use Rattle.flat_machine.specs.Tells.{opens_of, PlacesStand, IsInstrAt, IsOver}
use Rattle.flat_machine.specs.Control.{lowest, end_body, return_to}
use Rattle.flat_machine.specs.Mapping.{results_from, HasResults, PlacesMapped, CallersMapped, Follows, StandsOn}
use Rattle.flat_machine.proofs.Settling.{settle_frame}
use Rattle.flat_machine.proofs.Standing.{same_some}
use Rattle.flat_machine.proofs.StraightAgrees.{flat_of, same_flat}
use Rattle.flat_machine.proofs.Inner.{results_same, follows_with}
use Rattle.flat_machine.proofs.Coming.{end_comes}
use Rattle.flat_machine.proofs.BlocksAgree.{work}
use Rattle.flat_machine.proofs.EndsAgree.{operands_joined, end_after, at_zero, list_left, moved}

closed_within : (e : Expr) (stop after : ℕ) → EndsAt e stop after → stop < length e.code
closed_within e stop after (inl (closed, is)) = slice_get_within e.code stop end_instr closed
closed_within e stop after (inr (other, closed, is)) = slice_get_within e.code stop else_instr closed

-- where the code is over no list is left
pub none_left : (e : Expr) (pc : ℕ) (afters : List ℕ) (ks : List Cont) → pc ≡ length e.code → ListsStand e pc afters ks → ks ≡ []
none_left e pc afters [] over lists = refl
none_left e pc [] (k ∷ ks) over lists = absurd lists
none_left e pc (after ∷ afters) (k ∷ ks) over lists =
    let within = closed_within e lists.0.stop after lists.0.ends in
    let stops = lists.0.stops in
    absurd (omega arith)

-- while lists are left the results hang on no operands
pub results_stay : (a b : List ℕ) (ks : List Cont) → 0 < length ks → results_from a ks ≡ results_from b ks
results_stay a b [] some = absurd (omega (arith, some))
results_stay a b (k ∷ ks) some = results_same a b k k ks refl

all_results : (context : Context) (labels : List (List ValType)) (ks : List Cont) (stack : List ValType) → ks ≡ [] → ContsTyped context labels ks stack →
    stack ≡ reverse context.results
all_results context [] [] stack e h = h
all_results context (carried ∷ around) [] stack e h = absurd h
all_results context labels (k ∷ ks) stack e h = absurd (cc)

module _ (m : Parts) (maps : List BodyMap) (flat : Flat) (c : Config) (follows : Follows m maps flat c) (typed : IsTyped m [] c) where
  body_end_at : (frames : List Frame) → c.frames ≡ frames → (at : IsInstrAt m flat.place end_instr) → flat.place.pc + 1 ≡ length at.0.expr.code →
      StandsOn m maps (end_body flat) c
  body_end_at [] e at last = absurd (subst (λ (frames : List Frame). PlacesStand m (flat.place ∷ flat.callers) frames) e follows.tells.places)
  body_end_at (f ∷ below) e at last =
      let w = work m maps flat c follows typed end_instr f below at e in
      let there = w.inner in
      let over = end_comes there.k.rest w.instrs there.begins in
      let body : at.0 ≡ there.body = same_some (slice_get m.bodies flat.place.body) at.0 there.body at.1 there.body_is in
      let here : IsAt there.body.expr flat.place.pc end_instr = subst (λ (b : Body). IsAt b.expr flat.place.pc end_instr) body at.2 in
      let final : flat.place.pc + 1 ≡ length there.body.expr.code = subst (λ (b : Body). flat.place.pc + 1 ≡ length b.expr.code) body last in
      let after : there.after ≡ flat.place.pc + 1 =
      end_after there.body.expr flat.place.pc there.list.stop there.after
      (there.list.stops ∙ at_zero m maps flat c follows typed flat.place.pc there.k.rest over) here there.list.ends in
      let none : there.around ≡ [] = none_left there.body.expr there.after there.afters there.around (after ∙ final) there.outer in
      let opens : flat.place.opens ≡ opens_of flat.callers + pred (length there.around) =
      w.opens ∙ ap (λ (x : List Cont). opens_of flat.callers + pred (length x)) there.is
      ∙ ap (λ (x : List Cont). opens_of flat.callers + length x) none ∙ sym (ap (λ (x : List Cont). opens_of flat.callers + pred (length x)) none) in
      moved m maps flat c follows typed end_instr f below w (flat.place.pc + 1) flat.place.opens after
      (list_left m maps flat c follows typed end_instr f below w e over flat.place.opens opens)

  -- the end of a body
  pub body_end_leaves : (at : IsInstrAt m flat.place end_instr) → flat.place.pc + 1 ≡ length at.0.expr.code → StandsOn m maps (end_body flat) c
  body_end_leaves at last = body_end_at c.frames refl at last

  -- the function at work has returned to the frame g
  returned : (f g : Frame) (below : List Frame) (caller : Place) (callers : List Place) → c.frames ≡ f ∷ g ∷ below → flat.callers ≡ caller ∷ callers → f.conts ≡ [] →
      (count : ℕ) × HasResults m flat.place.body count × StandsOn m maps (return_to count caller callers flat) c
  returned f g below caller callers e waits none =
      let tells = follows.tells in
      let places : PlacesStand m (flat.place ∷ flat.callers) (f ∷ g ∷ below) =
      subst (λ (frames : List Frame). PlacesStand m (flat.place ∷ flat.callers) frames) e tells.places in
      let mapped : PlacesMapped m maps 0 (flat.place ∷ flat.callers) (f ∷ g ∷ below) =
      subst (λ (frames : List Frame). PlacesMapped m maps 0 (flat.place ∷ flat.callers) frames) e follows.mapped in
      let outer : PlacesStand m (caller ∷ callers) (g ∷ below) = subst (λ (list : List Place). PlacesStand m list (g ∷ below)) waits places.3 in
      let count = length f.operands in
      let results : results_from f.operands f.conts ≡ count = ap (λ (x : List Cont). results_from f.operands x) none in
      let outer_mapped : PlacesMapped m maps count (caller ∷ callers) (g ∷ below) =
      subst (λ (n : ℕ). PlacesMapped m maps n (caller ∷ callers) (g ∷ below)) results
      (subst (λ (list : List Place). PlacesMapped m maps (results_from f.operands f.conts) list (g ∷ below)) waits mapped.1.2) in
      let fm = outer_mapped.0 in
      let all = f.operands ++ g.operands in
      let to : Frame = with_operands all g in
      let low = all_values (g ∷ below) in
      let base = places.1 in
      let values : flat.values ≡ (f.operands ++ reverse f.locals) ++ low =
      tells.values ∙ ap all_values e ∙ ap (λ (x : List Cont). (operands_with f.operands x ++ reverse f.locals) ++ low) none in
      let lengths = ap length values ∙ length-append (f.operands ++ reverse f.locals) low in
      let top : take count flat.values ≡ f.operands =
      ap (take count) (values ∙ append_assoc f.operands (reverse f.locals) low) ∙ take_at f.operands (reverse f.locals ++ low) count refl in
      let cut : length (f.operands ++ reverse f.locals) ≡ length flat.values - flat.place.base = omega arith in
      let bottom : lowest flat.place.base flat.values ≡ low =
      ap (λ (l : List ℕ). drop (length flat.values - flat.place.base) l) values ∙ drop_at (f.operands ++ reverse f.locals) low (length flat.values - flat.place.base) cut in
      let joined : operands_with all g.conts ≡ f.operands ++ operands_with g.operands g.conts = operands_joined f.operands g.operands g.conts in
      let new : take count flat.values ++ lowest flat.place.base flat.values ≡ frame_values to ++ all_values below =
      ap (λ (l : List ℕ). l ++ lowest flat.place.base flat.values) top ∙ ap (λ (l : List ℕ). f.operands ++ l) bottom
      ∙ sym (append_assoc f.operands (operands_with g.operands g.conts ++ reverse g.locals) (all_values below))
      ∙ ap (λ (l : List ℕ). l ++ all_values below) (sym (append_assoc f.operands (operands_with g.operands g.conts) (reverse g.locals)))
      ∙ ap (λ (l : List ℕ). (l ++ reverse g.locals) ++ all_values below) (sym joined) in
      let sizes : length (operands_with all g.conts) ≡ count + length (operands_with g.operands g.conts) =
      ap length joined ∙ length-append f.operands (operands_with g.operands g.conts) in
      let height = fm.height_is in
      let stay : results_from g.operands g.conts ≡ results_from all g.conts = results_stay g.operands all g.conts mapped.1.1 in
      let frames : FramesTyped m [] (f ∷ g ∷ below) = subst (λ (frames : List Frame). FramesTyped m [] frames) e typed.frames in
      let gives : frames.1.stack ≡ reverse frames.0.results = all_results (context_of m frames.0 frames.1.runs) frames.1.labels f.conts frames.1.stack none frames.1.conts in
      let caller_typed = frames.2.1 in
      let before : c ≡ with_frames (frame_with f.operands [] f ∷ g ∷ below) c =
      ap (λ (x : List Frame). with_frames x c) e ∙ ap (λ (x : List Cont). with_frames (frame_with f.operands x f ∷ g ∷ below) c) none in
      let same : flat_of (take count flat.values ++ lowest flat.place.base flat.values) caller callers c ≡ return_to count caller callers flat =
      ap (λ (x : Flat). record x { values = take count flat.values ++ lowest flat.place.base flat.values; place = caller; callers = callers })
      (sym (same_flat m flat c flat.values refl tells)) in
      let done : Follows m maps (flat_of (take count flat.values ++ lowest flat.place.base flat.values) caller callers c) (with_frames (to ∷ below) c) =
      follows_with m maps c (take count flat.values ++ lowest flat.place.base flat.values) caller callers to below new
      (record { left = fm.left; map = fm.map; map_is = fm.map_is; labels = fm.labels; height = fm.height; height_is = omega arith; lists = fm.lists })
      outer.1 outer.2 outer.3 (subst (λ (n : ℕ). CallersMapped m maps caller.body n callers below) stay outer_mapped.1) in (
        count,
        subst (λ (n : ℕ). HasResults m flat.place.body n) results mapped.1.0,
        record {
          to = with_frames (to ∷ below) c;
          point = sym (settle_frame m c f f.operands (g ∷ below)) ∙ ap (settle m) (sym before);
          typed = with_typed m [] [] c (to ∷ below) typed (
            frames.2.0,
            record {
              runs = caller_typed.runs;
              labels = caller_typed.labels;
              stack = reverse frames.0.results ++ caller_typed.stack;
              locals = caller_typed.locals;
              operands = values_append (reverse frames.0.results) caller_typed.stack f.operands g.operands
                  (subst (λ (s : List ValType). AreValues s f.operands) gives frames.1.operands) caller_typed.operands;
              conts = caller_typed.conts;
            },
            frames.2.2,
          );
          follows = subst (λ (x : Flat). Follows m maps x (with_frames (to ∷ below) c)) same done;
        },
      )

  returned_at : (f : Frame) (below : List Frame) (caller : Place) (callers : List Place) → c.frames ≡ f ∷ below → flat.callers ≡ caller ∷ callers → f.conts ≡ [] →
      (count : ℕ) × HasResults m flat.place.body count × StandsOn m maps (return_to count caller callers flat) c
  returned_at f [] caller callers e waits none =
      let places : PlacesStand m (flat.place ∷ flat.callers) (f ∷ []) =
      subst (λ (frames : List Frame). PlacesStand m (flat.place ∷ flat.callers) frames) e follows.tells.places in
      absurd (subst (λ (list : List Place). PlacesStand m list []) waits places.3)
  returned_at f (g ∷ below) caller callers e waits none = returned f g below caller callers e waits none

  return_at : (frames : List Frame) (caller : Place) (callers : List Place) → c.frames ≡ frames → flat.callers ≡ caller ∷ callers → IsOver m flat.place →
      (count : ℕ) × HasResults m flat.place.body count × StandsOn m maps (return_to count caller callers flat) c
  return_at [] caller callers e waits over = absurd (subst (λ (frames : List Frame). PlacesStand m (flat.place ∷ flat.callers) frames) e follows.tells.places)
  return_at (f ∷ below) caller callers e waits over =
      let places : PlacesStand m (flat.place ∷ flat.callers) (f ∷ below) =
      subst (λ (frames : List Frame). PlacesStand m (flat.place ∷ flat.callers) frames) e follows.tells.places in
      let left = places.0 in
      let body : over.0 ≡ left.body = same_some (slice_get m.bodies flat.place.body) over.0 left.body over.1 left.is in
      let past : flat.place.pc ≡ length left.body.expr.code = subst (λ (b : Body). flat.place.pc ≡ length b.expr.code) body over.2 in
      returned_at f below caller callers e waits (none_left left.body.expr flat.place.pc left.afters f.conts past left.lists)

  -- the return to a caller
  pub return_leaves : (caller : Place) (callers : List Place) → flat.callers ≡ caller ∷ callers → IsOver m flat.place →
      (count : ℕ) × HasResults m flat.place.body count × StandsOn m maps (return_to count caller callers flat) c
  return_leaves caller callers waits over = return_at c.frames caller callers refl waits over
