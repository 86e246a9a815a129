-- Blocks, loops, ifs, and the ends of lists: the moves of the flat machine are the steps of the trees, or cost nothing.
use Rattle.std.proofs.Common.{◌≡◌, ◌≤◌, ◌<◌, ℕ, pred, ◌+◌, ◌-◌, ◌&&◌, inl, inr, Bool, true, false, cond, nat_le, nat_lt, List, [], ◌∷◌, length, slice_get, Option, arith, refl, sym, ◌∙◌, ap, subst}
use Rattle.std.proofs.lemmas.Bool.Decides.{nat_tests}
use Rattle.std.proofs.lemmas.Option.{slice_get_within}
use Rattle.wasm_form.specs.declared.value_type.ValType.{ValType}
use Rattle.wasm_form.specs.declared.body.Body.{Body}
use Rattle.wasm_form.specs.declared.expr.Expr.{Expr}
use Rattle.wasm_form.specs.declared.instr.Instr.{Instr}
use Rattle.wasm_form.specs.declared.parts.Parts.{Parts}
use Rattle.wasm_form.specs.Trees.{Code, IfOf, IfElseOf, else_instr, end_instr, block_instr, loop_instr, if_instr, size}
use Rattle.code_map.specs.declared.target.Target.{Target}
use Rattle.code_map.specs.declared.map.CodeMap.{CodeMap}
use Rattle.code_map.specs.Targets.{HasTarget}
use Rattle.code_map.specs.Mapped.{Mapped, skipped}
use Rattle.tree_machine.specs.Config.{Cont, Frame, Config}
use Rattle.tree_machine.specs.Outcomes.{Gives}
use Rattle.tree_machine.specs.Step.{next}
use Rattle.tree_machine.specs.Typed.{IsTyped, IsKept}
use Rattle.flat_machine.specs.Flat.{Flat}
use Rattle.flat_machine.specs.Text.{IsAt, StandsAt, EndsAt, ListsStand}
use Rattle.flat_machine.specs.Tells.{opens_of, IsInstrAt, PlacesStand, Agrees}
use Rattle.flat_machine.specs.Control.{begin_list, begin_chosen, end_list, end_body, skip_other}
use Rattle.flat_machine.specs.Mapping.{left_by, Follows, HasTargetAt, StandsOn}
use Rattle.flat_machine.specs.Moves.{Passes, executes, where_holds, target_at, leads, choose, pass_end, pass_other}
use Rattle.flat_machine.specs.MovesAgree.{MoveAgrees}
use Rattle.flat_machine.proofs.Standing.{same_some}
use Rattle.flat_machine.proofs.Inner.{labels_count}
use Rattle.flat_machine.proofs.Coming.{IsIf, if_comes, end_comes, else_comes}
use Rattle.flat_machine.proofs.BlocksAgree.{Work, work, block_agrees, loop_agrees, if_agrees}
use Rattle.flat_machine.proofs.EndsAgree.{else_leads, at_zero, end_leaves, else_leaves}
use Rattle.flat_machine.proofs.Returns.{body_end_leaves}
use Rattle.flat_machine.proofs.Rules.{one_target}
use Rattle.flat_machine.proofs.Executing.{executes_agree}
use Rattle.flat_machine.proofs.CallMoves.{both_true, held}
use Rattle.flat_machine.proofs.Jumps.{stands_within, target_there}

-- where the list that ends here goes on is further on
ends_further : (e : Expr) (pc stop after : ℕ) → stop ≡ pc + 0 → EndsAt e stop after → pc < after
ends_further e pc stop after place (inl closed) = let to = closed.1 in omega arith
ends_further e pc stop after place (inr other) = let to = other.2 in omega arith

-- more than one list is open where code is left behind an end
some_around : (e : Expr) (after : ℕ) (afters : List ℕ) (ks : List Cont) → ListsStand e after afters ks → after < length e.code → 0 < length ks
some_around e after [] [] h less = absurd (omega (arith, h, less))
some_around e after [] (k ∷ ks) h less = absurd h
some_around e after (next ∷ afters) [] h less = absurd h
some_around e after (next ∷ afters) (k ∷ ks) h less = omega arith

end_place : (e : Expr) (pc stop after : ℕ) → stop ≡ pc + 0 → IsAt e pc end_instr → EndsAt e stop after → after ≡ pc + 1
end_place e pc stop after place at (inl closed) = let to = closed.1 in omega arith
end_place e pc stop after place at (inr (other, closed, to)) =
    let same : pc ≡ stop = omega arith in
    let one : end_instr ≡ else_instr = same_some (slice_get e.code pc) end_instr else_instr at (ap (λ (n : ℕ). slice_get e.code n) same ∙ closed) in
    let codes : 0x0B ≡ 0x05 = ap (λ (x : Instr). x.code) one in
    absurd (omega (arith, codes))

module _ (m : Parts) (map : CodeMap) (flat : Flat) (c : Config) (follows : Follows m map.bodies flat c) (typed : IsTyped m [] c) where
  -- a block, and a loop
  pub block_moves : (result : Option ValType) → IsInstrAt m flat.place (block_instr result) → IsKept m (next m c) →
      MoveAgrees m map flat c (executes (Gives (begin_list flat.values flat)))
  block_moves result at kept =
      executes_agree m map flat c (Gives (begin_list flat.values flat)) (next m c) refl (block_agrees m map.bodies flat c follows typed result at) kept

  pub loop_moves : (result : Option ValType) → IsInstrAt m flat.place (loop_instr result) → IsKept m (next m c) →
      MoveAgrees m map flat c (executes (Gives (begin_list flat.values flat)))
  loop_moves result at kept =
      executes_agree m map flat c (Gives (begin_list flat.values flat)) (next m c) refl (loop_agrees m map.bodies flat c follows typed result at) kept

  -- what is known of an if's target
  abbrev ChoosesWithin : (f : Frame) (below : List Frame) (i : Instr) → Work m map.bodies flat c follows typed i f below → Type 0
  ChoosesWithin f below i w =
      (t : Target) × HasTarget w.inner.map flat.place.pc t × (t.to ≤ length w.inner.body.expr.code) × (t.opens ≡ length (w.inner.target ∷ w.inner.labels))

  chooses_within : (result : Option ValType) (f : Frame) (below : List Frame) (w : Work m map.bodies flat c follows typed (if_instr result) f below) →
      IsIf result w.inner.k.rest → ChoosesWithin f below (if_instr result) w
  chooses_within result f below w (inl (inside, rest, is)) =
      let there = w.inner in
      let pc = flat.place.pc in
      let stands : StandsAt there.body.expr pc (IfOf result inside rest) = subst (λ (code : Code). StandsAt there.body.expr pc code) is there.list.stands in
      let mapped : Mapped m there.map (there.target ∷ there.labels) pc w.height (IfOf result inside rest) =
      subst (λ (code : Code). Mapped m there.map (there.target ∷ there.labels) pc w.height code) is there.mapped.mapped in
      let past = slice_get_within there.body.expr.code (pc + 1 + size inside) end_instr stands.2 in
      let within : pc + 1 + size inside ≤ length there.body.expr.code = omega arith in
      (skipped (there.target ∷ there.labels) (pc + 1 + size inside) (w.height - 1), mapped.0, within, refl)
  chooses_within result f below w (inr (inside, other, rest, is)) =
      let there = w.inner in
      let pc = flat.place.pc in
      let stands : StandsAt there.body.expr pc (IfElseOf result inside other rest) = subst (λ (code : Code). StandsAt there.body.expr pc code) is there.list.stands in
      let mapped : Mapped m there.map (there.target ∷ there.labels) pc w.height (IfElseOf result inside other rest) =
      subst (λ (code : Code). Mapped m there.map (there.target ∷ there.labels) pc w.height code) is there.mapped.mapped in
      let past = slice_get_within there.body.expr.code (pc + 1 + size inside) else_instr stands.2 in
      let within : pc + 1 + size inside + 1 ≤ length there.body.expr.code = omega arith in
      (skipped (there.target ∷ there.labels) (pc + 1 + size inside + 1) (w.height - 1), mapped.0, within, refl)

  if_moves_by : (result : Option ValType) (f : Frame) (below : List Frame) (w : Work m map.bodies flat c follows typed (if_instr result) f below) →
      ChoosesWithin f below (if_instr result) w → IsKept m (next m c) →
      ((t : Target) × HasTargetAt map.bodies flat.place t × Agrees (Follows m map.bodies) (begin_chosen t flat.values flat) (next m c)) →
      MoveAgrees m map flat c (choose (target_at map.bodies flat.place) (length w.inner.body.expr.code) flat)
  if_moves_by result f below w (u, has, to, opens) kept (t, there_is, agrees) =
      let there = w.inner in
      let size_here = length there.body.expr.code in
      let same : u ≡ t = one_target map.bodies flat.place u t (there.map, there.map_is, has) there_is in
      let to_is : t.to ≤ size_here = subst (λ (x : Target). x.to ≤ size_here) same to in
      let opens_is : t.opens ≡ length (there.target ∷ there.labels) = subst (λ (x : Target). x.opens ≡ length (there.target ∷ there.labels)) same opens in
      let count : length there.labels ≡ length there.around =
      labels_count m there.map there.body.expr (length f.locals) there.labels there.after (there.target.height + left_by there.k.label) there.afters there.around there.outer_mapped in
      let now : flat.place.opens ≡ opens_of flat.callers + pred (length (there.k ∷ there.around)) = w.opens ∙ ap (λ (x : List Cont). opens_of flat.callers + pred (length x)) there.is in
      let one : nat_le t.to size_here ≡ true = grind (arith, nat_tests) in
      let fewer : opens_of flat.callers + t.opens ≤ flat.place.opens + 1 = omega arith in
      let two : nat_le (opens_of flat.callers + t.opens) (flat.place.opens + 1) ≡ true = grind (arith, nat_tests) in
      let holds : leads t size_here (flat.place.opens + 1) flat ≡ true =
      both_true (nat_le t.to size_here) (nat_le (opens_of flat.callers + t.opens) (flat.place.opens + 1)) one two in
      subst (λ (x : Option Target). MoveAgrees m map flat c (choose x size_here flat)) (sym (target_there map.bodies flat.place t there_is))
      (subst (MoveAgrees m map flat c) (sym (held (leads t size_here (flat.place.opens + 1) flat) (executes (begin_chosen t flat.values flat)) holds))
      (executes_agree m map flat c (begin_chosen t flat.values flat) (next m c) refl agrees kept))

  -- an if
  if_in : (result : Option ValType) (at : IsInstrAt m flat.place (if_instr result)) (frames : List Frame) → c.frames ≡ frames → IsKept m (next m c) →
      MoveAgrees m map flat c (choose (target_at map.bodies flat.place) (length at.0.expr.code) flat)
  if_in result at [] e kept = absurd (subst (λ (frames : List Frame). PlacesStand m (flat.place ∷ flat.callers) frames) e follows.tells.places)
  if_in result at (f ∷ below) e kept =
      let w = work m map.bodies flat c follows typed (if_instr result) f below at e in
      let body : at.0 ≡ w.inner.body = same_some (slice_get m.bodies flat.place.body) at.0 w.inner.body at.1 w.inner.body_is in
      subst (λ (b : Body). MoveAgrees m map flat c (choose (target_at map.bodies flat.place) (length b.expr.code) flat)) (sym body)
      (if_moves_by result f below w (chooses_within result f below w (if_comes result w.inner.k.rest w.instrs w.inner.begins)) kept
      (if_agrees m map.bodies flat c follows typed result at (λ v. subst (IsKept m) v kept)))

  pub if_moves : (result : Option ValType) (at : IsInstrAt m flat.place (if_instr result)) → IsKept m (next m c) →
      MoveAgrees m map flat c (choose (target_at map.bodies flat.place) (length at.0.expr.code) flat)
  if_moves result at kept = if_in result at c.frames refl kept

  -- a block is open where code is left behind an end
  opens_some : (frames : List Frame) → c.frames ≡ frames → (at : IsInstrAt m flat.place end_instr) → flat.place.pc + 1 < length at.0.expr.code → 0 < flat.place.opens
  opens_some [] e at more = absurd (subst (λ (frames : List Frame). PlacesStand m (flat.place ∷ flat.callers) frames) e follows.tells.places)
  opens_some (f ∷ below) e at more =
      let w = work m map.bodies flat c follows typed end_instr f below at e in
      let there = w.inner in
      let over = end_comes there.k.rest w.instrs there.begins in
      let body : at.0 ≡ there.body = same_some (slice_get m.bodies flat.place.body) at.0 there.body at.1 there.body_is in
      let here : IsAt there.body.expr flat.place.pc end_instr = subst (λ (b : Body). IsAt b.expr flat.place.pc end_instr) body at.2 in
      let less : flat.place.pc + 1 < length there.body.expr.code = subst (λ (b : Body). flat.place.pc + 1 < length b.expr.code) body more in
      let stop : there.list.stop ≡ flat.place.pc + 0 = there.list.stops ∙ ap (λ (x : Code). flat.place.pc + size x) over in
      let after : there.after ≡ flat.place.pc + 1 = end_place there.body.expr flat.place.pc there.list.stop there.after stop here there.list.ends in
      let some : 0 < length there.around = some_around there.body.expr there.after there.afters there.around there.outer (omega arith) in
      let now : flat.place.opens ≡ opens_of flat.callers + pred (length (there.k ∷ there.around)) = w.opens ∙ ap (λ (x : List Cont). opens_of flat.callers + pred (length x)) there.is in
      omega arith

  end_by : (at : IsInstrAt m flat.place end_instr) (more : Bool) → nat_lt (flat.place.pc + 1) (length at.0.expr.code) ≡ more →
      MoveAgrees m map flat c (cond more (where_holds (nat_lt 0 flat.place.opens) (Passes (end_list flat))) (Passes (end_body flat)))
  end_by at true test =
      let less : flat.place.pc + 1 < length at.0.expr.code = grind (arith, nat_tests) in
      let some : 0 < flat.place.opens = opens_some c.frames refl at less in
      let holds : nat_lt 0 flat.place.opens ≡ true = grind (arith, nat_tests) in
      subst (MoveAgrees m map flat c) (sym (held (nat_lt 0 flat.place.opens) (Passes (end_list flat)) holds)) (end_leaves m map.bodies flat c follows typed at less)
  end_by at false test =
      let most : length at.0.expr.code ≤ flat.place.pc + 1 = grind (arith, nat_tests) in
      let past = slice_get_within at.0.expr.code flat.place.pc end_instr at.2 in
      body_end_leaves m map.bodies flat c follows typed at (omega arith)

  -- an end
  pub end_moves : (at : IsInstrAt m flat.place end_instr) → MoveAgrees m map flat c (pass_end (length at.0.expr.code) flat)
  end_moves at = end_by at (nat_lt (flat.place.pc + 1) (length at.0.expr.code)) refl

  else_by : (at : IsInstrAt m flat.place else_instr) (f : Frame) (below : List Frame) → c.frames ≡ f ∷ below →
      ((t : Target) × HasTargetAt map.bodies flat.place t × StandsOn m map.bodies (skip_other t flat) c) →
      MoveAgrees m map flat c (pass_other (target_at map.bodies flat.place) (length at.0.expr.code) flat)
  else_by at f below e (t, has, stands) =
      let w = work m map.bodies flat c follows typed else_instr f below at e in
      let there = w.inner in
      let u = there.target in
      let over = else_comes there.k.rest w.instrs there.begins in
      let body : at.0 ≡ there.body = same_some (slice_get m.bodies flat.place.body) at.0 there.body at.1 there.body_is in
      let here : IsAt there.body.expr flat.place.pc else_instr = subst (λ (b : Body). IsAt b.expr flat.place.pc else_instr) body at.2 in
      let led = else_leads there.body.expr there.map flat.place.pc (flat.place.pc + size there.k.rest) there.after u (at_zero m map.bodies flat c follows typed flat.place.pc there.k.rest over)
      here there.mapped.closes in
      let same : u ≡ t = one_target map.bodies flat.place u t (there.map, there.map_is, led.0) has in
      let stop : there.list.stop ≡ flat.place.pc + 0 = there.list.stops ∙ ap (λ (x : Code). flat.place.pc + size x) over in
      let further = ends_further there.body.expr flat.place.pc there.list.stop there.after stop there.list.ends in
      let within = stands_within there.body.expr there.after there.afters there.around there.outer in
      let sizes : length there.body.expr.code ≡ length at.0.expr.code = ap (λ (b : Body). length b.expr.code) (sym body) in
      let to : t.to ≡ there.after = ap (λ (x : Target). x.to) (sym same) ∙ led.1 in
      let opens : t.opens ≡ pred (length there.around) = ap (λ (x : Target). x.opens) (sym same) ∙ there.mapped.opens_is in
      let now : flat.place.opens ≡ opens_of flat.callers + pred (length (there.k ∷ there.around)) = w.opens ∙ ap (λ (x : List Cont). opens_of flat.callers + pred (length x)) there.is in
      let size_here = length at.0.expr.code in
      let on : flat.place.pc < t.to = omega arith in
      let reach : t.to ≤ size_here = omega arith in
      let fewer : opens_of flat.callers + t.opens ≤ flat.place.opens = omega arith in
      let zero_test : nat_lt flat.place.pc t.to ≡ true = grind (arith, nat_tests) in
      let one : nat_le t.to size_here ≡ true = grind (arith, nat_tests) in
      let two : nat_le (opens_of flat.callers + t.opens) flat.place.opens ≡ true = grind (arith, nat_tests) in
      let holds : (nat_lt flat.place.pc t.to && leads t size_here flat.place.opens flat) ≡ true =
      both_true (nat_lt flat.place.pc t.to) (leads t size_here flat.place.opens flat) zero_test
      (both_true (nat_le t.to size_here) (nat_le (opens_of flat.callers + t.opens) flat.place.opens) one two) in
      subst (λ (x : Option Target). MoveAgrees m map flat c (pass_other x size_here flat)) (sym (target_there map.bodies flat.place t has))
      (subst (MoveAgrees m map flat c) (sym (held (nat_lt flat.place.pc t.to && leads t size_here flat.place.opens flat) (Passes (skip_other t flat)) holds)) stands)

  else_in : (at : IsInstrAt m flat.place else_instr) (frames : List Frame) → c.frames ≡ frames →
      MoveAgrees m map flat c (pass_other (target_at map.bodies flat.place) (length at.0.expr.code) flat)
  else_in at [] e = absurd (subst (λ (frames : List Frame). PlacesStand m (flat.place ∷ flat.callers) frames) e follows.tells.places)
  else_in at (f ∷ below) e = else_by at f below e (else_leaves m map.bodies flat c follows typed at)

  -- an else
  pub else_moves : (at : IsInstrAt m flat.place else_instr) → MoveAgrees m map flat c (pass_other (target_at map.bodies flat.place) (length at.0.expr.code) flat)
  else_moves at = else_in at c.frames refl
