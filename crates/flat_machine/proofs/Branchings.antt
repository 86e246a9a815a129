-- The moves of branches are the steps of the trees.
use Rattle.std.proofs.Common.{◌≡◌, ℕ, ◌+◌, inl, inr, List, [], ◌∷◌, length, slice_get, Option, Some, arith, refl, sym, ◌∙◌, ap, subst}
use Rattle.wasm_form.specs.declared.body.Body.{Body}
use Rattle.wasm_form.specs.declared.instr.Instr.{Instr}
use Rattle.wasm_form.specs.declared.instr.Imm.TheVariants as imm
use Rattle.wasm_form.specs.declared.parts.Parts.{Parts}
use Rattle.wasm_form.specs.Trees.{Code, Then, table_instr}
use Rattle.code_map.specs.declared.map.CodeMap.{CodeMap}
use Rattle.tree_machine.specs.Instructions.{Plain, plain_of}
use Rattle.tree_machine.specs.Instructions as op
use Rattle.tree_machine.specs.Config.{Cont, Frame, Config}
use Rattle.tree_machine.specs.Control.{branch, branch_if as tree_branch_if, branch_table as tree_branch_table}
use Rattle.tree_machine.specs.Outcomes.{to_frame}
use Rattle.tree_machine.specs.Step.{execute_plain, execute, with_rest, next_of, next_in, next_among, next}
use Rattle.tree_machine.specs.Typed.{IsTyped, IsKept}
use Rattle.tree_machine.proofs.PlainOf.{plain_br, plain_br_if, plain_return}
use Rattle.flat_machine.specs.Flat.{Flat}
use Rattle.flat_machine.specs.Tells.{PlacesStand, IsInstrAt}
use Rattle.flat_machine.specs.Mapping.{left_by, Follows}
use Rattle.flat_machine.specs.Branches.{BranchesIf}
use Rattle.flat_machine.specs.Moves.{target_at, jump_to, branch_if, branch_among}
use Rattle.flat_machine.specs.MovesAgree.{MoveAgrees}
use Rattle.flat_machine.proofs.Standing.{same_some, plain_comes}
use Rattle.flat_machine.proofs.Inner.{labels_count}
use Rattle.flat_machine.proofs.BlocksAgree.{Work, work}
use Rattle.flat_machine.proofs.BranchesAgree.{values_here, target_at as mapped_target}
use Rattle.flat_machine.proofs.ConditionalBranches.{table_comes, branch_if_agrees}
use Rattle.flat_machine.proofs.Jumps.{target_there, jumps, if_jumps, table_jumps}

module _ (m : Parts) (map : CodeMap) (flat : Flat) (c : Config) (follows : Follows m map.bodies flat c) (typed : IsTyped m [] c) where
  -- as long as the code at the place is the innermost list's
  size_is : (i : Instr) (f : Frame) (below : List Frame) (w : Work m map.bodies flat c follows typed i f below) (at : IsInstrAt m flat.place i) →
      length w.inner.body.expr.code ≡ length at.0.expr.code
  size_is i f below w at =
      let body : at.0 ≡ w.inner.body = same_some (slice_get m.bodies flat.place.body) at.0 w.inner.body at.1 w.inner.body_is in
      ap (λ (b : Body). length b.expr.code) (sym body)

  -- what a plain instruction does
  does : (i : Instr) (p : Plain) (f : Frame) (below : List Frame) (w : Work m map.bodies flat c follows typed i f below) (rest : Code) → plain_of i ≡ Some p →
      w.inner.k.rest ≡ Then i rest → next_among m c (f ∷ below) ≡ execute_plain m p c (with_rest rest f w.inner.k w.inner.around) below
  does i p f below w rest plain is =
      let there = w.inner in
      ap (λ (x : List Cont). next_in m c f x below) there.is ∙ ap (λ (x : Code). next_of m x c f there.k there.around below) is
      ∙ ap (λ (o : Option Plain). execute m o c (with_rest rest f there.k there.around) below) plain

  none_at : {A : Type 0} → c.frames ≡ [] → A
  none_at e = absurd (subst (λ (frames : List Frame). PlacesStand m (flat.place ∷ flat.callers) frames) e follows.tells.places)

  br_in : (i : Instr) (label : ℕ) (at : IsInstrAt m flat.place i) (frames : List Frame) → c.frames ≡ frames → next m c ≡ next_among m c frames → i.code ≡ 0x0C → i.imm ≡ imm.Index label →
      IsKept m (next_among m c frames) → MoveAgrees m map flat c (jump_to (target_at map.bodies flat.place) (length at.0.expr.code) flat.values flat)
  unfolding execute_plain
  br_in i label at [] e is code index kept = none_at e
  br_in i label at (f ∷ below) e is code index kept =
      let w = work m map.bodies flat c follows typed i f below at e in
      let plain = plain_br i label code index in
      let comes = plain_comes i (op.Br label) w.inner.k.rest plain w.inner.begins in
      let outcome : next_among m c (f ∷ below) ≡ to_frame c below (branch label (with_rest comes.0 f w.inner.k w.inner.around)) = does i (op.Br label) f below w comes.0 plain comes.1 in
      subst (λ (n : ℕ). MoveAgrees m map flat c (jump_to (target_at map.bodies flat.place) n flat.values flat)) (size_is i f below w at)
      (jumps m map flat c follows typed i f below w label comes.0 f.operands flat.values (next_among m c (f ∷ below)) is outcome kept
      (values_here m map.bodies flat c follows typed i f below w) (target_at map.bodies flat.place)
      (λ t found. target_there map.bodies flat.place t (mapped_target m map.bodies flat c follows typed i f below w comes.0 comes.1 label t (inl (inl code, index)) found)))

  return_in : (i : Instr) (at : IsInstrAt m flat.place i) (frames : List Frame) → c.frames ≡ frames → next m c ≡ next_among m c frames → i.code ≡ 0x0F →
      IsKept m (next_among m c frames) → MoveAgrees m map flat c (jump_to (target_at map.bodies flat.place) (length at.0.expr.code) flat.values flat)
  unfolding execute_plain
  return_in i at [] e is code kept = none_at e
  return_in i at (f ∷ below) e is code kept =
      let w = work m map.bodies flat c follows typed i f below at e in
      let there = w.inner in
      let plain = plain_return i code in
      let comes = plain_comes i op.Return there.k.rest plain there.begins in
      let label = length there.around in
      let outcome : next_among m c (f ∷ below) ≡ to_frame c below (branch label (with_rest comes.0 f there.k there.around)) = does i op.Return f below w comes.0 plain comes.1 in
      let count = labels_count m there.map there.body.expr (length f.locals) there.labels there.after (there.target.height + left_by there.k.label) there.afters there.around there.outer_mapped in
      let outermost : length (there.target ∷ there.labels) ≡ label + 1 = omega arith in
      subst (λ (n : ℕ). MoveAgrees m map flat c (jump_to (target_at map.bodies flat.place) n flat.values flat)) (size_is i f below w at)
      (jumps m map flat c follows typed i f below w label comes.0 f.operands flat.values (next_among m c (f ∷ below)) is outcome kept
      (values_here m map.bodies flat c follows typed i f below w) (target_at map.bodies flat.place)
      (λ t found. target_there map.bodies flat.place t (mapped_target m map.bodies flat c follows typed i f below w comes.0 comes.1 label t (inr (code, outermost)) found)))

  br_if_in : (i : Instr) (label : ℕ) (at : IsInstrAt m flat.place i) (frames : List Frame) → c.frames ≡ frames → next m c ≡ next_among m c frames → i.code ≡ 0x0D → i.imm ≡ imm.Index label →
      IsKept m (next_among m c frames) → BranchesIf m map.bodies flat (next_among m c frames) flat.values →
      MoveAgrees m map flat c (branch_if (target_at map.bodies flat.place) (length at.0.expr.code) flat.values flat)
  unfolding execute_plain
  br_if_in i label at [] e is code index kept h = none_at e
  br_if_in i label at (f ∷ below) e is code index kept h =
      let w = work m map.bodies flat c follows typed i f below at e in
      let plain = plain_br_if i label code index in
      let comes = plain_comes i (op.BrIf label) w.inner.k.rest plain w.inner.begins in
      let outcome : next_among m c (f ∷ below) ≡ to_frame c below (tree_branch_if label f.operands (with_rest comes.0 f w.inner.k w.inner.around)) =
      does i (op.BrIf label) f below w comes.0 plain comes.1 in
      let values = values_here m map.bodies flat c follows typed i f below w in
      subst (λ (n : ℕ). MoveAgrees m map flat c (branch_if (target_at map.bodies flat.place) n flat.values flat)) (size_is i f below w at)
      (subst (λ (v : List ℕ). MoveAgrees m map flat c (branch_if (target_at map.bodies flat.place) (length w.inner.body.expr.code) v flat)) (sym values)
      (if_jumps m map flat c follows typed i f below w label comes.0 f.operands (next_among m c (f ∷ below)) is outcome kept
      (subst (BranchesIf m map.bodies flat (next_among m c (f ∷ below))) values h) (target_at map.bodies flat.place)
      (λ t found. target_there map.bodies flat.place t (mapped_target m map.bodies flat c follows typed i f below w comes.0 comes.1 label t (inl (inr code, index)) found))))

  table_in : (first count last : ℕ) (at : IsInstrAt m flat.place (table_instr first count last)) (frames : List Frame) → c.frames ≡ frames → next m c ≡ next_among m c frames →
      IsKept m (next_among m c frames) → MoveAgrees m map flat c (branch_among map.bodies count (length at.0.expr.code) flat.values flat)
  table_in first count last at [] e is kept = none_at e
  table_in first count last at (f ∷ below) e is kept =
      let i : Instr = table_instr first count last in
      let w = work m map.bodies flat c follows typed i f below at e in
      let there = w.inner in
      let comes = table_comes first count last there.k.rest w.instrs there.begins in
      let outcome : next_among m c (f ∷ below) ≡ to_frame c below (tree_branch_table comes.0 last f.operands (with_rest comes.1 f there.k there.around)) =
      ap (λ (x : List Cont). next_in m c f x below) there.is ∙ ap (λ (x : Code). next_of m x c f there.k there.around below) comes.2 in
      subst (λ (n : ℕ). MoveAgrees m map flat c (branch_among map.bodies count n flat.values flat)) (size_is i f below w at)
      (subst (λ (v : List ℕ). MoveAgrees m map flat c (branch_among map.bodies count (length there.body.expr.code) v flat)) (sym (values_here m map.bodies flat c follows typed i f below w))
      (table_jumps m map flat c follows typed i f below w comes.0 last comes.1 count f.operands (next_among m c (f ∷ below)) comes.2 comes.3 is outcome kept))

  -- br
  pub br_moves : (i : Instr) (label : ℕ) (at : IsInstrAt m flat.place i) → i.code ≡ 0x0C → i.imm ≡ imm.Index label → IsKept m (next m c) →
      MoveAgrees m map flat c (jump_to (target_at map.bodies flat.place) (length at.0.expr.code) flat.values flat)
  unfolding next
  br_moves i label at code index kept = br_in i label at c.frames refl refl code index kept

  -- return
  pub return_moves : (i : Instr) (at : IsInstrAt m flat.place i) → i.code ≡ 0x0F → IsKept m (next m c) →
      MoveAgrees m map flat c (jump_to (target_at map.bodies flat.place) (length at.0.expr.code) flat.values flat)
  unfolding next
  return_moves i at code kept = return_in i at c.frames refl refl code kept

  -- br_if
  pub br_if_moves : (i : Instr) (label : ℕ) (at : IsInstrAt m flat.place i) → i.code ≡ 0x0D → i.imm ≡ imm.Index label → IsKept m (next m c) →
      MoveAgrees m map flat c (branch_if (target_at map.bodies flat.place) (length at.0.expr.code) flat.values flat)
  unfolding next
  br_if_moves i label at code index kept =
      br_if_in i label at c.frames refl refl code index kept
      (branch_if_agrees m map.bodies flat c follows typed i label code index at (λ v. subst (IsKept m) v kept))

  -- br_table
  pub table_moves : (first count last : ℕ) (at : IsInstrAt m flat.place (table_instr first count last)) → IsKept m (next m c) →
      MoveAgrees m map flat c (branch_among map.bodies count (length at.0.expr.code) flat.values flat)
  unfolding next
  table_moves first count last at kept = table_in first count last at c.frames refl refl kept
