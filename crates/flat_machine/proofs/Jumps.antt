-- Branches of the trees lead within the bounds of the flat machine, so that its branches are moves.
use Rattle.std.proofs.Common.{◌≡◌, ◌≢◌, ◌≤◌, ◌<◌, ℕ, zero, suc, pred, ◌+◌, ◌&&◌, inl, inr, Bool, true, false, cond, nat_eq, nat_le, min, List, [], ◌∷◌, ◌++◌, length, take, reverse, slice_get, slice_index_or, Option, Some, None, option_and_then, arith, refl, sym, ◌∙◌, ap, subst, length-append}
use Rattle.std.proofs.lemmas.Bool.Decides.{nat_tests}
use Rattle.std.proofs.lemmas.List.{length-reverse}
use Rattle.std.proofs.lemmas.Option.{slice_get_within}
use Rattle.wasm_form.specs.declared.expr.Expr.{Expr}
use Rattle.wasm_form.specs.declared.instr.Instr.{Instr}
use Rattle.wasm_form.specs.declared.parts.Parts.{Parts}
use Rattle.wasm_form.specs.Trees.{Code, TableOf, end_instr, else_instr}
use Rattle.code_map.specs.declared.target.Target.{Target}
use Rattle.code_map.specs.declared.body_map.BodyMap.{BodyMap}
use Rattle.code_map.specs.declared.map.CodeMap.{CodeMap}
use Rattle.code_map.specs.Targets.{count_if, HasTable}
use Rattle.code_map.specs.Mapped.{Mapped}
use Rattle.tree_machine.specs.Config.{Label, Leave, Again, Cont, Frame, Config, with_operands}
use Rattle.tree_machine.specs.Control.{leave_block, land, branch_in, branch, branch_if as tree_branch_if, branch_table as tree_branch_table}
use Rattle.tree_machine.specs.Outcomes.{Gives, Outcome, Stuck, to_frame}
use Rattle.tree_machine.specs.Step.{next, with_rest}
use Rattle.tree_machine.specs.Typed.{IsTyped, IsKept}
use Rattle.flat_machine.specs.Flat.{Place, Flat, goes_on}
use Rattle.flat_machine.specs.Text.{EndsAt, ListsStand}
use Rattle.flat_machine.specs.Values.{operands_with, all_values}
use Rattle.flat_machine.specs.Tells.{opens_of, Agrees}
use Rattle.flat_machine.specs.Control.{jump}
use Rattle.flat_machine.specs.Mapping.{LabelLeads, left_by, ListsMapped, Follows, HasTargetAt}
use Rattle.flat_machine.specs.Branches.{BranchesIf}
use Rattle.flat_machine.specs.Moves.{Move, executes, target_in, target_at, entry_in, entry_at, leads, carries_over, jump_to, branch_if, branch_among}
use Rattle.flat_machine.specs.MovesAgree.{MoveAgrees}
use Rattle.flat_machine.proofs.Standing.{same_some}
use Rattle.flat_machine.proofs.StraightAgrees.{low_values}
use Rattle.flat_machine.proofs.BlocksAgree.{Work}
use Rattle.flat_machine.proofs.BranchesAgree.{branch_same, goes_to}
use Rattle.flat_machine.proofs.ConditionalBranches.{not_zero, entry_is}
use Rattle.flat_machine.proofs.Executing.{executes_agree}
use Rattle.flat_machine.proofs.CallMoves.{both_true, held}

-- the values of lists whose innermost has these operands
count_under : (xs : List ℕ) (ks : List Cont) → length (operands_with xs ks) ≡ length xs + length (operands_with [] ks)
count_under xs [] = omega arith
count_under xs (k ∷ ks) = length-append xs (operands_with k.under ks)

ends_below : (e : Expr) (stop after : ℕ) → EndsAt e stop after → stop < length e.code
ends_below e stop after (inl closed) = slice_get_within e.code stop end_instr closed.0
ends_below e stop after (inr other) = slice_get_within e.code stop else_instr other.1

-- lists that have begun stand in the body or behind it
pub stands_within : (e : Expr) (pc : ℕ) (afters : List ℕ) (ks : List Cont) → ListsStand e pc afters ks → pc ≤ length e.code
stands_within e pc [] [] h = omega (arith, h)
stands_within e pc [] (k ∷ ks) h = absurd h
stands_within e pc (after ∷ afters) [] h = absurd h
stands_within e pc (after ∷ afters) (k ∷ ks) h =
    let past = ends_below e h.0.stop after h.0.ends in
    let stops = h.0.stops in
    omega arith

-- the target lies in a body of so many instructions, with so many blocks open at most, and what is carried there fits
-- into so many values
pub record IsWithin (t : Target) (most_to most_opens most_height : ℕ) : Type 0 where
  pub to : t.to ≤ most_to
  pub opens : t.opens ≤ most_opens
  pub height : t.height + count_if t.carries ≤ most_height

module _ (m : Parts) (c : Config) (f : Frame) (below : List Frame) (map : BodyMap) (e : Expr) (locals : ℕ) where
  enough : (results : ℕ) (under : List ℕ) (ks : List Cont) (test : Bool) → nat_le results (length f.operands) ≡ test →
      to_frame c below (leave_block (cond test (Some (take results f.operands)) None) under f ks) ≢ Stuck → results ≤ length f.operands
  enough results under ks true test goes = grind (arith, nat_tests)
  enough results under ks false test goes = absurd (goes refl)

  lands_within : (label : Label) (t : Target) (after : ℕ) (under : List ℕ) (ks : List Cont) → LabelLeads t after label → to_frame c below (land label under f ks) ≢ Stuck →
      (t.to ≤ after) × (count_if t.carries ≤ length f.operands)
  lands_within (Leave results) t after under ks h goes =
      let to = h.0 in
      let carried = h.1 in
      let room : results ≤ length f.operands = enough results under ks (nat_le results (length f.operands)) refl goes in
      (omega arith, omega arith)
  lands_within (Again result inside) t after under ks h goes =
      let to = h.0 in
      let none : count_if t.carries ≡ 0 = ap count_if h.1 in
      (omega arith, omega arith)

  -- the target of a label to which a branch goes
  branch_within : (l : ℕ) (labels : List Target) (pc height : ℕ) (afters : List ℕ) (ks : List Cont) (t : Target) → ListsStand e pc afters ks →
      ListsMapped m map e locals labels pc height afters ks → slice_get labels l ≡ Some t → to_frame c below (branch_in l f ks) ≢ Stuck →
      IsWithin t (length e.code) (pred (length ks)) (locals + length (operands_with [] ks) + length f.operands)
  branch_within l labels pc height afters [] t lists mapped found goes = absurd (goes refl)
  branch_within l [] pc height [] (k ∷ ks) t lists mapped found goes = absurd lists
  branch_within l [] pc height (after ∷ afters) (k ∷ ks) t lists mapped found goes = absurd mapped
  branch_within l (u ∷ labels) pc height [] (k ∷ ks) t lists mapped found goes = absurd lists
  branch_within zero (u ∷ labels) pc height (after ∷ afters) (k ∷ ks) t lists mapped found goes =
      let same : u ≡ t = same_some (Some u) u t refl found in
      let head = mapped.0 in
      let here = lands_within k.label u after k.under ks head.leads goes in
      let to : u.to ≤ after = here.0 in
      let carried : count_if u.carries ≤ length f.operands = here.1 in
      let place = stands_within e after afters ks lists.1 in
      let high = head.height_is in
      let opens = head.opens_is in
      subst (λ (x : Target). IsWithin x (length e.code) (pred (length (k ∷ ks))) (locals + length (operands_with [] (k ∷ ks)) + length f.operands)) same
      (record { to = omega arith; opens = omega arith; height = omega arith })
  branch_within (suc l) (u ∷ labels) pc height (after ∷ afters) (k ∷ ks) t lists mapped found goes =
      let inner = branch_within l labels after (u.height + left_by k.label) afters ks t lists.1 mapped.1 found goes in
      let to : t.to ≤ length e.code = inner.to in
      let opens : t.opens ≤ pred (length ks) = inner.opens in
      let high : t.height + count_if t.carries ≤ locals + length (operands_with [] ks) + length f.operands = inner.height in
      let under = count_under k.under ks in
      record { to = to; opens = omega arith; height = omega arith }

-- the machine finds the target that the map has
pub target_there : (maps : List BodyMap) (place : Place) (t : Target) → HasTargetAt maps place t → target_at maps place ≡ Some t
target_there maps place t (map, map_is, (slot, slot_is, is)) =
    ap (option_and_then (target_in place.pc)) map_is ∙ ap (option_and_then (slice_get map.targets)) slot_is ∙ is

entry_there : (maps : List BodyMap) (place : Place) (map : BodyMap) (first number : ℕ) (t : Target) → slice_get maps place.body ≡ Some map →
    slice_get map.slots place.pc ≡ Some first → slice_get map.tables (first + number) ≡ Some t → entry_at maps place number ≡ Some t
entry_there maps place map first number t map_is slot_is is =
    ap (option_and_then (entry_in place.pc number)) map_is ∙ ap (option_and_then (λ (n : ℕ). slice_get map.tables (n + number))) slot_is ∙ is

module _ (m : Parts) (map : CodeMap) (flat : Flat) (c : Config) (follows : Follows m map.bodies flat c) (typed : IsTyped m [] c) (i : Instr) (f : Frame) (below : List Frame)
    (w : Work m map.bodies flat c follows typed i f below) where
  abbrev here : ℕ
  here = length w.inner.body.expr.code

  abbrev low : List ℕ
  low = low_values f.locals w.inner.k w.inner.around below

  -- the frame whose innermost list has this rest
  abbrev later : Code → Frame
  later rest = with_rest rest f w.inner.k w.inner.around

  low_count : length low ≡ length (operands_with [] (w.inner.k ∷ w.inner.around)) + length f.locals + flat.place.base
  low_count =
      let under : List ℕ = operands_with w.inner.k.under w.inner.around in
      let foot : List ℕ = reverse f.locals ++ all_values below in
      let one = length-append under foot in
      let two = length-append (reverse f.locals) (all_values below) in
      let turned = length-reverse f.locals in
      let base = w.base in
      omega arith

  -- a branch from these operands
  pub jumps : (l : ℕ) (rest : Code) (operands values : List ℕ) (o : Outcome) → next m c ≡ o → o ≡ to_frame c below (branch l (with_operands operands (later rest))) →
      IsKept m o → values ≡ operands ++ low → (found : Option Target) → ((t : Target) → slice_get (w.inner.target ∷ w.inner.labels) l ≡ Some t → found ≡ Some t) →
      MoveAgrees m map flat c (jump_to found here values flat)
  jumps l rest operands values o is outcome kept e found finds =
      let there = w.inner in
      let k = there.k in
      let ks = there.around in
      let g : Frame = with_operands operands (later rest) in
      let goes : to_frame c below (branch l g) ≢ Stuck = λ v. subst (IsKept m) (outcome ∙ v) kept in
      let done = goes_to m map.bodies flat c follows typed i f below w l rest operands values e goes in
      let t : Target = done.0 in
      let same : branch l g ≡ branch_in l g (k ∷ ks) = branch_same l g rest k ks in
      let bounds = branch_within m c g below there.map there.body.expr (length f.locals) l (there.target ∷ there.labels) flat.place.pc w.height (there.after ∷ there.afters) (k ∷ ks) t
      (there.list, there.outer) (there.mapped, there.outer_mapped) done.1 (λ v. goes (ap (to_frame c below) same ∙ v)) in
      let to : t.to ≤ here = bounds.to in
      let fewer : t.opens ≤ pred (length (k ∷ ks)) = bounds.opens in
      let high : t.height + count_if t.carries ≤ length f.locals + length (operands_with [] (k ∷ ks)) + length operands = bounds.height in
      let opens : flat.place.opens ≡ opens_of flat.callers + pred (length (k ∷ ks)) = w.opens ∙ ap (λ (x : List Cont). opens_of flat.callers + pred (length x)) there.is in
      let all : length values ≡ length operands + length low = ap length e ∙ length-append operands low in
      let counted = low_count in
      let one : nat_le t.to here ≡ true = grind (arith, nat_tests) in
      let two : nat_le (opens_of flat.callers + t.opens) flat.place.opens ≡ true = let h : opens_of flat.callers + t.opens ≤ flat.place.opens = omega arith in grind (arith, nat_tests) in
      let three : nat_le (flat.place.base + t.height + count_if t.carries) (length values) ≡ true =
      let h : flat.place.base + t.height + count_if t.carries ≤ length values = omega arith in grind (arith, nat_tests) in
      let holds : (leads t here flat.place.opens flat && carries_over t values flat) ≡ true =
      both_true (leads t here flat.place.opens flat) (carries_over t values flat)
      (both_true (nat_le t.to here) (nat_le (opens_of flat.callers + t.opens) flat.place.opens) one two) three in
      let move : Move = executes (Gives (jump t values flat)) in
      subst (λ (x : Option Target). MoveAgrees m map flat c (jump_to x here values flat)) (sym (finds t done.1))
      (subst (MoveAgrees m map flat c) (sym (held (leads t here flat.place.opens flat && carries_over t values flat) move holds))
      (executes_agree m map flat c (Gives (jump t values flat)) o is (subst (Agrees (Follows m map.bodies) (Gives (jump t values flat))) (sym outcome) done.2) kept))

  -- br_if
  pub if_jumps : (l : ℕ) (rest : Code) (operands : List ℕ) (o : Outcome) → next m c ≡ o → o ≡ to_frame c below (tree_branch_if l operands (later rest)) → IsKept m o →
      BranchesIf m map.bodies flat o (operands ++ low) → (found : Option Target) →
      ((t : Target) → slice_get (w.inner.target ∷ w.inner.labels) l ≡ Some t → found ≡ Some t) →
      MoveAgrees m map flat c (branch_if found here (operands ++ low) flat)
  if_jumps l rest [] o is outcome kept h found finds = absurd (subst (IsKept m) outcome kept)
  if_jumps l rest (number ∷ operands) o is outcome kept (inl (zero_is, agrees)) found finds =
      subst (λ (n : ℕ). MoveAgrees m map flat c (branch_if found here (n ∷ (operands ++ low)) flat)) (sym zero_is)
      (executes_agree m map flat c (Gives (goes_on (operands ++ low) flat)) o is agrees kept)
  if_jumps l rest (number ∷ operands) o is outcome kept (inr (differs, t, has, agrees)) found finds =
      let test : nat_eq number 0 ≡ false = not_zero number differs in
      let same : o ≡ to_frame c below (branch l (with_operands operands (later rest))) =
      outcome ∙ ap (λ (b : Bool). to_frame c below (cond b (Gives (with_operands operands (later rest))) (branch l (with_operands operands (later rest))))) test in
      subst (λ (b : Bool). MoveAgrees m map flat c (cond b (executes (Gives (goes_on (operands ++ low) flat))) (jump_to found here (operands ++ low) flat))) (sym test)
      (jumps l rest operands (operands ++ low) o is same kept refl found finds)

  -- br_table
  pub table_jumps : (labels : List ℕ) (last : ℕ) (rest : Code) (count : ℕ) (operands : List ℕ) (o : Outcome) → w.inner.k.rest ≡ TableOf labels last rest →
      count ≡ length labels → next m c ≡ o → o ≡ to_frame c below (tree_branch_table labels last operands (later rest)) → IsKept m o →
      MoveAgrees m map flat c (branch_among map.bodies count here (operands ++ low) flat)
  table_jumps labels last rest count [] o coming count_is is outcome kept = absurd (subst (IsKept m) outcome kept)
  table_jumps labels last rest count (number ∷ operands) o coming count_is is outcome kept =
      let there = w.inner in
      let l = slice_index_or labels number last in
      let mapped : HasTable there.map flat.place.pc (there.target ∷ there.labels) (labels ++ last ∷ []) =
      subst (λ (code : Code). Mapped m there.map (there.target ∷ there.labels) flat.place.pc w.height code) coming there.mapped.mapped in
      let entry : slice_get (labels ++ last ∷ []) (min number count) ≡ Some l =
      ap (λ (n : ℕ). slice_get (labels ++ last ∷ []) (min number n)) count_is ∙ entry_is labels number last in
      jumps l rest operands (operands ++ low) o is outcome kept refl (entry_at map.bodies flat.place (min number count))
      (λ t found. entry_there map.bodies flat.place there.map mapped.0 (min number count) t there.map_is mapped.1 (mapped.2 (min number count) l t entry found))
