-- Branches that hang on a number.
use Rattle.std.proofs.Common.{◌≡◌, ◌≢◌, ◌⊎◌, ℕ, zero, suc, pred, ◌+◌, inl, inr, min, Bool, false, cond, nat_eq, List, [], ◌∷◌, ◌++◌, length, reverse, slice_get, slice_index_or, Option, Some, arith, refl, sym, ◌∙◌, ap, subst, length-append}
use Rattle.std.proofs.lemmas.Bool.{ne_eqb}
use Rattle.std.proofs.lemmas.List.{length-reverse}
use Rattle.wasm_form.specs.declared.value_type.ValType.{ValType}
use Rattle.wasm_form.specs.declared.types.FuncType.{FuncType}
use Rattle.wasm_form.specs.declared.instr.Instr.{Instr}
use Rattle.wasm_form.specs.declared.instr.Imm.TheVariants as imm
use Rattle.wasm_form.specs.declared.parts.Parts.{Parts}
use Rattle.wasm_form.specs.declared.sort.Sort.TheVariants as sort
use Rattle.wasm_form.specs.Instructions.{immediates_of}
use Rattle.wasm_form.specs.Matching.{sort_of, IsPlain}
use Rattle.wasm_form.specs.Context.{Context, context_of}
use Rattle.wasm_form.specs.Typing.{Leads, HasType}
use Rattle.wasm_form.specs.Trees.{Code, Empty, Then, TableOf, BlockOf, LoopOf, IfOf, IfElseOf, end_instr, else_instr, block_instr, loop_instr, if_instr, table_instr, size}
use Rattle.code_map.specs.declared.body_map.BodyMap.{BodyMap}
use Rattle.code_map.specs.Flows.{IsContextOf}
use Rattle.code_map.specs.Targets.{HasTable}
use Rattle.code_map.specs.Mapped.{Mapped}
use Rattle.tree_machine.specs.Instructions.{Plain, plain_of}
use Rattle.tree_machine.specs.Instructions as op
use Rattle.tree_machine.specs.Config.{Cont, Frame, Config, with_frames, with_operands}
use Rattle.tree_machine.specs.Control.{branch, branch_if, branch_table}
use Rattle.tree_machine.specs.Outcomes.{Gives, Outcome, Stuck, to_frame}
use Rattle.tree_machine.specs.Step.{execute_plain, execute, with_rest, next_of, next_in, next_among, next}
use Rattle.tree_machine.specs.Typed.{AreValues, HasInstrs, ContsTyped, FramesTyped, IsTyped}
use Rattle.tree_machine.proofs.PlainOf.{plain_br_if}
use Rattle.tree_machine.proofs.Values.{as_many}
use Rattle.flat_machine.specs.Flat.{Flat, goes_on}
use Rattle.flat_machine.specs.Tells.{LeftStands, opens_of, Tells, IsInstrAt, Agrees}
use Rattle.flat_machine.specs.Text.{StandsAt}
use Rattle.flat_machine.specs.Control.{jump}
use Rattle.flat_machine.specs.Mapping.{Follows}
use Rattle.flat_machine.specs.Branches.{BranchesIf, BranchesBy}
use Rattle.flat_machine.proofs.Standing.{BeginsWith, plain_comes}
use Rattle.flat_machine.proofs.StraightAgrees.{flat_of, cont_with, next_place, low_values, keeps}
use Rattle.flat_machine.proofs.BlocksAgree.{Work, work}
use Rattle.flat_machine.proofs.BranchesAgree.{goes_to, values_here, target_at}
use Rattle.flat_machine.proofs.Counts.{if_counts}
use Rattle.flat_machine.proofs.StraightFollows.{next_mapped, LeadsAt, leads_in}

-- a number is 0 or not
pub zero_cases : (number : ℕ) → (number ≡ 0) ⊎ (number ≢ 0)
zero_cases zero = inl refl
zero_cases (suc n) = inr (λ w. absurd (omega (arith, w)))

pub not_zero : (number : ℕ) → number ≢ 0 → nat_eq number 0 ≡ false
not_zero number h = ne_eqb number 0 h

-- the target of a br_table by the number
pub entry_is : (labels : List ℕ) (n last : ℕ) → slice_get (labels ++ last ∷ []) (min n (length labels)) ≡ Some (slice_index_or labels n last)
entry_is [] n last = ap (λ (x : ℕ). slice_get (last ∷ []) x) (let same : min n 0 ≡ 0 = omega arith in same)
entry_is (x ∷ labels) zero last = ap (λ (k : ℕ). slice_get (x ∷ (labels ++ last ∷ [])) k) (let same : min 0 (suc (length labels)) ≡ 0 = omega arith in same)
entry_is (x ∷ labels) (suc n) last =
    ap (λ (k : ℕ). slice_get (x ∷ (labels ++ last ∷ [])) k) (let same : min (suc n) (suc (length labels)) ≡ suc (min n (length labels)) = omega arith in same)
    ∙ entry_is labels n last

count_in : (a b c d e f : ℕ) → imm.Table a b c ≡ imm.Table d e f → (b ≡ e) × (c ≡ f)
count_in a b c d e f same = (cc, cc)

code_of : (i j : Instr) → i ≡ j → i.code ≡ j.code
code_of i j e = ap (λ (x : Instr). x.code) e

table_sort : (first count last : ℕ) → sort_of (table_instr first count last) ≡ Some (sort.Table first count)
unfolding sort_of immediates_of
table_sort first count last = refl

-- a br_table
pub table_comes : (first count last : ℕ) (code : Code) → HasInstrs code → BeginsWith (table_instr first count last) code →
    (labels : List ℕ) × (rest : Code) × (code ≡ TableOf labels last rest) × (count ≡ length labels)
table_comes first count last Empty h (inl e) = let c : 0x0E ≡ 0x0B = code_of (table_instr first count last) end_instr e in absurd (omega (arith, c))
table_comes first count last Empty h (inr e) = let c : 0x0E ≡ 0x05 = code_of (table_instr first count last) else_instr e in absurd (omega (arith, c))
table_comes first count last (Then j rest) h e =
    let a : Some (sort.Table first count) ≡ Some sort.Plain = sym (table_sort first count last) ∙ ap sort_of e ∙ h.0 in absurd (cc)
table_comes first count last (TableOf labels final rest) h (other, e) =
    let same = count_in first count last other (length labels) final (ap (λ (x : Instr). x.imm) e) in
    (labels, rest, ap (λ (n : ℕ). TableOf labels n rest) (sym same.1), same.0)
table_comes first count last (BlockOf r inside rest) h e = let c : 0x0E ≡ 0x02 = code_of (table_instr first count last) (block_instr r) e in absurd (omega (arith, c))
table_comes first count last (LoopOf r inside rest) h e = let c : 0x0E ≡ 0x03 = code_of (table_instr first count last) (loop_instr r) e in absurd (omega (arith, c))
table_comes first count last (IfOf r inside rest) h e = let c : 0x0E ≡ 0x04 = code_of (table_instr first count last) (if_instr r) e in absurd (omega (arith, c))
table_comes first count last (IfElseOf r inside other rest) h e = let c : 0x0E ≡ 0x04 = code_of (table_instr first count last) (if_instr r) e in absurd (omega (arith, c))

module _ (m : Parts) (maps : List BodyMap) (flat : Flat) (c : Config) (follows : Follows m maps flat c) (typed : IsTyped m [] c) where
  -- what is left of the innermost list stands behind the instruction
  pub later_stands : (i : Instr) (f : Frame) (below : List Frame) (w : Work m maps flat c follows typed i f below) (rest : Code) → w.inner.k.rest ≡ Then i rest →
      LeftStands m (next_place flat.place) (cont_with rest w.inner.k ∷ w.inner.around)
  later_stands i f below w rest is =
      let there = w.inner in
      let here = there.list in
      let stands : StandsAt there.body.expr flat.place.pc (Then i rest) = subst (λ (code : Code). StandsAt there.body.expr flat.place.pc code) is here.stands in
      let stops : here.stop ≡ flat.place.pc + size (Then i rest) = here.stops ∙ ap (λ (code : Code). flat.place.pc + size code) is in
      record {
        body = there.body;
        is = there.body_is;
        afters = there.after ∷ there.afters;
        lists = (record { stop = here.stop; stops = omega arith; ends = here.ends; stands = stands.1; loops = here.loops }, there.outer);
      }

  -- the number of a br_if is 0: the next instruction is to come
  next_follows : (i : Instr) (f : Frame) (below : List Frame) (w : Work m maps flat c follows typed i f below) (rest : Code) → w.inner.k.rest ≡ Then i rest →
      (context : Context) → IsContextOf m context → (known : FuncType) → HasType context i known → (b : ℕ) → length f.operands ≡ length known.params + b →
      (operands : List ℕ) → length operands ≡ length known.results + b →
      Follows m maps (goes_on (operands ++ low_values f.locals w.inner.k w.inner.around below) flat)
      (with_frames (with_operands operands (with_rest rest f w.inner.k w.inner.around) ∷ below) c)
  next_follows i f below w rest is context inside known has_type b enough operands count =
      let there = w.inner in
      let values = operands ++ low_values f.locals there.k there.around below in
      let opens = w.opens ∙ ap (λ (x : List Cont). opens_of flat.callers + pred (length x)) there.is in
      let tells : Tells m (goes_on values (flat_of (f.operands ++ low_values f.locals there.k there.around below) flat.place flat.callers c))
      (with_frames (with_operands operands (with_rest rest f there.k there.around) ∷ below) c) =
      keeps m c flat.place flat.callers f there.k there.around rest below
      (later_stands i f below w rest is) w.base opens w.outer values operands refl in
      let same : goes_on values (flat_of (f.operands ++ low_values f.locals there.k there.around below) flat.place flat.callers c) ≡ goes_on values flat =
      ap (goes_on values) (sym w.same) in
      record {
        tells = subst (λ (x : Flat). Tells m x (with_frames (with_operands operands (with_rest rest f there.k there.around) ∷ below) c)) same tells;
        mapped = next_mapped m maps flat c follows typed i 0 f below w rest is context inside known has_type b enough
            (with_operands operands (with_rest rest f there.k there.around)) refl refl (omega arith);
      }

  branches_on : (i : Instr) (l : ℕ) (f : Frame) (below : List Frame) (w : Work m maps flat c follows typed i f below) (rest : Code) → w.inner.k.rest ≡ Then i rest →
      i.code ≡ 0x0D → i.imm ≡ imm.Index l → (context : Context) → IsContextOf m context → (known : FuncType) → HasType context i known → (b : ℕ) →
      length f.operands ≡ length known.params + b → length known.params ≡ length known.results + 1 → (operands values : List ℕ) → f.operands ≡ operands →
      values ≡ operands ++ low_values f.locals w.inner.k w.inner.around below →
      to_frame c below (branch_if l operands (with_rest rest f w.inner.k w.inner.around)) ≢ Stuck →
      BranchesIf m maps flat (to_frame c below (branch_if l operands (with_rest rest f w.inner.k w.inner.around))) values
  branches_on i l f below w rest is code index context inside known has_type b enough one [] values top e goes = absurd (goes refl)
  branches_on i l f below w rest is code index context inside known has_type b enough one (number ∷ operands) values top e goes =
      let k = w.inner.k in
      let ks = w.inner.around in
      let low = operands ++ low_values f.locals k ks below in
      let outcome = to_frame c below (branch_if l (number ∷ operands) (with_rest rest f k ks)) in
      let count = ap length top in
      let done : BranchesIf m maps flat outcome (number ∷ low) =
      elim (zero_cases number) as (λ w. BranchesIf m maps flat outcome (number ∷ low)) [
        | inl zero_is ↦ inl (
          zero_is,
          subst (λ (n : ℕ). Agrees (Follows m maps) (Gives (goes_on low flat)) (to_frame c below (branch_if l (n ∷ operands) (with_rest rest f k ks)))) (sym zero_is)
              (next_follows i f below w rest is context inside known has_type b enough operands (omega arith)),
        )
        | inr differs ↦
            let test : nat_eq number 0 ≡ false = not_zero number differs in
            let same : outcome ≡ to_frame c below (branch l (with_operands operands (with_rest rest f k ks))) =
            ap (λ (t : Bool). to_frame c below (cond t (Gives (with_operands operands (with_rest rest f k ks))) (branch l (with_operands operands (with_rest rest f k ks))))) test in
            let found = goes_to m maps flat c follows typed i f below w l rest operands low refl (λ v. goes (same ∙ v)) in
            inr (
              differs,
              found.0,
              target_at m maps flat c follows typed i f below w rest is l found.0 (inl (inr code, index)) found.1,
              subst (λ (o : Outcome). Agrees (Follows m maps) (Gives (jump found.0 low flat)) o) (sym same) found.2,
            )
      ] in
      subst (λ (v : List ℕ). BranchesIf m maps flat outcome v) (sym e) done

  led_on : (i : Instr) (l : ℕ) (f : Frame) (below : List Frame) (w : Work m maps flat c follows typed i f below) (rest : Code) → w.inner.k.rest ≡ Then i rest →
      i.code ≡ 0x0D → i.imm ≡ imm.Index l → (stack : List ValType) → AreValues stack f.operands → IsPlain i → plain_of i ≡ Some (op.BrIf l) → (at : LeadsAt m i stack) →
      to_frame c below (branch_if l f.operands (with_rest rest f w.inner.k w.inner.around)) ≢ Stuck → (lead : Leads at.context i stack at.after) →
      BranchesIf m maps flat (to_frame c below (branch_if l f.operands (with_rest rest f w.inner.k w.inner.around))) flat.values
  led_on i l f below w rest is code index stack operands plain_is plain at goes (inl (known, has_type, applies)) =
      let b = applies.0 in
      let count = as_many stack f.operands operands ∙ ap length applies.1 ∙ length-append (reverse known.params) b in
      let turned = length-reverse known.params in
      branches_on i l f below w rest is code index at.context at.inside known has_type (length b) (omega arith)
      (if_counts at.context i l known plain plain_is has_type) f.operands flat.values refl (values_here m maps flat c follows typed i f below w) goes
  led_on i l f below w rest is code index stack operands plain_is plain at goes (inr (needs, inl (other, none), ends)) = absurd (omega (arith, code, other))
  led_on i l f below w rest is code index stack operands plain_is plain at goes (inr (needs, inr (inl (label, other, number, place)), ends)) = absurd (omega (arith, code, other))
  led_on i l f below w rest is code index stack operands plain_is plain at goes (inr (needs, inr (inr (other, results)), ends)) = absurd (omega (arith, code, other))

  branch_if_at : (i : Instr) (l : ℕ) (frames : List Frame) → c.frames ≡ frames → i.code ≡ 0x0D → i.imm ≡ imm.Index l → IsInstrAt m flat.place i →
      next_among m c frames ≢ Stuck → BranchesIf m maps flat (next_among m c frames) flat.values
  unfolding execute_plain
  branch_if_at i l [] e code index at goes = absurd (goes refl)
  branch_if_at i l (f ∷ below) e code index at goes =
      let w = work m maps flat c follows typed i f below at e in
      let there = w.inner in
      let plain = plain_br_if i l code index in
      let comes = plain_comes i (op.BrIf l) there.k.rest plain there.begins in
      let rest = comes.0 in
      let next_is : next_among m c (f ∷ below) ≡ to_frame c below (branch_if l f.operands (with_rest rest f there.k there.around)) =
      ap (λ (x : List Cont). next_in m c f x below) there.is ∙ ap (λ (x : Code). next_of m x c f there.k there.around below) comes.1
      ∙ ap (λ (o : Option Plain). execute m o c (with_rest rest f there.k there.around) below) plain in
      let frames : FramesTyped m [] (f ∷ below) = subst (λ (frames : List Frame). FramesTyped m [] frames) e typed.frames in
      let frame = frames.1 in
      let instrs : HasInstrs (Then i rest) = subst HasInstrs comes.1 w.instrs in
      let conts : ContsTyped (context_of m frames.0 frame.runs) frame.labels (there.k ∷ there.around) frame.stack =
      subst (λ (x : List Cont). ContsTyped (context_of m frames.0 frame.runs) frame.labels x frame.stack) there.is frame.conts in
      let leads = leads_in m frames.0 frame.runs frame.labels there.k there.around frame.stack i rest comes.1 conts in
      subst (λ (o : Outcome). BranchesIf m maps flat o flat.values) (sym next_is)
      (led_on i l f below w rest comes.1 code index frame.stack frame.operands instrs.0 plain leads (λ v. goes (next_is ∙ v)) leads.leads)

  table_on : (i : Instr) (f : Frame) (below : List Frame) (w : Work m maps flat c follows typed i f below) (labels : List ℕ) (last : ℕ) (rest : Code) (count : ℕ) →
      w.inner.k.rest ≡ TableOf labels last rest → count ≡ length labels → (operands values : List ℕ) →
      values ≡ operands ++ low_values f.locals w.inner.k w.inner.around below →
      to_frame c below (branch_table labels last operands (with_rest rest f w.inner.k w.inner.around)) ≢ Stuck →
      BranchesBy m maps flat (to_frame c below (branch_table labels last operands (with_rest rest f w.inner.k w.inner.around))) count values
  table_on i f below w labels last rest count is count_is [] values e goes = absurd (goes refl)
  table_on i f below w labels last rest count is count_is (number ∷ operands) values e goes =
      let there = w.inner in
      let k = there.k in
      let ks = there.around in
      let low = operands ++ low_values f.locals k ks below in
      let outcome = to_frame c below (branch_table labels last (number ∷ operands) (with_rest rest f k ks)) in
      let l = slice_index_or labels number last in
      let found = goes_to m maps flat c follows typed i f below w l rest operands low refl goes in
      let mapped : HasTable there.map flat.place.pc (there.target ∷ there.labels) (labels ++ last ∷ []) =
      subst (λ (code : Code). Mapped m there.map (there.target ∷ there.labels) flat.place.pc w.height code) is there.mapped.mapped in
      let entry : slice_get (labels ++ last ∷ []) (min number count) ≡ Some l =
      ap (λ (n : ℕ). slice_get (labels ++ last ∷ []) (min number n)) count_is ∙ entry_is labels number last in
      let done : BranchesBy m maps flat outcome count (number ∷ low) = (
        found.0,
        (there.map, mapped.0, there.map_is, mapped.1, mapped.2 (min number count) l found.0 entry found.1),
        found.2,
      ) in
      subst (λ (v : List ℕ). BranchesBy m maps flat outcome count v) (sym e) done

  table_at : (first count last : ℕ) (frames : List Frame) → c.frames ≡ frames → IsInstrAt m flat.place (table_instr first count last) → next_among m c frames ≢ Stuck →
      BranchesBy m maps flat (next_among m c frames) count flat.values
  table_at first count last [] e at goes = absurd (goes refl)
  table_at first count last (f ∷ below) e at goes =
      let w = work m maps flat c follows typed (table_instr first count last) f below at e in
      let there = w.inner in
      let comes = table_comes first count last there.k.rest w.instrs there.begins in
      let next_is : next_among m c (f ∷ below) ≡ to_frame c below (branch_table comes.0 last f.operands (with_rest comes.1 f there.k there.around)) =
      ap (λ (x : List Cont). next_in m c f x below) there.is ∙ ap (λ (x : Code). next_of m x c f there.k there.around below) comes.2 in
      subst (λ (o : Outcome). BranchesBy m maps flat o count flat.values) (sym next_is)
      (table_on (table_instr first count last) f below w comes.0 last comes.1 count comes.2 comes.3 f.operands flat.values
      (values_here m maps flat c follows typed (table_instr first count last) f below w) (λ v. goes (next_is ∙ v)))

  -- br_if
  pub branch_if_agrees : (i : Instr) (l : ℕ) → i.code ≡ 0x0D → i.imm ≡ imm.Index l → IsInstrAt m flat.place i → next m c ≢ Stuck →
      BranchesIf m maps flat (next m c) flat.values
  unfolding next
  branch_if_agrees i l code index at goes = branch_if_at i l c.frames refl code index at goes

  -- br_table
  pub table_agrees : (first count last : ℕ) → IsInstrAt m flat.place (table_instr first count last) → next m c ≢ Stuck →
      BranchesBy m maps flat (next m c) count flat.values
  unfolding next
  table_agrees first count last at goes = table_at first count last c.frames refl at goes
