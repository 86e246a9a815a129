-- Branches and the beginnings of lists keep a frame typed.
use Rattle.std.specs.Prelude.{⊤}
use Rattle.std.proofs.Common.{◌≡◌, ◌≤◌, ℕ, zero, suc, List, [], ◌∷◌, ◌++◌, length, reverse, take, nat_le, true, slice_get, Option, Some, option_to_list, arith, refl, sym, ◌∙◌, ap, subst}
use Rattle.std.proofs.lemmas.Bool.Decides.{nat_tests}
use Rattle.std.proofs.lemmas.List.{length-reverse}
use Rattle.wasm_form.specs.declared.value_type.ValType.{ValType}
use Rattle.wasm_form.specs.declared.types.FuncType.{FuncType}
use Rattle.wasm_form.specs.declared.body.LocalRun.{LocalRun}
use Rattle.wasm_form.specs.declared.parts.Parts.{Parts}
use Rattle.wasm_form.specs.Trees.{Code}
use Rattle.wasm_form.specs.Context.{context_of}
use Rattle.wasm_form.specs.Typing.{Types}
use Rattle.tree_machine.specs.Config.{Label, Leave, Again, Cont, Frame, with_operands}
use Rattle.tree_machine.specs.Outcomes.{Effect, Gives, Fails, Undefined}
use Rattle.tree_machine.specs.Control.{begun, topmost, leave_block, land, branch_in, branch}
use Rattle.tree_machine.specs.Typed.{AreValues, HasInstrs, ContsTyped, with_labels, LabelTyped, FrameTyped}
use Rattle.tree_machine.proofs.Values.{values_split, values_append}

-- a frame is typed again; a trap is none of the typing's matter
abbrev pub IsFrameKept : Parts → FuncType → Effect Frame → Type 0
IsFrameKept m ty (Gives f) = FrameTyped m [] f ty
IsFrameKept m ty (Fails trap) = ⊤
IsFrameKept m ty Undefined = ⊥

-- a frame but for its operands: its lists are to go on from this stack
pub record LaterTyped (m : Parts) (ty : FuncType) (runs : List LocalRun) (labels : List (List ValType)) (f : Frame) (stack : List ValType) : Type 0 where
  pub locals : AreValues (context_of m ty runs).locals f.locals
  pub conts : ContsTyped (context_of m ty runs) labels f.conts stack

pub with_values : (m : Parts) (ty : FuncType) (runs : List LocalRun) (labels : List (List ValType)) (f : Frame) (stack : List ValType) (operands : List ℕ) →
    LaterTyped m ty runs labels f stack → AreValues stack operands → FrameTyped m [] (with_operands operands f) ty
with_values m ty runs labels f stack operands later h =
    record { runs = runs; labels = labels; stack = stack; locals = later.locals; operands = h; conts = later.conts }

topmost_is : (n : ℕ) (operands : List ℕ) → n ≤ length operands → topmost n operands ≡ Some (take n operands)
topmost_is n operands enough = let yes : nat_le n (length operands) ≡ true = grind (arith, nat_tests) in rw yes refl

module _ (m : Parts) (ty : FuncType) (runs : List LocalRun) where
  land_keeps : (f : Frame) (l : Label) (rest : Code) (carried ends below stack needed_below : List ValType) (around : List (List ValType)) (under : List ℕ) (ks : List Cont) →
      AreValues (context_of m ty runs).locals f.locals → LabelTyped (context_of m ty runs) l carried ends around →
      AreValues below under → ContsTyped (context_of m ty runs) around ks (ends ++ below) →
      AreValues (reverse carried ++ needed_below) f.operands → IsFrameKept m ty (land l under f ks)
  land_keeps f (Leave results) rest carried ends below stack needed_below around under ks locals label h conts operands =
      let split = values_split (reverse carried) needed_below f.operands operands in
      let count : results ≡ length (reverse carried) = label.0 ∙ sym (length-reverse carried) in
      let enough : length (reverse carried) ≤ length f.operands = split.enough in
      let top : topmost results f.operands ≡ Some (take (length (reverse carried)) f.operands) =
      ap (λ (n : ℕ). topmost n f.operands) count ∙ topmost_is (length (reverse carried)) f.operands enough in
      subst (λ (o : Option (List ℕ)). IsFrameKept m ty (leave_block o under f ks)) (sym top)
      (record {
        runs = runs;
        labels = around;
        stack = ends ++ below;
        locals = locals;
        operands = values_append ends below (take (length (reverse carried)) f.operands) under
            (subst (λ (s : List ValType). AreValues s (take (length (reverse carried)) f.operands)) (sym label.1) split.first) h;
        conts = conts;
      })
  land_keeps f (Again result inside) rest carried ends below stack needed_below [] under ks locals label h conts operands = absurd label
  land_keeps f (Again result inside) rest carried ends below stack needed_below (a ∷ around) under [] locals label h conts operands = absurd conts
  land_keeps f (Again result inside) rest carried ends below stack needed_below (a ∷ around) under (k ∷ ks) locals label h conts operands =
      let next = conts.2 in
      let ends_is : ends ≡ option_to_list result = label.1 in
      record {
        runs = runs;
        labels = a ∷ around;
        stack = below;
        locals = locals;
        operands = h;
        conts = (
          conts.0,
          conts.1,
          record {
            instrs = (label.2, next.instrs);
            leads = (
              subst (λ (s : List ValType). Types (with_labels ([] ∷ a ∷ around) (context_of m ty runs)) inside [] s) ends_is label.3,
              subst (λ (s : List ValType). Types (with_labels (a ∷ around) (context_of m ty runs)) k.rest (s ++ below) conts.0) ends_is next.leads,
            );
            label = next.label;
            under = next.under;
            outermost = next.outermost;
          },
          conts.3,
        );
      }

  branch_in_keeps : (label : ℕ) (f : Frame) (labels : List (List ValType)) (ks : List Cont) (stack needs needed_below : List ValType) →
      AreValues (context_of m ty runs).locals f.locals → ContsTyped (context_of m ty runs) labels ks stack → slice_get labels label ≡ Some needs →
      AreValues (reverse needs ++ needed_below) f.operands → IsFrameKept m ty (branch_in label f ks)
  branch_in_keeps label f [] [] stack needs needed_below locals conts e operands = absurd (cc)
  branch_in_keeps label f [] (k ∷ ks) stack needs needed_below locals conts e operands = absurd conts
  branch_in_keeps label f (carried ∷ around) [] stack needs needed_below locals conts e operands = absurd conts
  branch_in_keeps zero f (carried ∷ around) (k ∷ ks) stack needs needed_below locals conts e operands =
      let same : needs ≡ carried = cc in
      land_keeps f k.label k.rest carried conts.0 conts.1 stack needed_below around k.under ks locals conts.2.label conts.2.under conts.3
      (subst (λ (s : List ValType). AreValues (reverse s ++ needed_below) f.operands) same operands)
  branch_in_keeps (suc label) f (carried ∷ around) (k ∷ ks) stack needs needed_below locals conts e operands =
      branch_in_keeps label f around ks (conts.0 ++ conts.1) needs needed_below locals conts.3 e operands

  -- br
  pub branch_keeps : (label : ℕ) (f : Frame) (labels : List (List ValType)) (stack needs needed_below : List ValType) →
      LaterTyped m ty runs labels f stack → slice_get labels label ≡ Some needs →
      AreValues (reverse needs ++ needed_below) f.operands → IsFrameKept m ty (branch label f)
  branch_keeps label f labels stack needs needed_below later e operands =
      branch_in_keeps label f labels f.conts stack needs needed_below later.locals later.conts e operands

  -- the beginning of a list inside one that goes on with the result
  pub begin_keeps : (f : Frame) (labels : List (List ValType)) (stack carried ends : List ValType) (inside : Code) (label : Label) →
      LaterTyped m ty runs labels f (ends ++ stack) → AreValues stack f.operands → HasInstrs inside →
      Types (with_labels (carried ∷ labels) (context_of m ty runs)) inside [] ends →
      LabelTyped (context_of m ty runs) label carried ends labels → (labels ≡ [] → stack ≡ []) → FrameTyped m [] (begun inside label f) ty
  begin_keeps f labels stack carried ends inside label later operands instrs leads label_typed outermost =
      record {
        runs = runs;
        labels = carried ∷ labels;
        stack = [];
        locals = later.locals;
        operands = tt;
        conts = (ends, stack, record { instrs = instrs; leads = leads; label = label_typed; under = operands; outermost = outermost }, later.conts);
      }
