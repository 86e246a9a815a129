-- A typed configuration at an instruction goes on, and is typed again.
use Rattle.std.proofs.Common.{◌≡◌, ℕ, ◌+◌, inl, inr, Bool, true, false, cond, nat_le, nat_eq, List, [], ◌∷◌, ◌++◌, length, reverse, Option, Some, None, option_to_list, refl, sym, subst}
use Rattle.host_port.specs.Standing.{Asking, Trapped, Exhausted}
use Rattle.host_port.specs.declared.stop.Spent.TheVariants as limit
use Rattle.wasm_form.specs.declared.value_type.ValType.{ValType}
use Rattle.wasm_form.specs.declared.value_type.ValType.TheVariants.{I32}
use Rattle.wasm_form.specs.declared.types.FuncType.{FuncType}
use Rattle.wasm_form.specs.declared.body.LocalRun.{LocalRun}
use Rattle.wasm_form.specs.declared.instr.Instr.{Instr}
use Rattle.wasm_form.specs.declared.parts.Parts.{Parts}
use Rattle.wasm_form.specs.Trees.{Code, Empty, Then, TableOf, BlockOf, LoopOf, IfOf, IfElseOf}
use Rattle.wasm_form.specs.Matching.{IsPlain}
use Rattle.wasm_form.specs.Context.{Context, context_of}
use Rattle.wasm_form.specs.Typing.{Applies, HasType, Numeric, Parametric, Local, Global, Access, MemorySize, Nop, BranchIf, Call, CallIndirect, Leads, Types}
use Rattle.tree_machine.specs.Instructions.{plain_of}
use Rattle.tree_machine.specs.Config.{Label, Leave, Again, Cont, Frame, Config, with_operands}
use Rattle.tree_machine.specs.Outcomes.{Outcome, Goes, Calls, Traps, Exceeds, Stuck, Gives}
use Rattle.tree_machine.specs.Control.{result_count, begun, begin_block, begin_loop, begin_if}
use Rattle.tree_machine.specs.Limits.{judged, places, most_values}
use Rattle.tree_machine.specs.Point.{point, settle}
use Rattle.tree_machine.specs.Step.{execute, with_rest, next_of, next_in, next_among, next, stands_after, step}
use Rattle.tree_machine.specs.Typed.{HasConstant, AreValues, HasInstrs, ContsTyped, with_labels, LabelTyped, FrameTyped, FramesTyped, IsTyped, IsNext, HasNextIn, HasNext, StandsTyped, IsTypedModule, IsKept}
use Rattle.tree_machine.proofs.ExitsTyped.{settle_keeps}
use Rattle.tree_machine.proofs.BranchTyped.{IsFrameKept, LaterTyped, begin_keeps}
use Rattle.tree_machine.proofs.StraightTyped.{numeric_kept, parametric_kept}
use Rattle.tree_machine.proofs.InstrTyped.{frame_kept, straight_kept, local_kept, global_kept, access_kept, size_kept, nop_kept, branch_if_case, leaves_kept, branch_table_kept}
use Rattle.tree_machine.proofs.CallTyped.{call_kept, call_indirect_kept}

result_listed : (result : Option ValType) → (result_count result ≡ length (option_to_list result)) × (option_to_list result ≡ reverse (option_to_list result))
result_listed None = (refl, refl)
result_listed (Some t) = (refl, refl)

chosen_instrs : (b : Bool) (one two : Code) → HasInstrs one → HasInstrs two → HasInstrs (cond b one two)
chosen_instrs true one two h k = h
chosen_instrs false one two h k = k

chosen_types : (context : Context) (b : Bool) (one two : Code) (before after : List ValType) → Types context one before after → Types context two before after →
    Types context (cond b one two) before after
chosen_types context true one two before after h k = h
chosen_types context false one two before after h k = k

module _ (m : Parts) (module_typed : IsTypedModule m) (ty : FuncType) (c : Config) (f : Frame) (below : List Frame) (is : IsTyped m [] c)
    (rest_typed : FramesTyped m (reverse ty.results) below) (runs : List LocalRun) (carried : List ValType) (around : List (List ValType))
    (k : Cont) (ks : List Cont) (stack ends under : List ValType) (locals : AreValues (context_of m ty runs).locals f.locals)
    (operands : AreValues stack f.operands) (label : LabelTyped (context_of m ty runs) k.label carried ends around) (lies : AreValues under k.under)
    (outermost : around ≡ [] → under ≡ []) (conts : ContsTyped (context_of m ty runs) around ks (ends ++ under)) where
  later : (rest : Code) (after : List ValType) → HasInstrs rest → Types (with_labels (carried ∷ around) (context_of m ty runs)) rest after ends →
      LaterTyped m ty runs (carried ∷ around) (with_rest rest f k ks) after
  later rest after instrs types = record {
    locals = locals;
    conts = (ends, under, record { instrs = instrs; leads = types; label = label; under = lies; outermost = outermost }, conts);
  }

  typed_kept : (i : Instr) (rest : Code) (after : List ValType) (known : FuncType) → IsPlain i → HasConstant i.imm → HasInstrs rest →
      Types (with_labels (carried ∷ around) (context_of m ty runs)) rest after ends →
      HasType (with_labels (carried ∷ around) (context_of m ty runs)) i known → Applies known stack after →
      IsKept m (execute m (plain_of i) c (with_rest rest f k ks) below)
  typed_kept i rest after known plain range instrs types (Numeric is_so) applies =
      straight_kept m ty runs (carried ∷ around) c (with_rest rest f k ks) below stack after is rest_typed (later rest after instrs types) operands i
      (numeric_kept m i c (with_rest rest f k ks) below stack after operands known plain range is_so applies)
  typed_kept i rest after known plain range instrs types (Parametric is_so) applies =
      straight_kept m ty runs (carried ∷ around) c (with_rest rest f k ks) below stack after is rest_typed (later rest after instrs types) operands i
      (parametric_kept m i c (with_rest rest f k ks) below stack after operands known is_so applies)
  typed_kept i rest after known plain range instrs types (Local is_so) applies =
      local_kept m ty runs (carried ∷ around) c (with_rest rest f k ks) below stack after is rest_typed (later rest after instrs types) operands i known is_so applies
  typed_kept i rest after known plain range instrs types (Global is_so) applies =
      global_kept m ty runs (carried ∷ around) c (with_rest rest f k ks) below stack after is rest_typed (later rest after instrs types) operands i known is_so applies
  typed_kept i rest after known plain range instrs types (Access is_so) applies =
      access_kept m ty runs (carried ∷ around) c (with_rest rest f k ks) below stack after is rest_typed (later rest after instrs types) operands i known is_so applies
  typed_kept i rest after known plain range instrs types (MemorySize is_so) applies =
      size_kept m ty runs (carried ∷ around) c (with_rest rest f k ks) below stack after is rest_typed (later rest after instrs types) operands i known is_so applies
  typed_kept i rest after known plain range instrs types (Nop code is_so) applies =
      nop_kept m ty runs (carried ∷ around) c (with_rest rest f k ks) below stack after is rest_typed (later rest after instrs types) operands i known code is_so applies
  typed_kept i rest after known plain range instrs types (BranchIf is_so) applies =
      branch_if_case m ty runs (carried ∷ around) c (with_rest rest f k ks) below stack after is rest_typed (later rest after instrs types) operands i known is_so applies
  typed_kept i rest after known plain range instrs types (Call is_so) applies =
      call_kept m module_typed ty runs (carried ∷ around) c (with_rest rest f k ks) below stack after is rest_typed (later rest after instrs types) operands i known is_so applies
  typed_kept i rest after known plain range instrs types (CallIndirect is_so) applies =
      call_indirect_kept m module_typed ty runs (carried ∷ around) c (with_rest rest f k ks) below stack after is rest_typed (later rest after instrs types) operands i known is_so applies

  leads_kept : (i : Instr) (rest : Code) (after : List ValType) → IsPlain i → HasConstant i.imm → HasInstrs rest →
      Types (with_labels (carried ∷ around) (context_of m ty runs)) rest after ends →
      Leads (with_labels (carried ∷ around) (context_of m ty runs)) i stack after → IsKept m (execute m (plain_of i) c (with_rest rest f k ks) below)
  leads_kept i rest after plain range instrs types (inl (known, has_type, applies)) =
      typed_kept i rest after known plain range instrs types has_type applies
  leads_kept i rest after plain range instrs types (inr (needs, leaves, ends_in)) =
      leaves_kept m ty runs (carried ∷ around) c (with_rest rest f k ks) below stack after is rest_typed (later rest after instrs types) operands i needs
      (record k { rest = rest }) ks refl leaves ends_in

  begun_kept : (rest inside : Code) (carries results : List ValType) (values : List ℕ) (b : List ValType) (l : Label) → HasInstrs rest → HasInstrs inside →
      Types (with_labels (carried ∷ around) (context_of m ty runs)) rest (results ++ b) ends →
      Types (with_labels (carries ∷ carried ∷ around) (context_of m ty runs)) inside [] results →
      LabelTyped (context_of m ty runs) l carries results (carried ∷ around) → AreValues b values →
      FrameTyped m [] (begun inside l (with_operands values (with_rest rest f k ks))) ty
  begun_kept rest inside carries results values b l instrs inside_instrs types inside_types l_typed h =
      let at = later rest (results ++ b) instrs types in
      begin_keeps m ty runs (with_operands values (with_rest rest f k ks)) (carried ∷ around) b carries results inside l
      (record { locals = at.locals; conts = at.conts }) h inside_instrs inside_types l_typed (λ e. absurd (cc))

  if_kept : (result : Option ValType) (rest inside other : Code) (values : List ℕ) (b : List ValType) → HasInstrs rest → HasInstrs inside → HasInstrs other →
      Types (with_labels (carried ∷ around) (context_of m ty runs)) rest (option_to_list result ++ b) ends →
      Types (with_labels (option_to_list result ∷ carried ∷ around) (context_of m ty runs)) inside [] (option_to_list result) →
      Types (with_labels (option_to_list result ∷ carried ∷ around) (context_of m ty runs)) other [] (option_to_list result) →
      AreValues (I32 ∷ b) values → IsFrameKept m ty (begin_if result inside other values (with_rest rest f k ks))
  if_kept result rest inside other [] b instrs one two types one_types two_types h = absurd h
  if_kept result rest inside other (n ∷ values) b instrs one two types one_types two_types h =
      begun_kept rest (cond (nat_eq n 0) other inside) (option_to_list result) (option_to_list result) values b (Leave (result_count result)) instrs
      (chosen_instrs (nat_eq n 0) other inside two one) types
      (chosen_types (with_labels (option_to_list result ∷ carried ∷ around) (context_of m ty runs)) (nat_eq n 0) other inside [] (option_to_list result) two_types one_types)
      (result_listed result) h.1

  code_kept : (code : Code) → HasInstrs code → Types (with_labels (carried ∷ around) (context_of m ty runs)) code stack ends → IsNext code →
      IsKept m (next_of m code c f k ks below)
  code_kept Empty instrs types next_is = absurd next_is
  code_kept (Then i rest) instrs types next_is = leads_kept i rest types.0 instrs.0 instrs.1 instrs.2 types.2 types.1
  code_kept (TableOf table last rest) instrs (after, needs, leaves, ends_in, rest_types) next_is =
      branch_table_kept m ty runs (carried ∷ around) c (with_rest rest f k ks) below stack after is rest_typed (later rest after instrs rest_types) operands
      table last needs leaves ends_in
  code_kept (BlockOf result inside rest) instrs types next_is =
      frame_kept m ty runs (carried ∷ around) c (with_rest rest f k ks) below stack (option_to_list result ++ stack) is rest_typed
      (later rest (option_to_list result ++ stack) instrs.1 types.1) operands (Gives (begin_block result inside (with_rest rest f k ks)))
      (begun_kept rest inside (option_to_list result) (option_to_list result) f.operands stack (Leave (result_count result)) instrs.1 instrs.0 types.1 types.0
      (result_listed result) operands)
  code_kept (LoopOf result inside rest) instrs types next_is =
      frame_kept m ty runs (carried ∷ around) c (with_rest rest f k ks) below stack (option_to_list result ++ stack) is rest_typed
      (later rest (option_to_list result ++ stack) instrs.1 types.1) operands (Gives (begin_loop result inside (with_rest rest f k ks)))
      (begun_kept rest inside [] (option_to_list result) f.operands stack (Again result inside) instrs.1 instrs.0 types.1 types.0
      (refl, refl, instrs.0, types.0) operands)
  code_kept (IfOf result inside rest) instrs (b, top, none, inside_types, rest_types) next_is =
      let all = subst (λ (r : Option ValType). Types (with_labels (carried ∷ around) (context_of m ty runs)) rest (option_to_list r ++ b) ends) (sym none) rest_types in
      let one = subst (λ (r : Option ValType). Types (with_labels (option_to_list r ∷ carried ∷ around) (context_of m ty runs)) inside [] (option_to_list r)) (sym none) inside_types in
      let two = subst (λ (r : Option ValType). Types (with_labels (option_to_list r ∷ carried ∷ around) (context_of m ty runs)) Empty [] (option_to_list r)) (sym none) refl in
      frame_kept m ty runs (carried ∷ around) c (with_rest rest f k ks) below stack (option_to_list result ++ b) is rest_typed
      (later rest (option_to_list result ++ b) instrs.1 all) operands (begin_if result inside Empty f.operands (with_rest rest f k ks))
      (if_kept result rest inside Empty f.operands b instrs.1 instrs.0 tt all one two (subst (λ (s : List ValType). AreValues s f.operands) top operands))
  code_kept (IfElseOf result inside other rest) instrs (b, top, inside_types, other_types, rest_types) next_is =
      frame_kept m ty runs (carried ∷ around) c (with_rest rest f k ks) below stack (option_to_list result ++ b) is rest_typed
      (later rest (option_to_list result ++ b) instrs.2 rest_types) operands (begin_if result inside other f.operands (with_rest rest f k ks))
      (if_kept result rest inside other f.operands b instrs.2 instrs.0 instrs.1 rest_types inside_types other_types
      (subst (λ (s : List ValType). AreValues s f.operands) top operands))

lists_kept : (m : Parts) → IsTypedModule m → (ty : FuncType) (c : Config) (f : Frame) (below : List Frame) → IsTyped m [] c →
    FramesTyped m (reverse ty.results) below → (runs : List LocalRun) (labels : List (List ValType)) (ks : List Cont) (stack : List ValType) →
    AreValues (context_of m ty runs).locals f.locals → AreValues stack f.operands → ContsTyped (context_of m ty runs) labels ks stack → HasNextIn ks →
    IsKept m (next_in m c f ks below)
lists_kept m module_typed ty c f below is rest runs labels [] stack locals operands conts next_is = absurd next_is
lists_kept m module_typed ty c f below is rest runs [] (k ∷ ks) stack locals operands conts next_is = absurd conts
lists_kept m module_typed ty c f below is rest runs (carried ∷ around) (k ∷ ks) stack locals operands conts next_is =
    let here = conts.2 in
    code_kept m module_typed ty c f below is rest runs carried around k ks stack conts.0 conts.1 locals operands here.label here.under here.outermost conts.3
    k.rest here.instrs here.leads next_is

frames_kept : (m : Parts) → IsTypedModule m → (c : Config) (frames : List Frame) → IsTyped m [] c → FramesTyped m [] frames → HasNext frames →
    IsKept m (next_among m c frames)
frames_kept m module_typed c [] is typed next_is = absurd next_is
frames_kept m module_typed c (f ∷ below) is typed next_is =
    let frame = typed.1 in
    lists_kept m module_typed typed.0 c f below is typed.2 frame.runs frame.labels f.conts frame.stack frame.locals frame.operands frame.conts next_is

-- a rule applies to a typed configuration at an instruction
pub next_kept : (m : Parts) → IsTypedModule m → (c : Config) → IsTyped m [] c → HasNext c.frames → IsKept m (next m c)
unfolding next
next_kept m module_typed c is next_is = frames_kept m module_typed c c.frames is is.frames next_is

roomed : (m : Parts) (c : Config) (b : Bool) (o : Outcome) → StandsTyped m (stands_after m c o) →
    StandsTyped m (stands_after m c (cond b o (Exceeds limit.Values)))
roomed m c true o h = h
roomed m c false o h = (point (Exhausted limit.Values) c, refl, tt)

after_kept : (m : Parts) → IsTypedModule m → (c : Config) (o : Outcome) → IsKept m o → StandsTyped m (stands_after m c (judged o))
unfolding judged
after_kept m module_typed c (Goes to) kept =
    roomed m c (nat_le (places to.frames) most_values) (Goes to) (settle m to, refl, settle_keeps m module_typed to kept)
after_kept m module_typed c (Calls ask results waits) kept =
    roomed m c (nat_le (places waits.frames + results) most_values) (Calls ask results waits)
    (point (Asking ask) waits, refl, (kept.0, kept.1, kept.2, kept.4))
after_kept m module_typed c (Traps trap) kept = (point (Trapped trap) c, refl, tt)
after_kept m module_typed c (Exceeds spent) kept = (point (Exhausted spent) c, refl, tt)
after_kept m module_typed c Stuck kept = absurd kept

-- one instruction of a typed configuration: there is a step, and what it leaves is typed
pub step_kept : (m : Parts) → IsTypedModule m → (c : Config) → IsTyped m [] c → HasNext c.frames → StandsTyped m (step m c)
unfolding step
step_kept m module_typed c is next_is = after_kept m module_typed c (next m c) (next_kept m module_typed c is next_is)
