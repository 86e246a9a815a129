-- Calls keep a configuration typed.
use Rattle.std.proofs.Common.{◌≡◌, ◌≢◌, ◌≤◌, ℕ, ◌+◌, Bool, true, false, ◌&&◌, cond, if◌then◌else◌, nat_le, nat_lt, List, [], ◌∷◌, ◌++◌, length, take, drop, reverse, slice_get, Option, Some, None, option_and_then, arith, refl, sym, ◌∙◌, ap, subst}
use Rattle.std.proofs.lemmas.Bool.Decides.{nat_tests}
use Rattle.std.proofs.lemmas.List.{length-reverse, reverse-append, reverse-reverse}
use Rattle.std.specs.Cmp.Lexicographic.{pointwise}
use Rattle.wasm_ops.specs.declared.trap.Trap.TheVariants as traps
use Rattle.host_port.specs.declared.stop.Spent.TheVariants as limit
use Rattle.host_port.specs.HostTable.{Row}
use Rattle.wasm_form.specs.declared.value_type.ValType.{ValType}
use Rattle.wasm_form.specs.declared.value_type.ValType.TheVariants.{I32, I64, F32, F64}
use Rattle.wasm_form.specs.declared.types.FuncType.{FuncType}
use Rattle.wasm_form.specs.declared.body.LocalRun.{LocalRun}
use Rattle.wasm_form.specs.declared.instr.Instr.{Instr}
use Rattle.wasm_form.specs.declared.parts.Import.{Import}
use Rattle.wasm_form.specs.declared.parts.Parts.{Parts}
use Rattle.wasm_form.specs.Context.{context_of}
use Rattle.wasm_form.specs.Typing.{arrow, Applies, IsCall, IsCallIndirect}
use Rattle.tree_machine.specs.Instructions.{Plain, plain_of}
use Rattle.tree_machine.specs.Functions.{Function, Callee, Own, Host, type_of, imported_functions, host_call, imported_callee, own_function, owned, callee_of, same_value_type, same_type}
use Rattle.tree_machine.specs.Config.{Frame, Config, frame_of, with_frames, with_operands}
use Rattle.tree_machine.specs.Outcomes.{Goes, Traps, Exceeds, Stuck}
use Rattle.tree_machine.specs.Limits.{most_frames}
use Rattle.tree_machine.specs.Calls.{invoke, call, call_typed, call_element, call_indirect}
use Rattle.tree_machine.specs.Step.{execute_plain, execute}
use Rattle.tree_machine.specs.Typed.{AreValues, ContsTyped, with_labels, FrameTyped, FramesTyped, IsTyped, IsTypedModule, IsKept}
use Rattle.tree_machine.proofs.Values.{values_split, values_reverse}
use Rattle.tree_machine.proofs.ExitsTyped.{with_typed, entered_typed}
use Rattle.tree_machine.proofs.BranchTyped.{LaterTyped}
use Rattle.tree_machine.proofs.PlainOf.{plain_call, plain_call_indirect}
use Rattle.tree_machine.proofs.StraightTyped.{applies_to}
use Rattle.tree_machine.proofs.InstrTyped.{kept_if}

host_not_own : (t : Option FuncType) (r : Option Row) (function : Function) → host_call t r ≢ Some (Own function)
host_not_own (Some t) (Some r) function e = absurd (cc)
host_not_own (Some t) None function e = absurd (cc)
host_not_own None r function e = absurd (cc)

imported_not_own : (m : Parts) (i : Option Import) (function : Function) → option_and_then (imported_callee m) i ≢ Some (Own function)
imported_not_own m None function e = absurd (cc)
imported_not_own m (Some i) function e = host_not_own _ _ function e

owned_is : (o : Option Function) (function : Function) → owned o ≡ Some (Own function) → o ≡ Some function
owned_is None function e = absurd (cc)
owned_is (Some g) function e = cc

own_if : (m : Parts) (b : Bool) (i : Option Import) (o : Option Function) (function : Function) →
    (if b then option_and_then (imported_callee m) i else owned o) ≡ Some (Own function) → o ≡ Some function
own_if m true i o function e = absurd (imported_not_own m i function e)
own_if m false i o function e = owned_is o function e

-- a function of the module that is called is one that the module defines
pub own_is : (m : Parts) (index : ℕ) (function : Function) → callee_of m index ≡ Some (Own function) → own_function m index ≡ Some function
unfolding callee_of
own_is m index function e =
    own_if m (nat_lt index (length (imported_functions m))) (slice_get (imported_functions m) index) (own_function m index) function e

same_value : (t u : ValType) → same_value_type t u ≡ true → t ≡ u
same_value I32 I32 e = refl
same_value I64 I64 e = refl
same_value F32 F32 e = refl
same_value F64 F64 e = refl
same_value I32 I64 e = absurd (cc)
same_value I32 F32 e = absurd (cc)
same_value I32 F64 e = absurd (cc)
same_value I64 I32 e = absurd (cc)
same_value I64 F32 e = absurd (cc)
same_value I64 F64 e = absurd (cc)
same_value F32 I32 e = absurd (cc)
same_value F32 I64 e = absurd (cc)
same_value F32 F64 e = absurd (cc)
same_value F64 I32 e = absurd (cc)
same_value F64 I64 e = absurd (cc)
same_value F64 F32 e = absurd (cc)

both : (a b : Bool) → (a && b) ≡ true → (a ≡ true) × (b ≡ true)
both true true e = (refl, refl)
both true false e = absurd (cc)
both false b e = absurd (cc)

pub same_values : (ts us : List ValType) → pointwise same_value_type ts us ≡ true → ts ≡ us
same_values [] [] e = refl
same_values [] (u ∷ us) e = absurd (cc)
same_values (t ∷ ts) [] e = absurd (cc)
same_values (t ∷ ts) (u ∷ us) e =
    let two = both (same_value_type t u) (pointwise same_value_type ts us) e in
    let head : t ≡ u = same_value t u two.0 in
    let tail : ts ≡ us = same_values ts us two.1 in
    cc

module _ (m : Parts) (module_typed : IsTypedModule m) (ty : FuncType) (runs : List LocalRun) (labels : List (List ValType)) (c : Config) (f : Frame)
    (below : List Frame) (before after : List ValType) (is : IsTyped m [] c) (rest : FramesTyped m (reverse ty.results) below)
    (later : LaterTyped m ty runs labels f after) (operands : AreValues before f.operands) where
  -- the frame of the caller waits for the results
  caller_typed : (results b : List ValType) (values : List ℕ) → after ≡ reverse results ++ b → AreValues b values →
      FrameTyped m (reverse results) (with_operands values f) ty
  caller_typed results b values e h =
      record {
        runs = runs;
        labels = labels;
        stack = b;
        locals = later.locals;
        operands = h;
        conts = subst (λ (s : List ValType). ContsTyped (context_of m ty runs) labels f.conts s) e later.conts;
      }

  invoke_kept : (index : ℕ) (callee : Callee) (arguments : List ℕ) (b : List ValType) (values : List ℕ) → callee_of m index ≡ Some callee →
      after ≡ reverse (type_of callee).results ++ b → AreValues b values → AreValues (type_of callee).params arguments →
      IsKept m (invoke callee arguments c (with_operands values f ∷ below))
  invoke_kept index (Own function) arguments b values found e h args =
      kept_if m (nat_le (length (with_operands values f ∷ below) + 1) most_frames)
      (Goes (with_frames (frame_of function arguments ∷ with_operands values f ∷ below) c)) (Exceeds limit.Frames)
      (λ room. with_typed m [] [] c (frame_of function arguments ∷ with_operands values f ∷ below) is (
        function.ty,
        entered_typed m function arguments (module_typed.functions index function (own_is m index function found)) args,
        (ty, caller_typed function.ty.results b values e h, rest),
      )) tt
  invoke_kept index (Host host_ty number) arguments b values found e h args = (
    index,
    host_ty,
    found,
    refl,
    with_typed m [] (reverse host_ty.results) c (with_operands values f ∷ below) is (ty, caller_typed host_ty.results b values e h, rest),
  )

  call_known : (index : ℕ) (callee : Callee) (b : List ValType) (values : List ℕ) → callee_of m index ≡ Some callee →
      after ≡ reverse (type_of callee).results ++ b → AreValues (reverse (type_of callee).params ++ b) values →
      IsKept m (call (Some callee) values c f below)
  call_known index callee b values found e h =
      let params = (type_of callee).params in
      let split = values_split (reverse params) b values h in
      let count : length (reverse params) ≡ length params = length-reverse params in
      let enough : length (reverse params) ≤ length values = split.enough in
      let test : nat_le (length params) (length values) ≡ true = grind (arith, nat_tests) in
      let first : AreValues (reverse params) (take (length params) values) =
      subst (λ (n : ℕ). AreValues (reverse params) (take n values)) count split.first in
      let others : AreValues b (drop (length params) values) = subst (λ (n : ℕ). AreValues b (drop n values)) count split.others in
      let args : AreValues params (reverse (take (length params) values)) =
      subst (λ (ts : List ValType). AreValues ts (reverse (take (length params) values))) (reverse-reverse params)
      (values_reverse (reverse params) (take (length params) values) first) in
      subst (λ (yes : Bool). IsKept m (cond yes (invoke callee (reverse (take (length params) values)) c (with_operands (drop (length params) values) f ∷ below)) Stuck))
      (sym test)
      (invoke_kept index callee (reverse (take (length params) values)) b (drop (length params) values) found e others args)

  taken : (b : List ValType) → before ≡ b → AreValues b f.operands
  taken b e = subst (λ (s : List ValType). AreValues s f.operands) e operands

  pub call_kept : (i : Instr) (known : FuncType) → IsCall (with_labels labels (context_of m ty runs)) i known → Applies known before after →
      IsKept m (execute m (plain_of i) c f below)
  unfolding execute_plain
  call_kept i known (function, code, index, is_type) applies =
      let callee = module_typed.callees function is_type.0 known is_type.1 is_type.2 in
      let params : before ≡ reverse (type_of callee.0).params ++ applies.0 =
      applies.1 ∙ ap (λ (t : FuncType). reverse t.params ++ applies.0) (sym callee.2) in
      let results : after ≡ reverse (type_of callee.0).results ++ applies.0 =
      applies.2 ∙ ap (λ (t : FuncType). reverse t.results ++ applies.0) (sym callee.2) in
      subst (λ (o : Option Plain). IsKept m (execute m o c f below)) (sym (plain_call i function code index))
      (subst (λ (o : Option Callee). IsKept m (call o f.operands c f below)) (sym callee.1)
      (call_known function callee.0 applies.0 f.operands callee.1 results (taken (reverse (type_of callee.0).params ++ applies.0) params)))

  element_kept : (x : ℕ) (known : FuncType) (b : List ValType) (place : ℕ) (element : Option (Option ℕ)) (values : List ℕ) →
      slice_get c.table place ≡ element → slice_get m.types x ≡ Some known → after ≡ reverse known.results ++ b →
      AreValues (reverse known.params ++ b) values → IsKept m (call_element m x element values c f below)
  element_kept x known b place None values at type_is e h = tt
  element_kept x known b place (Some None) values at type_is e h = tt
  element_kept x known b place (Some (Some function)) values at type_is e h =
      let callee = is.table place function at in
      subst (λ (t : Option FuncType). IsKept m (call_typed t (callee_of m function) values c f below)) (sym type_is)
      (subst (λ (o : Option Callee). IsKept m (call_typed (Some known) o values c f below)) (sym callee.1)
      (kept_if m (same_type (type_of callee.0) known) (call (Some callee.0) values c f below) (Traps traps.WrongType)
      (λ same.
      let two = both (pointwise same_value_type (type_of callee.0).params known.params) (pointwise same_value_type (type_of callee.0).results known.results) same in
      let params = same_values (type_of callee.0).params known.params two.0 in
      let results = same_values (type_of callee.0).results known.results two.1 in
      call_known function callee.0 b values callee.1 (e ∙ ap (λ (ts : List ValType). reverse ts ++ b) (sym results))
      (subst (λ (ts : List ValType). AreValues (reverse ts ++ b) values) (sym params) h))
      tt))

  indirect_kept : (x : ℕ) (known : FuncType) (b : List ValType) (values : List ℕ) → slice_get m.types x ≡ Some known →
      after ≡ reverse known.results ++ b → AreValues (I32 ∷ (reverse known.params ++ b)) values → IsKept m (call_indirect m x values c f below)
  indirect_kept x known b [] type_is e h = absurd h
  indirect_kept x known b (place ∷ values) type_is e h = element_kept x known b place (slice_get c.table place) values refl type_is e h.1

  pub call_indirect_kept : (i : Instr) (known : FuncType) → IsCallIndirect (with_labels labels (context_of m ty runs)) i known → Applies known before after →
      IsKept m (execute m (plain_of i) c f below)
  unfolding execute_plain
  call_indirect_kept i known (x, callee, code, index, there, type_is, e) applies =
      let moved = applies_to known (arrow (callee.params ++ I32 ∷ []) callee.results) before after e applies in
      subst (λ (o : Option Plain). IsKept m (execute m o c f below)) (sym (plain_call_indirect i x code index))
      (indirect_kept x callee moved.0 f.operands type_is moved.2
      (taken (I32 ∷ (reverse callee.params ++ moved.0)) (moved.1 ∙ ap (λ (s : List ValType). s ++ moved.0) (reverse-append callee.params (I32 ∷ [])))))
