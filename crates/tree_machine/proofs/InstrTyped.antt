-- Variables, memory and control keep a configuration typed.
use Rattle.std.proofs.Common.{◌≡◌, ◌≤◌, ◌<◌, ℕ, zero, suc, pred, ◌+◌, inl, inr, ◌||◌, not, lit<, Bool, true, false, cond, nat_le, nat_lt, nat_eq, All, List, [], ◌∷◌, ◌++◌, length, map, reverse, slice_get, slice_set, slice_range, slice_index_or, Option, Some, None, arith, refl, sym, ◌∙◌, ap, subst, append-nil}
use Rattle.std.proofs.lemmas.Bool.Decides.{nat_tests}
use Rattle.std.proofs.lemmas.List.{reverse-append, reverse-reverse}
use Rattle.std.proofs.lemmas.List.Elements.{All-head, All-tail}
use Rattle.wasm_ops.specs.declared.instruction.Kind.{Kind}
use Rattle.wasm_ops.specs.declared.instruction.Kind.TheVariants as kinds
use Rattle.wasm_ops.specs.declared.trap.Trap.TheVariants as traps
use Rattle.wasm_ops.specs.Table.{kind_of, takes_one, takes_i64, gives_i64, moves_i64, num_if, width_of}
use Rattle.linear_memory.specs.Bytes.{low_bytes, written}
use Rattle.linear_memory.specs.Contents.{Contents}
use Rattle.wasm_form.specs.declared.value_type.ValType.{ValType}
use Rattle.wasm_form.specs.declared.value_type.ValType.TheVariants.{I32}
use Rattle.wasm_form.specs.declared.types.FuncType.{FuncType}
use Rattle.wasm_form.specs.declared.types.GlobalType.{GlobalType}
use Rattle.wasm_form.specs.declared.body.LocalRun.{LocalRun}
use Rattle.wasm_form.specs.declared.instr.Instr.{Instr}
use Rattle.wasm_form.specs.declared.instr.Imm.{Imm}
use Rattle.wasm_form.specs.declared.parts.Parts.{Parts}
use Rattle.wasm_form.specs.Context.{Context, memories_of, globals_of, context_of}
use Rattle.wasm_form.specs.Typing.{arrow, Applies, value_type, IsLocal, IsGlobal, IsAccess, IsMemorySize, IsBranchIf, Leaves, TableLeaves, EndsIn}
use Rattle.tree_machine.specs.Instructions.{Plain, plain_of, access_of}
use Rattle.tree_machine.specs.Instructions as op
use Rattle.tree_machine.specs.Config.{Label, Leave, Again, Cont, Frame, Config, with_frames, with_operands}
use Rattle.tree_machine.specs.Outcomes.{Effect, Gives, Fails, Undefined, Outcome, Goes, Traps, Stuck, to_frame, to_operands}
use Rattle.tree_machine.specs.Variables.{push_value, set_local, local_set, local_tee, global_set}
use Rattle.tree_machine.specs.MemoryAccess.{load, load_from, store_at, store, extended}
use Rattle.tree_machine.specs.MemorySize.{pages_in, size_of, minus_one, grown, grow}
use Rattle.tree_machine.specs.Control.{branch, branch_if, branch_table, return_from}
use Rattle.tree_machine.specs.Step.{execute_plain, execute}
use Rattle.tree_machine.specs.Typed.{IsValue, AreValues, ContsTyped, with_labels, LabelTyped, FramesTyped, IsTypedMemory, MemoryTyped, IsTyped, IsKept}
use Rattle.tree_machine.proofs.Values.{as_many, value_at, values_set, place_below}
use Rattle.tree_machine.proofs.ExitsTyped.{with_typed}
use Rattle.tree_machine.proofs.BranchTyped.{IsFrameKept, LaterTyped, with_values, branch_keeps}
use Rattle.tree_machine.proofs.PlainOf.{load_within, store_within, plain_access, plain_local_get, plain_local_set, plain_local_tee, plain_global_get, plain_global_set, plain_size, plain_grow, plain_nop, plain_br, plain_br_if, plain_return, plain_unreachable}
use Rattle.tree_machine.proofs.MemoryTyped.{loaded_value, stored_typed, pages_value, grown_typed}
use Rattle.tree_machine.proofs.OperationsTyped.{all_to, each_to}
use Rattle.tree_machine.proofs.StraightTyped.{OperandsKept, IsStraight, listed_by, listed_is, applies_to}

pub kept_if : (m : Parts) (b : Bool) (x y : Outcome) → (b ≡ true → IsKept m x) → IsKept m y → IsKept m (cond b x y)
kept_if m true x y one two = one refl
kept_if m false x y one two = two

frame_if : (m : Parts) (ty : FuncType) (b : Bool) (x y : Effect Frame) → IsFrameKept m ty x → IsFrameKept m ty y → IsFrameKept m ty (cond b x y)
frame_if m ty true x y one two = one
frame_if m ty false x y one two = two

operands_if : (s : List ValType) (b : Bool) (x y : Effect (List ℕ)) → (b ≡ true → OperandsKept s x) → OperandsKept s y → OperandsKept s (cond b x y)
operands_if s true x y one two = one refl
operands_if s false x y one two = two

memory_there : (m : Parts) (o : Option Contents) → MemoryTyped m o → 0 < length (memories_of m) →
    (memory : Contents) × (o ≡ Some memory) × IsTypedMemory memory
memory_there m None h some = absurd (h some)
memory_there m (Some memory) h some = (memory, refl, h)

type_at : (gs : List GlobalType) (x : ℕ) (g : GlobalType) → slice_get gs x ≡ Some g → slice_get (map (λ (g : GlobalType). g.ty) gs) x ≡ Some g.ty
type_at [] x g e = absurd (cc)
type_at (h ∷ gs) zero g e = let same : h ≡ g = cc in ap (λ (x : GlobalType). Some x.ty) same
type_at (h ∷ gs) (suc x) g e = type_at gs x g e

load_kept : (code offset : ℕ) (memory : Contents) (b : List ValType) (operands : List ℕ) → kind_of code ≡ kinds.Load → IsTypedMemory memory →
    AreValues (I32 ∷ b) operands → OperandsKept (value_type (num_if (moves_i64 code)) ∷ b) (load code offset memory.bytes operands)
load_kept code offset memory b [] kind is h = absurd h
load_kept code offset memory b (address ∷ below) kind is h =
    operands_if (value_type (num_if (moves_i64 code)) ∷ b) (nat_le (address + offset + width_of code) (length memory.bytes))
    (Gives (extended code (slice_range memory.bytes (address + offset) (address + offset + width_of code)) ∷ below)) (Fails traps.Bounds)
    (λ e. (loaded_value code (address + offset) memory.bytes kind is.octets (grind (arith, nat_tests)), h.1)) tt

abbrev is_store : Kind → Bool
is_store kinds.Store = true
is_store kinds.Plain = false
is_store kinds.Control = false
is_store kinds.Load = false
is_store kinds.Float = false

-- a store takes two operands
abbrev two : ℕ → Bool
two c = not (is_store (kind_of c)) || not (takes_one c)

all_two : all_to two 64 ≡ true
all_two = refl

not_one : (a b : Bool) → (not a || not b) ≡ true → a ≡ true → b ≡ false
not_one true true e h = absurd (cc)
not_one true false e h = refl
not_one false b e h = absurd (cc)

store_takes_two : (c : ℕ) → kind_of c ≡ kinds.Store → takes_one c ≡ false
store_takes_two c kind =
    let below : c ≤ 0x3E = (store_within c kind).1 in
    not_one (is_store (kind_of c)) (takes_one c) (each_to two 64 c all_two (omega arith)) (ap is_store kind)

-- what a branch to one of these labels, or to the last, leads to
labelled : (P : ℕ → Type 0) (labels : List ℕ) (n last : ℕ) → All P labels → P last → P (slice_index_or labels n last)
labelled P [] n last each h = h
labelled P (label ∷ labels) zero last each h = All-head P label labels each
labelled P (label ∷ labels) (suc n) last each h = labelled P labels n last (All-tail P label labels each) h

carried_is : (context : Context) (carried ends below : List ValType) (l : Label) → LabelTyped context l carried ends [] → below ≡ [] →
    ends ++ below ≡ reverse context.results → Some carried ≡ Some context.results
carried_is context carried ends below (Leave results) label none all =
    let whole : reverse carried ≡ reverse context.results =
    sym label.1 ∙ sym (append-nil ends) ∙ ap (λ (b : List ValType). ends ++ b) (sym none) ∙ all in
    ap (λ (x : List ValType). Some x) (sym (reverse-reverse carried) ∙ ap reverse whole ∙ reverse-reverse context.results)
carried_is context carried ends below (Again result inside) label none all = absurd label

-- the outermost label carries the results
outermost_label : (context : Context) (labels : List (List ValType)) (k : Cont) (ks : List Cont) (stack : List ValType) →
    ContsTyped context labels (k ∷ ks) stack → slice_get labels (length ks) ≡ Some context.results
outermost_label context [] k ks stack c = absurd c
outermost_label context (carried ∷ []) k (l ∷ ks) stack c = absurd c.3
outermost_label context (carried ∷ []) k [] stack c = carried_is context carried c.0 c.1 k.label c.2.label (c.2.outermost refl) c.3
outermost_label context (carried ∷ a ∷ around) k [] stack c = absurd c.3
outermost_label context (carried ∷ a ∷ around) k (l ∷ ks) stack c = outermost_label context (a ∷ around) l ks (c.0 ++ c.1) c.3

-- a frame at an instruction that was taken from its innermost list, which is to go on from the stack `after`
module _ (m : Parts) (ty : FuncType) (runs : List LocalRun) (labels : List (List ValType)) (c : Config) (f : Frame) (below : List Frame)
    (before after : List ValType) (is : IsTyped m [] c) (rest : FramesTyped m (reverse ty.results) below)
    (later : LaterTyped m ty runs labels f after) (operands : AreValues before f.operands) where
  pub frame_kept : (e : Effect Frame) → IsFrameKept m ty e → IsKept m (to_frame c below e)
  frame_kept (Gives g) h = with_typed m [] [] c (g ∷ below) is (ty, h, rest)
  frame_kept (Fails trap) h = tt
  frame_kept Undefined h = absurd h

  operands_kept : (e : Effect (List ℕ)) → OperandsKept after e → IsKept m (to_operands c f below e)
  operands_kept (Gives values) h = with_typed m [] [] c (with_operands values f ∷ below) is (ty, with_values m ty runs labels f after values later h, rest)
  operands_kept (Fails trap) h = tt
  operands_kept Undefined h = absurd h

  pub straight_kept : (i : Instr) → IsStraight m i c f below after → IsKept m (execute m (plain_of i) c f below)
  straight_kept i s = subst (λ (o : Outcome). IsKept m o) (sym s.runs) (operands_kept s.effect s.kept)

  by_frame : (i : Instr) (e : Effect Frame) → execute m (plain_of i) c f below ≡ to_frame c below e → IsFrameKept m ty e →
      IsKept m (execute m (plain_of i) c f below)
  by_frame i e runs_so h = subst (λ (o : Outcome). IsKept m o) (sym runs_so) (frame_kept e h)

  set_kept : (x n : ℕ) (t : ValType) (values : List ℕ) → slice_get (context_of m ty runs).locals x ≡ Some t → IsValue t n → AreValues after values →
      IsFrameKept m ty (set_local x n values f)
  set_kept x n t values place value h =
      let less : x < length (context_of m ty runs).locals = place_below (context_of m ty runs).locals x t place in
      let count : length f.locals ≡ length (context_of m ty runs).locals = as_many (context_of m ty runs).locals f.locals later.locals in
      let test : nat_lt x (length f.locals) ≡ true = grind (arith, nat_tests) in
      subst (λ (b : Bool). IsFrameKept m ty (cond b (Gives (record f { locals = slice_set f.locals x n; operands = values })) Undefined)) (sym test)
      (record {
        runs = runs;
        labels = labels;
        stack = after;
        locals = values_set (context_of m ty runs).locals f.locals x n t later.locals place value;
        operands = h;
        conts = later.conts;
      })

  set_local_kept : (x : ℕ) (t : ValType) (b : List ValType) (values : List ℕ) → slice_get (context_of m ty runs).locals x ≡ Some t →
      after ≡ b → AreValues (t ∷ b) values → IsFrameKept m ty (local_set x values f)
  set_local_kept x t b [] place e h = absurd h
  set_local_kept x t b (n ∷ values) place e h = set_kept x n t values place h.0 (subst (λ (s : List ValType). AreValues s values) (sym e) h.1)

  tee_local_kept : (x : ℕ) (t : ValType) (b : List ValType) (values : List ℕ) → slice_get (context_of m ty runs).locals x ≡ Some t →
      after ≡ t ∷ b → AreValues (t ∷ b) values → IsFrameKept m ty (local_tee x values f)
  tee_local_kept x t b [] place e h = absurd h
  tee_local_kept x t b (n ∷ values) place e h =
      set_kept x n t (n ∷ values) place h.0 (subst (λ (s : List ValType). AreValues s (n ∷ values)) (sym e) h)

  taken : (b : List ValType) → before ≡ b → AreValues b f.operands
  taken b e = subst (λ (s : List ValType). AreValues s f.operands) e operands

  pub local_kept : (i : Instr) (known : FuncType) → IsLocal (with_labels labels (context_of m ty runs)) i known → Applies known before after →
      IsKept m (execute m (plain_of i) c f below)
  unfolding execute_plain
  local_kept i known (x, t, index, place, inl (code, e)) applies =
      let moved = applies_to known (arrow [] (t ∷ [])) before after e applies in
      let value = value_at (context_of m ty runs).locals f.locals x t later.locals place in
      straight_kept i (record {
        effect = push_value (slice_get f.locals x) f.operands;
        runs = ap (λ (o : Option Plain). execute m o c f below) (plain_local_get i x code index);
        kept = subst (λ (s : List ValType). OperandsKept s (push_value (slice_get f.locals x) f.operands)) (sym moved.2)
            (subst (λ (o : Option ℕ). OperandsKept (t ∷ moved.0) (push_value o f.operands)) (sym value.1) (value.2, taken moved.0 moved.1));
      })
  local_kept i known (x, t, index, place, inr (inl (code, e))) applies =
      let moved = applies_to known (arrow (t ∷ []) []) before after e applies in
      by_frame i (local_set x f.operands f) (ap (λ (o : Option Plain). execute m o c f below) (plain_local_set i x code index))
      (set_local_kept x t moved.0 f.operands place moved.2 (taken (t ∷ moved.0) moved.1))
  local_kept i known (x, t, index, place, inr (inr (code, e))) applies =
      let moved = applies_to known (arrow (t ∷ []) (t ∷ [])) before after e applies in
      by_frame i (local_tee x f.operands f) (ap (λ (o : Option Plain). execute m o c f below) (plain_local_tee i x code index))
      (tee_local_kept x t moved.0 f.operands place moved.2 (taken (t ∷ moved.0) moved.1))

  set_global_kept : (x : ℕ) (t : ValType) (b : List ValType) (values : List ℕ) →
      slice_get (map (λ (g : GlobalType). g.ty) (globals_of m)) x ≡ Some t → after ≡ b → AreValues (t ∷ b) values → IsKept m (global_set x values c f below)
  set_global_kept x t b [] place e h = absurd h
  set_global_kept x t b (n ∷ values) place e h =
      let types = map (λ (g : GlobalType). g.ty) (globals_of m) in
      let less : x < length types = place_below types x t place in
      let count : length c.globals ≡ length types = as_many types c.globals is.globals in
      let test : nat_lt x (length c.globals) ≡ true = grind (arith, nat_tests) in
      subst (λ (b : Bool). IsKept m (cond b (Goes (record c { globals = slice_set c.globals x n; frames = with_operands values f ∷ below })) Stuck)) (sym test)
      (record {
        globals = values_set types c.globals x n t is.globals place h.0;
        table = is.table;
        memory = is.memory;
        invocations = is.invocations;
        frames = (ty, with_values m ty runs labels f after values later (subst (λ (s : List ValType). AreValues s values) (sym e) h.1), rest);
      })

  pub global_kept : (i : Instr) (known : FuncType) → IsGlobal (with_labels labels (context_of m ty runs)) i known → Applies known before after →
      IsKept m (execute m (plain_of i) c f below)
  unfolding execute_plain
  global_kept i known (x, g, index, place, inl (code, e)) applies =
      let moved = applies_to known (arrow [] (g.ty ∷ [])) before after e applies in
      let value = value_at (map (λ (g : GlobalType). g.ty) (globals_of m)) c.globals x g.ty is.globals (type_at (globals_of m) x g place) in
      straight_kept i (record {
        effect = push_value (slice_get c.globals x) f.operands;
        runs = ap (λ (o : Option Plain). execute m o c f below) (plain_global_get i x code index);
        kept = subst (λ (s : List ValType). OperandsKept s (push_value (slice_get c.globals x) f.operands)) (sym moved.2)
            (subst (λ (o : Option ℕ). OperandsKept (g.ty ∷ moved.0) (push_value o f.operands)) (sym value.1) (value.2, taken moved.0 moved.1));
      })
  global_kept i known (x, g, index, place, inr (code, mutable, e)) applies =
      let moved = applies_to known (arrow (g.ty ∷ []) []) before after e applies in
      subst (λ (o : Option Plain). IsKept m (execute m o c f below)) (sym (plain_global_set i x code index))
      (set_global_kept x g.ty moved.0 f.operands (type_at (globals_of m) x g place) moved.2 (taken (g.ty ∷ moved.0) moved.1))

  stored_kept : (code at value : ℕ) (b : List ValType) (memory : Contents) (values : List ℕ) → IsTypedMemory memory → after ≡ b → AreValues b values →
      IsKept m (store_at code at value memory c (with_operands values f ∷ below))
  stored_kept code at value b memory values typed e h =
      kept_if m (nat_le (at + width_of code) (length memory.bytes))
      (Goes (record c {
        memory = Some (record memory { bytes = written memory.bytes at (low_bytes (width_of code) value) });
        frames = with_operands values f ∷ below;
      }))
      (Traps traps.Bounds)
      (λ fits. record {
        globals = is.globals;
        table = is.table;
        memory = stored_typed memory at (width_of code) value typed (grind (arith, nat_tests));
        invocations = is.invocations;
        frames = (ty, with_values m ty runs labels f after values later (subst (λ (s : List ValType). AreValues s values) (sym e) h), rest);
      }) tt

  store_kept : (code offset : ℕ) (t : ValType) (b : List ValType) (memory : Contents) (values : List ℕ) → IsTypedMemory memory → after ≡ b →
      AreValues (t ∷ I32 ∷ b) values → IsKept m (store code offset (Some memory) values c f below)
  store_kept code offset t b memory [] typed e h = absurd h
  store_kept code offset t b memory (value ∷ []) typed e h = absurd h.1
  store_kept code offset t b memory (value ∷ address ∷ values) typed e h = stored_kept code (address + offset) value b memory values typed e h.1.1

  pub access_kept : (i : Instr) (known : FuncType) → IsAccess (with_labels labels (context_of m ty runs)) i known → Applies known before after →
      IsKept m (execute m (plain_of i) c f below)
  unfolding execute_plain
  access_kept i known (align, offset, numbers, aligned, there, inl kind, e) applies =
      let moved = applies_to known (listed_by kinds.Load (takes_one i.code) (num_if (takes_i64 i.code)) (num_if (gives_i64 i.code)) (num_if (moves_i64 i.code)))
      before after (e ∙ listed_is i.code kinds.Load (takes_one i.code) kind refl) applies in
      let memory = memory_there m c.memory is.memory there in
      let within = load_within i.code kind in
      let from : 0x28 ≤ i.code = within.0 in
      let to : i.code ≤ 0x35 = within.1 in
      let plain : plain_of i ≡ Some (op.Load i.code offset) =
      plain_access i from (omega arith) ∙ ap (λ (k : Kind). access_of k i.code i.imm) kind ∙ ap (λ (j : Imm). access_of kinds.Load i.code j) numbers in
      straight_kept i (record {
        effect = load_from i.code offset c.memory f.operands;
        runs = ap (λ (o : Option Plain). execute m o c f below) plain;
        kept = subst (λ (s : List ValType). OperandsKept s (load_from i.code offset c.memory f.operands)) (sym moved.2)
            (subst (λ (o : Option Contents). OperandsKept (value_type (num_if (moves_i64 i.code)) ∷ moved.0) (load_from i.code offset o f.operands)) (sym memory.1)
            (load_kept i.code offset memory.0 moved.0 f.operands kind memory.2 (taken (I32 ∷ moved.0) moved.1)));
      })
  access_kept i known (align, offset, numbers, aligned, there, inr kind, e) applies =
      let moved = applies_to known (listed_by kinds.Store false (num_if (takes_i64 i.code)) (num_if (gives_i64 i.code)) (num_if (moves_i64 i.code)))
      before after (e ∙ listed_is i.code kinds.Store false kind (store_takes_two i.code kind)) applies in
      let memory = memory_there m c.memory is.memory there in
      let within = store_within i.code kind in
      let from : 0x36 ≤ i.code = within.0 in
      let to : i.code ≤ 0x3E = within.1 in
      let plain : plain_of i ≡ Some (op.Store i.code offset) =
      plain_access i (omega arith) to ∙ ap (λ (k : Kind). access_of k i.code i.imm) kind ∙ ap (λ (j : Imm). access_of kinds.Store i.code j) numbers in
      subst (λ (o : Option Plain). IsKept m (execute m o c f below)) (sym plain)
      (subst (λ (o : Option Contents). IsKept m (store i.code offset o f.operands c f below)) (sym memory.1)
      (store_kept i.code offset (value_type (num_if (moves_i64 i.code))) moved.0 memory.0 f.operands memory.2 moved.2
      (taken (value_type (num_if (moves_i64 i.code)) ∷ I32 ∷ moved.0) moved.1)))

  grow_kept : (b : List ValType) (memory : Contents) (values : List ℕ) → c.memory ≡ Some memory → IsTypedMemory memory → after ≡ I32 ∷ b → AreValues (I32 ∷ b) values →
      IsKept m (grow (Some memory) values c f below)
  grow_kept b memory [] there typed e h = absurd h
  grow_kept b memory (pages ∷ values) there typed e h =
      let size = pages_in memory in
      kept_if m (nat_le (size + pages) memory.most)
      (Goes (record c { memory = Some (grown pages memory); frames = with_operands (size ∷ values) f ∷ below }))
      (Goes (with_frames (with_operands (minus_one ∷ values) f ∷ below) c))
      (λ fits. record {
        globals = is.globals;
        table = is.table;
        memory = grown_typed memory pages typed (grind (arith, nat_tests));
        invocations = is.invocations;
        frames = (
          ty,
          with_values m ty runs labels f after (size ∷ values) later
              (subst (λ (s : List ValType). AreValues s (size ∷ values)) (sym e) (pages_value memory typed, h.1)),
          rest,
        );
      })
      (with_typed m [] [] c (with_operands (minus_one ∷ values) f ∷ below) is (
        ty,
        with_values m ty runs labels f after (minus_one ∷ values) later
            (subst (λ (s : List ValType). AreValues s (minus_one ∷ values)) (sym e) (lit< tt, h.1)),
        rest,
      ))

  pub size_kept : (i : Instr) (known : FuncType) → IsMemorySize (with_labels labels (context_of m ty runs)) i known → Applies known before after →
      IsKept m (execute m (plain_of i) c f below)
  unfolding execute_plain
  size_kept i known (there, inl (code, e)) applies =
      let moved = applies_to known (arrow [] (I32 ∷ [])) before after e applies in
      let memory = memory_there m c.memory is.memory there in
      straight_kept i (record {
        effect = size_of c.memory f.operands;
        runs = ap (λ (o : Option Plain). execute m o c f below) (plain_size i code);
        kept = subst (λ (s : List ValType). OperandsKept s (size_of c.memory f.operands)) (sym moved.2)
            (subst (λ (o : Option Contents). OperandsKept (I32 ∷ moved.0) (size_of o f.operands)) (sym memory.1)
            (pages_value memory.0 memory.2, taken moved.0 moved.1));
      })
  size_kept i known (there, inr (code, e)) applies =
      let moved = applies_to known (arrow (I32 ∷ []) (I32 ∷ [])) before after e applies in
      let memory = memory_there m c.memory is.memory there in
      subst (λ (o : Option Plain). IsKept m (execute m o c f below)) (sym (plain_grow i code))
      (subst (λ (o : Option Contents). IsKept m (grow o f.operands c f below)) (sym memory.1)
      (grow_kept moved.0 memory.0 f.operands memory.1 memory.2 moved.2 (taken (I32 ∷ moved.0) moved.1)))

  pub nop_kept : (i : Instr) (known : FuncType) → i.code ≡ 0x01 → known ≡ arrow [] [] → Applies known before after → IsKept m (execute m (plain_of i) c f below)
  unfolding execute_plain
  nop_kept i known code e applies =
      let moved = applies_to known (arrow [] []) before after e applies in
      by_frame i (Gives f) (ap (λ (o : Option Plain). execute m o c f below) (plain_nop i code))
      (with_values m ty runs labels f after f.operands later (subst (λ (s : List ValType). AreValues s f.operands) (sym moved.2) (taken moved.0 moved.1)))

  later_with : (values : List ℕ) → LaterTyped m ty runs labels (with_operands values f) after
  later_with values = record { locals = later.locals; conts = later.conts }

  branch_if_kept : (label : ℕ) (carried b : List ValType) (values : List ℕ) → slice_get labels label ≡ Some carried → after ≡ reverse carried ++ b →
      AreValues (I32 ∷ (reverse carried ++ b)) values → IsFrameKept m ty (branch_if label values f)
  branch_if_kept label carried b [] place e h = absurd h
  branch_if_kept label carried b (n ∷ values) place e h =
      frame_if m ty (nat_eq n 0) (Gives (with_operands values f)) (branch label (with_operands values f))
      (with_values m ty runs labels f after values later (subst (λ (s : List ValType). AreValues s values) (sym e) h.1))
      (branch_keeps m ty runs label (with_operands values f) labels after carried b (later_with values) place h.1)

  -- with a number on top
  topped : (carried b : List ValType) → before ≡ reverse (carried ++ I32 ∷ []) ++ b → AreValues (I32 ∷ (reverse carried ++ b)) f.operands
  topped carried b e =
      taken (I32 ∷ (reverse carried ++ b)) (e ∙ ap (λ (s : List ValType). s ++ b) (reverse-append carried (I32 ∷ [])))

  pub branch_if_case : (i : Instr) (known : FuncType) → IsBranchIf (with_labels labels (context_of m ty runs)) i known → Applies known before after →
      IsKept m (execute m (plain_of i) c f below)
  unfolding execute_plain
  branch_if_case i known (label, carried, code, index, place, e) applies =
      let moved = applies_to known (arrow (carried ++ I32 ∷ []) carried) before after e applies in
      by_frame i (branch_if label f.operands f) (ap (λ (o : Option Plain). execute m o c f below) (plain_br_if i label code index))
      (branch_if_kept label carried moved.0 f.operands place moved.2 (topped carried moved.0 moved.1))

  return_kept : (k : Cont) (ks : List Cont) (b : List ValType) → f.conts ≡ k ∷ ks → before ≡ reverse ty.results ++ b → IsFrameKept m ty (return_from f)
  return_kept k ks b conts e =
      let count : pred (length f.conts) ≡ length ks = ap (λ (x : List Cont). pred (length x)) conts in
      let place : slice_get labels (pred (length f.conts)) ≡ Some ty.results =
      ap (slice_get labels) count ∙ outermost_label (context_of m ty runs) labels k ks after
      (subst (λ (x : List Cont). ContsTyped (context_of m ty runs) labels x after) conts later.conts) in
      branch_keeps m ty runs (pred (length f.conts)) f labels after ty.results b later place (taken (reverse ty.results ++ b) e)

  pub leaves_kept : (i : Instr) (needs : List ValType) (k : Cont) (ks : List Cont) → f.conts ≡ k ∷ ks →
      Leaves (with_labels labels (context_of m ty runs)) i needs → EndsIn needs before → IsKept m (execute m (plain_of i) c f below)
  unfolding execute_plain
  leaves_kept i needs k ks conts (inl (code, none)) ends =
      subst (λ (o : Option Plain). IsKept m (execute m o c f below)) (sym (plain_unreachable i code)) tt
  leaves_kept i needs k ks conts (inr (inl (label, code, index, place))) ends =
      by_frame i (branch label f) (ap (λ (o : Option Plain). execute m o c f below) (plain_br i label code index))
      (branch_keeps m ty runs label f labels after needs ends.0 later place (taken (reverse needs ++ ends.0) ends.1))
  leaves_kept i needs k ks conts (inr (inr (code, results))) ends =
      by_frame i (return_from f) (ap (λ (o : Option Plain). execute m o c f below) (plain_return i code))
      (return_kept k ks ends.0 conts (ends.1 ∙ ap (λ (s : List ValType). reverse s ++ ends.0) results))

  table_kept : (table : List ℕ) (last : ℕ) (carried b : List ValType) (values : List ℕ) → slice_get labels last ≡ Some carried →
      All (λ label. slice_get labels label ≡ Some carried) table → AreValues (I32 ∷ (reverse carried ++ b)) values → IsFrameKept m ty (branch_table table last values f)
  table_kept table last carried b [] place each h = absurd h
  table_kept table last carried b (n ∷ values) place each h =
      branch_keeps m ty runs (slice_index_or table n last) (with_operands values f) labels after carried b (later_with values)
      (labelled (λ label. slice_get labels label ≡ Some carried) table n last each place) h.1

  pub branch_table_kept : (table : List ℕ) (last : ℕ) (needs : List ValType) → TableLeaves (with_labels labels (context_of m ty runs)) table last needs →
      EndsIn needs before → IsKept m (to_frame c below (branch_table table last f.operands f))
  branch_table_kept table last needs (carried, place, each, e) ends =
      frame_kept (branch_table table last f.operands f)
      (table_kept table last carried ends.0 f.operands place each
      (topped carried ends.0 (ends.1 ∙ ap (λ (s : List ValType). reverse s ++ ends.0) e)))
