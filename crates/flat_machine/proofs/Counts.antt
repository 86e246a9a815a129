-- A straight instruction that goes on changes the number of operands by what its type takes and gives.
use Rattle.std.specs.Prelude.{⊤}
use Rattle.std.proofs.Common.{◌≡◌, ◌≤◌, ℕ, suc, ◌+◌, inl, inr, Bool, true, false, cond, if◌then◌else◌, nat_le, nat_lt, List, [], ◌∷◌, length, slice_get, slice_set, slice_range, Option, Some, None, Result, Ok, Err, arith, refl, sym, ◌∙◌, ap, subst, length-append}
use Rattle.std.proofs.lemmas.List.{length-set}
use Rattle.wasm_ops.specs.declared.instruction.Kind.{Kind}
use Rattle.wasm_ops.specs.declared.instruction.Kind.TheVariants as kinds
use Rattle.wasm_ops.specs.declared.trap.Trap.{Trap}
use Rattle.wasm_ops.specs.declared.trap.Trap.TheVariants as traps
use Rattle.wasm_ops.specs.Table.{kind_of, takes_one, takes_i64, gives_i64, moves_i64, num_if, width_of}
use Rattle.wasm_ops.specs.Operations.{unary_value, binary_value}
use Rattle.linear_memory.specs.Bytes.{low_bytes, written}
use Rattle.linear_memory.specs.Contents.{Contents}
use Rattle.wasm_form.specs.declared.value_type.ValType.TheVariants.{I32}
use Rattle.wasm_form.specs.declared.types.FuncType.{FuncType}
use Rattle.wasm_form.specs.declared.instr.Instr.{Instr}
use Rattle.wasm_form.specs.declared.instr.Imm.{Imm}
use Rattle.wasm_form.specs.declared.parts.Parts.{Parts}
use Rattle.wasm_form.specs.Context.{Context, IsFunctionType}
use Rattle.wasm_form.specs.Matching.{IsPlain}
use Rattle.wasm_form.specs.Typing.{arrow, listed_type, HasType, Numeric, Parametric, Local, Global, Access, MemorySize, Nop, BranchIf, Call, CallIndirect}
use Rattle.tree_machine.specs.Instructions.{Plain, plain_of, access_of}
use Rattle.tree_machine.specs.Instructions as op
use Rattle.tree_machine.specs.Config.{Frame, Config, with_frames, with_operands}
use Rattle.tree_machine.specs.Outcomes.{Effect, Gives, Fails, Undefined, Outcome, Goes, Traps, Stuck, to_frame, to_operands}
use Rattle.tree_machine.specs.Numeric.{unary_on, unary, binary_on, binary}
use Rattle.tree_machine.specs.Parametric.{drop_one, select}
use Rattle.tree_machine.specs.Variables.{push_value, local_set, local_tee, global_set}
use Rattle.tree_machine.specs.MemoryAccess.{load_from, store, extended}
use Rattle.tree_machine.specs.MemorySize.{pages_in, size_of, minus_one, grown, grow}
use Rattle.tree_machine.specs.Step.{execute_plain}
use Rattle.tree_machine.proofs.PlainOf.{load_within, store_within, plain_numeric, plain_access, plain_i32, plain_i64, plain_nop, plain_drop, plain_select, plain_size, plain_grow, plain_br_if, plain_call, plain_call_indirect, plain_local_get, plain_local_set, plain_local_tee, plain_global_get, plain_global_set}
use Rattle.tree_machine.proofs.StraightTyped.{listed_by, listed_is}
use Rattle.flat_machine.specs.Straight.{IsStraight}
use Rattle.flat_machine.proofs.Standing.{same_some}

-- how many operands a straight instruction takes
abbrev pub pops : Plain → ℕ
pops op.Drop = 1
pops op.Select = 3
pops (op.LocalSet x) = 1
pops (op.LocalTee x) = 1
pops (op.GlobalSet x) = 1
pops (op.Load code offset) = 1
pops (op.Store code offset) = 2
pops op.MemoryGrow = 1
pops (op.Unary code) = 1
pops (op.Binary code) = 2
pops i = 0

-- how many it gives
abbrev pub pushes : Plain → ℕ
pushes op.Select = 1
pushes (op.LocalGet x) = 1
pushes (op.LocalTee x) = 1
pushes (op.GlobalGet x) = 1
pushes (op.Load code offset) = 1
pushes op.MemorySize = 1
pushes op.MemoryGrow = 1
pushes (op.Const value) = 1
pushes (op.Unary code) = 1
pushes (op.Binary code) = 1
pushes i = 0

-- the type takes and gives as many
abbrev pub CountsAs : Plain → FuncType → Type 0
CountsAs p ty = (length ty.params ≡ pops p) × (length ty.results ≡ pushes p)

counts_by : (i : Instr) (p q : Plain) (ty known : FuncType) → plain_of i ≡ Some p → plain_of i ≡ Some q → ty ≡ known → CountsAs q known → CountsAs p ty
counts_by i p q ty known e f g h =
    let same : q ≡ p = same_some (plain_of i) q p f e in
    subst (λ (x : Plain). CountsAs x ty) same (subst (λ (u : FuncType). CountsAs q u) (sym g) h)

pub never : (i : Instr) (p q : Plain) → plain_of i ≡ Some p → plain_of i ≡ Some q → IsStraight p → (IsStraight q → ⊥) → ⊥
never i p q e f is refuses = refuses (subst IsStraight (same_some (plain_of i) p q e f) is)

numeric_by : (i : Instr) (p : Plain) (ty : FuncType) (one : Bool) → plain_of i ≡ Some p → kind_of i.code ≡ kinds.Plain → takes_one i.code ≡ one → ty ≡ listed_type i.code → CountsAs p ty
numeric_by i p ty true e kind one listed =
    counts_by i p (op.Unary i.code) ty _ e
    (plain_numeric i kind ∙ ap (λ (b : Bool). Some (if b then op.Unary i.code else op.Binary i.code)) one) (listed ∙ listed_is i.code kinds.Plain true kind one) (refl, refl)
numeric_by i p ty false e kind one listed =
    counts_by i p (op.Binary i.code) ty _ e
    (plain_numeric i kind ∙ ap (λ (b : Bool). Some (if b then op.Unary i.code else op.Binary i.code)) one) (listed ∙ listed_is i.code kinds.Plain false kind one) (refl, refl)

store_by : (i : Instr) (p : Plain) (ty : FuncType) (offset : ℕ) (one : Bool) → plain_of i ≡ Some p → plain_of i ≡ Some (op.Store i.code offset) →
    ty ≡ listed_by kinds.Store one (num_if (takes_i64 i.code)) (num_if (gives_i64 i.code)) (num_if (moves_i64 i.code)) → CountsAs p ty
store_by i p ty offset true e plain known = counts_by i p (op.Store i.code offset) ty _ e plain known (refl, refl)
store_by i p ty offset false e plain known = counts_by i p (op.Store i.code offset) ty _ e plain known (refl, refl)

pub type_counts : (context : Context) (i : Instr) (p : Plain) (ty : FuncType) → plain_of i ≡ Some p → IsStraight p → IsPlain i → HasType context i ty → CountsAs p ty
type_counts context i p ty e is plain (Numeric (inr (kind, listed))) = numeric_by i p ty (takes_one i.code) e kind refl listed
type_counts context i p ty e is plain (Numeric (inl (t, inl (code, t_is), known))) =
    let c = plain_i32 i plain code in counts_by i p (op.Const c.0) ty (arrow [] (t ∷ [])) e c.2 known (refl, refl)
type_counts context i p ty e is plain (Numeric (inl (t, inr (code, t_is), known))) =
    let c = plain_i64 i plain code in counts_by i p (op.Const c.0) ty (arrow [] (t ∷ [])) e c.2 known (refl, refl)
type_counts context i p ty e is plain (Parametric (inl (t, code, known))) =
    counts_by i p op.Drop ty (arrow (t ∷ []) []) e (plain_drop i code) known (refl, refl)
type_counts context i p ty e is plain (Parametric (inr (t, code, known))) =
    counts_by i p op.Select ty (arrow (t ∷ t ∷ I32 ∷ []) (t ∷ [])) e (plain_select i code) known (refl, refl)
type_counts context i p ty e is plain (Local (x, t, index, place, inl (code, known))) =
    counts_by i p (op.LocalGet x) ty (arrow [] (t ∷ [])) e (plain_local_get i x code index) known (refl, refl)
type_counts context i p ty e is plain (Local (x, t, index, place, inr (inl (code, known)))) =
    counts_by i p (op.LocalSet x) ty (arrow (t ∷ []) []) e (plain_local_set i x code index) known (refl, refl)
type_counts context i p ty e is plain (Local (x, t, index, place, inr (inr (code, known)))) =
    counts_by i p (op.LocalTee x) ty (arrow (t ∷ []) (t ∷ [])) e (plain_local_tee i x code index) known (refl, refl)
type_counts context i p ty e is plain (Global (x, g, index, place, inl (code, known))) =
    counts_by i p (op.GlobalGet x) ty (arrow [] (g.ty ∷ [])) e (plain_global_get i x code index) known (refl, refl)
type_counts context i p ty e is plain (Global (x, g, index, place, inr (code, mutable, known))) =
    counts_by i p (op.GlobalSet x) ty (arrow (g.ty ∷ []) []) e (plain_global_set i x code index) known (refl, refl)
type_counts context i p ty e is plain (Access (align, offset, numbers, aligned, there, inl kind, known)) =
    let within = load_within i.code kind in
    let from : 0x28 ≤ i.code = within.0 in
    let to : i.code ≤ 0x35 = within.1 in
    counts_by i p (op.Load i.code offset) ty _ e
    (plain_access i from (omega arith) ∙ ap (λ (k : Kind). access_of k i.code i.imm) kind ∙ ap (λ (j : Imm). access_of kinds.Load i.code j) numbers)
    (known ∙ listed_is i.code kinds.Load (takes_one i.code) kind refl) (refl, refl)
type_counts context i p ty e is plain (Access (align, offset, numbers, aligned, there, inr kind, known)) =
    let within = store_within i.code kind in
    let from : 0x36 ≤ i.code = within.0 in
    let to : i.code ≤ 0x3E = within.1 in
    store_by i p ty offset (takes_one i.code) e
    (plain_access i (omega arith) to ∙ ap (λ (k : Kind). access_of k i.code i.imm) kind ∙ ap (λ (j : Imm). access_of kinds.Store i.code j) numbers)
    (known ∙ listed_is i.code kinds.Store (takes_one i.code) kind refl)
type_counts context i p ty e is plain (MemorySize (there, inl (code, known))) =
    counts_by i p op.MemorySize ty (arrow [] (I32 ∷ [])) e (plain_size i code) known (refl, refl)
type_counts context i p ty e is plain (MemorySize (there, inr (code, known))) =
    counts_by i p op.MemoryGrow ty (arrow (I32 ∷ []) (I32 ∷ [])) e (plain_grow i code) known (refl, refl)
type_counts context i p ty e is plain (Nop code known) = counts_by i p op.Nop ty (arrow [] []) e (plain_nop i code) known (refl, refl)
type_counts context i p ty e is plain (BranchIf (label, carried, code, index, place, known)) =
    absurd (never i p (op.BrIf label) e (plain_br_if i label code index) is (λ w. w))
type_counts context i p ty e is plain (Call (function, code, index, known)) =
    absurd (never i p (op.Call function) e (plain_call i function code index) is (λ w. w))
type_counts context i p ty e is plain (CallIndirect (x, callee, code, index, there, place, known)) =
    absurd (never i p (op.CallIndirect x) e (plain_call_indirect i x code index) is (λ w. w))

-- the instruction is no br_if
abbrev NotIf : Plain → Type 0
NotIf (op.BrIf label) = ⊥
NotIf i = ⊤

not_if : (i : Instr) (l : ℕ) (q : Plain) → plain_of i ≡ Some (op.BrIf l) → plain_of i ≡ Some q → NotIf q → ⊥
not_if i l q e f h = subst NotIf (same_some (plain_of i) q (op.BrIf l) f e) h

numeric_not_if : (i : Instr) (l : ℕ) (one : Bool) → plain_of i ≡ Some (op.BrIf l) → plain_of i ≡ Some (if one then op.Unary i.code else op.Binary i.code) → ⊥
numeric_not_if i l true e f = not_if i l (op.Unary i.code) e f tt
numeric_not_if i l false e f = not_if i l (op.Binary i.code) e f tt

-- br_if takes one operand more than it gives
pub if_counts : (context : Context) (i : Instr) (l : ℕ) (ty : FuncType) → plain_of i ≡ Some (op.BrIf l) → IsPlain i → HasType context i ty → length ty.params ≡ length ty.results + 1
if_counts context i l ty e plain (Numeric (inr (kind, listed))) = absurd (numeric_not_if i l (takes_one i.code) e (plain_numeric i kind))
if_counts context i l ty e plain (Numeric (inl (t, inl (code, t_is), known))) =
    let c = plain_i32 i plain code in absurd (not_if i l (op.Const c.0) e c.2 tt)
if_counts context i l ty e plain (Numeric (inl (t, inr (code, t_is), known))) =
    let c = plain_i64 i plain code in absurd (not_if i l (op.Const c.0) e c.2 tt)
if_counts context i l ty e plain (Parametric (inl (t, code, known))) =
    absurd (not_if i l op.Drop e (plain_drop i code) tt)
if_counts context i l ty e plain (Parametric (inr (t, code, known))) =
    absurd (not_if i l op.Select e (plain_select i code) tt)
if_counts context i l ty e plain (Local (x, t, index, place, inl (code, known))) =
    absurd (not_if i l (op.LocalGet x) e (plain_local_get i x code index) tt)
if_counts context i l ty e plain (Local (x, t, index, place, inr (inl (code, known)))) =
    absurd (not_if i l (op.LocalSet x) e (plain_local_set i x code index) tt)
if_counts context i l ty e plain (Local (x, t, index, place, inr (inr (code, known)))) =
    absurd (not_if i l (op.LocalTee x) e (plain_local_tee i x code index) tt)
if_counts context i l ty e plain (Global (x, g, index, place, inl (code, known))) =
    absurd (not_if i l (op.GlobalGet x) e (plain_global_get i x code index) tt)
if_counts context i l ty e plain (Global (x, g, index, place, inr (code, mutable, known))) =
    absurd (not_if i l (op.GlobalSet x) e (plain_global_set i x code index) tt)
if_counts context i l ty e plain (Access (align, offset, numbers, aligned, there, inl kind, known)) =
    let within = load_within i.code kind in
    let from : 0x28 ≤ i.code = within.0 in
    let to : i.code ≤ 0x35 = within.1 in
    absurd (not_if i l (op.Load i.code offset) e
    (plain_access i from (omega arith) ∙ ap (λ (k : Kind). access_of k i.code i.imm) kind ∙ ap (λ (j : Imm). access_of kinds.Load i.code j) numbers) tt)
if_counts context i l ty e plain (Access (align, offset, numbers, aligned, there, inr kind, known)) =
    let within = store_within i.code kind in
    let from : 0x36 ≤ i.code = within.0 in
    let to : i.code ≤ 0x3E = within.1 in
    absurd (not_if i l (op.Store i.code offset) e
    (plain_access i (omega arith) to ∙ ap (λ (k : Kind). access_of k i.code i.imm) kind ∙ ap (λ (j : Imm). access_of kinds.Store i.code j) numbers) tt)
if_counts context i l ty e plain (MemorySize (there, inl (code, known))) =
    absurd (not_if i l op.MemorySize e (plain_size i code) tt)
if_counts context i l ty e plain (MemorySize (there, inr (code, known))) =
    absurd (not_if i l op.MemoryGrow e (plain_grow i code) tt)
if_counts context i l ty e plain (Nop code known) = absurd (not_if i l op.Nop e (plain_nop i code) tt)
if_counts context i l ty e plain (BranchIf (label, carried, code, index, place, known)) =
    let count = length-append carried (I32 ∷ []) in
    subst (λ (u : FuncType). length u.params ≡ length u.results + 1) (sym known) (omega arith)
if_counts context i l ty e plain (Call (function, code, index, known)) =
    absurd (not_if i l (op.Call function) e (plain_call i function code index) tt)
if_counts context i l ty e plain (CallIndirect (x, callee, code, index, there, place, known)) =
    absurd (not_if i l (op.CallIndirect x) e (plain_call_indirect i x code index) tt)

-- the instruction is no call
abbrev NotCall : Plain → Type 0
NotCall (op.Call function) = ⊥
NotCall i = ⊤

not_call : (i : Instr) (l : ℕ) (q : Plain) → plain_of i ≡ Some (op.Call l) → plain_of i ≡ Some q → NotCall q → ⊥
not_call i l q e f h = subst NotCall (same_some (plain_of i) q (op.Call l) f e) h

numeric_not_call : (i : Instr) (l : ℕ) (one : Bool) → plain_of i ≡ Some (op.Call l) → plain_of i ≡ Some (if one then op.Unary i.code else op.Binary i.code) → ⊥
numeric_not_call i l true e f = not_call i l (op.Unary i.code) e f tt
numeric_not_call i l false e f = not_call i l (op.Binary i.code) e f tt

function_is : (a b : ℕ) → op.Call a ≡ op.Call b → a ≡ b
function_is a b e = cc

-- a call is of its function's type
pub call_type : (context : Context) (i : Instr) (l : ℕ) (ty : FuncType) → plain_of i ≡ Some (op.Call l) → IsPlain i → HasType context i ty → IsFunctionType context l ty
call_type context i l ty e plain (Numeric (inr (kind, listed))) = absurd (numeric_not_call i l (takes_one i.code) e (plain_numeric i kind))
call_type context i l ty e plain (Numeric (inl (t, inl (code, t_is), known))) =
    let c = plain_i32 i plain code in absurd (not_call i l (op.Const c.0) e c.2 tt)
call_type context i l ty e plain (Numeric (inl (t, inr (code, t_is), known))) =
    let c = plain_i64 i plain code in absurd (not_call i l (op.Const c.0) e c.2 tt)
call_type context i l ty e plain (Parametric (inl (t, code, known))) =
    absurd (not_call i l op.Drop e (plain_drop i code) tt)
call_type context i l ty e plain (Parametric (inr (t, code, known))) =
    absurd (not_call i l op.Select e (plain_select i code) tt)
call_type context i l ty e plain (Local (x, t, index, place, inl (code, known))) =
    absurd (not_call i l (op.LocalGet x) e (plain_local_get i x code index) tt)
call_type context i l ty e plain (Local (x, t, index, place, inr (inl (code, known)))) =
    absurd (not_call i l (op.LocalSet x) e (plain_local_set i x code index) tt)
call_type context i l ty e plain (Local (x, t, index, place, inr (inr (code, known)))) =
    absurd (not_call i l (op.LocalTee x) e (plain_local_tee i x code index) tt)
call_type context i l ty e plain (Global (x, g, index, place, inl (code, known))) =
    absurd (not_call i l (op.GlobalGet x) e (plain_global_get i x code index) tt)
call_type context i l ty e plain (Global (x, g, index, place, inr (code, mutable, known))) =
    absurd (not_call i l (op.GlobalSet x) e (plain_global_set i x code index) tt)
call_type context i l ty e plain (Access (align, offset, numbers, aligned, there, inl kind, known)) =
    let within = load_within i.code kind in
    let from : 0x28 ≤ i.code = within.0 in
    let to : i.code ≤ 0x35 = within.1 in
    absurd (not_call i l (op.Load i.code offset) e
    (plain_access i from (omega arith) ∙ ap (λ (k : Kind). access_of k i.code i.imm) kind ∙ ap (λ (j : Imm). access_of kinds.Load i.code j) numbers) tt)
call_type context i l ty e plain (Access (align, offset, numbers, aligned, there, inr kind, known)) =
    let within = store_within i.code kind in
    let from : 0x36 ≤ i.code = within.0 in
    let to : i.code ≤ 0x3E = within.1 in
    absurd (not_call i l (op.Store i.code offset) e
    (plain_access i (omega arith) to ∙ ap (λ (k : Kind). access_of k i.code i.imm) kind ∙ ap (λ (j : Imm). access_of kinds.Store i.code j) numbers) tt)
call_type context i l ty e plain (MemorySize (there, inl (code, known))) =
    absurd (not_call i l op.MemorySize e (plain_size i code) tt)
call_type context i l ty e plain (MemorySize (there, inr (code, known))) =
    absurd (not_call i l op.MemoryGrow e (plain_grow i code) tt)
call_type context i l ty e plain (Nop code known) = absurd (not_call i l op.Nop e (plain_nop i code) tt)
call_type context i l ty e plain (BranchIf (label, carried, code, index, place, known)) =
    absurd (not_call i l (op.BrIf label) e (plain_br_if i label code index) tt)
call_type context i l ty e plain (Call (function, code, index, known)) =
    let same : function ≡ l = function_is function l (same_some (plain_of i) (op.Call function) (op.Call l) (plain_call i function code index) e) in
    subst (λ (n : ℕ). IsFunctionType context n ty) same known
call_type context i l ty e plain (CallIndirect (x, callee, code, index, there, place, known)) =
    absurd (not_call i l (op.CallIndirect x) e (plain_call_indirect i x code index) tt)

-- the operands that an effect leaves are as many
abbrev Leaves : (before pops pushes : ℕ) → Effect (List ℕ) → Type 0
Leaves before pops pushes (Gives operands) = length operands + pops ≡ before + pushes
Leaves before pops pushes (Fails trap) = ⊤
Leaves before pops pushes Undefined = ⊤

-- the frame that goes on has the same lists and as many locals, and its operands are as many
abbrev pub Counted : (f : Frame) (below : List Frame) (pops pushes : ℕ) → Outcome → Type 0
Counted f below pops pushes (Goes to) =
    (g : Frame) × (to.frames ≡ g ∷ below) × (g.conts ≡ f.conts) × (length g.locals ≡ length f.locals)
    × (length g.operands + pops ≡ length f.operands + pushes)
Counted f below pops pushes outcome = ⊤

drop_leaves : (operands : List ℕ) → Leaves (length operands) 1 0 (drop_one operands)
drop_leaves [] = tt
drop_leaves (a ∷ operands) = omega arith

select_leaves : (operands : List ℕ) → Leaves (length operands) 3 1 (select operands)
select_leaves [] = tt
select_leaves (n ∷ []) = tt
select_leaves (n ∷ b ∷ []) = tt
select_leaves (n ∷ b ∷ a ∷ operands) = omega arith

push_leaves : (o : Option ℕ) (operands : List ℕ) → Leaves (length operands) 0 1 (push_value o operands)
push_leaves None operands = tt
push_leaves (Some value) operands = omega arith

unary_on_leaves : (o : Option ℕ) (operands : List ℕ) → Leaves (suc (length operands)) 1 1 (unary_on o operands)
unary_on_leaves None operands = tt
unary_on_leaves (Some value) operands = omega arith

unary_leaves : (code : ℕ) (operands : List ℕ) → Leaves (length operands) 1 1 (unary code operands)
unary_leaves code [] = tt
unary_leaves code (a ∷ operands) = unary_on_leaves (unary_value code a) operands

binary_on_leaves : (o : Option (Result ℕ Trap)) (operands : List ℕ) → Leaves (suc (suc (length operands))) 2 1 (binary_on o operands)
binary_on_leaves None operands = tt
binary_on_leaves (Some (Ok value)) operands = omega arith
binary_on_leaves (Some (Err trap)) operands = tt

binary_leaves : (code : ℕ) (operands : List ℕ) → Leaves (length operands) 2 1 (binary code operands)
binary_leaves code [] = tt
binary_leaves code (b ∷ []) = tt
binary_leaves code (b ∷ a ∷ operands) = binary_on_leaves (binary_value code a b) operands

cond_leaves : (test : Bool) (value : ℕ) (operands : List ℕ) → Leaves (suc (length operands)) 1 1 (cond test (Gives (value ∷ operands)) (Fails traps.Bounds))
cond_leaves true value operands = omega arith
cond_leaves false value operands = tt

load_leaves : (code offset : ℕ) (o : Option Contents) (operands : List ℕ) → Leaves (length operands) 1 1 (load_from code offset o operands)
load_leaves code offset None operands = tt
load_leaves code offset (Some memory) [] = tt
load_leaves code offset (Some memory) (address ∷ operands) =
    cond_leaves (nat_le (address + offset + width_of code) (length memory.bytes))
    (extended code (slice_range memory.bytes (address + offset) (address + offset + width_of code))) operands

size_leaves : (o : Option Contents) (operands : List ℕ) → Leaves (length operands) 0 1 (size_of o operands)
size_leaves None operands = tt
size_leaves (Some memory) operands = omega arith

module _ (m : Parts) (c : Config) (f : Frame) (below : List Frame) where
  operands_counted : (takes gives : ℕ) (e : Effect (List ℕ)) → Leaves (length f.operands) takes gives e → Counted f below takes gives (to_operands c f below e)
  operands_counted takes gives (Gives operands) h = (with_operands operands f, refl, refl, refl, h)
  operands_counted takes gives (Fails trap) h = tt
  operands_counted takes gives Undefined h = tt

  -- a frame with this local and these operands
  set_counted : (test : Bool) (x value takes gives : ℕ) (operands : List ℕ) → length operands + takes ≡ length f.operands + gives →
      Counted f below takes gives (to_frame c below (cond test (Gives (record f { locals = slice_set f.locals x value; operands = operands })) Undefined))
  set_counted true x value takes gives operands h =
      (record f { locals = slice_set f.locals x value; operands = operands }, refl, refl, length-set f.locals x value, h)
  set_counted false x value takes gives operands h = tt

  local_set_counted : (x : ℕ) (operands : List ℕ) → f.operands ≡ operands → Counted f below 1 0 (to_frame c below (local_set x operands f))
  local_set_counted x [] e = tt
  local_set_counted x (value ∷ operands) e =
      let count = ap length e in set_counted (nat_lt x (length f.locals)) x value 1 0 operands (omega arith)

  local_tee_counted : (x : ℕ) (operands : List ℕ) → f.operands ≡ operands → Counted f below 1 1 (to_frame c below (local_tee x operands f))
  local_tee_counted x [] e = tt
  local_tee_counted x (value ∷ operands) e =
      let count = ap length e in set_counted (nat_lt x (length f.locals)) x value 1 1 (value ∷ operands) (omega arith)

  cond_counted : (test : Bool) (takes gives : ℕ) (one two : Outcome) → Counted f below takes gives one → Counted f below takes gives two → Counted f below takes gives (cond test one two)
  cond_counted true takes gives one two h k = h
  cond_counted false takes gives one two h k = k

  global_set_counted : (x : ℕ) (operands : List ℕ) → f.operands ≡ operands → Counted f below 1 0 (global_set x operands c f below)
  global_set_counted x [] e = tt
  global_set_counted x (value ∷ operands) e =
      let count = ap length e in
      cond_counted (nat_lt x (length c.globals)) 1 0
      (Goes (record c { globals = slice_set c.globals x value; frames = with_operands operands f ∷ below })) Stuck
      (with_operands operands f, refl, refl, refl, omega arith) tt

  store_counted : (code offset : ℕ) (o : Option Contents) (operands : List ℕ) → f.operands ≡ operands → Counted f below 2 0 (store code offset o operands c f below)
  store_counted code offset None operands e = tt
  store_counted code offset (Some memory) [] e = tt
  store_counted code offset (Some memory) (value ∷ []) e = tt
  store_counted code offset (Some memory) (value ∷ address ∷ operands) e =
      let count = ap length e in
      cond_counted (nat_le (address + offset + width_of code) (length memory.bytes)) 2 0
      (Goes (record c {
        memory = Some (record memory { bytes = written memory.bytes (address + offset) (low_bytes (width_of code) value) });
        frames = with_operands operands f ∷ below;
      }))
      (Traps traps.Bounds) (with_operands operands f, refl, refl, refl, omega arith) tt

  grow_counted : (o : Option Contents) (operands : List ℕ) → f.operands ≡ operands → Counted f below 1 1 (grow o operands c f below)
  grow_counted None operands e = tt
  grow_counted (Some memory) [] e = tt
  grow_counted (Some memory) (pages ∷ operands) e =
      let count = ap length e in
      cond_counted (nat_le (pages_in memory + pages) memory.most) 1 1
      (Goes (record c { memory = Some (grown pages memory); frames = with_operands (pages_in memory ∷ operands) f ∷ below }))
      (Goes (with_frames (with_operands (minus_one ∷ operands) f ∷ below) c))
      (with_operands (pages_in memory ∷ operands) f, refl, refl, refl, omega arith)
      (with_operands (minus_one ∷ operands) f, refl, refl, refl, omega arith)

  pub plain_counted : (p : Plain) → IsStraight p → Counted f below (pops p) (pushes p) (execute_plain m p c f below)
  unfolding execute_plain
  plain_counted op.Unreachable is = tt
  plain_counted op.Nop is = (f, refl, refl, refl, refl)
  plain_counted (op.Br label) is = absurd is
  plain_counted (op.BrIf label) is = absurd is
  plain_counted op.Return is = absurd is
  plain_counted (op.Call function) is = absurd is
  plain_counted (op.CallIndirect ty) is = absurd is
  plain_counted op.Drop is = operands_counted 1 0 (drop_one f.operands) (drop_leaves f.operands)
  plain_counted op.Select is = operands_counted 3 1 (select f.operands) (select_leaves f.operands)
  plain_counted (op.LocalGet x) is = operands_counted 0 1 (push_value (slice_get f.locals x) f.operands) (push_leaves (slice_get f.locals x) f.operands)
  plain_counted (op.LocalSet x) is = local_set_counted x f.operands refl
  plain_counted (op.LocalTee x) is = local_tee_counted x f.operands refl
  plain_counted (op.GlobalGet x) is = operands_counted 0 1 (push_value (slice_get c.globals x) f.operands) (push_leaves (slice_get c.globals x) f.operands)
  plain_counted (op.GlobalSet x) is = global_set_counted x f.operands refl
  plain_counted (op.Load code offset) is = operands_counted 1 1 (load_from code offset c.memory f.operands) (load_leaves code offset c.memory f.operands)
  plain_counted (op.Store code offset) is = store_counted code offset c.memory f.operands refl
  plain_counted op.MemorySize is = operands_counted 0 1 (size_of c.memory f.operands) (size_leaves c.memory f.operands)
  plain_counted op.MemoryGrow is = grow_counted c.memory f.operands refl
  plain_counted (op.Const value) is = operands_counted 0 1 (Gives (value ∷ f.operands)) (omega arith)
  plain_counted (op.Unary code) is = operands_counted 1 1 (unary code f.operands) (unary_leaves code f.operands)
  plain_counted (op.Binary code) is = operands_counted 2 1 (binary code f.operands) (binary_leaves code f.operands)
