-- How many operands an instruction takes and gives, by its type.
use Rattle.std.proofs.Common.{◌≡◌, ◌≢◌, ℕ, ◌+◌, ◌-◌, ◌≤◌, inl, inr, List, [], ◌∷◌, ◌++◌, length, Option, Some, None, All, refl, sym, ap, subst, ◌∙◌, arith, length-append}
use Rattle.std.specs.Prelude.{slice_get, option_map, option_to_list}
use Rattle.std.proofs.lemmas.Option.{slice_get_within, get_or_from_slice_get}
use Rattle.wasm_ops.specs.declared.num.Num.{Num}
use Rattle.wasm_ops.specs.declared.instruction.Kind.{Kind}
use Rattle.wasm_ops.specs.declared.instruction.Kind.TheVariants as kinds
use Rattle.wasm_ops.specs.declared.instruction.Row.{Row}
use Rattle.wasm_ops.specs.Table.{kind_of, first_of, second_of, result_of, IsRowOf}
use Rattle.wasm_form.specs.declared.value_type.ValType.{ValType}
use Rattle.wasm_form.specs.declared.value_type.ValType.TheVariants.{I32}
use Rattle.wasm_form.specs.declared.types.FuncType.{FuncType}
use Rattle.wasm_form.specs.declared.instr.Instr.{Instr}
use Rattle.wasm_form.specs.declared.instr.Imm.TheVariants as imm
use Rattle.wasm_form.specs.declared.parts.Parts.{Parts}
use Rattle.wasm_form.specs.Context.{Context}
use Rattle.wasm_form.specs.Typing.{arrow, value_type, listed_type, HasType, IsCall, IsCallIndirect, Numeric, Parametric, Local, Global, Access, MemorySize, Nop, BranchIf, Call, CallIndirect}
use Rattle.code_map.specs.declared.counts.Counts.{Counts}
use Rattle.code_map.specs.declared.signatures.Signatures.{Signatures}
use Rattle.code_map.specs.Flows.{GoesOn}
use Rattle.code_map.specs.Counts.{counts, control_counts, one_if, listed_counts, IsNarrow, Count, AreSignatures, CountsOf}

-- the height after an instruction that goes on
pub height : (m : Parts) (i : Instr) (s : Signatures) (c : Counts) (before after : ℕ) → CountsOf s i c → AreSignatures m s → GoesOn m i before after → (before - c.takes) + c.gives ≡ after
height m i s c before after counted are goes =
    let k = counted m goes.context goes.ty are goes.inside goes.typed in
    omega (arith, k.same, k.few, goes.stood, goes.stands)

-- by its type
count_is : (takes gives : ℕ) (ty other : FuncType) (c : Counts) → c ≡ counts takes gives → other ≡ ty → takes + length ty.results ≡ gives + length ty.params → takes ≤ length ty.params → Count c other
count_is takes gives ty other c e f same few =
    subst (λ t. Count c t) (sym f) (subst (λ x. Count x ty) (sym e) (record { same = same; few = few }))

control_at : (code n : ℕ) → code ≡ n → control_counts code ≡ control_counts n
control_at code n e = ap control_counts e

br_if_counts : control_counts 0x0D ≡ counts 1 0
unfolding control_counts
br_if_counts = refl

drop_counts : control_counts 0x1A ≡ counts 1 0
unfolding control_counts
drop_counts = refl

select_counts : control_counts 0x1B ≡ counts 2 0
unfolding control_counts
select_counts = refl

get_counts : control_counts 0x20 ≡ counts 0 1
unfolding control_counts
get_counts = refl

set_counts : control_counts 0x21 ≡ counts 1 0
unfolding control_counts
set_counts = refl

tee_counts : control_counts 0x22 ≡ counts 0 0
unfolding control_counts
tee_counts = refl

global_get_counts : control_counts 0x23 ≡ counts 0 1
unfolding control_counts
global_get_counts = refl

global_set_counts : control_counts 0x24 ≡ counts 1 0
unfolding control_counts
global_set_counts = refl

size_counts : control_counts 0x3F ≡ counts 0 1
unfolding control_counts
size_counts = refl

grow_counts : control_counts 0x40 ≡ counts 0 0
unfolding control_counts
grow_counts = refl

const_counts : control_counts 0x41 ≡ counts 0 1
unfolding control_counts
const_counts = refl

long_counts : control_counts 0x42 ≡ counts 0 1
unfolding control_counts
long_counts = refl

nop_counts : control_counts 0x01 ≡ counts 0 0
unfolding control_counts
nop_counts = refl

not_kind : {A : Type 0} (k l : Kind) → (k ≡ l → ⊥) → (code : ℕ) → kind_of code ≡ k → kind_of code ≡ l → A
not_kind k l never code p q = absurd (never (sym p ∙ q))

branch_params : (carried : List ValType) → 1 + length carried ≡ 0 + length (carried ++ I32 ∷ [])
branch_params carried = omega (arith, length-append carried (I32 ∷ []))

-- a control instruction that is no call
pub control_counted : (context : Context) (i : Instr) (ty : FuncType) → kind_of i.code ≡ kinds.Control → i.code ≢ 0x10 → i.code ≢ 0x11 → HasType context i ty → Count (control_counts i.code) ty
control_counted context i ty k a b (Numeric (inl (t, inl (c, u), e))) = count_is 0 1 (arrow [] (t ∷ [])) ty _ (control_at i.code 0x41 c ∙ const_counts) e (omega arith) (omega arith)
control_counted context i ty k a b (Numeric (inl (t, inr (c, u), e))) = count_is 0 1 (arrow [] (t ∷ [])) ty _ (control_at i.code 0x42 c ∙ long_counts) e (omega arith) (omega arith)
control_counted context i ty k a b (Numeric (inr (c, e))) = not_kind kinds.Control kinds.Plain (λ z. cc) i.code k c
control_counted context i ty k a b (Parametric (inl (t, c, e))) = count_is 1 0 (arrow (t ∷ []) []) ty _ (control_at i.code 0x1A c ∙ drop_counts) e (omega arith) (omega arith)
control_counted context i ty k a b (Parametric (inr (t, c, e))) = count_is 2 0 (arrow (t ∷ t ∷ I32 ∷ []) (t ∷ [])) ty _ (control_at i.code 0x1B c ∙ select_counts) e (omega arith) (omega arith)
control_counted context i ty k a b (Local (x, t, f, g, inl (c, e))) = count_is 0 1 (arrow [] (t ∷ [])) ty _ (control_at i.code 0x20 c ∙ get_counts) e (omega arith) (omega arith)
control_counted context i ty k a b (Local (x, t, f, g, inr (inl (c, e)))) = count_is 1 0 (arrow (t ∷ []) []) ty _ (control_at i.code 0x21 c ∙ set_counts) e (omega arith) (omega arith)
control_counted context i ty k a b (Local (x, t, f, g, inr (inr (c, e)))) = count_is 0 0 (arrow (t ∷ []) (t ∷ [])) ty _ (control_at i.code 0x22 c ∙ tee_counts) e (omega arith) (omega arith)
control_counted context i ty k a b (Global (x, t, f, g, inl (c, e))) = count_is 0 1 (arrow [] (t.ty ∷ [])) ty _ (control_at i.code 0x23 c ∙ global_get_counts) e (omega arith) (omega arith)
control_counted context i ty k a b (Global (x, t, f, g, inr (c, u, e))) = count_is 1 0 (arrow (t.ty ∷ []) []) ty _ (control_at i.code 0x24 c ∙ global_set_counts) e (omega arith) (omega arith)
control_counted context i ty k a b (Access (x, o, f, g, h, inl c, e)) = not_kind kinds.Control kinds.Load (λ z. cc) i.code k c
control_counted context i ty k a b (Access (x, o, f, g, h, inr c, e)) = not_kind kinds.Control kinds.Store (λ z. cc) i.code k c
control_counted context i ty k a b (MemorySize (h, inl (c, e))) = count_is 0 1 (arrow [] (I32 ∷ [])) ty _ (control_at i.code 0x3F c ∙ size_counts) e (omega arith) (omega arith)
control_counted context i ty k a b (MemorySize (h, inr (c, e))) = count_is 0 0 (arrow (I32 ∷ []) (I32 ∷ [])) ty _ (control_at i.code 0x40 c ∙ grow_counts) e (omega arith) (omega arith)
control_counted context i ty k a b (Nop c e) = count_is 0 0 (arrow [] []) ty _ (control_at i.code 0x01 c ∙ nop_counts) e (omega arith) (omega arith)
control_counted context i ty k a b (BranchIf (x, carried, c, f, g, e)) =
    count_is 1 0 (arrow (carried ++ I32 ∷ []) carried) ty _ (control_at i.code 0x0D c ∙ br_if_counts) e (branch_params carried) (omega (arith, length-append carried (I32 ∷ [])))
control_counted context i ty k a b (Call (x, c, f, g)) = absurd (a c)
control_counted context i ty k a b (CallIndirect (x, callee, c, f, h, g, e)) = absurd (b c)

-- call and call_indirect have their own types
call_type : (context : Context) (i : Instr) (ty : FuncType) → kind_of i.code ≡ kinds.Control → i.code ≡ 0x10 → HasType context i ty → IsCall context i ty
call_type context i ty k q (Numeric (inl (t, inl (c, u), e))) = absurd (omega (arith, c, q))
call_type context i ty k q (Numeric (inl (t, inr (c, u), e))) = absurd (omega (arith, c, q))
call_type context i ty k q (Numeric (inr (c, e))) = not_kind kinds.Control kinds.Plain (λ z. cc) i.code k c
call_type context i ty k q (Parametric (inl (t, c, e))) = absurd (omega (arith, c, q))
call_type context i ty k q (Parametric (inr (t, c, e))) = absurd (omega (arith, c, q))
call_type context i ty k q (Local (x, t, f, g, inl (c, e))) = absurd (omega (arith, c, q))
call_type context i ty k q (Local (x, t, f, g, inr (inl (c, e)))) = absurd (omega (arith, c, q))
call_type context i ty k q (Local (x, t, f, g, inr (inr (c, e)))) = absurd (omega (arith, c, q))
call_type context i ty k q (Global (x, t, f, g, inl (c, e))) = absurd (omega (arith, c, q))
call_type context i ty k q (Global (x, t, f, g, inr (c, u, e))) = absurd (omega (arith, c, q))
call_type context i ty k q (Access (x, o, f, g, h, inl c, e)) = not_kind kinds.Control kinds.Load (λ z. cc) i.code k c
call_type context i ty k q (Access (x, o, f, g, h, inr c, e)) = not_kind kinds.Control kinds.Store (λ z. cc) i.code k c
call_type context i ty k q (MemorySize (h, inl (c, e))) = absurd (omega (arith, c, q))
call_type context i ty k q (MemorySize (h, inr (c, e))) = absurd (omega (arith, c, q))
call_type context i ty k q (Nop c e) = absurd (omega (arith, c, q))
call_type context i ty k q (BranchIf (x, carried, c, f, g, e)) = absurd (omega (arith, c, q))
call_type context i ty k q (Call is) = is
call_type context i ty k q (CallIndirect (x, callee, c, f, h, g, e)) = absurd (omega (arith, c, q))

indirect_type : (context : Context) (i : Instr) (ty : FuncType) → kind_of i.code ≡ kinds.Control → i.code ≡ 0x11 → HasType context i ty → IsCallIndirect context i ty
indirect_type context i ty k q (Numeric (inl (t, inl (c, u), e))) = absurd (omega (arith, c, q))
indirect_type context i ty k q (Numeric (inl (t, inr (c, u), e))) = absurd (omega (arith, c, q))
indirect_type context i ty k q (Numeric (inr (c, e))) = not_kind kinds.Control kinds.Plain (λ z. cc) i.code k c
indirect_type context i ty k q (Parametric (inl (t, c, e))) = absurd (omega (arith, c, q))
indirect_type context i ty k q (Parametric (inr (t, c, e))) = absurd (omega (arith, c, q))
indirect_type context i ty k q (Local (x, t, f, g, inl (c, e))) = absurd (omega (arith, c, q))
indirect_type context i ty k q (Local (x, t, f, g, inr (inl (c, e)))) = absurd (omega (arith, c, q))
indirect_type context i ty k q (Local (x, t, f, g, inr (inr (c, e)))) = absurd (omega (arith, c, q))
indirect_type context i ty k q (Global (x, t, f, g, inl (c, e))) = absurd (omega (arith, c, q))
indirect_type context i ty k q (Global (x, t, f, g, inr (c, u, e))) = absurd (omega (arith, c, q))
indirect_type context i ty k q (Access (x, o, f, g, h, inl c, e)) = not_kind kinds.Control kinds.Load (λ z. cc) i.code k c
indirect_type context i ty k q (Access (x, o, f, g, h, inr c, e)) = not_kind kinds.Control kinds.Store (λ z. cc) i.code k c
indirect_type context i ty k q (MemorySize (h, inl (c, e))) = absurd (omega (arith, c, q))
indirect_type context i ty k q (MemorySize (h, inr (c, e))) = absurd (omega (arith, c, q))
indirect_type context i ty k q (Nop c e) = absurd (omega (arith, c, q))
indirect_type context i ty k q (BranchIf (x, carried, c, f, g, e)) = absurd (omega (arith, c, q))
indirect_type context i ty k q (Call (x, c, f, g)) = absurd (omega (arith, c, q))
indirect_type context i ty k q (CallIndirect is) = is

-- what holds of each type holds of one that is found
pub type_at : (P : FuncType → Type 0) (types : List FuncType) (index : ℕ) (ty : FuncType) → All P types → slice_get types index ≡ Some ty → P ty
type_at P types index ty all e =
    subst P (get_or_from_slice_get types index ty ty e) (all index ty (slice_get_within types index ty e))

module _ (s : Signatures) (narrow : All IsNarrow s.types.now) (i : Instr) (k : kind_of i.code ≡ kinds.Control) (c : Counts) where
  pub call_counted : i.code ≡ 0x10
      → ((function index : ℕ) (ty : FuncType) → i.imm ≡ imm.Index function → slice_get s.functions.now function ≡ Some index → slice_get s.types.now index ≡ Some ty → length ty.results ≤ 1
      → c ≡ counts (length ty.params) (length ty.results)) → CountsOf s i c
  call_counted q counted m context ty are inside typed =
      let is = call_type context i ty k q typed in
      let function : ℕ = is.0 in
      let index : ℕ = is.3.0 in
      let there : slice_get s.functions.now function ≡ Some index = ap (λ l. slice_get l function) (sym (inside.functions ∙ are.functions)) ∙ is.3.1 in
      let found : slice_get s.types.now index ≡ Some ty = ap (λ l. slice_get l index) (sym (inside.types ∙ are.types)) ∙ is.3.2 in
      let few : length ty.results ≤ 1 = (type_at IsNarrow s.types.now index ty narrow found).results in
      count_is (length ty.params) (length ty.results) ty ty c (counted function index ty is.2 there found few) refl (omega arith) (omega arith)

  pub indirect_counted : i.code ≡ 0x11
      → ((index : ℕ) (ty : FuncType) → i.imm ≡ imm.Index index → slice_get s.types.now index ≡ Some ty → length ty.results ≤ 1 → c ≡ counts (length ty.params + 1) (length ty.results)) → CountsOf s i c
  indirect_counted q counted m context ty are inside typed =
      let is = indirect_type context i ty k q typed in
      let index : ℕ = is.0 in
      let callee : FuncType = is.1 in
      let found : slice_get s.types.now index ≡ Some callee = ap (λ l. slice_get l index) (sym (inside.types ∙ are.types)) ∙ is.5 in
      let few : length callee.results ≤ 1 = (type_at IsNarrow s.types.now index callee narrow found).results in
      let params : length (callee.params ++ I32 ∷ []) ≡ length callee.params + 1 = length-append callee.params (I32 ∷ []) in
      count_is (length callee.params + 1) (length callee.results) (arrow (callee.params ++ I32 ∷ []) callee.results) ty c (counted index callee is.3 found few) is.6
      (omega (arith, params)) (omega (arith, params))

listed_lengths : (o : Option Num) → length (option_to_list (option_map value_type o)) ≡ one_if o
listed_lengths None = refl
listed_lengths (Some n) = refl

-- the type that the table lists has so many operands and results
pub listed_counted : (row : Row) (code : ℕ) (ty : FuncType) → IsRowOf code row → ty ≡ listed_type code → Count (listed_counts row) ty
listed_counted row code ty is e =
    let first = listed_lengths (first_of code) in
    let second = listed_lengths (second_of code) in
    let result = listed_lengths (result_of code) in
    let f = ap one_if is.first in
    let s = ap one_if is.second in
    let r = ap one_if is.result in
    let params : length (listed_type code).params ≡ one_if row.first + one_if row.second =
    omega (arith, length-append (option_to_list (option_map value_type (first_of code))) (option_to_list (option_map value_type (second_of code))), first, second, f, s)
    in
    let results : length (listed_type code).results ≡ one_if row.result = omega (arith, result, r) in
    count_is (one_if row.first + one_if row.second) (one_if row.result) (listed_type code) ty (listed_counts row) refl e (omega (arith, params, results)) (omega (arith, params))

not_control : {A : Type 0} (code n : ℕ) → (kind_of code ≡ kinds.Control → ⊥) → code ≡ n → kind_of n ≡ kinds.Control → A
not_control code n never e k = absurd (never (ap kind_of e ∙ k))

-- an integer operation, a load or a store; no other instruction but the control ones has a type
pub other_counted : (row : Row) (context : Context) (i : Instr) (ty : FuncType) → IsRowOf i.code row → (row.kind ≡ kinds.Control → ⊥) → HasType context i ty → Count (listed_counts row) ty
other_counted row context i ty is never typed = at typed
  where
    other : kind_of i.code ≡ kinds.Control → ⊥
    other k = never (is.kind ∙ k)

    at : HasType context i ty → Count (listed_counts row) ty
    at (Numeric (inl (t, inl (c, u), e))) = not_control i.code 0x41 other c refl
    at (Numeric (inl (t, inr (c, u), e))) = not_control i.code 0x42 other c refl
    at (Numeric (inr (c, e))) = listed_counted row i.code ty is e
    at (Parametric (inl (t, c, e))) = not_control i.code 0x1A other c refl
    at (Parametric (inr (t, c, e))) = not_control i.code 0x1B other c refl
    at (Local (x, t, f, g, inl (c, e))) = not_control i.code 0x20 other c refl
    at (Local (x, t, f, g, inr (inl (c, e)))) = not_control i.code 0x21 other c refl
    at (Local (x, t, f, g, inr (inr (c, e)))) = not_control i.code 0x22 other c refl
    at (Global (x, t, f, g, inl (c, e))) = not_control i.code 0x23 other c refl
    at (Global (x, t, f, g, inr (c, u, e))) = not_control i.code 0x24 other c refl
    at (Access (x, o, f, g, h, c, e)) = listed_counted row i.code ty is e
    at (MemorySize (h, inl (c, e))) = not_control i.code 0x3F other c refl
    at (MemorySize (h, inr (c, e))) = not_control i.code 0x40 other c refl
    at (Nop c e) = not_control i.code 0x01 other c refl
    at (BranchIf (x, carried, c, f, g, e)) = not_control i.code 0x0D other c refl
    at (Call (x, c, f, g)) = not_control i.code 0x10 other c refl
    at (CallIndirect (x, callee, c, f, h, g, e)) = not_control i.code 0x11 other c refl
