-- What an instruction is, by its code.
use Rattle.std.proofs.Common.{◌≡◌, ◌≢◌, ◌≤◌, ℕ, ◌==◌, ◌&&◌, Option, Some, None, Bool, true, false, if◌then◌else◌, nat_le, arith, refl, sym, ◌∙◌, ap}
use Rattle.std.proofs.lemmas.Bool.{ne_eqb}
use Rattle.std.proofs.lemmas.Bool.Decides.{nat_tests}
use Rattle.std.specs.Int.{is_in_range}
use Rattle.wasm_ops.specs.declared.instruction.Kind.{Kind}
use Rattle.wasm_ops.specs.declared.instruction.Kind.TheVariants as kinds
use Rattle.wasm_ops.specs.Table.{kind_of, is_float, takes_one}
use Rattle.wasm_form.specs.declared.immediates.Immediates.{Immediates}
use Rattle.wasm_form.specs.declared.immediates.Immediates.TheVariants as sort_of_imm
use Rattle.wasm_form.specs.declared.instr.Instr.{Instr}
use Rattle.wasm_form.specs.declared.instr.Imm.{Imm}
use Rattle.wasm_form.specs.declared.instr.Imm.TheVariants as imm
use Rattle.wasm_form.specs.declared.sort.Sort.TheVariants as sort
use Rattle.wasm_form.specs.Instructions.{immediates_of, fits}
use Rattle.wasm_form.specs.Matching.{sort_at, sort_of, IsPlain}
use Rattle.tree_machine.specs.Instructions.{Plain, plain_of, access_of, numeric_of}
use Rattle.tree_machine.specs.Instructions as op

-- an instruction with this code and these immediates
pub by_code : (i : Instr) (k : ℕ) (j : Imm) → i.code ≡ k → i.imm ≡ j → plain_of i ≡ plain_of (record { code = k; imm = j })
by_code i k j e f =
    ap (λ (c : ℕ). plain_of (record { code = c; imm = i.imm })) e ∙ ap (λ (x : Imm). plain_of (record { code = k; imm = x })) f

-- the codes of a kind, by the tests of the table
record IsOfKind (float load store plain : Bool) (kind : Kind) : Type 0 where
  float_is : kind ≢ kinds.Float → float ≡ false
  load_is : kind ≡ kinds.Load → load ≡ true
  store_is : kind ≡ kinds.Store → store ≡ true
  plain_is : kind ≡ kinds.Plain → plain ≡ true

kind_is : (float load store plain : Bool) → IsOfKind float load store plain
    (if float then kinds.Float else if load then kinds.Load else if store then kinds.Store else if plain then kinds.Plain else kinds.Control)
kind_is true load store plain = record { float_is = λ w. absurd (w refl); load_is = λ w. absurd (cc); store_is = λ w. absurd (cc); plain_is = λ w. absurd (cc) }
kind_is false true store plain = record { float_is = λ w. refl; load_is = λ w. refl; store_is = λ w. absurd (cc); plain_is = λ w. absurd (cc) }
kind_is false false true plain = record { float_is = λ w. refl; load_is = λ w. absurd (cc); store_is = λ w. refl; plain_is = λ w. absurd (cc) }
kind_is false false false true = record { float_is = λ w. refl; load_is = λ w. absurd (cc); store_is = λ w. absurd (cc); plain_is = λ w. refl }
kind_is false false false false = record { float_is = λ w. refl; load_is = λ w. absurd (cc); store_is = λ w. absurd (cc); plain_is = λ w. absurd (cc) }

of_kind : (c : ℕ) → IsOfKind (is_float c) (is_in_range 0x28 0x35 c) (is_in_range 0x36 0x3E c) (is_in_range 0x45 0xBF c) (kind_of c)
of_kind c = kind_is (is_float c) (is_in_range 0x28 0x35 c) (is_in_range 0x36 0x3E c) (is_in_range 0x45 0xBF c)

both : (a b : Bool) → (a && b) ≡ true → (a ≡ true) × (b ≡ true)
both true true e = (refl, refl)
both true false e = absurd (cc)
both false b e = absurd (cc)

within : (low high c : ℕ) → is_in_range low high c ≡ true → (low ≤ c) × (c ≤ high)
within low high c e =
    let two = both (nat_le low c) (nat_le c high) e in
    let one : nat_le low c ≡ true = two.0 in
    let other : nat_le c high ≡ true = two.1 in
    (grind (arith, nat_tests), grind (arith, nat_tests))

pub plain_within : (c : ℕ) → kind_of c ≡ kinds.Plain → (0x45 ≤ c) × (c ≤ 0xBF)
plain_within c e = within 0x45 0xBF c ((of_kind c).plain_is e)

pub load_within : (c : ℕ) → kind_of c ≡ kinds.Load → (0x28 ≤ c) × (c ≤ 0x35)
load_within c e = within 0x28 0x35 c ((of_kind c).load_is e)

pub store_within : (c : ℕ) → kind_of c ≡ kinds.Store → (0x36 ≤ c) × (c ≤ 0x3E)
store_within c e = within 0x36 0x3E c ((of_kind c).store_is e)

differs : (c k : ℕ) → (c ≡ k → ⊥) → (c == k) ≡ false
differs c k other = ne_eqb c k other

-- a numeric instruction
pub plain_numeric : (i : Instr) → kind_of i.code ≡ kinds.Plain → plain_of i ≡ Some (if takes_one i.code then op.Unary i.code else op.Binary i.code)
unfolding plain_of
plain_numeric i kind =
    let from : 0x45 ≤ i.code = (plain_within i.code kind).0 in
    let e00 = differs i.code 0x00 (λ w. omega arith) in
    let e01 = differs i.code 0x01 (λ w. omega arith) in
    let e0C = differs i.code 0x0C (λ w. omega arith) in
    let e0D = differs i.code 0x0D (λ w. omega arith) in
    let e0F = differs i.code 0x0F (λ w. omega arith) in
    let e10 = differs i.code 0x10 (λ w. omega arith) in
    let e11 = differs i.code 0x11 (λ w. omega arith) in
    let e1A = differs i.code 0x1A (λ w. omega arith) in
    let e1B = differs i.code 0x1B (λ w. omega arith) in
    let e20 = differs i.code 0x20 (λ w. omega arith) in
    let e21 = differs i.code 0x21 (λ w. omega arith) in
    let e22 = differs i.code 0x22 (λ w. omega arith) in
    let e23 = differs i.code 0x23 (λ w. omega arith) in
    let e24 = differs i.code 0x24 (λ w. omega arith) in
    let above : nat_le i.code 0x3E ≡ false = grind (arith, nat_tests) in
    let e3F = differs i.code 0x3F (λ w. omega arith) in
    let e40 = differs i.code 0x40 (λ w. omega arith) in
    let e41 = differs i.code 0x41 (λ w. omega arith) in
    let e42 = differs i.code 0x42 (λ w. omega arith) in
    rw (kind, e00, e01, e0C, e0D, e0F, e10, e11, e1A, e1B, e20, e21, e22, e23, e24, above, e3F, e40, e41, e42) refl

-- a load or a store
pub plain_access : (i : Instr) → 0x28 ≤ i.code → i.code ≤ 0x3E → plain_of i ≡ access_of (kind_of i.code) i.code i.imm
unfolding plain_of
plain_access i from to =
    let e00 = differs i.code 0x00 (λ w. omega arith) in
    let e01 = differs i.code 0x01 (λ w. omega arith) in
    let e0C = differs i.code 0x0C (λ w. omega arith) in
    let e0D = differs i.code 0x0D (λ w. omega arith) in
    let e0F = differs i.code 0x0F (λ w. omega arith) in
    let e10 = differs i.code 0x10 (λ w. omega arith) in
    let e11 = differs i.code 0x11 (λ w. omega arith) in
    let e1A = differs i.code 0x1A (λ w. omega arith) in
    let e1B = differs i.code 0x1B (λ w. omega arith) in
    let e20 = differs i.code 0x20 (λ w. omega arith) in
    let e21 = differs i.code 0x21 (λ w. omega arith) in
    let e22 = differs i.code 0x22 (λ w. omega arith) in
    let e23 = differs i.code 0x23 (λ w. omega arith) in
    let e24 = differs i.code 0x24 (λ w. omega arith) in
    let within : nat_le i.code 0x3E ≡ true = grind (arith, nat_tests) in
    rw (e00, e01, e0C, e0D, e0F, e10, e11, e1A, e1B, e20, e21, e22, e23, e24, within) refl

plain_is : (a : Bool) → (if a then Some sort.Plain else None) ≡ Some sort.Plain → a ≡ true
plain_is true e = refl
plain_is false e = absurd (cc)

-- the immediates of a plain instruction are of its code's kind
pub imm_fits : (i : Instr) (k : ℕ) (kind : Immediates) → IsPlain i → i.code ≡ k → immediates_of k ≡ Some kind → fits kind i.imm ≡ true
unfolding sort_of
imm_fits i k kind plain e is =
    let known : immediates_of i.code ≡ Some kind = ap immediates_of e ∙ is in
    plain_is (fits kind i.imm) (sym (ap (λ (o : Option Immediates). sort_at o i.code i.imm) known) ∙ plain)

i32_imm : (j : Imm) → fits sort_of_imm.S32 j ≡ true → (n : ℕ) × (j ≡ imm.I32 n)
i32_imm (imm.I32 n) e = (n, refl)
i32_imm imm.None e = absurd (cc)
i32_imm (imm.Block r) e = absurd (cc)
i32_imm (imm.Index n) e = absurd (cc)
i32_imm (imm.Table a b c) e = absurd (cc)
i32_imm (imm.Mem a b) e = absurd (cc)
i32_imm (imm.I64 n) e = absurd (cc)
i32_imm (imm.F32 n) e = absurd (cc)
i32_imm (imm.F64 n) e = absurd (cc)

i64_imm : (j : Imm) → fits sort_of_imm.S64 j ≡ true → (n : ℕ) × (j ≡ imm.I64 n)
i64_imm (imm.I64 n) e = (n, refl)
i64_imm imm.None e = absurd (cc)
i64_imm (imm.Block r) e = absurd (cc)
i64_imm (imm.Index n) e = absurd (cc)
i64_imm (imm.Table a b c) e = absurd (cc)
i64_imm (imm.Mem a b) e = absurd (cc)
i64_imm (imm.I32 n) e = absurd (cc)
i64_imm (imm.F32 n) e = absurd (cc)
i64_imm (imm.F64 n) e = absurd (cc)

s32_kind : immediates_of 0x41 ≡ Some sort_of_imm.S32
unfolding immediates_of
s32_kind = refl

s64_kind : immediates_of 0x42 ≡ Some sort_of_imm.S64
unfolding immediates_of
s64_kind = refl

const32 : (n : ℕ) → plain_of (record { code = 0x41; imm = imm.I32 n }) ≡ Some (op.Const n)
unfolding plain_of
const32 n = refl

const64 : (n : ℕ) → plain_of (record { code = 0x42; imm = imm.I64 n }) ≡ Some (op.Const n)
unfolding plain_of
const64 n = refl

-- i32.const and i64.const
pub plain_i32 : (i : Instr) → IsPlain i → i.code ≡ 0x41 → (n : ℕ) × (i.imm ≡ imm.I32 n) × (plain_of i ≡ Some (op.Const n))
plain_i32 i plain e =
    let is = i32_imm i.imm (imm_fits i 0x41 sort_of_imm.S32 plain e s32_kind) in
    (is.0, is.1, by_code i 0x41 (imm.I32 is.0) e is.1 ∙ const32 is.0)

pub plain_i64 : (i : Instr) → IsPlain i → i.code ≡ 0x42 → (n : ℕ) × (i.imm ≡ imm.I64 n) × (plain_of i ≡ Some (op.Const n))
plain_i64 i plain e =
    let is = i64_imm i.imm (imm_fits i 0x42 sort_of_imm.S64 plain e s64_kind) in
    (is.0, is.1, by_code i 0x42 (imm.I64 is.0) e is.1 ∙ const64 is.0)

-- the instructions without immediates
unreachable_code : (j : Imm) → plain_of (record { code = 0x00; imm = j }) ≡ Some op.Unreachable
unfolding plain_of
unreachable_code j = refl

pub plain_unreachable : (i : Instr) → i.code ≡ 0x00 → plain_of i ≡ Some op.Unreachable
plain_unreachable i e = by_code i 0x00 i.imm e refl ∙ unreachable_code i.imm

nop_code : (j : Imm) → plain_of (record { code = 0x01; imm = j }) ≡ Some op.Nop
unfolding plain_of
nop_code j = refl

pub plain_nop : (i : Instr) → i.code ≡ 0x01 → plain_of i ≡ Some op.Nop
plain_nop i e = by_code i 0x01 i.imm e refl ∙ nop_code i.imm

return_code : (j : Imm) → plain_of (record { code = 0x0F; imm = j }) ≡ Some op.Return
unfolding plain_of
return_code j = refl

pub plain_return : (i : Instr) → i.code ≡ 0x0F → plain_of i ≡ Some op.Return
plain_return i e = by_code i 0x0F i.imm e refl ∙ return_code i.imm

drop_code : (j : Imm) → plain_of (record { code = 0x1A; imm = j }) ≡ Some op.Drop
unfolding plain_of
drop_code j = refl

pub plain_drop : (i : Instr) → i.code ≡ 0x1A → plain_of i ≡ Some op.Drop
plain_drop i e = by_code i 0x1A i.imm e refl ∙ drop_code i.imm

select_code : (j : Imm) → plain_of (record { code = 0x1B; imm = j }) ≡ Some op.Select
unfolding plain_of
select_code j = refl

pub plain_select : (i : Instr) → i.code ≡ 0x1B → plain_of i ≡ Some op.Select
plain_select i e = by_code i 0x1B i.imm e refl ∙ select_code i.imm

size_code : (j : Imm) → plain_of (record { code = 0x3F; imm = j }) ≡ Some op.MemorySize
unfolding plain_of
size_code j = refl

pub plain_size : (i : Instr) → i.code ≡ 0x3F → plain_of i ≡ Some op.MemorySize
plain_size i e = by_code i 0x3F i.imm e refl ∙ size_code i.imm

grow_code : (j : Imm) → plain_of (record { code = 0x40; imm = j }) ≡ Some op.MemoryGrow
unfolding plain_of
grow_code j = refl

pub plain_grow : (i : Instr) → i.code ≡ 0x40 → plain_of i ≡ Some op.MemoryGrow
plain_grow i e = by_code i 0x40 i.imm e refl ∙ grow_code i.imm

-- the instructions with a label or an index
br_code : (x : ℕ) → plain_of (record { code = 0x0C; imm = imm.Index x }) ≡ Some (op.Br x)
unfolding plain_of
br_code x = refl

pub plain_br : (i : Instr) (x : ℕ) → i.code ≡ 0x0C → i.imm ≡ imm.Index x → plain_of i ≡ Some (op.Br x)
plain_br i x e f = by_code i 0x0C (imm.Index x) e f ∙ br_code x

br_if_code : (x : ℕ) → plain_of (record { code = 0x0D; imm = imm.Index x }) ≡ Some (op.BrIf x)
unfolding plain_of
br_if_code x = refl

pub plain_br_if : (i : Instr) (x : ℕ) → i.code ≡ 0x0D → i.imm ≡ imm.Index x → plain_of i ≡ Some (op.BrIf x)
plain_br_if i x e f = by_code i 0x0D (imm.Index x) e f ∙ br_if_code x

call_code : (x : ℕ) → plain_of (record { code = 0x10; imm = imm.Index x }) ≡ Some (op.Call x)
unfolding plain_of
call_code x = refl

pub plain_call : (i : Instr) (x : ℕ) → i.code ≡ 0x10 → i.imm ≡ imm.Index x → plain_of i ≡ Some (op.Call x)
plain_call i x e f = by_code i 0x10 (imm.Index x) e f ∙ call_code x

call_indirect_code : (x : ℕ) → plain_of (record { code = 0x11; imm = imm.Index x }) ≡ Some (op.CallIndirect x)
unfolding plain_of
call_indirect_code x = refl

pub plain_call_indirect : (i : Instr) (x : ℕ) → i.code ≡ 0x11 → i.imm ≡ imm.Index x → plain_of i ≡ Some (op.CallIndirect x)
plain_call_indirect i x e f = by_code i 0x11 (imm.Index x) e f ∙ call_indirect_code x

local_get_code : (x : ℕ) → plain_of (record { code = 0x20; imm = imm.Index x }) ≡ Some (op.LocalGet x)
unfolding plain_of
local_get_code x = refl

pub plain_local_get : (i : Instr) (x : ℕ) → i.code ≡ 0x20 → i.imm ≡ imm.Index x → plain_of i ≡ Some (op.LocalGet x)
plain_local_get i x e f = by_code i 0x20 (imm.Index x) e f ∙ local_get_code x

local_set_code : (x : ℕ) → plain_of (record { code = 0x21; imm = imm.Index x }) ≡ Some (op.LocalSet x)
unfolding plain_of
local_set_code x = refl

pub plain_local_set : (i : Instr) (x : ℕ) → i.code ≡ 0x21 → i.imm ≡ imm.Index x → plain_of i ≡ Some (op.LocalSet x)
plain_local_set i x e f = by_code i 0x21 (imm.Index x) e f ∙ local_set_code x

local_tee_code : (x : ℕ) → plain_of (record { code = 0x22; imm = imm.Index x }) ≡ Some (op.LocalTee x)
unfolding plain_of
local_tee_code x = refl

pub plain_local_tee : (i : Instr) (x : ℕ) → i.code ≡ 0x22 → i.imm ≡ imm.Index x → plain_of i ≡ Some (op.LocalTee x)
plain_local_tee i x e f = by_code i 0x22 (imm.Index x) e f ∙ local_tee_code x

global_get_code : (x : ℕ) → plain_of (record { code = 0x23; imm = imm.Index x }) ≡ Some (op.GlobalGet x)
unfolding plain_of
global_get_code x = refl

pub plain_global_get : (i : Instr) (x : ℕ) → i.code ≡ 0x23 → i.imm ≡ imm.Index x → plain_of i ≡ Some (op.GlobalGet x)
plain_global_get i x e f = by_code i 0x23 (imm.Index x) e f ∙ global_get_code x

global_set_code : (x : ℕ) → plain_of (record { code = 0x24; imm = imm.Index x }) ≡ Some (op.GlobalSet x)
unfolding plain_of
global_set_code x = refl

pub plain_global_set : (i : Instr) (x : ℕ) → i.code ≡ 0x24 → i.imm ≡ imm.Index x → plain_of i ≡ Some (op.GlobalSet x)
plain_global_set i x e f = by_code i 0x24 (imm.Index x) e f ∙ global_set_code x
