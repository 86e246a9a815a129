-- Which straight instruction a code and its immediates are.
use Rattle.std.proofs.Common.{◌≡◌, ◌≢◌, inl, inr, ℕ, ◌≤◌, ◌<◌, ◌==◌, Bool, true, false, if◌then◌else◌, nat_le, Option, Some, None, option_map, refl, sym, ap, subst, ◌∙◌, arith}
use Rattle.std.proofs.lemmas.Bool.{ne_eqb}
use Rattle.std.proofs.lemmas.Bool.Decides.{nat_tests, leb_tells}
use Rattle.wasm_ops.specs.declared.instruction.Kind.{Kind}
use Rattle.wasm_ops.specs.declared.instruction.Kind.TheVariants as kinds
use Rattle.wasm_ops.specs.Table.{kind_of, takes_one}
use Rattle.wasm_form.specs.declared.instr.Instr.{Instr}
use Rattle.wasm_form.specs.declared.instr.Imm.{Imm}
use Rattle.tree_machine.specs.Instructions.{Plain, plain_of, index_in, offset_in, access_of, numeric_of}
use Rattle.tree_machine.specs.Instructions as op
use Rattle.tree_machine.proofs.PlainOf.{by_code, plain_within, plain_access, plain_numeric, store_within, load_within}
use Rattle.tree_machine.proofs.OperationsTyped.{all_to, each_to}

-- with an index

local_get_of : (j : Imm) → plain_of (record { code = 0x20; imm = j }) ≡ option_map (λ x. op.LocalGet x) (index_in j)
unfolding plain_of
local_get_of j = refl

local_set_of : (j : Imm) → plain_of (record { code = 0x21; imm = j }) ≡ option_map (λ x. op.LocalSet x) (index_in j)
unfolding plain_of
local_set_of j = refl

local_tee_of : (j : Imm) → plain_of (record { code = 0x22; imm = j }) ≡ option_map (λ x. op.LocalTee x) (index_in j)
unfolding plain_of
local_tee_of j = refl

global_get_of : (j : Imm) → plain_of (record { code = 0x23; imm = j }) ≡ option_map (λ x. op.GlobalGet x) (index_in j)
unfolding plain_of
global_get_of j = refl

global_set_of : (j : Imm) → plain_of (record { code = 0x24; imm = j }) ≡ option_map (λ x. op.GlobalSet x) (index_in j)
unfolding plain_of
global_set_of j = refl

pub is_local_get : (i : Instr) → i.code ≡ 0x20 → plain_of i ≡ option_map (λ x. op.LocalGet x) (index_in i.imm)
is_local_get i e = by_code i 0x20 i.imm e refl ∙ local_get_of i.imm

pub is_local_set : (i : Instr) → i.code ≡ 0x21 → plain_of i ≡ option_map (λ x. op.LocalSet x) (index_in i.imm)
is_local_set i e = by_code i 0x21 i.imm e refl ∙ local_set_of i.imm

pub is_local_tee : (i : Instr) → i.code ≡ 0x22 → plain_of i ≡ option_map (λ x. op.LocalTee x) (index_in i.imm)
is_local_tee i e = by_code i 0x22 i.imm e refl ∙ local_tee_of i.imm

pub is_global_get : (i : Instr) → i.code ≡ 0x23 → plain_of i ≡ option_map (λ x. op.GlobalGet x) (index_in i.imm)
is_global_get i e = by_code i 0x23 i.imm e refl ∙ global_get_of i.imm

pub is_global_set : (i : Instr) → i.code ≡ 0x24 → plain_of i ≡ option_map (λ x. op.GlobalSet x) (index_in i.imm)
is_global_set i e = by_code i 0x24 i.imm e refl ∙ global_set_of i.imm

-- loads and stores

access_there : (k : Kind) (code : ℕ) (j : Imm) → access_of k code j ≢ None → (k ≡ kinds.Store → ⊥) → k ≡ kinds.Load
access_there kinds.Load code j h other = refl
access_there kinds.Store code j h other = absurd (other refl)
access_there kinds.Plain code j h other = absurd (h refl)
access_there kinds.Control code j h other = absurd (h refl)
access_there kinds.Float code j h other = absurd (h refl)

store_there : (k : Kind) (code : ℕ) (j : Imm) → access_of k code j ≢ None → (k ≡ kinds.Load → ⊥) → k ≡ kinds.Store
store_there kinds.Store code j h other = refl
store_there kinds.Load code j h other = absurd (other refl)
store_there kinds.Plain code j h other = absurd (h refl)
store_there kinds.Control code j h other = absurd (h refl)
store_there kinds.Float code j h other = absurd (h refl)

pub load_kind : (i : Instr) → 0x28 ≤ i.code → i.code ≤ 0x35 → plain_of i ≢ None → kind_of i.code ≡ kinds.Load
load_kind i from to h =
    access_there (kind_of i.code) i.code i.imm (λ w. h (plain_access i from (omega arith) ∙ w))
    (λ w. let past : 0x36 ≤ i.code = (store_within i.code w).0 in omega arith)

pub store_kind : (i : Instr) → 0x36 ≤ i.code → i.code ≤ 0x3E → plain_of i ≢ None → kind_of i.code ≡ kinds.Store
store_kind i from to h =
    store_there (kind_of i.code) i.code i.imm (λ w. h (plain_access i (omega arith) to ∙ w))
    (λ w. let before : i.code ≤ 0x35 = (load_within i.code w).1 in omega arith)

pub is_load : (i : Instr) → kind_of i.code ≡ kinds.Load → plain_of i ≡ option_map (λ offset. op.Load i.code offset) (offset_in i.imm)
is_load i kind =
    let two = load_within i.code kind in
    plain_access i two.0 (let to : i.code ≤ 0x3E = omega (arith, two.1) in to) ∙ ap (λ (k : Kind). access_of k i.code i.imm) kind

pub is_store : (i : Instr) → kind_of i.code ≡ kinds.Store → plain_of i ≡ option_map (λ offset. op.Store i.code offset) (offset_in i.imm)
is_store i kind =
    let two = store_within i.code kind in
    plain_access i (let from : 0x28 ≤ i.code = omega (arith, two.0) in from) two.1 ∙ ap (λ (k : Kind). access_of k i.code i.imm) kind

-- numeric instructions

differs : (c k : ℕ) → (c ≡ k → ⊥) → (c == k) ≡ false
differs c k other = ne_eqb c k other

above : (i : Instr) → 0x43 ≤ i.code → plain_of i ≡ numeric_of (kind_of i.code) i.code
unfolding plain_of
above i from =
    let e00 = differs i.code 0x00 (λ w. omega arith) in
    let e01 = differs i.code 0x01 (λ w. omega arith) in
    let e0C = differs i.code 0x0C (λ w. omega arith) in
    let e0D = differs i.code 0x0D (λ w. omega arith) in
    let e0F = differs i.code 0x0F (λ w. omega arith) in
    let e10 = differs i.code 0x10 (λ w. omega arith) in
    let e11 = differs i.code 0x11 (λ w. omega arith) in
    let e1A = differs i.code 0x1A (λ w. omega arith) in
    let e1B = differs i.code 0x1B (λ w. omega arith) in
    let e20 = differs i.code 0x20 (λ w. omega arith) in
    let e21 = differs i.code 0x21 (λ w. omega arith) in
    let e22 = differs i.code 0x22 (λ w. omega arith) in
    let e23 = differs i.code 0x23 (λ w. omega arith) in
    let e24 = differs i.code 0x24 (λ w. omega arith) in
    let past : nat_le i.code 0x3E ≡ false = grind (arith, nat_tests) in
    let e3F = differs i.code 0x3F (λ w. omega arith) in
    let e40 = differs i.code 0x40 (λ w. omega arith) in
    let e41 = differs i.code 0x41 (λ w. omega arith) in
    let e42 = differs i.code 0x42 (λ w. omega arith) in
    rw (e00, e01, e0C, e0D, e0F, e10, e11, e1A, e1B, e20, e21, e22, e23, e24, past, e3F, e40, e41, e42) refl

plain_there : (k : Kind) (code : ℕ) → numeric_of k code ≢ None → k ≡ kinds.Plain
plain_there kinds.Plain code h = refl
plain_there kinds.Load code h = absurd (h refl)
plain_there kinds.Store code h = absurd (h refl)
plain_there kinds.Control code h = absurd (h refl)
plain_there kinds.Float code h = absurd (h refl)

pub numeric_kind : (i : Instr) → 0x43 ≤ i.code → plain_of i ≢ None → kind_of i.code ≡ kinds.Plain
numeric_kind i from h = plain_there (kind_of i.code) i.code (λ w. h (above i from ∙ w))

pub is_unary : (i : Instr) → kind_of i.code ≡ kinds.Plain → takes_one i.code ≡ true → plain_of i ≡ Some (op.Unary i.code)
is_unary i kind one = plain_numeric i kind ∙ ap (λ (b : Bool). Some (if b then op.Unary i.code else op.Binary i.code)) one

pub is_binary : (i : Instr) → kind_of i.code ≡ kinds.Plain → takes_one i.code ≡ false → plain_of i ≡ Some (op.Binary i.code)
is_binary i kind two = plain_numeric i kind ∙ ap (λ (b : Bool). Some (if b then op.Unary i.code else op.Binary i.code)) two

-- with the immediates

pub local_get_at : (i : Instr) (x : ℕ) → i.code ≡ 0x20 → index_in i.imm ≡ Some x → plain_of i ≡ Some (op.LocalGet x)
local_get_at i x e at = is_local_get i e ∙ ap (λ (o : Option ℕ). option_map (λ (n : ℕ). op.LocalGet n) o) at

pub local_set_at : (i : Instr) (x : ℕ) → i.code ≡ 0x21 → index_in i.imm ≡ Some x → plain_of i ≡ Some (op.LocalSet x)
local_set_at i x e at = is_local_set i e ∙ ap (λ (o : Option ℕ). option_map (λ (n : ℕ). op.LocalSet n) o) at

pub local_tee_at : (i : Instr) (x : ℕ) → i.code ≡ 0x22 → index_in i.imm ≡ Some x → plain_of i ≡ Some (op.LocalTee x)
local_tee_at i x e at = is_local_tee i e ∙ ap (λ (o : Option ℕ). option_map (λ (n : ℕ). op.LocalTee n) o) at

pub global_get_at : (i : Instr) (x : ℕ) → i.code ≡ 0x23 → index_in i.imm ≡ Some x → plain_of i ≡ Some (op.GlobalGet x)
global_get_at i x e at = is_global_get i e ∙ ap (λ (o : Option ℕ). option_map (λ (n : ℕ). op.GlobalGet n) o) at

pub global_set_at : (i : Instr) (x : ℕ) → i.code ≡ 0x24 → index_in i.imm ≡ Some x → plain_of i ≡ Some (op.GlobalSet x)
global_set_at i x e at = is_global_set i e ∙ ap (λ (o : Option ℕ). option_map (λ (n : ℕ). op.GlobalSet n) o) at

pub load_at : (i : Instr) (code offset : ℕ) → i.code ≡ code → kind_of code ≡ kinds.Load → offset_in i.imm ≡ Some offset → plain_of i ≡ Some (op.Load code offset)
load_at i code offset e kind at =
    is_load i (ap kind_of e ∙ kind) ∙ ap (λ (c : ℕ). option_map (λ (n : ℕ). op.Load c n) (offset_in i.imm)) e
    ∙ ap (λ (o : Option ℕ). option_map (λ (n : ℕ). op.Load code n) o) at

pub store_at : (i : Instr) (code offset : ℕ) → i.code ≡ code → kind_of code ≡ kinds.Store → offset_in i.imm ≡ Some offset → plain_of i ≡ Some (op.Store code offset)
store_at i code offset e kind at =
    is_store i (ap kind_of e ∙ kind) ∙ ap (λ (c : ℕ). option_map (λ (n : ℕ). op.Store c n) (offset_in i.imm)) e
    ∙ ap (λ (o : Option ℕ). option_map (λ (n : ℕ). op.Store code n) o) at

pub unary_at : (i : Instr) (code : ℕ) → i.code ≡ code → kind_of code ≡ kinds.Plain → takes_one code ≡ true → plain_of i ≡ Some (op.Unary code)
unary_at i code e kind one = is_unary i (ap kind_of e ∙ kind) (ap takes_one e ∙ one) ∙ ap (λ (c : ℕ). Some (op.Unary c)) e

pub binary_at : (i : Instr) (code : ℕ) → i.code ≡ code → kind_of code ≡ kinds.Plain → takes_one code ≡ false → plain_of i ≡ Some (op.Binary code)
binary_at i code e kind two = is_binary i (ap kind_of e ∙ kind) (ap takes_one e ∙ two) ∙ ap (λ (c : ℕ). Some (op.Binary c)) e

-- the other codes

abbrev is_control : Kind → Bool
is_control kinds.Control = true
is_control kinds.Load = false
is_control kinds.Store = false
is_control kinds.Plain = false
is_control kinds.Float = false

control_kind : (k : Kind) → is_control k ≡ true → k ≡ kinds.Control
control_kind kinds.Control e = refl
control_kind kinds.Load e = absurd (cc)
control_kind kinds.Store e = absurd (cc)
control_kind kinds.Plain e = absurd (cc)
control_kind kinds.Float e = absurd (cc)

all_control : all_to (λ c. is_control (kind_of c)) 0x28 ≡ true
all_control = refl

low_control : (c : ℕ) → c < 0x28 → kind_of c ≡ kinds.Control
low_control c low = control_kind (kind_of c) (each_to (λ c. is_control (kind_of c)) 0x28 c all_control low)

-- an instruction that is a branch, a call or none
abbrev pub IsNotStraight : Option Plain → Type 0
IsNotStraight None = Unit {0}
IsNotStraight (Some (op.Br label)) = Unit {0}
IsNotStraight (Some (op.BrIf label)) = Unit {0}
IsNotStraight (Some op.Return) = Unit {0}
IsNotStraight (Some (op.Call function)) = Unit {0}
IsNotStraight (Some (op.CallIndirect ty)) = Unit {0}
IsNotStraight (Some p) = ⊥

with_index : (f : ℕ → Plain) → ((x : ℕ) → IsNotStraight (Some (f x))) → (o : Option ℕ) → IsNotStraight (option_map f o)
with_index f h None = tt
with_index f h (Some x) = h x

first_holds : (b : Bool) (one two : Option Plain) → b ≡ true → IsNotStraight one → IsNotStraight (if b then one else two)
first_holds true one two e h = h
first_holds false one two e h = absurd (cc)

chosen : (b : Bool) (one two : Option Plain) → IsNotStraight one → IsNotStraight two → IsNotStraight (if b then one else two)
chosen true one two h k = h
chosen false one two h k = k

low_other : (i : Instr) → i.code < 0x28 → i.code ≢ 0x00 → i.code ≢ 0x01 → i.code ≢ 0x1A → i.code ≢ 0x1B → i.code ≢ 0x20 → i.code ≢ 0x21 →
    i.code ≢ 0x22 → i.code ≢ 0x23 → i.code ≢ 0x24 → IsNotStraight (plain_of i)
unfolding plain_of
low_other i low n00 n01 n1A n1B n20 n21 n22 n23 n24 =
    let e00 = differs i.code 0x00 n00 in
    let e01 = differs i.code 0x01 n01 in
    let e1A = differs i.code 0x1A n1A in
    let e1B = differs i.code 0x1B n1B in
    let e20 = differs i.code 0x20 n20 in
    let e21 = differs i.code 0x21 n21 in
    let e22 = differs i.code 0x22 n22 in
    let e23 = differs i.code 0x23 n23 in
    let e24 = differs i.code 0x24 n24 in
    let within : nat_le i.code 0x3E ≡ true = grind (arith, nat_tests) in
    let kind = low_control i.code low in
    let none : access_of (kind_of i.code) i.code i.imm ≡ None = ap (λ (k : Kind). access_of k i.code i.imm) kind in
    rw (e00, e01, e1A, e1B, e20, e21, e22, e23, e24)
    (chosen (i.code == 0x0C) _ _ (with_index (λ x. op.Br x) (λ x. tt) (index_in i.imm))
    (chosen (i.code == 0x0D) _ _ (with_index (λ x. op.BrIf x) (λ x. tt) (index_in i.imm))
    (chosen (i.code == 0x0F) _ _ tt
    (chosen (i.code == 0x10) _ _ (with_index (λ x. op.Call x) (λ x. tt) (index_in i.imm))
    (chosen (i.code == 0x11) _ _ (with_index (λ x. op.CallIndirect x) (λ x. tt) (index_in i.imm))
    (first_holds (nat_le i.code 0x3E) _ _ within (subst (λ (o : Option Plain). IsNotStraight o) (sym none) tt)))))))

numeric_other : (k : Kind) (code : ℕ) → (k ≡ kinds.Plain → ⊥) → IsNotStraight (numeric_of k code)
numeric_other kinds.Plain code h = absurd (h refl)
numeric_other kinds.Load code h = tt
numeric_other kinds.Store code h = tt
numeric_other kinds.Control code h = tt
numeric_other kinds.Float code h = tt

high_other : (i : Instr) → 0x43 ≤ i.code → (0x45 ≤ i.code → 0xBF < i.code) → IsNotStraight (plain_of i)
high_other i from past =
    subst (λ (o : Option Plain). IsNotStraight o) (sym (above i from))
    (numeric_other (kind_of i.code) i.code (λ w. let two = plain_within i.code w in let far : 0xBF < i.code = past two.0 in omega (arith, two.1)))

-- no other code is a straight instruction's that leaves no value more
pub other_codes : (i : Instr) → i.code ≢ 0x00 → i.code ≢ 0x01 → i.code ≢ 0x1A → i.code ≢ 0x1B → i.code ≢ 0x20 → i.code ≢ 0x21 → i.code ≢ 0x22 →
    i.code ≢ 0x23 → i.code ≢ 0x24 → (0x28 ≤ i.code → 0x3E < i.code) → i.code ≢ 0x3F → i.code ≢ 0x40 → i.code ≢ 0x41 → i.code ≢ 0x42 →
    (0x45 ≤ i.code → 0xBF < i.code) → IsNotStraight (plain_of i)
other_codes i n00 n01 n1A n1B n20 n21 n22 n23 n24 access n3F n40 n41 n42 past =
    elim (leb_tells 0x28 i.code) as (λ w. IsNotStraight (plain_of i)) [
      | inl w ↦ high_other i (let over : 0x3E < i.code = access w.1 in let more : 0x43 ≤ i.code = omega arith in more) past
      | inr w ↦ low_other i w.1 n00 n01 n1A n1B n20 n21 n22 n23 n24
    ]
