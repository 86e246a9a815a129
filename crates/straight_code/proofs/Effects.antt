-- Effects on the values, by what was written into the array.
use Rattle.std.proofs.Common.{◌≡◌, ℕ, ◌+◌, ◌*◌, ◌<◌, ◌≤◌, Bool, true, false, cond, nat_eq, nat_lt, nat_le, List, ◌∷◌, ◌++◌, length, replicate, slice_get, slice_range, Option, Some, Result, Ok, Err, sym, ap, subst, ◌∙◌, arith}
use Rattle.std.specs.Prelude.{slice_index, slice_set}
use Rattle.std.proofs.lemmas.Bool.Decides.{nat_tests}
use Rattle.std.proofs.lemmas.Option.{slice_get-get_or}
use Rattle.wasm_ops.specs.declared.trap.Trap.{Trap}
use Rattle.wasm_ops.specs.declared.trap.Trap.TheVariants as traps
use Rattle.wasm_ops.specs.Table.{width_of}
use Rattle.wasm_ops.specs.Operations.{unary_value, binary_value}
use Rattle.linear_memory.specs.Bytes.{little_endian, low_bytes, written}
use Rattle.linear_memory.specs.Contents.{Contents, page_size, HasPages}
use Rattle.tree_machine.specs.Outcomes.{Gives, Fails, Undefined}
use Rattle.tree_machine.specs.Numeric.{unary_on, unary, binary_on, binary}
use Rattle.tree_machine.specs.Parametric.{drop_one, select}
use Rattle.tree_machine.specs.Variables.{push_value}
use Rattle.tree_machine.specs.MemoryAccess.{load, extended}
use Rattle.tree_machine.specs.MemorySize.{pages_in, size_of, minus_one, grown}
use Rattle.flat_machine.specs.Flat.{Flat, goes_on}
use Rattle.flat_machine.specs.Shown.{stack_of}
use Rattle.flat_machine.specs.Straight.{local_value, with_local, set_top, tee_top, put_global, put_bytes, put_top, grow_memory}
use Rattle.straight_code.specs.Loads.{number_loaded}
use Rattle.straight_code.proofs.Stacks.{top_of, two_of, three_of, stack_push, stack_get, stack_set}

-- operands

pub dropped : (xs : List ℕ) (n i : ℕ) → i + 1 ≡ n → drop_one (stack_of xs n) ≡ Gives (stack_of xs i)
dropped xs n i e = ap drop_one (top_of xs n i e)

pub selected : (xs : List ℕ) (n i j k v : ℕ) → i + 3 ≡ n → i + 1 ≡ j → i + 2 ≡ k → n ≤ length xs →
    v ≡ cond (nat_eq (slice_index xs k) 0) (slice_index xs j) (slice_index xs i) →
    select (stack_of xs n) ≡ Gives (stack_of (slice_set xs i v) j)
selected xs n i j k v e f g within is =
    ap select (three_of xs n i j k e f g)
    ∙ ap (λ (a : ℕ). Gives (a ∷ stack_of xs i)) (sym is)
    ∙ sym (ap (λ (s : List ℕ). Gives s) (stack_push xs v i j (omega arith) f))

pub unary_done : (code : ℕ) (xs : List ℕ) (n i v : ℕ) → i + 1 ≡ n → n ≤ length xs → Some v ≡ unary_value code (slice_index xs i) →
    unary code (stack_of xs n) ≡ Gives (stack_of (slice_set xs i v) n)
unary_done code xs n i v e within is =
    ap (unary code) (top_of xs n i e)
    ∙ ap (λ (o : Option ℕ). unary_on o (stack_of xs i)) (sym is)
    ∙ sym (ap (λ (s : List ℕ). Gives s) (stack_push xs v i n (omega arith) e))

pub binary_done : (code : ℕ) (xs : List ℕ) (n i j v : ℕ) → i + 2 ≡ n → i + 1 ≡ j → n ≤ length xs →
    Some (Ok v) ≡ binary_value code (slice_index xs i) (slice_index xs j) →
    binary code (stack_of xs n) ≡ Gives (stack_of (slice_set xs i v) j)
binary_done code xs n i j v e f within is =
    ap (binary code) (two_of xs n i j e f)
    ∙ ap (λ (o : Option (Result ℕ Trap)). binary_on o (stack_of xs i)) (sym is)
    ∙ sym (ap (λ (s : List ℕ). Gives s) (stack_push xs v i j (omega arith) f))

pub binary_fails : (code : ℕ) (xs : List ℕ) (n i j : ℕ) (trap : Trap) → i + 2 ≡ n → i + 1 ≡ j →
    Some (Err trap) ≡ binary_value code (slice_index xs i) (slice_index xs j) → binary code (stack_of xs n) ≡ Fails trap
binary_fails code xs n i j trap e f is =
    ap (binary code) (two_of xs n i j e f) ∙ ap (λ (o : Option (Result ℕ Trap)). binary_on o (stack_of xs i)) (sym is)

-- variables

pub local_got : (xs : List ℕ) (n base x : ℕ) (after : List ℕ) → base + x < n → n ≤ length xs →
    after ≡ slice_index xs (base + x) ∷ stack_of xs n → push_value (local_value base x (stack_of xs n)) (stack_of xs n) ≡ Gives after
local_got xs n base x after below within is =
    ap (λ (o : Option ℕ). push_value o (stack_of xs n)) (stack_get xs n (base + x) within below) ∙ sym (ap (λ (s : List ℕ). Gives s) is)

pub local_set : (xs : List ℕ) (n i base x : ℕ) → i + 1 ≡ n → base + x < i → n ≤ length xs →
    set_top base x (stack_of xs n) ≡ Gives (stack_of (slice_set xs (base + x) (slice_index xs i)) i)
local_set xs n i base x e below within =
    ap (set_top base x) (top_of xs n i e) ∙ ap (λ (s : List ℕ). Gives s) (stack_set xs i (base + x) (slice_index xs i) (omega arith) below)

pub local_teed : (xs : List ℕ) (n i base x : ℕ) → i + 1 ≡ n → base + x < i → n ≤ length xs →
    tee_top base x (stack_of xs n) ≡ Gives (stack_of (slice_set xs (base + x) (slice_index xs i)) n)
local_teed xs n i base x e below within =
    let top = top_of xs n i e in
    ap (tee_top base x) top
    ∙ ap (λ (s : List ℕ). Gives (with_local base x (slice_index xs i) s)) (sym top)
    ∙ ap (λ (s : List ℕ). Gives s) (stack_set xs n (base + x) (slice_index xs i) within (omega arith))

pub global_got : (globals : List ℕ) (x : ℕ) (below after : List ℕ) → x < length globals →
    after ≡ slice_index globals x ∷ below → push_value (slice_get globals x) below ≡ Gives after
global_got globals x below after within is =
    ap (λ (o : Option ℕ). push_value o below) (slice_get-get_or globals x 0 within) ∙ sym (ap (λ (s : List ℕ). Gives s) is)

pub global_put : (xs : List ℕ) (n i x : ℕ) (globals : List ℕ) → i + 1 ≡ n → x < length globals → (flat : Flat) → flat.globals ≡ globals →
    put_global x (stack_of xs n) flat ≡ Gives (record (goes_on (stack_of xs i) flat) { globals = slice_set globals x (slice_index xs i) })
global_put xs n i x globals e within flat same =
    let there : nat_lt x (length globals) ≡ true = grind (arith, nat_tests) in
    ap (λ (s : List ℕ). put_global x s flat) (top_of xs n i e)
    ∙ ap (λ (g : List ℕ). cond (nat_lt x (length g)) (Gives (record (goes_on (stack_of xs i) flat) { globals = slice_set g x (slice_index xs i) })) Undefined) same
    ∙ ap (λ (b : Bool). cond b (Gives (record (goes_on (stack_of xs i) flat) { globals = slice_set globals x (slice_index xs i) })) Undefined) there

-- loads and stores

pub load_done : (code offset : ℕ) (bytes xs : List ℕ) (n i at number v : ℕ) → i + 1 ≡ n → n ≤ length xs → at ≡ slice_index xs i + offset →
    at + width_of code ≤ length bytes → number ≡ little_endian (slice_range bytes at (at + width_of code)) → v ≡ number_loaded code number →
    load code offset bytes (stack_of xs n) ≡ Gives (stack_of (slice_set xs i v) n)
load_done code offset bytes xs n i at number v e within at_is inside read is =
    let there : nat_le (at + width_of code) (length bytes) ≡ true = grind (arith, nat_tests) in
    let value : number_loaded code (little_endian (slice_range bytes at (at + width_of code))) ≡ v = sym (ap (number_loaded code) read) ∙ sym is in
    ap (load code offset bytes) (top_of xs n i e)
    ∙ ap (λ (a : ℕ). cond (nat_le (a + width_of code) (length bytes)) (Gives (extended code (slice_range bytes a (a + width_of code)) ∷ stack_of xs i)) (Fails traps.Bounds)) (sym at_is)
    ∙ ap (λ (b : Bool). cond b (Gives (extended code (slice_range bytes at (at + width_of code)) ∷ stack_of xs i)) (Fails traps.Bounds)) there
    ∙ ap (λ (a : ℕ). Gives (a ∷ stack_of xs i)) value
    ∙ sym (ap (λ (s : List ℕ). Gives s) (stack_push xs v i n (omega arith) e))

pub load_fails : (code offset : ℕ) (bytes xs : List ℕ) (n i at : ℕ) → i + 1 ≡ n → at ≡ slice_index xs i + offset →
    (at + width_of code ≤ length bytes → ⊥) → load code offset bytes (stack_of xs n) ≡ Fails traps.Bounds
load_fails code offset bytes xs n i at e at_is outside =
    let there : nat_le (at + width_of code) (length bytes) ≡ false = grind (arith, nat_tests) in
    ap (load code offset bytes) (top_of xs n i e)
    ∙ ap (λ (a : ℕ). cond (nat_le (a + width_of code) (length bytes)) (Gives (extended code (slice_range bytes a (a + width_of code)) ∷ stack_of xs i)) (Fails traps.Bounds)) (sym at_is)
    ∙ ap (λ (b : Bool). cond b (Gives (extended code (slice_range bytes at (at + width_of code)) ∷ stack_of xs i)) (Fails traps.Bounds)) there

pub store_done : (code offset : ℕ) (memory after : Contents) (xs : List ℕ) (n i j at : ℕ) → i + 2 ≡ n → i + 1 ≡ j → at ≡ slice_index xs i + offset →
    at + width_of code ≤ length memory.bytes →
    after ≡ record memory { bytes = written memory.bytes at (low_bytes (width_of code) (slice_index xs j)) } → (flat : Flat) →
    put_top code offset (Some memory) (stack_of xs n) flat ≡ Gives (record (goes_on (stack_of xs i) flat) { memory = Some after })
store_done code offset memory after xs n i j at e f at_is inside is flat =
    let there : nat_le (at + width_of code) (length memory.bytes) ≡ true = grind (arith, nat_tests) in
    ap (λ (s : List ℕ). put_top code offset (Some memory) s flat) (two_of xs n i j e f)
    ∙ ap (λ (a : ℕ). put_bytes code a (slice_index xs j) memory (stack_of xs i) flat) (sym at_is)
    ∙ ap (λ (b : Bool). cond b (Gives (record (goes_on (stack_of xs i) flat) {
      memory = Some (record memory { bytes = written memory.bytes at (low_bytes (width_of code) (slice_index xs j)) });
    })) (Fails traps.Bounds)) there
    ∙ ap (λ (m : Contents). Gives (record (goes_on (stack_of xs i) flat) { memory = Some m })) (sym is)

pub store_fails : (code offset : ℕ) (memory : Contents) (xs : List ℕ) (n i j at : ℕ) → i + 2 ≡ n → i + 1 ≡ j → at ≡ slice_index xs i + offset →
    (at + width_of code ≤ length memory.bytes → ⊥) → (flat : Flat) →
    put_top code offset (Some memory) (stack_of xs n) flat ≡ Fails traps.Bounds
store_fails code offset memory xs n i j at e f at_is outside flat =
    let there : nat_le (at + width_of code) (length memory.bytes) ≡ false = grind (arith, nat_tests) in
    ap (λ (s : List ℕ). put_top code offset (Some memory) s flat) (two_of xs n i j e f)
    ∙ ap (λ (a : ℕ). put_bytes code a (slice_index xs j) memory (stack_of xs i) flat) (sym at_is)
    ∙ ap (λ (b : Bool). cond b (Gives (record (goes_on (stack_of xs i) flat) {
      memory = Some (record memory { bytes = written memory.bytes at (low_bytes (width_of code) (slice_index xs j)) });
    })) (Fails traps.Bounds)) there

-- the same, where the width is told by a number of its own

pub load_done_by : (code offset : ℕ) (bytes xs : List ℕ) (n i at w number v : ℕ) → i + 1 ≡ n → n ≤ length xs → at ≡ slice_index xs i + offset → w ≡ width_of code →
    at + w ≤ length bytes → number ≡ little_endian (slice_range bytes at (at + w)) → v ≡ number_loaded code number →
    load code offset bytes (stack_of xs n) ≡ Gives (stack_of (slice_set xs i v) n)
load_done_by code offset bytes xs n i at w number v e within at_is wide inside read is =
    load_done code offset bytes xs n i at number v e within at_is (subst (λ (k : ℕ). at + k ≤ length bytes) wide inside)
    (subst (λ (k : ℕ). number ≡ little_endian (slice_range bytes at (at + k))) wide read) is

pub load_fails_by : (code offset : ℕ) (bytes xs : List ℕ) (n i at w : ℕ) → i + 1 ≡ n → at ≡ slice_index xs i + offset → w ≡ width_of code →
    (at + w ≤ length bytes → ⊥) → load code offset bytes (stack_of xs n) ≡ Fails traps.Bounds
load_fails_by code offset bytes xs n i at w e at_is wide outside =
    load_fails code offset bytes xs n i at e at_is (λ h. outside (subst (λ (k : ℕ). at + k ≤ length bytes) (sym wide) h))

pub store_done_by : (code offset : ℕ) (memory after : Contents) (xs : List ℕ) (n i j at w : ℕ) → i + 2 ≡ n → i + 1 ≡ j → at ≡ slice_index xs i + offset → w ≡ width_of code →
    at + w ≤ length memory.bytes → after ≡ record memory { bytes = written memory.bytes at (low_bytes w (slice_index xs j)) } → (flat : Flat) →
    put_top code offset (Some memory) (stack_of xs n) flat ≡ Gives (record (goes_on (stack_of xs i) flat) { memory = Some after })
store_done_by code offset memory after xs n i j at w e f at_is wide inside is flat =
    store_done code offset memory after xs n i j at e f at_is (subst (λ (k : ℕ). at + k ≤ length memory.bytes) wide inside)
    (subst (λ (k : ℕ). after ≡ record memory { bytes = written memory.bytes at (low_bytes k (slice_index xs j)) }) wide is) flat

pub store_fails_by : (code offset : ℕ) (memory : Contents) (xs : List ℕ) (n i j at w : ℕ) → i + 2 ≡ n → i + 1 ≡ j → at ≡ slice_index xs i + offset → w ≡ width_of code →
    (at + w ≤ length memory.bytes → ⊥) → (flat : Flat) → put_top code offset (Some memory) (stack_of xs n) flat ≡ Fails traps.Bounds
store_fails_by code offset memory xs n i j at w e f at_is wide outside flat =
    store_fails code offset memory xs n i j at e f at_is (λ h. outside (subst (λ (k : ℕ). at + k ≤ length memory.bytes) (sym wide) h)) flat

-- the size of the memory

pub pages_are : (memory : Contents) (pages : ℕ) → HasPages memory pages → pages_in memory ≡ pages
pages_are memory pages has = let whole : length memory.bytes ≡ pages * 65536 = has.whole in omega arith

pub size_done : (memory : Contents) (pages : ℕ) (below after : List ℕ) → HasPages memory pages → after ≡ pages ∷ below →
    size_of (Some memory) below ≡ Gives after
size_done memory pages below after has is =
    ap (λ (p : ℕ). Gives (p ∷ below)) (pages_are memory pages has) ∙ sym (ap (λ (s : List ℕ). Gives s) is)

pub grow_done : (memory after : Contents) (xs : List ℕ) (n i pages : ℕ) → i + 1 ≡ n → n ≤ length xs → HasPages memory pages →
    length memory.bytes + slice_index xs i * page_size ≤ memory.most * page_size →
    after ≡ record memory { bytes = memory.bytes ++ replicate (slice_index xs i * page_size) 0 } → (flat : Flat) → flat.memory ≡ Some memory →
    grow_memory (Some memory) (stack_of xs n) flat ≡ Gives (record (goes_on (stack_of (slice_set xs i pages) n) flat) { memory = Some after })
grow_done memory after xs n i pages e within has room is flat same =
    let whole : length memory.bytes ≡ pages * 65536 = has.whole in
    let are : pages_in memory ≡ pages = pages_are memory pages has in
    let fits : pages_in memory + slice_index xs i ≤ memory.most = omega arith in
    let there : nat_le (pages_in memory + slice_index xs i) memory.most ≡ true = grind (arith, nat_tests) in
    ap (λ (s : List ℕ). grow_memory (Some memory) s flat) (top_of xs n i e)
    ∙ ap (λ (b : Bool). cond b (Gives (record (goes_on (pages_in memory ∷ stack_of xs i) flat) { memory = Some (grown (slice_index xs i) memory) }))
    (Gives (goes_on (minus_one ∷ stack_of xs i) flat))) there
    ∙ ap (λ (m : Contents). Gives (record (goes_on (pages_in memory ∷ stack_of xs i) flat) { memory = Some m })) (sym is)
    ∙ ap (λ (p : ℕ). Gives (record (goes_on (p ∷ stack_of xs i) flat) { memory = Some after })) are
    ∙ sym (ap (λ (s : List ℕ). Gives (record (goes_on s flat) { memory = Some after })) (stack_push xs pages i n (omega arith) e))

pub grow_refused : (memory after : Contents) (xs : List ℕ) (n i pages : ℕ) → i + 1 ≡ n → n ≤ length xs → HasPages memory pages →
    (length memory.bytes + slice_index xs i * page_size ≤ memory.most * page_size → ⊥) →
    after ≡ memory → (flat : Flat) → flat.memory ≡ Some memory →
    grow_memory (Some memory) (stack_of xs n) flat ≡ Gives (record (goes_on (stack_of (slice_set xs i minus_one) n) flat) { memory = Some after })
grow_refused memory after xs n i pages e within has room is flat same =
    let whole : length memory.bytes ≡ pages * 65536 = has.whole in
    let are : pages_in memory ≡ pages = pages_are memory pages has in
    let fits : pages_in memory + slice_index xs i ≤ memory.most → ⊥ = λ w. room (omega arith) in
    let there : nat_le (pages_in memory + slice_index xs i) memory.most ≡ false = grind (arith, nat_tests) in
    ap (λ (s : List ℕ). grow_memory (Some memory) s flat) (top_of xs n i e)
    ∙ ap (λ (b : Bool). cond b (Gives (record (goes_on (pages_in memory ∷ stack_of xs i) flat) { memory = Some (grown (slice_index xs i) memory) }))
    (Gives (goes_on (minus_one ∷ stack_of xs i) flat))) there
    ∙ ap (λ (o : Option Contents). Gives (record (goes_on (minus_one ∷ stack_of xs i) flat) { memory = o })) (same ∙ ap (λ (m : Contents). Some m) (sym is))
    ∙ sym (ap (λ (s : List ℕ). Gives (record (goes_on s flat) { memory = Some after })) (stack_push xs minus_one i n (omega arith) e))
