-- Memory instructions keep a memory typed, and load values of their types.
use Rattle.std.proofs.Common.{◌≡◌, ◌≤◌, ◌<◌, ℕ, zero, suc, ◌+◌, ◌-◌, ◌*◌, ◌/◌, ◌%◌, ◌^◌, ◌||◌, not, All, Bool, true, false, if◌then◌else◌, nat_le, List, [], ◌∷◌, ◌++◌, length, take, drop, replicate, slice_range, arith, refl, ◌∙◌, ap, subst, lit<, length-append, length-take, length-drop}
use Rattle.std.proofs.lemmas.Bool.Decides.{nat_tests}
use Rattle.std.proofs.lemmas.List.{length-replicate}
use Rattle.std.proofs.lemmas.Nat.{pow-add}
use Rattle.std.proofs.Math.Pow.{pow_mono}
use Rattle.std.proofs.lemmas.List.Elements.{All-nil, All-cons, All-head, All-tail, All-append, All-take, All-drop, All-replicate}
use Rattle.wasm_ops.specs.declared.instruction.Kind.{Kind}
use Rattle.wasm_ops.specs.declared.instruction.Kind.TheVariants as kinds
use Rattle.wasm_ops.specs.Table.{kind_of, width_of, is_among, moves_i64, num_if}
use Rattle.wasm_ops.specs.Integers.{signed, unsigned}
use Rattle.linear_memory.specs.Bytes.{little_endian, low_bytes, written}
use Rattle.linear_memory.specs.Contents.{Contents, page_size}
use Rattle.wasm_form.specs.Ranges.{IsOctet}
use Rattle.wasm_form.specs.Typing.{value_type}
use Rattle.tree_machine.specs.MemoryAccess.{signed_loads, loaded_bits, extended}
use Rattle.tree_machine.specs.MemorySize.{pages_in, grown}
use Rattle.tree_machine.specs.Typed.{IsValue, IsTypedMemory}
use Rattle.tree_machine.proofs.PlainOf.{load_within}
use Rattle.tree_machine.proofs.IntegersFit.{unsigned_fits}
use Rattle.tree_machine.proofs.OperationsTyped.{value_of_bits, all_to, each_to}

little_below : (bytes : List ℕ) → All IsOctet bytes → little_endian bytes < 2 ^ (8 * length bytes)
little_below [] h = lit< tt
little_below (b ∷ bytes) h =
    let low : b < 2 ^ 8 = All-head IsOctet b bytes h in
    let high : little_endian bytes < 2 ^ (8 * length bytes) = little_below bytes (All-tail IsOctet b bytes h) in
    let count : 8 * suc (length bytes) ≡ 8 + 8 * length bytes = omega arith in
    let digits : 2 ^ (8 + 8 * length bytes) ≡ 2 ^ 8 * 2 ^ (8 * length bytes) = pow-add 2 8 (8 * length bytes) in
    let byte : 2 ^ 8 ≡ 256 = refl in
    rw (count, digits, byte) (omega arith)

length-between : (bytes : List ℕ) (from count : ℕ) → from + count ≤ length bytes → length (slice_range bytes from (from + count)) ≡ count
length-between bytes from count fits =
    simp (length-take, length-drop) (omega arith)

abbrev is_load : Kind → Bool
is_load kinds.Load = true
is_load kinds.Plain = false
is_load kinds.Control = false
is_load kinds.Store = false
is_load kinds.Float = false

-- a load reaches no more bytes than its type has
abbrev narrow : ℕ → Bool
narrow c = not (is_load (kind_of c)) || nat_le (8 * width_of c) (loaded_bits c)

all_narrow : all_to narrow 64 ≡ true
all_narrow = refl

either : (a b : Bool) → (not a || b) ≡ true → a ≡ true → b ≡ true
either true b e h = e
either false b e h = absurd (cc)

load_narrow : (c : ℕ) → kind_of c ≡ kinds.Load → 8 * width_of c ≤ loaded_bits c
load_narrow c kind =
    let below : c ≤ 0x35 = (load_within c kind).1 in
    let test : nat_le (8 * width_of c) (loaded_bits c) ≡ true =
    either (is_load (kind_of c)) (nat_le (8 * width_of c) (loaded_bits c)) (each_to narrow 64 c all_narrow (omega arith)) (ap is_load kind) in
    grind (arith, nat_tests)

if_below : (b : Bool) (x y n : ℕ) → x < n → y < n → (if b then x else y) < n
if_below true x y n h k = h
if_below false x y n h k = k

-- what a load gives
pub loaded_value : (code from : ℕ) (bytes : List ℕ) → kind_of code ≡ kinds.Load → All IsOctet bytes → from + width_of code ≤ length bytes →
    IsValue (value_type (num_if (moves_i64 code))) (extended code (slice_range bytes from (from + width_of code)))
loaded_value code from bytes kind octets fits =
    let part = slice_range bytes from (from + width_of code) in
    let count : length part ≡ width_of code = length-between bytes from (width_of code) fits in
    let are : All IsOctet part =
    All-take IsOctet (from + width_of code - from) (drop from bytes) (All-drop IsOctet from bytes octets) in
    let raw : little_endian part < 2 ^ (8 * width_of code) = subst (λ (n : ℕ). little_endian part < 2 ^ (8 * n)) count (little_below part are) in
    let more : 2 ^ (8 * width_of code) ≤ 2 ^ loaded_bits code = pow_mono (load_narrow code kind) in
    value_of_bits (moves_i64 code) (extended code part)
    (if_below (is_among signed_loads code) (unsigned (loaded_bits code) (signed (8 * width_of code) (little_endian part))) (little_endian part) (2 ^ loaded_bits code)
    (unsigned_fits (loaded_bits code) (signed (8 * width_of code) (little_endian part))) (omega arith))

pub length-low_bytes : (count n : ℕ) → length (low_bytes count n) ≡ count
length-low_bytes zero n = refl
length-low_bytes (suc count) n = ap suc (length-low_bytes count (n / 256))

pub low_octets : (count n : ℕ) → All IsOctet (low_bytes count n)
low_octets zero n = All-nil IsOctet
low_octets (suc count) n =
    let low : n % 256 < 2 ^ 8 = let byte : 2 ^ 8 ≡ 256 = refl in omega arith in
    All-cons IsOctet (n % 256) (low_bytes count (n / 256)) low (low_octets count (n / 256))

pub length-written : (bytes new : List ℕ) (at : ℕ) → at + length new ≤ length bytes → length (written bytes at new) ≡ length bytes
length-written bytes new at fits = simp (length-append, length-take, length-drop) (omega arith)

-- bytes that are written leave a memory typed
pub written_typed : (memory : Contents) (at : ℕ) (new : List ℕ) → IsTypedMemory memory → All IsOctet new → at + length new ≤ length memory.bytes →
    IsTypedMemory (record memory { bytes = written memory.bytes at new })
written_typed memory at new is octets fits =
    let same : length (written memory.bytes at new) ≡ length memory.bytes = length-written memory.bytes new at fits in
    record {
      octets = All-append IsOctet (take at memory.bytes) (new ++ drop (at + length new) memory.bytes) (All-take IsOctet at memory.bytes is.octets)
          (All-append IsOctet new (drop (at + length new) memory.bytes) octets (All-drop IsOctet (at + length new) memory.bytes is.octets));
      whole = rw same is.whole;
      within = rw same is.within;
      most = is.most;
    }

-- a store leaves a memory typed
pub stored_typed : (memory : Contents) (at count n : ℕ) → IsTypedMemory memory → at + count ≤ length memory.bytes →
    IsTypedMemory (record memory { bytes = written memory.bytes at (low_bytes count n) })
stored_typed memory at count n is fits =
    let size : length (low_bytes count n) ≡ count = length-low_bytes count n in
    written_typed memory at (low_bytes count n) is (low_octets count n) (omega arith)

pages_whole : (memory : Contents) → IsTypedMemory memory → length memory.bytes ≡ pages_in memory * page_size
pages_whole memory is = let whole : length memory.bytes % page_size ≡ 0 = is.whole in omega arith

-- the number of pages is an i32
pub pages_value : (memory : Contents) → IsTypedMemory memory → pages_in memory < 2 ^ 32
pages_value memory is =
    let whole : length memory.bytes ≡ pages_in memory * page_size = pages_whole memory is in
    let within : length memory.bytes ≤ memory.most * page_size = is.within in
    let most : memory.most ≤ 65536 = is.most in
    let big : 65536 < 2 ^ 32 = lit< tt in
    omega arith

-- growth leaves a memory typed
pub grown_typed : (memory : Contents) (pages : ℕ) → IsTypedMemory memory → pages_in memory + pages ≤ memory.most → IsTypedMemory (grown pages memory)
grown_typed memory pages is fits =
    let count : length (memory.bytes ++ replicate (pages * page_size) 0) ≡ length memory.bytes + pages * page_size =
    length-append memory.bytes (replicate (pages * page_size) 0) ∙ ap (λ (n : ℕ). length memory.bytes + n) (length-replicate (pages * page_size) 0) in
    let before : length memory.bytes ≡ pages_in memory * page_size = pages_whole memory is in
    let whole : length memory.bytes % page_size ≡ 0 = is.whole in
    record {
      octets = All-append IsOctet memory.bytes (replicate (pages * page_size) 0) is.octets (All-replicate IsOctet (pages * page_size) 0 (lit< tt));
      whole = rw count (omega arith);
      within = rw count (omega arith);
      most = is.most;
    }
