-- The numeric instructions give values of the types that the table says.
use Rattle.std.proofs.Common.{◌≡◌, ◌≢◌, ◌≤◌, ◌<◌, ℕ, zero, suc, ◌%◌, ◌^◌, ◌⊎◌, inl, inr, ◌==◌, ◌&&◌, ◌||◌, not, Bool, true, false, if◌then◌else◌, Option, Some, None, option_map, Result, Ok, Err, arith, refl, ◌∙◌, ap, subst, lit<}
use Rattle.std.proofs.lemmas.Bool.Decides.{eqb_tells}
use Rattle.wasm_ops.specs.declared.instruction.Kind.{Kind}
use Rattle.wasm_ops.specs.declared.instruction.Kind.TheVariants as kinds
use Rattle.wasm_ops.specs.declared.trap.Trap.{Trap}
use Rattle.wasm_ops.specs.Table.{kind_of, takes_one, takes_i64, gives_i64, num_if}
use Rattle.wasm_ops.specs.Integers.{signed}
use Rattle.wasm_ops.specs.Operations.{Unary, Eqz, Clz, Ctz, Popcnt, Wrap, ExtendS, ExtendU, Binary, Eq, Ne, LtS, LtU, GtS, GtU, LeS, LeU, GeS, GeU, Add, Sub, Mul, DivS, DivU, RemS, RemU, And, Or, Xor, Shl, ShrS, ShrU, Rotl, Rotr, unary_of, binary_of, apply_unary, apply_binary, operand_bits, unary_value, binary_value}
use Rattle.wasm_form.specs.Typing.{value_type}
use Rattle.tree_machine.specs.Typed.{IsValue}
use Rattle.tree_machine.proofs.PlainOf.{plain_within}
use Rattle.tree_machine.proofs.IntegersFit.{rest_fits, unsigned_fits, quotient_fits, ResultFits, div_u_fits, rem_u_fits, div_s_fits, rem_s_fits, and_fits, or_fits, xor_fits, rotl_fits, rotr_fits, clz_fits, ctz_fits, popcnt_fits, one_if_fits}

-- the bits of a type
abbrev pub bits : Bool → ℕ
bits long = if long then 64 else 32

-- whether an operation gives an i64, by whether its operands are of that type
abbrev unary_gives : Unary → Bool → Bool
unary_gives Eqz long = false
unary_gives Clz long = long
unary_gives Ctz long = long
unary_gives Popcnt long = long
unary_gives Wrap long = false
unary_gives ExtendS long = true
unary_gives ExtendU long = true

abbrev binary_gives : Binary → Bool → Bool
binary_gives Eq long = false
binary_gives Ne long = false
binary_gives LtS long = false
binary_gives LtU long = false
binary_gives GtS long = false
binary_gives GtU long = false
binary_gives LeS long = false
binary_gives LeU long = false
binary_gives GeS long = false
binary_gives GeU long = false
binary_gives op long = long

abbrev same : Bool → Bool → Bool
same true b = b
same false b = not b

-- there is an operation, and it gives what the table says
abbrev unary_told : Option Unary → (long gives : Bool) → Bool
unary_told None long gives = false
unary_told (Some o) long gives = same (unary_gives o long) gives

abbrev binary_told : Option Binary → (long gives : Bool) → Bool
binary_told None long gives = false
binary_told (Some o) long gives = same (binary_gives o long) gives

abbrev is_plain : Kind → Bool
is_plain kinds.Plain = true
is_plain kinds.Control = false
is_plain kinds.Load = false
is_plain kinds.Store = false
is_plain kinds.Float = false

abbrev told : ℕ → Bool
told c =
    not (is_plain (kind_of c))
    || (if takes_one c then unary_told (unary_of c) (takes_i64 c) (gives_i64 c) else binary_told (binary_of c) (takes_i64 c) (gives_i64 c))

-- a test of each number below
abbrev pub all_to : (ℕ → Bool) → ℕ → Bool
all_to test zero = true
all_to test (suc n) = test n && all_to test n

both : (a b : Bool) → (a && b) ≡ true → (a ≡ true) × (b ≡ true)
both true true e = (refl, refl)
both true false e = absurd (cc)
both false b e = absurd (cc)

at_or_below : (c n : ℕ) → c < suc n → (c ≡ n) ⊎ (c < n)
at_or_below c n less = elim (eqb_tells c n) as (λ w. (c ≡ n) ⊎ (c < n)) [ inl w ↦ inl w.1 | inr w ↦ inr (let other : c ≢ n = w.1 in omega arith) ]

pub each_to : (test : ℕ → Bool) (n c : ℕ) → all_to test n ≡ true → c < n → test c ≡ true
each_to test zero c e less = absurd (omega arith)
each_to test (suc n) c e less =
    let two = both (test n) (all_to test n) e in
    elim (at_or_below c n less) as (λ w. test c ≡ true)
    [ inl same_place ↦ ap test same_place ∙ two.0 | inr before ↦ each_to test n c two.1 before ]

all_told : all_to told 192 ≡ true
all_told = refl

either : (a b : Bool) → (not a || b) ≡ true → a ≡ true → b ≡ true
either true b e h = e
either false b e h = absurd (cc)

plain_told : (c : ℕ) → kind_of c ≡ kinds.Plain →
    (if takes_one c then unary_told (unary_of c) (takes_i64 c) (gives_i64 c) else binary_told (binary_of c) (takes_i64 c) (gives_i64 c)) ≡ true
plain_told c kind =
    let below : c ≤ 0xBF = (plain_within c kind).1 in
    either (is_plain (kind_of c)) _ (each_to told 192 c all_told (omega arith)) (ap is_plain kind)

-- a number of the bits of a type is a value of it
pub value_of_bits : (long : Bool) (n : ℕ) → n < 2 ^ bits long → IsValue (value_type (num_if long)) n
value_of_bits true n h = h
value_of_bits false n h = h

bits_of_value : (long : Bool) (n : ℕ) → IsValue (value_type (num_if long)) n → n < 2 ^ bits long
bits_of_value true n h = h
bits_of_value false n h = h

pub small : (long : Bool) (n : ℕ) → n ≤ 64 → n < 2 ^ bits long
small true n h = let big : 64 < 2 ^ 64 = lit< tt in omega arith
small false n h = let big : 64 < 2 ^ 32 = lit< tt in omega arith

bits_small : (long : Bool) → bits long ≤ 64
bits_small true = omega arith
bits_small false = omega arith

bits_some : (long : Bool) → 0 < bits long
bits_some true = omega arith
bits_some false = omega arith

wide : (long : Bool) (n : ℕ) → n < 2 ^ bits long → n < 2 ^ 64
wide true n h = h
wide false n h = let more : 2 ^ 32 < 2 ^ 64 = lit< tt in omega arith

counted : (long : Bool) (n : ℕ) → n ≤ bits long → n < 2 ^ bits long
counted long n h = let most : bits long ≤ 64 = bits_small long in small long n (omega arith)

one : (n : ℕ) → n ≤ 1 → n < 2 ^ 32
one n h = small false n (omega arith)

unary_fits : (o : Unary) (long : Bool) (a : ℕ) → a < 2 ^ bits long → apply_unary o (bits long) a < 2 ^ bits (unary_gives o long)
unary_fits Eqz long a h = one _ (one_if_fits (a == 0))
unary_fits Clz long a h = counted long _ (clz_fits (bits long) a)
unary_fits Ctz long a h = counted long _ (ctz_fits (bits long) a)
unary_fits Popcnt long a h = counted long _ (popcnt_fits (bits long) a)
unary_fits Wrap long a h = rest_fits 32 a
unary_fits ExtendS long a h = unsigned_fits 64 (signed 32 a)
unary_fits ExtendU long a h = wide long a h

binary_fits : (o : Binary) (long : Bool) (a b : ℕ) → a < 2 ^ bits long → b < 2 ^ bits long →
    ResultFits (bits (binary_gives o long)) (apply_binary o (bits long) a b)
binary_fits Eq long a b h k = one _ (one_if_fits _)
binary_fits Ne long a b h k = one _ (one_if_fits _)
binary_fits LtS long a b h k = one _ (one_if_fits _)
binary_fits LtU long a b h k = one _ (one_if_fits _)
binary_fits GtS long a b h k = one _ (one_if_fits _)
binary_fits GtU long a b h k = one _ (one_if_fits _)
binary_fits LeS long a b h k = one _ (one_if_fits _)
binary_fits LeU long a b h k = one _ (one_if_fits _)
binary_fits GeS long a b h k = one _ (one_if_fits _)
binary_fits GeU long a b h k = one _ (one_if_fits _)
binary_fits Add long a b h k = rest_fits (bits long) _
binary_fits Sub long a b h k = rest_fits (bits long) _
binary_fits Mul long a b h k = rest_fits (bits long) _
binary_fits DivS long a b h k = div_s_fits (bits long) a b
binary_fits DivU long a b h k = div_u_fits (bits long) a b h
binary_fits RemS long a b h k = rem_s_fits (bits long) a b
binary_fits RemU long a b h k = rem_u_fits (bits long) a b h
binary_fits And long a b h k = and_fits (bits long) a b
binary_fits Or long a b h k = or_fits (bits long) a b
binary_fits Xor long a b h k = xor_fits (bits long) a b
binary_fits Shl long a b h k = rest_fits (bits long) _
binary_fits ShrS long a b h k = unsigned_fits (bits long) _
binary_fits ShrU long a b h k = quotient_fits (bits long) a (2 ^ (b % bits long)) h
binary_fits Rotl long a b h k = rotl_fits (bits long) a b (bits_some long) h
binary_fits Rotr long a b h k = rotr_fits (bits long) a b (bits_some long) h

same_is : (a b : Bool) → same a b ≡ true → a ≡ b
same_is true true e = refl
same_is true false e = absurd (cc)
same_is false true e = absurd (cc)
same_is false false e = refl

-- what a unary instruction gives
abbrev pub UnaryKept : ℕ → Option ℕ → Type 0
UnaryKept code None = ⊥
UnaryKept code (Some v) = IsValue (value_type (num_if (gives_i64 code))) v

-- what a binary instruction gives, unless it traps
abbrev pub BinaryKept : ℕ → Option (Result ℕ Trap) → Type 0
BinaryKept code None = ⊥
BinaryKept code (Some (Ok v)) = IsValue (value_type (num_if (gives_i64 code))) v
BinaryKept code (Some (Err trap)) = Unit {0}

unary_told_kept : (code a : ℕ) (o : Option Unary) → unary_told o (takes_i64 code) (gives_i64 code) ≡ true →
    a < 2 ^ bits (takes_i64 code) → UnaryKept code (option_map (λ operation. apply_unary operation (operand_bits code) a) o)
unary_told_kept code a None e h = absurd (cc)
unary_told_kept code a (Some o) e h =
    value_of_bits (gives_i64 code) _
    (subst (λ (long : Bool). apply_unary o (operand_bits code) a < 2 ^ bits long) (same_is (unary_gives o (takes_i64 code)) (gives_i64 code) e)
    (unary_fits o (takes_i64 code) a h))

result_kept : (code : ℕ) (r : Result ℕ Trap) → ResultFits (bits (gives_i64 code)) r → BinaryKept code (Some r)
result_kept code (Ok v) h = value_of_bits (gives_i64 code) v h
result_kept code (Err trap) h = tt

binary_told_kept : (code a b : ℕ) (o : Option Binary) → binary_told o (takes_i64 code) (gives_i64 code) ≡ true →
    a < 2 ^ bits (takes_i64 code) → b < 2 ^ bits (takes_i64 code) →
    BinaryKept code (option_map (λ operation. apply_binary operation (operand_bits code) a b) o)
binary_told_kept code a b None e h k = absurd (cc)
binary_told_kept code a b (Some o) e h k =
    result_kept code (apply_binary o (operand_bits code) a b)
    (subst (λ (long : Bool). ResultFits (bits long) (apply_binary o (operand_bits code) a b)) (same_is (binary_gives o (takes_i64 code)) (gives_i64 code) e)
    (binary_fits o (takes_i64 code) a b h k))

pub unary_kept : (code a : ℕ) → kind_of code ≡ kinds.Plain → takes_one code ≡ true →
    IsValue (value_type (num_if (takes_i64 code))) a → UnaryKept code (unary_value code a)
unary_kept code a kind one_operand h =
    unary_told_kept code a (unary_of code)
    (subst (λ (t : Bool). (if t then unary_told (unary_of code) (takes_i64 code) (gives_i64 code) else binary_told (binary_of code) (takes_i64 code) (gives_i64 code)) ≡ true) one_operand (plain_told code kind))
    (bits_of_value (takes_i64 code) a h)

pub binary_kept : (code a b : ℕ) → kind_of code ≡ kinds.Plain → takes_one code ≡ false →
    IsValue (value_type (num_if (takes_i64 code))) a → IsValue (value_type (num_if (takes_i64 code))) b → BinaryKept code (binary_value code a b)
binary_kept code a b kind two_operands h k =
    binary_told_kept code a b (binary_of code)
    (subst (λ (t : Bool). (if t then unary_told (unary_of code) (takes_i64 code) (gives_i64 code) else binary_told (binary_of code) (takes_i64 code) (gives_i64 code)) ≡ true) two_operands (plain_told code kind))
    (bits_of_value (takes_i64 code) a h) (bits_of_value (takes_i64 code) b k)
