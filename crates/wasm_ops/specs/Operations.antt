-- What the plain instructions compute, by their codes (Core 1.0, 4.4.1 and 5.4.5).
use Rattle.std.specs.Prelude.{ℕ, ◌-◌, ◌==◌, ◌||◌, if◌then◌else◌, List, [], ◌∷◌, Option, Some, None, Result, Ok, option_map, slice_get}
use Rattle.std.specs.Int.{is_in_range}
use Rattle.wasm_ops.specs.declared.trap.Trap.{Trap}
use Rattle.wasm_ops.specs.Table.{takes_i64}
use Rattle.wasm_ops.specs.Integers.{one_if, eqz, eq, ne, lt_s, lt_u, gt_s, gt_u, le_s, le_u, ge_s, ge_u, clz, ctz, popcnt, add, sub, mul, div_s, div_u, rem_s, rem_u, and, or, xor, shl, shr_s, shr_u, rotl, rotr, wrap, extend_s}

-- the operations on one integer
pub data Unary : Type 0 where
  Eqz : Unary
  Clz : Unary
  Ctz : Unary
  Popcnt : Unary
  Wrap : Unary
  ExtendS : Unary
  ExtendU : Unary

-- the operations on two integers of one type
pub data Binary : Type 0 where
  Eq : Binary
  Ne : Binary
  LtS : Binary
  LtU : Binary
  GtS : Binary
  GtU : Binary
  LeS : Binary
  LeU : Binary
  GeS : Binary
  GeU : Binary
  Add : Binary
  Sub : Binary
  Mul : Binary
  DivS : Binary
  DivU : Binary
  RemS : Binary
  RemU : Binary
  And : Binary
  Or : Binary
  Xor : Binary
  Shl : Binary
  ShrS : Binary
  ShrU : Binary
  Rotl : Binary
  Rotr : Binary

-- 67 to 69 for i32, 79 to 7B for i64
abbrev pub counts : List Unary
counts = Clz ∷ Ctz ∷ Popcnt ∷ []

-- 46 to 4F for i32, 51 to 5A for i64
abbrev pub comparisons : List Binary
comparisons = Eq ∷ Ne ∷ LtS ∷ LtU ∷ GtS ∷ GtU ∷ LeS ∷ LeU ∷ GeS ∷ GeU ∷ []

-- 6A to 78 for i32, 7C to 8A for i64
abbrev pub arithmetic : List Binary
arithmetic =
    Add ∷ Sub ∷ Mul ∷ DivS ∷ DivU ∷ RemS ∷ RemU ∷ And ∷ Or ∷ Xor ∷ Shl ∷ ShrS ∷ ShrU ∷ Rotl ∷ Rotr ∷ []

-- the operation of the instruction with code c, where that is a plain one on one operand
abbrev pub unary_of : ℕ → Option Unary
unary_of c =
    if c == 0x45 || c == 0x50 then Some Eqz
    else if is_in_range 0x67 0x69 c then slice_get counts (c - 0x67)
    else if is_in_range 0x79 0x7b c then slice_get counts (c - 0x79)
    else if c == 0xa7 then Some Wrap
    else if c == 0xac then Some ExtendS
    else if c == 0xad then Some ExtendU
    else None

-- the operation of the instruction with code c, where that is a plain one on two operands
abbrev pub binary_of : ℕ → Option Binary
binary_of c =
    if is_in_range 0x46 0x4f c then slice_get comparisons (c - 0x46)
    else if is_in_range 0x51 0x5a c then slice_get comparisons (c - 0x51)
    else if is_in_range 0x6a 0x78 c then slice_get arithmetic (c - 0x6a)
    else if is_in_range 0x7c 0x8a c then slice_get arithmetic (c - 0x7c)
    else None

-- the value of an operation on an integer of W bits
abbrev pub apply_unary : Unary → ℕ → ℕ → ℕ
apply_unary Eqz W a = one_if (eqz a)
apply_unary Clz W a = clz W a
apply_unary Ctz W a = ctz W a
apply_unary Popcnt W a = popcnt W a
apply_unary Wrap W a = wrap a
apply_unary ExtendS W a = extend_s a
apply_unary ExtendU W a = a

-- the value of an operation on two integers of W bits, or why it traps
abbrev pub apply_binary : Binary → ℕ → ℕ → ℕ → Result ℕ Trap
apply_binary Eq W a b = Ok (one_if (eq a b))
apply_binary Ne W a b = Ok (one_if (ne a b))
apply_binary LtS W a b = Ok (one_if (lt_s W a b))
apply_binary LtU W a b = Ok (one_if (lt_u a b))
apply_binary GtS W a b = Ok (one_if (gt_s W a b))
apply_binary GtU W a b = Ok (one_if (gt_u a b))
apply_binary LeS W a b = Ok (one_if (le_s W a b))
apply_binary LeU W a b = Ok (one_if (le_u a b))
apply_binary GeS W a b = Ok (one_if (ge_s W a b))
apply_binary GeU W a b = Ok (one_if (ge_u a b))
apply_binary Add W a b = Ok (add W a b)
apply_binary Sub W a b = Ok (sub W a b)
apply_binary Mul W a b = Ok (mul W a b)
apply_binary DivS W a b = div_s W a b
apply_binary DivU W a b = div_u a b
apply_binary RemS W a b = rem_s W a b
apply_binary RemU W a b = rem_u a b
apply_binary And W a b = Ok (and W a b)
apply_binary Or W a b = Ok (or W a b)
apply_binary Xor W a b = Ok (xor W a b)
apply_binary Shl W a b = Ok (shl W a b)
apply_binary ShrS W a b = Ok (shr_s W a b)
apply_binary ShrU W a b = Ok (shr_u W a b)
apply_binary Rotl W a b = Ok (rotl W a b)
apply_binary Rotr W a b = Ok (rotr W a b)

-- the bits of the operands of the plain instruction with code c
abbrev pub operand_bits : ℕ → ℕ
operand_bits c = if takes_i64 c then 64 else 32

-- what the instruction with code c makes of its operand; `None` where it is no plain one on one operand
abbrev pub unary_value : ℕ → ℕ → Option ℕ
unary_value c a = option_map (λ operation. apply_unary operation (operand_bits c) a) (unary_of c)

-- what the instruction with code c makes of its operands; `None` where it is no plain one on two operands
abbrev pub binary_value : ℕ → ℕ → ℕ → Option (Result ℕ Trap)
binary_value c a b = option_map (λ operation. apply_binary operation (operand_bits c) a b) (binary_of c)
