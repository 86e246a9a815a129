-- The instructions' names in the text format (Core 1.0, 6.5), each list in the order of its codes.
use Rattle.std.specs.Prelude.{ℕ, ◌-◌, if◌then◌else◌, List, [], ◌∷◌, ◌++◌, slice_index_or, codes}
use Rattle.std.specs.Int.{is_in_range}

-- 00 to 05
abbrev pub block_names : List (List ℕ)
block_names = codes "unreachable" ∷ codes "nop" ∷ codes "block" ∷ codes "loop" ∷ codes "if" ∷ codes "else" ∷ []

-- 0B to 11
abbrev pub branch_names : List (List ℕ)
branch_names =
    codes "end" ∷ codes "br" ∷ codes "br_if" ∷ codes "br_table" ∷ codes "return" ∷ codes "call" ∷ codes "call_indirect" ∷ []

-- 1A and 1B
abbrev pub parametric_names : List (List ℕ)
parametric_names = codes "drop" ∷ codes "select" ∷ []

-- 20 to 24
abbrev pub variable_names : List (List ℕ)
variable_names =
    codes "local.get" ∷ codes "local.set" ∷ codes "local.tee" ∷ codes "global.get" ∷ codes "global.set" ∷ []

-- 28 to 40
abbrev pub memory_names : List (List ℕ)
memory_names =
    codes "i32.load" ∷ codes "i64.load" ∷ codes "f32.load" ∷ codes "f64.load"
    ∷ codes "i32.load8_s" ∷ codes "i32.load8_u" ∷ codes "i32.load16_s" ∷ codes "i32.load16_u"
    ∷ codes "i64.load8_s" ∷ codes "i64.load8_u" ∷ codes "i64.load16_s" ∷ codes "i64.load16_u"
    ∷ codes "i64.load32_s" ∷ codes "i64.load32_u"
    ∷ codes "i32.store" ∷ codes "i64.store" ∷ codes "f32.store" ∷ codes "f64.store"
    ∷ codes "i32.store8" ∷ codes "i32.store16" ∷ codes "i64.store8" ∷ codes "i64.store16" ∷ codes "i64.store32"
    ∷ codes "memory.size" ∷ codes "memory.grow" ∷ []

-- 41 to 44
abbrev pub constant_names : List (List ℕ)
constant_names = codes "i32.const" ∷ codes "i64.const" ∷ codes "f32.const" ∷ codes "f64.const" ∷ []

-- 45 to 4F for i32, 50 to 5A for i64
abbrev pub integer_comparison_names : List (List ℕ)
integer_comparison_names =
    codes "eqz" ∷ codes "eq" ∷ codes "ne" ∷ codes "lt_s" ∷ codes "lt_u" ∷ codes "gt_s" ∷ codes "gt_u"
    ∷ codes "le_s" ∷ codes "le_u" ∷ codes "ge_s" ∷ codes "ge_u" ∷ []

-- 5B to 60 for f32, 61 to 66 for f64
abbrev pub float_comparison_names : List (List ℕ)
float_comparison_names = codes "eq" ∷ codes "ne" ∷ codes "lt" ∷ codes "gt" ∷ codes "le" ∷ codes "ge" ∷ []

-- 67 to 78 for i32, 79 to 8A for i64
abbrev pub integer_arithmetic_names : List (List ℕ)
integer_arithmetic_names =
    codes "clz" ∷ codes "ctz" ∷ codes "popcnt" ∷ codes "add" ∷ codes "sub" ∷ codes "mul" ∷ codes "div_s" ∷ codes "div_u"
    ∷ codes "rem_s" ∷ codes "rem_u" ∷ codes "and" ∷ codes "or" ∷ codes "xor" ∷ codes "shl" ∷ codes "shr_s"
    ∷ codes "shr_u" ∷ codes "rotl" ∷ codes "rotr" ∷ []

-- 8B to 98 for f32, 99 to A6 for f64
abbrev pub float_arithmetic_names : List (List ℕ)
float_arithmetic_names =
    codes "abs" ∷ codes "neg" ∷ codes "ceil" ∷ codes "floor" ∷ codes "trunc" ∷ codes "nearest" ∷ codes "sqrt"
    ∷ codes "add" ∷ codes "sub" ∷ codes "mul" ∷ codes "div" ∷ codes "min" ∷ codes "max" ∷ codes "copysign" ∷ []

-- A7 to BF
abbrev pub conversion_names : List (List ℕ)
conversion_names =
    codes "i32.wrap_i64" ∷ codes "i32.trunc_f32_s" ∷ codes "i32.trunc_f32_u" ∷ codes "i32.trunc_f64_s" ∷ codes "i32.trunc_f64_u"
    ∷ codes "i64.extend_i32_s" ∷ codes "i64.extend_i32_u"
    ∷ codes "i64.trunc_f32_s" ∷ codes "i64.trunc_f32_u" ∷ codes "i64.trunc_f64_s" ∷ codes "i64.trunc_f64_u"
    ∷ codes "f32.convert_i32_s" ∷ codes "f32.convert_i32_u" ∷ codes "f32.convert_i64_s" ∷ codes "f32.convert_i64_u"
    ∷ codes "f32.demote_f64"
    ∷ codes "f64.convert_i32_s" ∷ codes "f64.convert_i32_u" ∷ codes "f64.convert_i64_s" ∷ codes "f64.convert_i64_u"
    ∷ codes "f64.promote_f32"
    ∷ codes "i32.reinterpret_f32" ∷ codes "i64.reinterpret_f64" ∷ codes "f32.reinterpret_i32" ∷ codes "f64.reinterpret_i64" ∷ []

-- the name at a place of a list
abbrev pub name_at : List (List ℕ) → ℕ → List ℕ
name_at names place = slice_index_or names place []

-- the name of the instruction with code c
abbrev pub name_of : ℕ → List ℕ
name_of c =
    if is_in_range 0x00 0x05 c then name_at block_names (c - 0x00)
    else if is_in_range 0x0b 0x11 c then name_at branch_names (c - 0x0b)
    else if is_in_range 0x1a 0x1b c then name_at parametric_names (c - 0x1a)
    else if is_in_range 0x20 0x24 c then name_at variable_names (c - 0x20)
    else if is_in_range 0x28 0x40 c then name_at memory_names (c - 0x28)
    else if is_in_range 0x41 0x44 c then name_at constant_names (c - 0x41)
    else if is_in_range 0x45 0x4f c then codes "i32." ++ name_at integer_comparison_names (c - 0x45)
    else if is_in_range 0x50 0x5a c then codes "i64." ++ name_at integer_comparison_names (c - 0x50)
    else if is_in_range 0x5b 0x60 c then codes "f32." ++ name_at float_comparison_names (c - 0x5b)
    else if is_in_range 0x61 0x66 c then codes "f64." ++ name_at float_comparison_names (c - 0x61)
    else if is_in_range 0x67 0x78 c then codes "i32." ++ name_at integer_arithmetic_names (c - 0x67)
    else if is_in_range 0x79 0x8a c then codes "i64." ++ name_at integer_arithmetic_names (c - 0x79)
    else if is_in_range 0x8b 0x98 c then codes "f32." ++ name_at float_arithmetic_names (c - 0x8b)
    else if is_in_range 0x99 0xa6 c then codes "f64." ++ name_at float_arithmetic_names (c - 0x99)
    else name_at conversion_names (c - 0xa7)
