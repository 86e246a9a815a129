-- The table of the instructions (Core 1.0, 5.4).
use Rattle.std.specs.Prelude.{◌≡◌, ℕ, ◌^◌, ◌<◌, ◌==◌, Bool, ◌||◌, if◌then◌else◌, List, [], ◌∷◌, Option, Some, None, IsSome, ◌⊎◌, filter, map, All}
use Rattle.std.specs.Int.{is_in_range}
use Rattle.std.specs.List.{list_any, range_with_len}
use Rattle.std.specs.List.Sorted.{IsStrictlyIncreasing}
use Rattle.wasm_ops.specs.declared.instruction.Kind.{Kind}
use Rattle.wasm_ops.specs.declared.instruction.Kind.TheVariants.{Control, Plain, Load, Store, Float}
use Rattle.wasm_ops.specs.declared.num.Num.{Num}
use Rattle.wasm_ops.specs.declared.num.Num.TheVariants.{I32, I64}
use Rattle.wasm_ops.specs.declared.instruction.Row.{Row}
use Rattle.wasm_ops.specs.Names.{name_of}

-- an instruction has the code c; `else` and `end` count
abbrev pub is_instruction : ℕ → Bool
is_instruction c =
    is_in_range 0x00 0x05 c || is_in_range 0x0b 0x11 c || is_in_range 0x1a 0x1b c
    || is_in_range 0x20 0x24 c || is_in_range 0x28 0xbf c

-- the codes of all instructions, by rising code
abbrev pub instruction_codes : List ℕ
instruction_codes = filter is_instruction (range_with_len 0 256)

-- c is one of these codes
abbrev pub is_among : List ℕ → ℕ → Bool
is_among these c = list_any (λ x. x == c) these

-- the instructions on floats: loads, stores, constants, comparisons, arithmetic, conversions
abbrev pub is_float : ℕ → Bool
is_float c =
    is_in_range 0x2a 0x2b c || is_in_range 0x38 0x39 c || is_in_range 0x43 0x44 c || is_in_range 0x5b 0x66 c
    || is_in_range 0x8b 0xa6 c || is_in_range 0xa8 0xab c || is_in_range 0xae 0xbf c

-- the kind of the instruction with code c
abbrev pub kind_of : ℕ → Kind
kind_of c =
    if is_float c then Float
    else if is_in_range 0x28 0x35 c then Load
    else if is_in_range 0x36 0x3e c then Store
    else if is_in_range 0x45 0xbf c then Plain
    else Control

-- the integer instructions on an i64: i64.eqz to i64.ge_u, i64.clz to i64.rotr, i32.wrap_i64
abbrev pub takes_i64 : ℕ → Bool
takes_i64 c = is_in_range 0x50 0x5a c || is_in_range 0x79 0x8a c || c == 0xa7

-- the integer instructions that give an i64: i64.clz to i64.rotr, i64.extend_i32_s and _u
abbrev pub gives_i64 : ℕ → Bool
gives_i64 c = is_in_range 0x79 0x8a c || is_in_range 0xac 0xad c

-- the loads and stores of an i64
abbrev pub moves_i64 : ℕ → Bool
moves_i64 c = c == 0x29 || is_in_range 0x30 0x35 c || c == 0x37 || is_in_range 0x3c 0x3e c

-- the plain instructions on one operand: eqz, clz, ctz, popcnt and the conversions
abbrev pub takes_one : ℕ → Bool
takes_one c =
    c == 0x45 || c == 0x50 || is_in_range 0x67 0x69 c || is_in_range 0x79 0x7b c || c == 0xa7 || is_in_range 0xac 0xad c

-- i64 or i32
abbrev pub num_if : Bool → Num
num_if is_long = if is_long then I64 else I32

-- Core 1.0, 3.3.1 and 3.3.4: the first operand, of a plain instruction; the address, of a load or a store
abbrev pub first_operand : Kind → Num → Option Num
first_operand Plain operand = Some operand
first_operand Load operand = Some I32
first_operand Store operand = Some I32
first_operand Control operand = None
first_operand Float operand = None

-- the second operand: of a plain instruction on two the same as the first; of a store what it stores
abbrev pub second_operand : Kind → Bool → Num → Num → Option Num
second_operand Plain one operand moved = if one then None else Some operand
second_operand Store one operand moved = Some moved
second_operand Load one operand moved = None
second_operand Control one operand moved = None
second_operand Float one operand moved = None

-- the result, of a plain instruction; what is loaded, of a load
abbrev pub result_type : Kind → Num → Num → Option Num
result_type Plain result moved = Some result
result_type Load result moved = Some moved
result_type Store result moved = None
result_type Control result moved = None
result_type Float result moved = None

-- the types of the operands and of the result of the instruction with code c
abbrev pub first_of : ℕ → Option Num
first_of c = first_operand (kind_of c) (num_if (takes_i64 c))

abbrev pub second_of : ℕ → Option Num
second_of c = second_operand (kind_of c) (takes_one c) (num_if (takes_i64 c)) (num_if (moves_i64 c))

abbrev pub result_of : ℕ → Option Num
result_of c = result_type (kind_of c) (num_if (gives_i64 c)) (num_if (moves_i64 c))

-- n is a value of this type, and there is one
abbrev pub FitsType : Option Num → ℕ → Type 0
FitsType (Some I32) n = n < 2 ^ 32
FitsType (Some I64) n = n < 2 ^ 64
FitsType None n = ⊥

-- the bytes that a load or a store of an integer reaches, of any other instruction 0
abbrev pub width_of : ℕ → ℕ
width_of c =
    if is_among (0x2c ∷ 0x2d ∷ 0x30 ∷ 0x31 ∷ 0x3a ∷ 0x3c ∷ []) c then 1
    else if is_among (0x2e ∷ 0x2f ∷ 0x32 ∷ 0x33 ∷ 0x3b ∷ 0x3d ∷ []) c then 2
    else if is_among (0x28 ∷ 0x34 ∷ 0x35 ∷ 0x36 ∷ 0x3e ∷ []) c then 4
    else if is_among (0x29 ∷ 0x37 ∷ []) c then 8
    else 0

-- row is what the standard says of the instruction with code c
pub record IsRowOf (c : ℕ) (row : Row) : Type 0 where
  pub code : row.code ≡ c
  pub name : row.name.now ≡ name_of c
  pub kind : row.kind ≡ kind_of c
  pub first : row.first ≡ first_of c
  pub second : row.second ≡ second_of c
  pub result : row.result ≡ result_of c
  pub width : row.width ≡ width_of c

-- the table: a row for each instruction, by rising code, so that no two rows have the same code
pub record IsTable (rows : List Row) : Type 0 where
  pub codes : map (λ r. r.code) rows ≡ instruction_codes
  pub distinct : IsStrictlyIncreasing (map (λ r. r.code) rows)
  pub each : All (λ r. IsRowOf r.code r) rows

-- a plain instruction has a result, and one operand or two
pub record HasOperands (row : Row) : Type 0 where
  pub first : IsSome row.first
  pub result : IsSome row.result

-- the widths of loads and stores
abbrev pub IsAccessWidth : ℕ → Type 0
IsAccessWidth n = (n ≡ 1) ⊎ (n ≡ 2) ⊎ (n ≡ 4) ⊎ (n ≡ 8)
