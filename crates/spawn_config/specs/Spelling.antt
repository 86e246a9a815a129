use Rattle.std.specs.Prelude.{◌≡◌, ℕ, ◌<◌, ◌^◌, List, ◌∷◌, ◌++◌, All, replicate}
use Rattle.std.specs.List.{flat_map}
use Rattle.std.specs.Int.{w32, w64, to_le_bytes}
use Rattle.wasm_ops.specs.declared.num.Num.{Num}
use Rattle.wasm_ops.specs.declared.num.Num.TheVariants.{I32, I64}
use Rattle.host_port.specs.TypedValue.{TypedValue}

-- Core 1.0, 5.3.1, value types: the byte of a type
abbrev pub type_byte : Num → ℕ
type_byte I32 = 0x7F
type_byte I64 = 0x7E

-- Core 1.0, 4.2.1, values: a value of i32 is below 2^32, and one of i64 below 2^64
abbrev pub IsValueOf : Num → ℕ → Type 0
IsValueOf I32 value = value < 2 ^ 32
IsValueOf I64 value = value < 2 ^ 64

-- sixteen little-endian bytes, of which those past the first four or eight are zero
abbrev pub value_bytes : Num → ℕ → List ℕ
value_bytes I32 value = to_le_bytes w32 value ++ replicate 12 0
value_bytes I64 value = to_le_bytes w64 value ++ replicate 8 0

-- a parameter: the byte of its type, and the bytes of its value
abbrev pub param_bytes : TypedValue → List ℕ
param_bytes param = type_byte param.num ∷ value_bytes param.num param.value

-- parameters: one after another
abbrev pub spelling : List TypedValue → List ℕ
spelling params = flat_map param_bytes params

-- the bytes spell these parameters, each of them a value of its type
pub record Spells (bytes : List ℕ) (params : List TypedValue) : Type 0 where
  pub spelled : bytes ≡ spelling params
  pub values : All (λ param. IsValueOf param.num param.value) params

-- the bytes are parameters: some spell them, each a value of its type
abbrev pub AreParams : List ℕ → Type 0
AreParams bytes = (params : List TypedValue) × Spells bytes params
