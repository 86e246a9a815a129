-- Loads and stores (Core 1.0, 4.4.4).
use Rattle.std.specs.Prelude.{ℕ, ◌+◌, ◌*◌, List, [], ◌∷◌, cond, if◌then◌else◌, nat_le, length, slice_range, Option, Some, None}
use Rattle.wasm_ops.specs.declared.trap.Trap.TheVariants as traps
use Rattle.wasm_ops.specs.Table.{width_of, is_among, moves_i64}
use Rattle.wasm_ops.specs.Integers.{signed, unsigned}
use Rattle.linear_memory.specs.Bytes.{little_endian, low_bytes, written}
use Rattle.linear_memory.specs.Contents.{Contents}
use Rattle.tree_machine.specs.Config.{Config, Frame, with_operands}
use Rattle.tree_machine.specs.Outcomes.{Effect, Gives, Fails, Undefined, Outcome, Goes, Traps, Stuck}

-- the loads that extend with the sign: i32.load8_s, i32.load16_s, i64.load8_s, i64.load16_s, i64.load32_s
abbrev pub signed_loads : List ℕ
signed_loads = 0x2C ∷ 0x2E ∷ 0x30 ∷ 0x32 ∷ 0x34 ∷ []

-- the bits of the type that a load gives
abbrev pub loaded_bits : (code : ℕ) → ℕ
loaded_bits code = if moves_i64 code then 64 else 32

-- the value of these bytes, extended to its type with the sign or with zeros
abbrev pub extended : (code : ℕ) → (bytes : List ℕ) → ℕ
extended code bytes =
    if is_among signed_loads code then unsigned (loaded_bits code) (signed (8 * width_of code) (little_endian bytes))
    else little_endian bytes

-- Core 1.0, 4.4.4, load: the address is the operand plus the offset, without wrapping; past the end of the memory it
-- traps
abbrev pub load : (code offset : ℕ) → (bytes operands : List ℕ) → Effect (List ℕ)
load code offset bytes [] = Undefined
load code offset bytes (address ∷ below) =
    cond (nat_le (address + offset + width_of code) (length bytes))
    (Gives (extended code (slice_range bytes (address + offset) (address + offset + width_of code)) ∷ below))
    (Fails traps.Bounds)

-- a load from a memory that is there
abbrev pub load_from : (code offset : ℕ) → Option Contents → (operands : List ℕ) → Effect (List ℕ)
load_from code offset None operands = Undefined
load_from code offset (Some memory) operands = load code offset memory.bytes operands

-- the low bytes of a value are written from this address on; past the end of the memory it traps
abbrev pub store_at : (code address value : ℕ) → Contents → (c : Config) → (frames : List Frame) → Outcome
store_at code address value memory c frames =
    cond (nat_le (address + width_of code) (length memory.bytes))
    (Goes (record c {
      memory = Some (record memory { bytes = written memory.bytes address (low_bytes (width_of code) value) });
      frames = frames;
    }))
    (Traps traps.Bounds)

-- Core 1.0, 4.4.4, store: the value lies on top of the operand of the address
abbrev pub store : (code offset : ℕ) → Option Contents → (operands : List ℕ) →
    Config → Frame → (frames : List Frame) → Outcome
store code offset None operands c f frames = Stuck
store code offset (Some memory) [] c f frames = Stuck
store code offset (Some memory) (value ∷ []) c f frames = Stuck
store code offset (Some memory) (value ∷ address ∷ below) c f frames =
    store_at code (address + offset) value memory c (with_operands below f ∷ frames)
