-- What a load makes of a number.
use Rattle.std.specs.Prelude.{ℕ, ◌*◌, if◌then◌else◌}
use Rattle.wasm_ops.specs.Integers.{signed, unsigned}
use Rattle.wasm_ops.specs.Table.{width_of, is_among}
use Rattle.tree_machine.specs.MemoryAccess.{signed_loads, loaded_bits}

-- the number of the bytes that a load reaches, extended to its type with the sign or with zeros
abbrev pub number_loaded : (code number : ℕ) → ℕ
number_loaded code number =
    if is_among signed_loads code then unsigned (loaded_bits code) (signed (8 * width_of code) number) else number
