use Rattle.std.specs.Prelude.{ℕ, ◌≡◌, ◌<◌, ◌^◌}
use Rattle.wasm_ops.specs.declared.num.Num.{Num}
use Rattle.wasm_ops.specs.declared.num.Num.TheVariants.{I32}

-- Core 1.0, 4.2.1, values: an integer as the number that its bits spell, with its type
pub record TypedValue : Type 0 where
  pub num : Num
  pub value : ℕ

-- an i32 is below 2^32
abbrev pub IsInRange : Num → ℕ → Type 0
IsInRange num value = num ≡ I32 → value < 2 ^ 32
