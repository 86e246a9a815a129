-- The bytes that a module is written as.
use Rattle.std.specs.Prelude.{ℕ, ◌≤◌, List, length}
use Rattle.wasm_form.specs.Modules.{Spells}
use Rattle.wasm_form.specs.declared.parts.Parts.{Parts}

-- The bytes spell the module, and no bytes that spell it are fewer: so each number is as short as it can be,
-- each section holds something, they stand by rising id, and none is a custom one.
pub record IsShortest (bytes : List ℕ) (m : Parts) : Type 0 where
  pub spells : Spells bytes m
  pub fewest : (others : List ℕ) → Spells others m → length bytes ≤ length others
