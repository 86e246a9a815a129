-- What is made of a module once for all its bodies.
use Rattle.std.specs.Prelude.{◌≡◌, ◌↔◌, ◌<◌, ℕ, List, length, Bool, IsTrue}
use Rattle.wasm_form.specs.declared.types.GlobalType.{GlobalType}
use Rattle.wasm_form.specs.declared.parts.Parts.{Parts}
use Rattle.wasm_form.specs.Context.{functions_of, tables_of, memories_of, globals_of}

-- the functions and globals of the module, and whether there is a table and a memory
pub record IsMade (m : Parts) (functions : List ℕ) (has_table has_memory : Bool) (globals : List GlobalType) : Type 0 where
  pub all_functions : functions ≡ functions_of m
  pub table : IsTrue has_table ↔ 0 < length (tables_of m)
  pub memory : IsTrue has_memory ↔ 0 < length (memories_of m)
  pub all_globals : globals ≡ globals_of m
