-- Table types and memory types, which are both limits.
use Rattle.std.specs.Prelude.{ℕ, List}
use Rattle.wasm_form.specs.Types.{SpellsLimits, SpellsTableType}
use Rattle.module_reader.specs.declared.bounds.TableType.{TableType}
use Rattle.module_reader.specs.declared.bounds.MemoryType.{MemoryType}

abbrev pub SpellsTable : List ℕ → TableType → Type 0
SpellsTable bytes ty = SpellsTableType bytes ty.bounds

abbrev pub SpellsMemory : List ℕ → MemoryType → Type 0
SpellsMemory bytes ty = SpellsLimits bytes ty.bounds
