-- What the flat machine holds. It executes the flat list of a body, instruction by instruction, over one array of
-- values.
use Rattle.std.specs.Prelude.{ℕ, ◌+◌, List, Option}
use Rattle.linear_memory.specs.Contents.{Contents}
use Rattle.tree_machine.specs.Config.{Invocation}

-- where a function stands: its next instruction, which body it has, how many values lie below its locals, and how many
-- blocks, loops and ifs are open in it and in its callers
pub record Place : Type 0 where
  pub pc : ℕ
  pub body : ℕ
  pub base : ℕ
  pub opens : ℕ

-- The value places in use, the last one first: of each function the operands and below them the locals, its callers'
-- further below. Where the function at work stands, and where its callers go on, the innermost first. The globals, the
-- table, the memory, and the functions that are still to be entered.
pub record Flat : Type 0 where
  pub values : List ℕ
  pub place : Place
  pub callers : List Place
  pub globals : List ℕ
  pub table : List (Option ℕ)
  pub memory : Option Contents
  pub invocations : List Invocation

-- the machine with these values, at the next instruction
abbrev pub goes_on : (values : List ℕ) → Flat → Flat
goes_on values flat = record flat { values = values; place = record flat.place { pc = flat.place.pc + 1 } }
