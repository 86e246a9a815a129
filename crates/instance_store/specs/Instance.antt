-- What instantiation makes: an instance before its first function is entered.
use Rattle.std.specs.Prelude.{ℕ, List, [], Option}
use Rattle.linear_memory.specs.Contents.{Contents}
use Rattle.tree_machine.specs.Config.{Config, Invocation}

-- the globals; the table, where an element may be unset; the memory, if there is one; and the functions to be entered
pub record Instance : Type 0 where
  pub globals : List ℕ
  pub table : List (Option ℕ)
  pub memory : Option Contents
  pub invocations : List Invocation

-- the configuration that it is: no function was entered
abbrev pub config_of : Instance → Config
config_of i = record {
  globals = i.globals;
  table = i.table;
  memory = i.memory;
  invocations = i.invocations;
  frames = [];
}
