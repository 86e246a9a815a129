use Rattle.std.specs.Prelude.{ℕ, Option}
use Rattle.process_store.specs.declared.item.Letter.{Letter}

-- an item of a mailbox: its tag, and its message with its number, where it isn't a signal
pub record ItemShown (S : Type 0) : Type 0 where
  pub tag : ℕ
  pub letter : Option (Letter S)
