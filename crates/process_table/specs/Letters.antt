use Rattle.std.specs.Prelude.{ℕ}
use Rattle.message_scratch.specs.Messages.{Message}

-- a message in a mailbox, with its number among all the sends that were answered 0
pub record Letter (S : Type 0) : Type 0 where
  pub number : ℕ
  pub message : Message S
