use Rattle.std.specs.Prelude.{◌≡◌, ℕ, ◌≤◌, List, ◌++◌, Contains}
use Rattle.resource_table.specs.Handles.{Handle}
use Rattle.resource_table.specs.Steps.{Told, Sheds}
use Rattle.world_rules.specs.Lives.{Setting, IsRun}
use Rattle.node_state.specs.declared.outcome.Receipt.{Receipt}
use Rattle.node_state.specs.declared.outcome.Receipt.TheVariants as Receive
use Rattle.node_state.specs.Seats.{Meaning}
use Rattle.node_state.specs.Fits.{Brought, TurnFits, give_of}
use Rattle.node_state.specs.Streaming.{BroughtStreams, StreamsFit, streamed_after}
use Rattle.process_table.specs.Seen.{Seen, KeepsStreams, world_of}
use Rattle.process_table.specs.Takes.{SameTerms, RecordsGive}

-- What each kind of give wants and does.

-- what a worker brings back fits, with its streams
pub record ComesBack {E P S : Type 0} (engines : Meaning E P) (setting : Setting P) (tells : Told S) (node : Seen P S)
    (worker pid : ℕ) (brought : Brought E) (streams : BroughtStreams S) : Type 0 where
  pub fits : TurnFits engines setting node.book.births (world_of node) worker pid brought
  pub came : StreamsFit tells
      (streamed_after ((world_of node).process pid) (give_of worker pid brought) (world_of node).streamed) brought.side
      streams

-- it was taken back: exactly its Give was recorded, and the node has its streams
pub record IsGivenBack {E P S : Type 0} (setting : Setting P) (tells : Told S) (old new : Seen P S) (worker pid : ℕ)
    (brought : Brought E) : Type 0 where
  pub same : SameTerms old new
  pub given : RecordsGive old.book new.book worker pid brought
  pub spare : old.spare ≤ new.spare
  pub streams : KeepsStreams tells new
  pub run : IsRun setting new.book

-- what becomes of the streams of a mailbox, of a scratch message and of a shed in a receive: where a message is
-- delivered, its streams come out of the mailbox, and those of the old scratch message are shut; else all stay
abbrev pub MovesOut : {S : Type 0} → Told S → (mail scratch shed mail_after scratch_after shed_after : List (Handle S))
    → Receipt → Type 0
MovesOut tells mail scratch shed mail_after scratch_after shed_after Receive.Delivered =
    ((handle : Handle _) → Contains (scratch_after ++ mail_after) handle → Contains mail handle)
    × Sheds tells scratch shed shed_after
MovesOut tells mail scratch shed mail_after scratch_after shed_after Receive.TimedOut =
    (mail_after ≡ mail) × (scratch_after ≡ scratch) × (shed_after ≡ shed)
MovesOut tells mail scratch shed mail_after scratch_after shed_after Receive.Waits =
    (mail_after ≡ mail) × (scratch_after ≡ scratch) × (shed_after ≡ shed)
