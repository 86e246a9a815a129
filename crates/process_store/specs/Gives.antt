use Rattle.std.specs.Prelude.{◌≡◌, ◌⊎◌, ℕ, ◌≤◌}
use Rattle.host_port.specs.declared.request.Request.{Request}
use Rattle.resource_table.specs.Steps.{Told}
use Rattle.world_rules.specs.Calls.{HostCall, call_of}
use Rattle.world_rules.specs.Calls as CallIs
use Rattle.world_rules.specs.Lives.{Setting, IsRun}
use Rattle.node_mirror.specs.Fits.{TurnFits}
use Rattle.node_state.specs.Fits.{Brought, give_of}
use Rattle.node_state.specs.Seats.{Meaning}
use Rattle.node_state.specs.Streaming.{BroughtStreams, StreamsFit, streamed_after}
use Rattle.process_store.specs.Seen.{Seen, KeepsStreams, world_of}
use Rattle.process_store.specs.Takes.{SameTerms, RecordsGive}

-- What each kind of give wants and does.

-- what a worker brings back fits, with its streams
pub record ComesBack {E P S : Type 0} (engines : Meaning E P) (setting : Setting P) (tells : Told S) (node : Seen P S)
    (worker pid : ℕ) (brought : Brought E) (streams : BroughtStreams S) : Type 0 where
  pub fits : TurnFits engines setting node.book.births (world_of node) worker pid brought
  pub came : StreamsFit tells
      (streamed_after ((world_of node).process pid) (give_of worker pid brought) (world_of node).streamed) brought.side
      streams

-- it was taken back: exactly its Give was recorded, and the node has its streams
pub record IsGivenBack {E P S : Type 0} (setting : Setting P) (tells : Told S) (old new : Seen P S) (worker pid : ℕ)
    (brought : Brought E) : Type 0 where
  pub same : SameTerms old new
  pub given : RecordsGive old.book new.book worker pid brought
  pub spare : old.spare ≤ new.spare
  pub streams : KeepsStreams tells new
  pub run : IsRun setting new.book
