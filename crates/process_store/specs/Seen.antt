use Rattle.std.specs.Prelude.{ℕ, List, [], Option, Some, None, slice_get}
use Rattle.host_port.specs.declared.call.Call.{Call}
use Rattle.host_port.specs.declared.start.Start.{Start}
use Rattle.host_port.specs.declared.start.StartRefusal.{StartRefusal}
use Rattle.host_port.specs.Standing.{Standing}
use Rattle.world_rules.specs.Book.{Book}
use Rattle.world_rules.specs.World.{World, first_start}
use Rattle.world_rules.specs.Told.{told}
use Rattle.world_rules.specs.Lives.{Setting}
use Rattle.resource_table.specs.Handles.{Handle}
use Rattle.resource_table.specs.Steps.{Told}
use Rattle.node_state.specs.Streaming.{Kept, StreamsStand, AreOwned}

-- What contracts see of a node.

-- its programs, its journal, the live limit and the idle limit of its run; how many entries may be recorded beside
-- those for which it keeps places: the Gives that are to come, and Starve; and the very streams that it has
pub record Seen (P S : Type 0) : Type 0 where
  pub programs : List P
  pub book : Book
  pub live : ℕ
  pub idle : ℕ
  pub spare : ℕ
  pub hands_kept : List (List (Handle S))
  pub mail_kept : List (List (Handle S))
  pub closed_kept : List (Handle S)

abbrev pub seen : {P S : Type 0} → List P → Book → (live idle spare : ℕ) → (hands mail : List (List (Handle S)))
    → (closed : List (Handle S)) → Seen P S
seen programs book live idle spare hands mail closed = record {
  programs = programs;
  book = book;
  live = live;
  idle = idle;
  spare = spare;
  hands_kept = hands;
  mail_kept = mail;
  closed_kept = closed;
}

-- the streams at a number, by these lists
abbrev pub at_number : {S : Type 0} → Option (List (Handle S)) → List (Handle S)
at_number None = []
at_number (Some handles) = handles

abbrev pub kept_in : {P S : Type 0} → Seen P S → Kept S
kept_in node = record {
  hands = λ pid. at_number (slice_get node.hands_kept pid);
  mail = λ pid. at_number (slice_get node.mail_kept pid);
  closed = node.closed_kept;
}

-- what its run is over: process 1's start is the first birth
abbrev pub setting_of : {P S : Type 0} → (P → Start → Option StartRefusal)
    → (P → Start → List Call → ℕ → Option Standing) → Seen P S → Setting P
setting_of begin at node = record {
  programs = node.programs;
  begin = begin;
  at = at;
  first = first_start node.book.births;
  live = node.live;
  idle = node.idle;
}

-- the world that its journal tells
abbrev pub world_of : {P S : Type 0} → Seen P S → World
world_of node = told node.book

-- The streams of a node are those that its world has, each where it has it; they bear out what was streamed on them;
-- and of them the closed ones are down, and no others.
pub record KeepsStreams {P S : Type 0} (tells : Told S) (node : Seen P S) : Type 0 where
  pub stand : StreamsStand tells (world_of node) (kept_in node)
  pub owned : AreOwned (world_of node) (kept_in node)
