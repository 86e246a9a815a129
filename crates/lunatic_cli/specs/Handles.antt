-- Where the stream handles of a run stand, and what becomes of the streams.
use Rattle.std.specs.Prelude.{◌≡◌, ℕ, List, All, take, nat_lt}
use Rattle.resource_table.specs.Handles.{Handle, numbers_of}
use Rattle.resource_table.specs.Steps.{Told}
use Rattle.world_rules.specs.Book.{Book}
use Rattle.world_rules.specs.Placed.{IsPlaced}
use Rattle.world_rules.specs.Sound.{times}
use Rattle.world_rules.specs.Streams.{one_if}
use Rattle.world_rules.specs.Told.{told, all_after, closed, streamed}
use Rattle.world_rules.specs.World.{World, first_world}
use Rattle.node_state.specs.Streaming.{IsClosed}

-- the world after the first n entries of a journal
abbrev pub world_at : Book → (n : ℕ) → World
world_at book n = all_after book.births (first_world book.births) (take n book.entries)

-- Each stream handle stands in exactly one place and moves only by recorded calls and ends.
pub record StandInOnePlace {S : Type 0} (tells : Told S) (book : Book) (kept : List (Handle S)) : Type 0 where
  -- at each moment each number that was drawn stands in one place: where the recorded moves alone have it, and in the
  -- table, the scratch message, the mailbox or the closed list of that place
  pub placed : (n : ℕ) → IsPlaced (world_at book n)
  -- at the end the closed streams are those that the moves close, in that order
  pub order : numbers_of kept ≡ closed book
  -- they are the streams whose numbers were drawn, each once
  pub once : (handle : ℕ) → times handle (numbers_of kept) ≡ one_if (nat_lt handle (told book).streams) 0
  -- each was shut, and bears out what was streamed on it: the bytes of all finished reads and writes, where it tells
  -- them; and at least as many faults as replies 1, as many empty answers as replies 0 with count 0 though bytes were
  -- asked for, and as many waits as Pending gives
  pub shut : All (IsClosed tells (streamed book)) kept
