use Rattle.std.specs.Prelude.{◌≡◌, ℕ, ◌+◌, ◌≤◌, [], length, vec_capacity, None}
use Rattle.world_rules.specs.Book.{Book}
use Rattle.world_rules.specs.Told.{told}
use Rattle.world_rules.specs.Lives.{Setting}
use Rattle.node_state.specs.Seats.{Meaning}
use Rattle.node_state.specs.Streaming.{StreamsStand, AreOwned}
use Rattle.node_state.specs.Rows.{AllHaveRows}
use Rattle.node_mirror.specs.Held.{StandsFor, kept_places}
use Rattle.resource_table.specs.Steps.{Told}
use Rattle.process_store.specs.declared.store.Store.{Store}
use Rattle.process_store.specs.Keeps.{StoreKeeps}
use Rattle.process_store.specs.Holds.{held_of, kept_of}

-- What a node keeps.

-- KEEPS. What a node keeps between its calls: it stands for its journal, and its streams bear out what was streamed on
-- them; its store keeps what a store keeps, and nobody is on the way into the queue; its programs ask only calls that
-- have a row. What it may record beside the entries that are to come has a place; and where that is enough for a take,
-- a closed stream more has room. Process 1 is alone so far.
pub record NodeKeeps {E O P S L : Type 0} (engines : Meaning E P) (may_ask : P → ℕ → Type 0) (tells : Told S)
    (setting : Setting P) (book : Book) (store : Store E O P S L) (spare : ℕ) : Type 0 where
  pub stands : StandsFor engines setting book (told book) (held_of store)
  pub streams : StreamsStand tells (told book) (kept_of store)
  pub keeps : StoreKeeps store
  pub came : store.came.items ≡ []
  pub giver : store.giver ≡ None
  pub rows : AllHaveRows may_ask setting.programs
  pub spare_room : spare + kept_places store.out store.over ≤ book.entry_room
  pub spare_bound : spare ≤ 3
  pub turn_room : 2 ≤ spare → store.streams + store.out + 1 ≤ vec_capacity store.closed
  pub alone : length store.places.items ≡ 2
