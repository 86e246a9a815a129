use Rattle.std.specs.Prelude.{◌≡◌, ℕ, List, [], ◌∷◌, Option, None}
use Rattle.host_port.specs.declared.call.Call.{Call}
use Rattle.world_rules.specs.declared.entry.Entry.{Entry}
use Rattle.world_rules.specs.declared.life.Birth.{Birth}
use Rattle.world_rules.specs.declared.life.Birth.TheVariants.{Born, Refused}
use Rattle.world_rules.specs.Book.{Book}
use Rattle.world_rules.specs.Moves.{Move, Owners, handled}
use Rattle.world_rules.specs.Streams.{Streamed}
use Rattle.world_rules.specs.Arrivals.{Arrival}
use Rattle.world_rules.specs.World.{World, first_world}
use Rattle.world_rules.specs.Rules.{next}
use Rattle.world_rules.specs.Births.{Terms}
use Rattle.world_rules.specs.Allowed.{Allowed}

-- Whole journals: the entries folded over the world of the births. The one-thread world of a run is the world that its
-- journal tells.

-- the world after these entries
abbrev pub all_after : List Birth → World → List Entry → World
all_after births w [] = w
all_after births w (entry ∷ entries) = all_after births (next births w entry) entries

-- each entry is allowed in the world in which it comes
abbrev pub AllAllowed : Option Terms → List Birth → World → List Entry → Type 0
AllAllowed terms births w [] = Unit {0}
AllAllowed terms births w (entry ∷ entries) =
    Allowed terms births w entry × AllAllowed terms births (next births w entry) entries

-- TOLD. The world that a journal tells; what was born is taken from its births.
unfoldable pub told : Book → World
told book = all_after book.births (first_world book.births) book.entries

-- each entry of the journal is allowed where it comes
unfoldable pub EntriesAllowed : Option Terms → Book → Type 0
EntriesAllowed terms book = AllAllowed terms book.births (first_world book.births) book.entries

-- the first birth is that of process 1
abbrev pub TellsStart : List Birth → Type 0
TellsStart [] = ⊥
TellsStart (Born start ∷ births) = start.pid ≡ 1
TellsStart (Refused reply ∷ births) = ⊥

-- the journal alone tells a world: nothing is tested against the terms
pub record IsTold (book : Book) : Type 0 where
  pub start : TellsStart book.births
  pub entries : EntriesAllowed None book

-- WHAT A JOURNAL TELLS OF PROCESSES AND STREAMS

-- the calls of a process that were answered, in order, each with the reply that the worlds of the journal gave
abbrev pub calls : Book → ℕ → List Call
calls book pid = ((told book).process pid).calls

-- what has arrived at a process from outside its own turns, in order
abbrev pub arrivals : Book → ℕ → List Arrival
arrivals book pid = ((told book).process pid).arrivals

-- the moves of handles; where each handle stands by them, and the handles that they close, in order
abbrev pub moves : Book → List Move
moves book = (told book).moves

abbrev pub owner : Book → Owners
owner book = (handled (moves book)).owner

abbrev pub closed : Book → List ℕ
closed book = (handled (moves book)).closed

-- what was streamed on a stream
abbrev pub streamed : Book → ℕ → Streamed
streamed book handle = (told book).streamed handle
