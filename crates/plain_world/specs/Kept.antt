use Rattle.std.specs.Prelude.{◌≡◌, List, [], ◌∷◌, ◌++◌, map, Option, Some, None}
use Rattle.host_port.specs.declared.start.Start.{Start}
use Rattle.world_rules.specs.declared.entry.Entry.{Entry}
use Rattle.world_rules.specs.declared.life.Birth.{Birth}
use Rattle.world_rules.specs.declared.life.Birth.TheVariants.{Born}
use Rattle.world_rules.specs.declared.life.Ended.{Ended}
use Rattle.world_rules.specs.Book.{Book}
use Rattle.world_rules.specs.World.{World, Exit}
use Rattle.world_rules.specs.Told.{told, IsTold}
use Rattle.world_rules.specs.Allowed.{Allowed}
use Rattle.plain_world.specs.Journal.{book_of}

-- Runs in which nothing is executed.

-- the ends of these processes, in order, each with an empty memory
abbrev pub empty_ends : List Exit → List Ended
empty_ends exits = map (λ exit. record { pid = exit.pid; pages = 0; mark = 0 }) exits

-- the journal of a run whose world this is: whoever ended had an empty memory
abbrev pub run_of : List Birth → List Entry → World → Book
run_of births entries w = book_of births entries (empty_ends w.exits)

-- the journal tells a world, and it is this one
pub record IsRun (book : Book) (w : World) : Type 0 where
  pub legal : IsTold book
  pub shows : w ≡ told book

-- a run in which process 1 was born with this start and nothing has happened
pub record BeginsSo (book : Book) (start : Start) : Type 0 where
  pub births : book.births ≡ Born start ∷ []
  pub entries : book.entries ≡ []
  pub ends : book.ends ≡ []

-- one birth more, and nothing else
pub record AddsBirthTo (old new : Book) (birth : Birth) : Type 0 where
  pub births : new.births ≡ old.births ++ birth ∷ []
  pub entries : new.entries ≡ old.entries
  pub ends : new.ends ≡ old.ends

-- the entry was allowed, the run has it besides, and its ends are those of the processes that have ended now
pub record IsTaken (old new : Book) (entry : Entry) : Type 0 where
  pub allowed : Allowed None old.births (told old) entry
  pub entries : new.entries ≡ old.entries ++ entry ∷ []
  pub births : new.births ≡ old.births
  pub ends : new.ends ≡ empty_ends (told new).exits

-- the entry is taken where it is allowed, and refused where it isn't
abbrev pub TakesAllowed : Book → Entry → Option Book → Type 0
TakesAllowed old entry None = Allowed None old.births (told old) entry → ⊥
TakesAllowed old entry (Some new) = IsTaken old new entry
