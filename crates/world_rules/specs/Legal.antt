use Rattle.std.specs.Prelude.{◌≡◌, ℕ, ◌+◌, List, [], ◌∷◌, length, slice_get, Option, Some, None, Bool, true, false, nat_eq, not, ◌&&◌, nat_lt, if◌then◌else◌}
use Rattle.world_rules.specs.declared.entry.Entry.{Entry}
use Rattle.world_rules.specs.declared.life.Birth.{Birth}
use Rattle.world_rules.specs.declared.life.Birth.TheVariants.{Born}
use Rattle.world_rules.specs.Book.{Book}
use Rattle.world_rules.specs.Views.{Stuck, Idling, Starving, Deed, Taking, Giving, Timing, EndingAll, deed_of, worker_of}
use Rattle.world_rules.specs.World.{World, first_world}
use Rattle.world_rules.specs.Rules.{next}
use Rattle.world_rules.specs.Births.{Terms}
use Rattle.world_rules.specs.Told.{told, EntriesAllowed}

-- Which journals are legal, and in which each worker keeps its rounds.

-- LEGAL. The first birth is process 1's start, and one follows for each spawn that was performed; each entry is
-- allowed where it comes.
pub record Legal (terms : Terms) (book : Book) : Type 0 where
  pub first : slice_get book.births 0 ≡ Some (Born terms.first)
  pub births : length book.births ≡ (told book).spawns + 1
  pub entries : EntriesAllowed (Some terms) book

-- ROUNDS

-- the worker's first entry, if there is one
abbrev pub first_of : ℕ → List Entry → Option Entry
first_of worker [] = None
first_of worker (entry ∷ entries) = if nat_eq (worker_of entry) worker then Some entry else first_of worker entries

-- the entry gives this process back
abbrev pub GivesProcess : ℕ → Deed → Type 0
GivesProcess pid (Taking worker other) = ⊥
GivesProcess pid (Giving give) = give.pid ≡ pid
GivesProcess pid (Timing now) = ⊥
GivesProcess pid (EndingAll cause) = ⊥

-- it is the Give of this process, if it is there
abbrev pub IsGiveOf : ℕ → Option Entry → Type 0
IsGiveOf pid None = Unit {0}
IsGiveOf pid (Some entry) = GivesProcess pid (deed_of entry)

-- the entry takes a process, or ends an idle run
abbrev pub TakesOrIdles : Deed → Type 0
TakesOrIdles (Taking worker pid) = Unit {0}
TakesOrIdles (Giving give) = ⊥
TakesOrIdles (Timing now) = ⊥
TakesOrIdles (EndingAll Stuck) = ⊥
TakesOrIdles (EndingAll Idling) = Unit {0}
TakesOrIdles (EndingAll Starving) = ⊥

-- the next entry is the same worker's, and takes a process or ends an idle run, if it is there
abbrev pub TakesNext : ℕ → List Entry → Type 0
TakesNext worker [] = Unit {0}
TakesNext worker (entry ∷ entries) = (worker_of entry ≡ worker) × TakesOrIdles (deed_of entry)

-- a worker can take a process
abbrev pub can_take : World → Bool
can_take w = not w.over && nat_lt 0 (length w.ready)

-- where something can be taken, the next entry takes it or ends an idle run
abbrev pub TakesWhereReady : Bool → ℕ → List Entry → Type 0
TakesWhereReady true worker rest = TakesNext worker rest
TakesWhereReady false worker rest = Unit {0}

-- after a Take, the worker's next entry gives that process back; after a Tick it takes a process where one is ready
abbrev pub KeepsRound : World → ℕ → Deed → List Entry → Type 0
KeepsRound after worker (Taking taker pid) rest = IsGiveOf pid (first_of worker rest)
KeepsRound after worker (Giving give) rest = Unit {0}
KeepsRound after worker (Timing now) rest = TakesWhereReady (can_take after) worker rest
KeepsRound after worker (EndingAll cause) rest = Unit {0}

abbrev pub AllKeepRounds : List Birth → World → List Entry → Type 0
AllKeepRounds births w [] = Unit {0}
AllKeepRounds births w (entry ∷ entries) =
    KeepsRound (next births w entry) (worker_of entry) (deed_of entry) entries
    × AllKeepRounds births (next births w entry) entries

-- ROUNDS. Between a Take and its Give stands no entry of the same worker; and where the run isn't over and something
-- is ready after a Tick, the next entry is the same worker's Take, or Idle.
unfoldable pub Rounds : Book → Type 0
Rounds book = AllKeepRounds book.births (first_world book.births) book.entries
