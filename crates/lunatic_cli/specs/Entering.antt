-- The processes that an outside is told of, and those that a journal has as taken.
use Rattle.std.specs.Prelude.{◌≡◌, ℕ, List, [], ◌∷◌, ◌++◌, Option}
use Rattle.std.specs.Io.KnownBytes.{append_known}
use Rattle.world_rules.specs.declared.entry.Entry.{Entry}
use Rattle.world_rules.specs.declared.entry.Entry.TheVariants as EntryIs

-- the process that the entry takes, if it does
abbrev pub taken_by : Entry → List ℕ
taken_by (EntryIs.Take worker pid) = pid ∷ []
taken_by (EntryIs.Give worker pid calls fuel halt side) = []
taken_by (EntryIs.Tick worker now) = []
taken_by (EntryIs.Stall worker) = []
taken_by (EntryIs.Idle worker) = []
taken_by (EntryIs.Starve worker) = []

-- the processes that the entries take, in their order
abbrev pub takes_of : List Entry → List ℕ
takes_of [] = []
takes_of (entry ∷ entries) = taken_by entry ++ takes_of entries

-- where the outside tells what was entered, these processes were, in this order
abbrev pub EntersAll : (before after : Option (List ℕ)) → List ℕ → Type 0
EntersAll before after pids = after ≡ append_known before pids
