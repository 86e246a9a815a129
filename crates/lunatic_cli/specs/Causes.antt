-- The causes of what a run was answered from outside.
use Rattle.std.specs.Prelude.{ℕ, ◌+◌, ◌≤◌, List, [], ◌∷◌, sum}
use Rattle.world_rules.specs.declared.entry.Entry.{Entry}
use Rattle.world_rules.specs.declared.life.Birth.{Birth}
use Rattle.world_rules.specs.Book.{Book}
use Rattle.world_rules.specs.Views.{Deed, Giving, deed_of, want_of, wanted_in}
use Rattle.world_rules.specs.World.{World, first_world}
use Rattle.world_rules.specs.Rules.{next}
use Rattle.host_calls.specs.Outsides.{failures_in, waits_in}

-- one where the entry is a Give in which a bind, an accept or a connect was answered 1; and one where it is a Give in
-- which an accept couldn't be answered yet
abbrev pub failures_by : World → Deed → ℕ
failures_by w (Giving give) = failures_in (wanted_in (want_of give.halt) (w.process give.pid).owed) give.side
failures_by w _ = 0

abbrev pub waits_by : World → Deed → ℕ
waits_by w (Giving give) = waits_in (wanted_in (want_of give.halt) (w.process give.pid).owed) give.side
waits_by w _ = 0

-- how many of the entries are such
abbrev pub count_entries : (World → Deed → ℕ) → List Birth → World → List Entry → ℕ
count_entries count births w [] = 0
count_entries count births w (entry ∷ entries) =
    count w (deed_of entry) + count_entries count births (next births w entry) entries

-- how often a bind, an accept or a connect was answered 1 in a run; and how often an accept couldn't be answered yet
abbrev pub failures_of : Book → ℕ
failures_of book = count_entries failures_by book.births (first_world book.births) book.entries

abbrev pub waits_of : Book → ℕ
waits_of book = count_entries waits_by book.births (first_world book.births) book.entries

-- the counts of all outsides together grew by at least so many
abbrev pub HaveGrown : (before after : List ℕ) → (by : ℕ) → Type 0
HaveGrown before after by = sum before + by ≤ sum after
