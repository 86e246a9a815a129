-- How often a worker has rested, by the Ticks that woke nobody and the requests that couldn't be answered yet.
use Rattle.std.specs.Prelude.{ℕ, ◌+◌, ◌-◌, ◌^◌, ◌≤◌, List, [], ◌∷◌, length, min, sum, Any, ◌⊎◌, Bool, false, cond}
use Rattle.std.specs.Prelude.{nat_eq}
use Rattle.world_rules.specs.declared.entry.Entry.{Entry}
use Rattle.world_rules.specs.declared.life.Birth.{Birth}
use Rattle.world_rules.specs.Book.{Book}
use Rattle.world_rules.specs.Views.{Deed, Giving, Timing, deed_of, is_pending}
use Rattle.world_rules.specs.World.{World, first_world}
use Rattle.world_rules.specs.Rules.{next}

-- it is a Tick, and nothing is ready after it; or a Give whose request the outside couldn't answer yet
abbrev pub is_quiet : (after : World) → Deed → Bool
is_quiet after (Timing now) = nat_eq (length after.ready) 0
is_quiet after (Giving give) = is_pending give.side
is_quiet after _ = false

-- how many of the entries are such
abbrev pub quiet_entries : List Birth → World → List Entry → ℕ
quiet_entries births w [] = 0
quiet_entries births w (entry ∷ entries) =
    cond (is_quiet (next births w entry) (deed_of entry)) 1 0 + quiet_entries births (next births w entry) entries

-- the same of a whole journal
abbrev pub quiet_in : Book → ℕ
quiet_in book = quiet_entries book.births (first_world book.births) book.entries

-- the count of rests rose after each of so many quiet entries but one, or stands at its end
abbrev pub HasRested : (before after quiet : ℕ) → Type 0
HasRested before after quiet = min (before + (quiet - 1)) (2 ^ 64 - 1) ≤ after

-- the counts of rests of all outsides together grew by at least so many but one, unless one of them stands at its end
abbrev pub HaveRested : (before after : List ℕ) → (quiet : ℕ) → Type 0
HaveRested before after quiet =
    Any (λ rests. 2 ^ 64 - 1 ≤ rests) after ⊎ (sum before + (quiet - 1) ≤ sum after)
