use Rattle.std.specs.Prelude.{◌≡◌, refl}
use Rattle.world_rules.specs.Book.{Book}
use Rattle.world_rules.specs.Told.{told, EntriesAllowed, IsTold}
use Rattle.world_rules.specs.Report.{report_text, IsReportable}
use Rattle.plain_world.specs.Journal.{book_of}

-- What a journal tells, and the text that it determines, are read off its three lists alone.

-- the same lists, and no room
abbrev bare : Book → Book
bare book = book_of book.births book.entries book.ends

told_bare : (book : Book) → told (bare book) ≡ told book
unfolding told
told_bare book = refl

is_told_bare : (book : Book) → IsTold book → IsTold (bare book)
unfolding EntriesAllowed
is_told_bare book tells = record { start = tells.start; entries = tells.entries }

pub reportable_bare : (book : Book) → IsReportable book → IsReportable (bare book)
unfolding told
reportable_bare book reportable =
    record { told = is_told_bare book reportable.told; ends = reportable.ends }

pub report_bare : (book : Book) → report_text (bare book) ≡ report_text book
unfolding told
report_bare book = refl
