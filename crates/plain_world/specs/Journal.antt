use Rattle.std.specs.Prelude.{List}
use Rattle.world_rules.specs.declared.entry.Entry.{Entry}
use Rattle.world_rules.specs.declared.life.Birth.{Birth}
use Rattle.world_rules.specs.declared.life.Ended.{Ended}
use Rattle.world_rules.specs.Book.{Book}

-- a journal of these lists, with no room for more
abbrev pub book_of : List Birth → List Entry → List Ended → Book
book_of births entries ends =
    record { entries = entries; births = births; ends = ends; entry_room = 0; birth_room = 0 }
