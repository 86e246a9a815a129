use Rattle.std.specs.Prelude.{◌≡◌, ℕ, ◌+◌, ◌≤◌, List, [], ◌∷◌, ◌++◌}
use Rattle.world_rules.specs.declared.entry.Entry.{Entry}
use Rattle.world_rules.specs.declared.life.Birth.{Birth}
use Rattle.world_rules.specs.declared.life.Ended.{Ended}

-- what a journal holds, and for how many more entries and births room is reserved; each birth keeps the room of one end
pub record Book : Type 0 where
  pub entries : List Entry
  pub births : List Birth
  pub ends : List Ended
  pub entry_room : ℕ
  pub birth_room : ℕ

-- a journal in which nothing has happened
pub record IsBlank (book : Book) : Type 0 where
  pub entries : book.entries ≡ []
  pub births : book.births ≡ []
  pub ends : book.ends ≡ []

-- the lists stay, and no room is lost
pub record KeepsAll (old new : Book) : Type 0 where
  pub entries : new.entries ≡ old.entries
  pub births : new.births ≡ old.births
  pub ends : new.ends ≡ old.ends
  pub entry_room : old.entry_room ≤ new.entry_room
  pub birth_room : old.birth_room ≤ new.birth_room

-- there is room for n entries and n births
pub record HasRoom (n : ℕ) (book : Book) : Type 0 where
  pub entries : n ≤ book.entry_room
  pub births : n ≤ book.birth_room

-- one entry more, in one reserved place; all else stays
pub record AddsEntry (old new : Book) (entry : Entry) : Type 0 where
  pub entries : new.entries ≡ old.entries ++ entry ∷ []
  pub births : new.births ≡ old.births
  pub ends : new.ends ≡ old.ends
  pub entry_room : new.entry_room + 1 ≡ old.entry_room
  pub birth_room : new.birth_room ≡ old.birth_room

-- one birth more, in one reserved place; all else stays
pub record AddsBirth (old new : Book) (birth : Birth) : Type 0 where
  pub births : new.births ≡ old.births ++ birth ∷ []
  pub entries : new.entries ≡ old.entries
  pub ends : new.ends ≡ old.ends
  pub birth_room : new.birth_room + 1 ≡ old.birth_room
  pub entry_room : new.entry_room ≡ old.entry_room

-- one end more; all else stays
pub record AddsEnd (old new : Book) (end : Ended) : Type 0 where
  pub ends : new.ends ≡ old.ends ++ end ∷ []
  pub entries : new.entries ≡ old.entries
  pub births : new.births ≡ old.births
  pub entry_room : new.entry_room ≡ old.entry_room
  pub birth_room : new.birth_room ≡ old.birth_room
