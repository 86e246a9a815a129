use Rattle.std.specs.Prelude.{◌≡◌, List, [], ◌∷◌, ◌++◌, None}
use Rattle.std.proofs.Common.{refl}
use Rattle.world_rules.specs.declared.entry.Entry.{Entry}
use Rattle.world_rules.specs.declared.life.Birth.{Birth}
use Rattle.world_rules.specs.Book.{Book}
use Rattle.world_rules.specs.Rules.{next}
use Rattle.world_rules.specs.Told.{told, EntriesAllowed, TellsStart, IsTold}
use Rattle.world_rules.specs.laws.ToldLaws.{told_last}

-- The world that a journal tells goes on.

-- told_last, by whether there is a first birth
goes_on : (old new : Book) (entry : Entry) (births more : List Birth) → old.births ≡ births → TellsStart births
    → new.births ≡ births ++ more → new.entries ≡ old.entries ++ entry ∷ [] → EntriesAllowed None old →
    told new ≡ next new.births (told old) entry
goes_on old new entry [] more before start after entries legal = absurd start
goes_on old new entry (birth ∷ births) more before start after entries legal =
    told_last None old new entry birth births more before after entries legal

pub told_with_entry : (old new : Book) (entry : Entry) (more : List Birth) → IsTold old → new.births ≡ old.births ++ more
    → new.entries ≡ old.entries ++ entry ∷ [] → told new ≡ next new.births (told old) entry
told_with_entry old new entry more tells after entries =
    goes_on old new entry old.births more refl tells.start after entries tells.entries
