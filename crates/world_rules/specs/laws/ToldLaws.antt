use Rattle.std.specs.Prelude.{◌≡◌, List, [], ◌∷◌, ◌++◌, Option, Some, None, refl}
use Rattle.std.proofs.Common.{subst, sym, ◌∙◌, ap}
use Rattle.world_rules.specs.declared.entry.Entry.{Entry}
use Rattle.world_rules.specs.declared.life.Birth.{Birth}
use Rattle.world_rules.specs.declared.life.Birth.TheVariants.{Born, Refused}
use Rattle.world_rules.specs.Book.{Book}
use Rattle.world_rules.specs.World.{World, first_world}
use Rattle.world_rules.specs.Rules.{next}
use Rattle.world_rules.specs.Births.{Terms}
use Rattle.world_rules.specs.Allowed.{Allowed}
use Rattle.world_rules.specs.Told.{all_after, AllAllowed, told, EntriesAllowed}
use Rattle.world_rules.specs.laws.BirthLaws.{next_extends, told_extends}
use Rattle.world_rules.specs.laws.AllowedLaws.{allowed_extends, allowed_untested}

-- The laws of the folds: no entry, one entry more at the end, and more births behind.

all_after_last : (births : List Birth) (w : World) (entries : List Entry) (entry : Entry)
    → all_after births w (entries ++ entry ∷ []) ≡ next births (all_after births w entries) entry
all_after_last births w [] entry = refl
all_after_last births w (e ∷ es) entry = all_after_last births (next births w e) es entry

all_allowed_last : (terms : Option Terms) (births : List Birth) (w : World) (entries : List Entry) (entry : Entry)
    → AllAllowed terms births w entries → Allowed terms births (all_after births w entries) entry →
    AllAllowed terms births w (entries ++ entry ∷ [])
all_allowed_last terms births w [] entry legal allowed = (allowed, tt)
all_allowed_last terms births w (e ∷ es) entry legal allowed =
    (legal.0, all_allowed_last terms births (next births w e) es entry legal.1 allowed)

-- ALLOWED EXTENDS. More births behind refuse no entry that was allowed.
pub all_allowed_extends : (terms : Option Terms) (births more : List Birth) (w : World) (entries : List Entry)
    → AllAllowed terms births w entries → AllAllowed terms (births ++ more) w entries
all_allowed_extends terms births more w [] legal = tt
all_allowed_extends terms births more w (entry ∷ entries) legal =
    let P : World → Type 0 = λ after. AllAllowed terms (births ++ more) after entries in (
      allowed_extends terms births more w entry legal.0,
      subst P (next_extends terms births more w entry legal.0) (all_allowed_extends terms births more
          (next births w entry) entries legal.1),
    )

all_allowed_untested : (terms : Terms) (births : List Birth) (w : World) (entries : List Entry) →
    AllAllowed (Some terms) births w entries → AllAllowed None births w entries
all_allowed_untested terms births w [] legal = tt
all_allowed_untested terms births w (entry ∷ entries) legal = (
  allowed_untested terms births w entry legal.0,
  all_allowed_untested terms births
      (next births w entry) entries legal.1,
)

-- two folds open

pub told_all : (book : Book) → told book ≡ all_after book.births (first_world book.births) book.entries
unfolding told
told_all book = refl

pub entries_allowed_all : (terms : Option Terms) (book : Book) → EntriesAllowed terms book →
    AllAllowed terms book.births (first_world book.births) book.entries
unfolding EntriesAllowed
entries_allowed_all terms book allowed = allowed

-- what is allowed under terms is allowed without
pub entries_allowed_untested : (terms : Terms) (book : Book) → EntriesAllowed (Some terms) book →
    EntriesAllowed None book
unfolding EntriesAllowed
entries_allowed_untested terms book allowed =
    all_allowed_untested terms book.births (first_world book.births) book.entries allowed

-- no entry

pub told_none : (book : Book) → book.entries ≡ [] → told book ≡ first_world book.births
unfolding told
told_none book none = ap (λ (es : List Entry). all_after book.births (first_world book.births) es) none

pub entries_allowed_none : (terms : Option Terms) (book : Book) → book.entries ≡ [] → EntriesAllowed terms book
unfolding EntriesAllowed
entries_allowed_none terms book none =
    let P : List Entry → Type 0 = λ es. AllAllowed terms book.births (first_world book.births) es in subst P
    (sym none) tt

-- the world at the beginning looks at the first birth alone
pub first_world_longer : (birth : Birth) (births more : List Birth) →
    first_world (birth ∷ births ++ more) ≡ first_world (birth ∷ births)
first_world_longer (Born start) births more = refl
first_world_longer (Refused reply) births more = refl

-- one entry more, and the births that it brings

pub extended_fold : (terms : Option Terms) (birth : Birth) (births more : List Birth) (entries : List Entry)
    → AllAllowed terms (birth ∷ births) (first_world (birth ∷ births)) entries
    → all_after (birth ∷ births ++ more) (first_world (birth ∷ births ++ more)) entries ≡ all_after (birth ∷ births)
    (first_world (birth ∷ births)) entries
extended_fold terms birth births more entries legal =
    ap (λ (w : World). all_after (birth ∷ births ++ more) w entries) (first_world_longer birth births more)
    ∙ sym (told_extends terms (birth ∷ births) more (first_world (birth ∷ births)) entries legal)

extended_allowed : (terms : Option Terms) (birth : Birth) (births more : List Birth) (entries : List Entry)
    → AllAllowed terms (birth ∷ births) (first_world (birth ∷ births)) entries
    → AllAllowed terms (birth ∷ births ++ more) (first_world (birth ∷ births ++ more)) entries
extended_allowed terms birth births more entries legal =
    let P : World → Type 0 = λ w. AllAllowed terms (birth ∷ births ++ more) w entries in
    subst P (sym (first_world_longer birth births more)) (all_allowed_extends terms (birth ∷ births) more
    (first_world (birth ∷ births)) entries legal)

-- TOLD GOES ON. With one entry more, and more births behind the first, the world told is the next of the world told
-- before.
pub told_last : (terms : Option Terms) (old new : Book) (entry : Entry) (birth : Birth) (births more : List Birth)
    → old.births ≡ birth ∷ births → new.births ≡ birth ∷ births ++ more → new.entries ≡ old.entries ++ entry ∷ [] →
    EntriesAllowed terms old
    → told new ≡ next new.births (told old) entry
unfolding told EntriesAllowed
told_last terms old new entry birth births more before after entries legal =
    let P : List Birth → Type 0 = λ bs. AllAllowed terms bs (first_world bs) old.entries in
    let there : AllAllowed terms (birth ∷ births) (first_world (birth ∷ births)) old.entries = subst P before legal in
    (λ i. all_after (new.births) (first_world (new.births)) (entries i))
    ∙ all_after_last new.births (first_world new.births) old.entries entry
    ∙ ap (λ (w : World). next new.births w entry)
    (ap (λ (bs : List Birth). all_after bs (first_world bs) old.entries) after
    ∙ extended_fold terms birth births more old.entries there
    ∙ ap (λ (bs : List Birth). all_after bs (first_world bs) old.entries) (sym before))

-- and where that entry is allowed by the births that are there then, all are
pub entries_allowed_last : (terms : Option Terms) (old new : Book) (entry : Entry) (birth : Birth)
    (births more : List Birth)
    → old.births ≡ birth ∷ births → new.births ≡ birth ∷ births ++ more → new.entries ≡ old.entries ++ entry ∷ [] →
    EntriesAllowed terms old
    → Allowed terms new.births (told old) entry → EntriesAllowed terms new
unfolding told EntriesAllowed
entries_allowed_last terms old new entry birth births more before after entries legal allowed =
    let P : List Birth → Type 0 = λ bs. AllAllowed terms bs (first_world bs) old.entries in
    let Q : List Entry → Type 0 = λ es. AllAllowed terms new.births (first_world new.births) es in
    let R : World → Type 0 = λ w. Allowed terms new.births w entry in
    let there : AllAllowed terms (birth ∷ births) (first_world (birth ∷ births)) old.entries = subst P before legal in
    let same : all_after new.births (first_world new.births) old.entries ≡ all_after old.births
    (first_world old.births) old.entries =
    ap (λ (bs : List Birth). all_after bs (first_world bs) old.entries) after
    ∙ extended_fold terms birth births more old.entries there
    ∙ ap (λ (bs : List Birth). all_after bs (first_world bs) old.entries) (sym before) in
    subst Q (sym entries)
    (all_allowed_last terms new.births (first_world new.births) old.entries entry
    (subst P (sym after) (extended_allowed terms birth births more old.entries there))
    (subst R (sym same) allowed))
