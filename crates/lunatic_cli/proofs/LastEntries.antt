-- What the last entry of a run tells, where none before it ended all.
use Rattle.std.proofs.Common.{◌≡◌, ◌||◌, List, [], ◌∷◌, ◌++◌, Bool, true, false, cond, refl, sym, ◌∙◌, ap}
use Rattle.std.specs.List.{list_any}
use Rattle.std.proofs.lemmas.List.Folds.{list_any-append}
use Rattle.world_rules.specs.declared.entry.Entry.{Entry}
use Rattle.world_rules.specs.declared.entry.Entry.TheVariants as EntryIs
use Rattle.world_rules.specs.declared.halt.End.{End}
use Rattle.world_rules.specs.Book.{Book}
use Rattle.world_rules.specs.Told.{told}
use Rattle.world_rules.specs.Lives.{Setting}
use Rattle.lunatic_cli.specs.Statuses.{is_stall, is_idle, is_starve, told_status, status_of_end, NoneEndsAll, EndsByLast}

one-any : (test : Entry → Bool) (x : Entry) → list_any test (x ∷ []) ≡ test x
one-any test x = either (test x)
  where
    either : (b : Bool) → (b || false) ≡ b
    either true = refl
    either false = refl

any-last : (test : Entry → Bool) (earlier : List Entry) (last : Entry) → list_any test earlier ≡ false → list_any test (earlier ++ last ∷ []) ≡ test last
any-last test earlier last none = list_any-append test earlier (last ∷ []) ∙ ap (λ (b : Bool). b || list_any test (last ∷ [])) none ∙ one-any test last

-- the status is told by the last entry and the end alone
pub status-last : (earlier : List Entry) (last : Entry) (end : End) → NoneEndsAll earlier →
    told_status (earlier ++ last ∷ []) end ≡ cond (is_starve last) 8 (cond (is_idle last) 7 (cond (is_stall last) 6 (status_of_end end)))
status-last earlier last end none =
    rw (any-last is_starve earlier last none.starve, any-last is_idle earlier last none.idle, any-last is_stall earlier last none.stall) refl

-- an entry is not both a Stall and an Idle
one-kind : (entry : Entry) → is_stall entry ≡ true → is_idle entry ≡ false
one-kind (EntryIs.Take worker pid) stall = refl
one-kind (EntryIs.Give worker pid calls fuel halt side) stall = refl
one-kind (EntryIs.Tick worker now) stall = refl
one-kind (EntryIs.Stall worker) stall = refl
one-kind (EntryIs.Idle worker) stall = absurd (cc)
one-kind (EntryIs.Starve worker) stall = refl

-- so no journal of a run has both
pub stall-or-idle : {P : Type 0} (setting : Setting P) (book : Book) → EndsByLast setting (told book) book.entries → list_any is_stall book.entries ≡ true →
    list_any is_idle book.entries ≡ false
stall-or-idle setting book ends stall =
    let at-last : is_stall ends.last ≡ true =
    sym (any-last is_stall ends.earlier ends.last ends.none_earlier.stall) ∙ ap (list_any is_stall) (sym ends.entries_are) ∙ stall in
    ap (list_any is_idle) ends.entries_are ∙ any-last is_idle ends.earlier ends.last ends.none_earlier.idle ∙ one-kind ends.last at-last
