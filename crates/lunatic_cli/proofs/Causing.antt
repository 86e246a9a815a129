-- How often the outside failed, and made a process wait, by the entries.
use Rattle.std.proofs.Common.{◌≡◌, ℕ, ◌+◌, List, [], ◌∷◌, ◌++◌, Bool, true, false, ◌∙◌, ap, arith, inl, inr}
use Rattle.std.proofs.lemmas.Bool.{cases_lt}
use Rattle.world_rules.specs.declared.entry.Entry.{Entry}
use Rattle.world_rules.specs.declared.entry.Entry.TheVariants.{Stall, Idle, Starve}
use Rattle.world_rules.specs.declared.life.Birth.{Birth}
use Rattle.world_rules.specs.Book.{Book, KeepsAll}
use Rattle.world_rules.specs.Views.{Deed, deed_of}
use Rattle.world_rules.specs.World.{World, first_world}
use Rattle.world_rules.specs.Rules.{next}
use Rattle.world_rules.specs.Told.{told, all_after}
use Rattle.process_table.specs.Seen.{Seen, world_of}
use Rattle.process_table.specs.Takes.{TakesOver, RecordsEntry}
use Rattle.lunatic_cli.specs.Causes.{count_entries}

count-last : (count : World → Deed → ℕ) (births : List Birth) (w : World) (es : List Entry) (e : Entry) →
    count_entries count births w (es ++ e ∷ []) ≡ count_entries count births w es + count (all_after births w es) (deed_of e)
count-last count births w [] e = omega arith
count-last count births w (x ∷ es) e = let more = count-last count births (next births w x) es e in omega (arith, more)

-- one entry more
pub counted-more : (count : World → Deed → ℕ) (old new : Book) (e : Entry) → new.births ≡ old.births → new.entries ≡ old.entries ++ e ∷ [] →
    count_entries count new.births (first_world new.births) new.entries
    ≡ count_entries count old.births (first_world old.births) old.entries + count (told old) (deed_of e)
unfolding told
counted-more count old new e births entries =
    (λ i. count_entries count (births i) (first_world (births i)) (entries i)) ∙ count-last count old.births (first_world old.births) old.entries e

pub counted-same : (count : World → Deed → ℕ) (old new : Book) → new.births ≡ old.births → new.entries ≡ old.entries →
    count_entries count new.births (first_world new.births) new.entries ≡ count_entries count old.births (first_world old.births) old.entries
counted-same count old new births entries = λ i. count_entries count (births i) (first_world (births i)) (entries i)

-- no entry is none of them
pub counted-none : (count : World → Deed → ℕ) (book : Book) → book.entries ≡ [] → count_entries count book.births (first_world book.births) book.entries ≡ 0
counted-none count book none = ap (λ (es : List Entry). count_entries count book.births (first_world book.births) es) none

-- an entry that isn't one of them
pub counted-other : (count : World → Deed → ℕ) (old new : Book) (e : Entry) → new.births ≡ old.births → new.entries ≡ old.entries ++ e ∷ [] → count (told old) (deed_of e) ≡ 0 →
    count_entries count new.births (first_world new.births) new.entries ≡ count_entries count old.births (first_world old.births) old.entries
counted-other count old new e births entries none = let more = counted-more count old new e births entries in omega (arith, more, none)

-- how many entries of a journal are such
abbrev pub counted : (World → Deed → ℕ) → Book → ℕ
counted count book = count_entries count book.births (first_world book.births) book.entries

-- the end of a run is none of them
module _ {P S : Type 0} (count : World → Deed → ℕ) where
  pub counted-starved : (old kept new : Seen P S) (over : Bool) → (world_of kept).over ≡ over → count (told kept.book) (deed_of (Starve 0)) ≡ 0 → KeepsAll old.book kept.book →
      ((world_of kept).over ≡ true → new.book ≡ kept.book) → ((world_of kept).over ≡ false → RecordsEntry kept.book new.book (Starve 0)) → counted count new.book ≡ counted count old.book
  counted-starved old kept new true is none keeps same recorded = ap (counted count) (same is) ∙ counted-same count old.book kept.book keeps.births keeps.entries
  counted-starved old kept new false is none keeps same recorded =
      let records = (recorded is).1 in
      counted-other count kept.book new.book (Starve 0) records.births records.entries none ∙ counted-same count old.book kept.book keeps.births keeps.entries

  pub counted-stuck : (old new : Seen P S) (over : Bool) → (world_of old).over ≡ over → count (told old.book) (deed_of (Stall 0)) ≡ 0 → count (told old.book) (deed_of (Idle 0)) ≡ 0 →
      TakesOver old new 0 → counted count new.book ≡ counted count old.book
  counted-stuck old new true is stall idle takes = ap (counted count) (takes.was_over is)
  counted-stuck old new false is stall idle takes =
      elim (cases_lt (world_of old).row old.idle) as (λ _. counted count new.book ≡ counted count old.book) [
        | inl busy ↦ (let records = (takes.stalls is busy).recorded.1 in counted-other count old.book new.book (Stall 0) records.births records.entries stall)
        | inr long ↦ (let records = (takes.idles is long).1 in counted-other count old.book new.book (Idle 0) records.births records.entries idle)
      ]
