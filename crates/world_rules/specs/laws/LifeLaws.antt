use Rattle.std.specs.Prelude.{◌≡◌, ℕ, List, [], ◌∷◌, ◌++◌, map, slice_get, Option, Some, refl}
use Rattle.std.proofs.Common.{subst, sym, ◌∙◌, ap}
use Rattle.host_port.specs.declared.start.Start.{Start}
use Rattle.world_rules.specs.declared.entry.Entry.{Entry}
use Rattle.world_rules.specs.declared.life.Birth.{Birth}
use Rattle.world_rules.specs.declared.life.Birth.TheVariants.{Born}
use Rattle.world_rules.specs.declared.life.Ended.{Ended as EndMemory}
use Rattle.world_rules.specs.Book.{Book}
use Rattle.world_rules.specs.Views.{deed_of}
use Rattle.world_rules.specs.World.{World, Process, Exit, first_world}
use Rattle.world_rules.specs.Rules.{next}
use Rattle.world_rules.specs.Births.{Terms}
use Rattle.world_rules.specs.Told.{all_after, AllAllowed, told, EntriesAllowed, TellsStart, IsTold}
use Rattle.world_rules.specs.Legal.{Legal}
use Rattle.world_rules.specs.Lives.{Setting, terms_of, TurnIsRun, AllTurnsAreRuns, Lives, EndsAreMemories, IsRun}
use Rattle.world_rules.specs.Report.{IsReportable}
use Rattle.world_rules.specs.laws.BirthLaws.{none_is_some, same_some, next_extends}
use Rattle.world_rules.specs.laws.ToldLaws.{entries_allowed_untested, first_world_longer, extended_fold}

-- The laws of lives, for those who keep a journal.

-- TURNS

-- more births behind change no turn that was a run
turns_extend : {P : Type 0} (setting : Setting P) (terms : Option Terms) (births more : List Birth) (w : World)
    (entries : List Entry)
    → AllAllowed terms births w entries → AllTurnsAreRuns setting births w entries →
    AllTurnsAreRuns setting (births ++ more) w entries
turns_extend setting terms births more w [] legal lives = tt
turns_extend setting terms births more w (entry ∷ entries) legal lives =
    let Q : World → Type 0 = λ after. AllTurnsAreRuns setting (births ++ more) after entries in (
      lives.0,
      subst Q (next_extends terms births more w entry legal.0) (turns_extend setting terms births more
          (next births w entry) entries legal.1 lives.1),
    )

turns_last : {P : Type 0} (setting : Setting P) (births : List Birth) (w : World) (entries : List Entry) (entry : Entry)
    → AllTurnsAreRuns setting births w entries → TurnIsRun setting (all_after births w entries) (deed_of entry)
    → AllTurnsAreRuns setting births w (entries ++ entry ∷ [])
turns_last setting births w [] entry lives turn = (turn, tt)
turns_last setting births w (e ∷ es) entry lives turn =
    (lives.0, turns_last setting births (next births w e) es entry lives.1 turn)

-- no entry
pub lives_none : {P : Type 0} (setting : Setting P) (book : Book) → book.entries ≡ [] → Lives setting book
unfolding Lives
lives_none setting book none =
    let Q : List Entry → Type 0 = λ es. AllTurnsAreRuns setting book.births (first_world book.births) es in subst Q
    (sym none) tt

-- one entry more, and more births behind the first
pub lives_last : {P : Type 0} (setting : Setting P) (terms : Option Terms) (old new : Book) (entry : Entry)
    (birth : Birth) (births more : List Birth)
    → old.births ≡ birth ∷ births → new.births ≡ birth ∷ births ++ more → new.entries ≡ old.entries ++ entry ∷ [] →
    EntriesAllowed terms old
    → Lives setting old → TurnIsRun setting (told old) (deed_of entry) → Lives setting new
unfolding Lives told EntriesAllowed
lives_last setting terms old new entry birth births more before after entries legal lives turn =
    let A : List Birth → Type 0 = λ bs. AllAllowed terms bs (first_world bs) old.entries in
    let L : List Birth → Type 0 = λ bs. AllTurnsAreRuns setting bs (first_world bs) old.entries in
    let F : World → Type 0 = λ w. AllTurnsAreRuns setting (birth ∷ births ++ more) w old.entries in
    let E : List Entry → Type 0 = λ es. AllTurnsAreRuns setting new.births (first_world new.births) es in
    let T : World → Type 0 = λ w. TurnIsRun setting w (deed_of entry) in
    let there : AllAllowed terms (birth ∷ births) (first_world (birth ∷ births)) old.entries = subst A before legal in
    let same : all_after new.births (first_world new.births) old.entries ≡ all_after old.births
    (first_world old.births) old.entries =
    ap (λ (bs : List Birth). all_after bs (first_world bs) old.entries) after
    ∙ extended_fold terms birth births more old.entries there
    ∙ ap (λ (bs : List Birth). all_after bs (first_world bs) old.entries) (sym before) in
    let longer : AllTurnsAreRuns setting (birth ∷ births ++ more) (first_world (birth ∷ births ++ more)) old.entries =
    subst F (sym (first_world_longer birth births more))
    (turns_extend setting terms (birth ∷ births) more (first_world (birth ∷ births)) old.entries there
    (subst L before lives)) in
    subst E (sym entries)
    (turns_last setting new.births (first_world new.births) old.entries entry (subst L (sym after) longer)
    (subst T (sym same) turn))

-- LEGAL JOURNALS TELL

tells_start : (first : Start) (births : List Birth) → first.pid ≡ 1 → slice_get births 0 ≡ Some (Born first) →
    TellsStart births
tells_start first [] numbered found = absurd (none_is_some found)
tells_start first (birth ∷ births) numbered found =
    let Q : Birth → Type 0 = λ b. TellsStart (b ∷ births) in subst Q (sym (same_some birth (Born first) found)) numbered

-- a legal journal tells its world
pub legal_tells : (terms : Terms) (book : Book) → terms.first.pid ≡ 1 → Legal terms book → IsTold book
legal_tells terms book numbered legal = record {
  start = tells_start terms.first book.births numbered legal.first;
  entries = entries_allowed_untested terms book legal.entries;
}

-- REPORTS

-- the ends that are right are in order
ends_in_order : {P : Type 0} (setting : Setting P) (processes : ℕ →
    Process) (exits : List Exit) (memories : List EndMemory)
    → EndsAreMemories setting processes exits memories →
    map (λ memory. memory.pid) memories ≡ map (λ exit. exit.pid) exits
ends_in_order setting processes [] [] ends = refl
ends_in_order setting processes [] (memory ∷ memories) ends = absurd ends
ends_in_order setting processes (exit ∷ exits) [] ends = absurd ends
ends_in_order setting processes (exit ∷ exits) (memory ∷ memories) ends =
    λ i. ends.0 i ∷ ends_in_order setting processes exits memories ends.2 i

-- the journal of a run can be reported
pub run_reportable : {P : Type 0} (setting : Setting P) (book : Book) → IsRun setting book → IsReportable book
run_reportable setting book run = record {
  told = legal_tells (terms_of setting) book run.begins.numbered run.legal;
  ends = ends_in_order setting (told book).process (told book).exits book.ends run.ends;
}
