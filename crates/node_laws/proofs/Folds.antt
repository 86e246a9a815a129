use Rattle.std.proofs.Common.{◌≡◌, ℕ, ◌+◌, List, [], ◌∷◌, ◌++◌, length, slice_get, Option, Some, refl, sym, ◌∙◌, ap, subst}
use Rattle.world_rules.specs.declared.entry.Entry.{Entry}
use Rattle.world_rules.specs.declared.life.Birth.{Birth}
use Rattle.world_rules.specs.declared.life.Ended.{Ended as EndMemory}
use Rattle.world_rules.specs.Book.{Book}
use Rattle.world_rules.specs.Views.{deed_of}
use Rattle.world_rules.specs.World.{World, first_world}
use Rattle.world_rules.specs.Rules.{next}
use Rattle.world_rules.specs.Births.{Terms}
use Rattle.world_rules.specs.Told.{all_after, AllAllowed, told, EntriesAllowed}
use Rattle.world_rules.specs.Allowed.{Allowed}
use Rattle.world_rules.specs.Legal.{Legal}
use Rattle.world_rules.specs.Lives.{Setting, terms_of, TurnIsRun, AllTurnsAreRuns, Lives, EndsAreMemories, IsRun}
use Rattle.node_state.specs.Changes.{Records}

-- The folds over a journal: the same journal, and one entry more where the births stay.

all_after_last : (births : List Birth) (w : World) (entries : List Entry) (entry : Entry) → all_after births w (entries ++ entry ∷ []) ≡ next births (all_after births w entries) entry
all_after_last births w [] entry = refl
all_after_last births w (e ∷ es) entry = all_after_last births (next births w e) es entry

all_allowed_last : (terms : Option Terms) (births : List Birth) (w : World) (entries : List Entry) (entry : Entry) → AllAllowed terms births w entries
    → Allowed terms births (all_after births w entries) entry → AllAllowed terms births w (entries ++ entry ∷ [])
all_allowed_last terms births w [] entry legal allowed = (allowed, tt)
all_allowed_last terms births w (e ∷ es) entry legal allowed = (legal.0, all_allowed_last terms births (next births w e) es entry legal.1 allowed)

all_turns_last : {P : Type 0} (setting : Setting P) (births : List Birth) (w : World) (entries : List Entry) (entry : Entry) → AllTurnsAreRuns setting births w entries
    → TurnIsRun setting (all_after births w entries) (deed_of entry) → AllTurnsAreRuns setting births w (entries ++ entry ∷ [])
all_turns_last setting births w [] entry lives turn = (turn, tt)
all_turns_last setting births w (e ∷ es) entry lives turn = (lives.0, all_turns_last setting births (next births w e) es entry lives.1 turn)

-- the same entries and births

pub told-same : (old new : Book) → new.births ≡ old.births → new.entries ≡ old.entries → told new ≡ told old
unfolding told
told-same old new births entries = λ i. all_after (births i) (first_world (births i)) (entries i)

pub EntriesAllowed-same : (terms : Option Terms) (old new : Book) → new.births ≡ old.births → new.entries ≡ old.entries → EntriesAllowed terms old → EntriesAllowed terms new
unfolding EntriesAllowed
EntriesAllowed-same terms old new births entries allowed =
    let P : List Birth → Type 0 = λ bs. AllAllowed terms bs (first_world bs) new.entries in
    let Q : List Entry → Type 0 = λ es. AllAllowed terms old.births (first_world old.births) es in
    subst P (sym births) (subst Q (sym entries) allowed)

pub Legal-same : (terms : Terms) (old new : Book) → new.births ≡ old.births → new.entries ≡ old.entries → Legal terms old → Legal terms new
Legal-same terms old new births entries legal = record {
  first = ap (λ (bs : List Birth). slice_get bs 0) births ∙ legal.first;
  births = ap (λ (bs : List Birth). length bs) births ∙ legal.births ∙ ap (λ (w : World). w.spawns + 1) (sym (told-same old new births entries));
  entries = EntriesAllowed-same (Some terms) old new births entries legal.entries;
}

pub Lives-same : {P : Type 0} (setting : Setting P) (old new : Book) → new.births ≡ old.births → new.entries ≡ old.entries → Lives setting old → Lives setting new
unfolding Lives
Lives-same setting old new births entries lives =
    let P : List Birth → Type 0 = λ bs. AllTurnsAreRuns setting bs (first_world bs) new.entries in
    let Q : List Entry → Type 0 = λ es. AllTurnsAreRuns setting old.births (first_world old.births) es in
    subst P (sym births) (subst Q (sym entries) lives)

-- one entry more

pub told-last : (old new : Book) (entry : Entry) → new.births ≡ old.births → new.entries ≡ old.entries ++ entry ∷ [] → told new ≡ next old.births (told old) entry
unfolding told
told-last old new entry births entries =
    (λ i. all_after (births i) (first_world (births i)) (entries i)) ∙ all_after_last old.births (first_world old.births) old.entries entry

pub EntriesAllowed-last : (terms : Option Terms) (old new : Book) (entry : Entry) → new.births ≡ old.births → new.entries ≡ old.entries ++ entry ∷ [] → EntriesAllowed terms old
    → Allowed terms old.births (told old) entry → EntriesAllowed terms new
unfolding told EntriesAllowed
EntriesAllowed-last terms old new entry births entries legal allowed =
    let P : List Birth → Type 0 = λ bs. AllAllowed terms bs (first_world bs) new.entries in
    let Q : List Entry → Type 0 = λ es. AllAllowed terms old.births (first_world old.births) es in
    subst P (sym births) (subst Q (sym entries) (all_allowed_last terms old.births (first_world old.births) old.entries entry legal allowed))

-- an entry that performs no spawn needs no birth
pub Legal-last : (terms : Terms) (old new : Book) (entry : Entry) → new.births ≡ old.births → new.entries ≡ old.entries ++ entry ∷ [] → Legal terms old
    → Allowed (Some terms) old.births (told old) entry → (next old.births (told old) entry).spawns ≡ (told old).spawns → Legal terms new
Legal-last terms old new entry births entries legal allowed spawns = record {
  first = ap (λ (bs : List Birth). slice_get bs 0) births ∙ legal.first;
  births = ap (λ (bs : List Birth). length bs) births ∙ legal.births ∙ ap (λ (n : ℕ). n + 1) (sym spawns) ∙ ap (λ (w : World). w.spawns + 1) (sym (told-last old new entry births entries));
  entries = EntriesAllowed-last (Some terms) old new entry births entries legal.entries allowed;
}

pub Lives-last : {P : Type 0} (setting : Setting P) (old new : Book) (entry : Entry) → new.births ≡ old.births → new.entries ≡ old.entries ++ entry ∷ [] → Lives setting old
    → TurnIsRun setting (told old) (deed_of entry) → Lives setting new
unfolding Lives told
Lives-last setting old new entry births entries lives turn =
    let P : List Birth → Type 0 = λ bs. AllTurnsAreRuns setting bs (first_world bs) new.entries in
    let Q : List Entry → Type 0 = λ es. AllTurnsAreRuns setting old.births (first_world old.births) es in
    subst P (sym births) (subst Q (sym entries) (all_turns_last setting old.births (first_world old.births) old.entries entry lives turn))

-- RUN. A run goes on with an allowed entry that performs no spawn.
pub run-next : {P : Type 0} (setting : Setting P) (old new : Book) (entry : Entry) (more : List EndMemory) → Records old new entry more → IsRun setting old
    → Allowed (Some (terms_of setting)) old.births (told old) entry → TurnIsRun setting (told old) (deed_of entry) → (next old.births (told old) entry).spawns ≡ (told old).spawns
    → EndsAreMemories setting (next old.births (told old) entry).process (next old.births (told old) entry).exits (old.ends ++ more) → IsRun setting new
run-next setting old new entry more records run allowed turn spawns ends = record {
  begins = run.begins;
  legal = Legal-last (terms_of setting) old new entry records.births records.entries run.legal allowed spawns;
  lives = Lives-last setting old new entry records.births records.entries run.lives turn;
  ends = rw (told-last old new entry records.births records.entries, records.ends_are) ends;
}
