use Rattle.std.proofs.Common.{◌≡◌, List, [], ◌∷◌, ◌++◌, map, append-nil, None, refl, sym, ◌∙◌, ap, subst}
use Rattle.host_port.specs.declared.start.Start.{Start}
use Rattle.world_rules.specs.declared.entry.Entry.{Entry}
use Rattle.world_rules.specs.declared.life.Birth.{Birth}
use Rattle.world_rules.specs.declared.life.Birth.TheVariants.{Born, Refused}
use Rattle.world_rules.specs.Book.{Book}
use Rattle.world_rules.specs.World.{World, Exit, first_world}
use Rattle.world_rules.specs.Rules.{next}
use Rattle.world_rules.specs.Allowed.{Allowed}
use Rattle.world_rules.specs.Told.{AllAllowed, told, EntriesAllowed, TellsStart}
use Rattle.world_rules.specs.Report.{IsReportable}
use Rattle.world_rules.specs.laws.ToldLaws.{told_none, entries_allowed_none, first_world_longer, extended_fold, all_allowed_extends, told_last, entries_allowed_last}
use Rattle.plain_world.specs.Kept.{empty_ends, run_of, IsRun, IsTaken}

-- What a run keeps: at its beginning, with one birth more, and with one entry more.

pub run_begins : (start : Start) (births : List Birth) (w : World) → start.pid ≡ 1 → births ≡ Born start ∷ [] →
    w ≡ first_world (Born start ∷ []) → IsRun (run_of births [] w) w
run_begins start births w one is begins = record {
  legal = record { start = subst TellsStart (sym is) one; entries = entries_allowed_none None (run_of births [] w) refl };
  shows = begins ∙ ap first_world (sym is) ∙ sym (told_none (run_of births [] w) refl);
}

-- the first birth is still the first
still_first : (birth : Birth) (births more : List Birth) → TellsStart (birth ∷ births) → TellsStart (birth ∷ births ++ more)
still_first (Born start) births more tells = tells
still_first (Refused reply) births more tells = tells

allowed_longer : (birth : Birth) (births more : List Birth) (entries : List Entry) (w : World) →
    EntriesAllowed None (run_of (birth ∷ births) entries w) → EntriesAllowed None (run_of (birth ∷ births ++ more) entries w)
unfolding EntriesAllowed
allowed_longer birth births more entries w allowed =
    let P : World → Type 0 = λ v. AllAllowed None (birth ∷ births ++ more) v entries in
    subst P (sym (first_world_longer birth births more))
    (all_allowed_extends None (birth ∷ births) more (first_world (birth ∷ births)) entries allowed)

told_longer : (birth : Birth) (births more : List Birth) (entries : List Entry) (w : World) →
    EntriesAllowed None (run_of (birth ∷ births) entries w) →
    told (run_of (birth ∷ births ++ more) entries w) ≡ told (run_of (birth ∷ births) entries w)
unfolding told EntriesAllowed
told_longer birth births more entries w allowed = extended_fold None birth births more entries allowed

pub run_longer : (births more all : List Birth) (entries : List Entry) (w : World) → IsRun (run_of births entries w) w →
    all ≡ births ++ more → IsRun (run_of all entries w) w
run_longer [] more all entries w run is = absurd run.legal.start
run_longer (birth ∷ births) more all entries w run is =
    let P : List Birth → Type 0 = λ bs. IsRun (run_of bs entries w) w in
    subst P (sym is) (record {
      legal = record {
        start = still_first birth births more run.legal.start;
        entries = allowed_longer birth births more entries w run.legal.entries;
      };
      shows = run.shows ∙ sym (told_longer birth births more entries w run.legal.entries);
    })

-- the births of a run, the first apart
takes_at : (births : List Birth) (entries all : List Entry) (entry : Entry) (w later : World) →
    IsRun (run_of births entries w) w → Allowed None births (told (run_of births entries w)) entry → all ≡ entries ++ entry ∷ [] →
    later ≡ next births w entry → IsRun (run_of births all later) later
takes_at [] entries all entry w later run allowed is goes = absurd run.legal.start
takes_at (birth ∷ births) entries all entry w later run allowed is goes =
    let old : Book = run_of (birth ∷ births) entries w in
    let new : Book = run_of (birth ∷ births) all later in
    let same : birth ∷ births ≡ birth ∷ births ++ [] = ap (λ (bs : List Birth). birth ∷ bs) (sym (append-nil births)) in record {
      legal = record {
        start = run.legal.start;
        entries = entries_allowed_last None old new entry birth births [] refl same is run.legal.entries allowed;
      };
      shows =
          goes ∙ ap (λ (v : World). next (birth ∷ births) v entry) run.shows
          ∙ sym (told_last None old new entry birth births [] refl same is run.legal.entries);
    }

pub allowed_told : (births : List Birth) (entries : List Entry) (entry : Entry) (w : World) → IsRun (run_of births entries w) w →
    Allowed None births w entry → Allowed None births (told (run_of births entries w)) entry
allowed_told births entries entry w run allowed = subst (λ (v : World). Allowed None births v entry) run.shows allowed

pub told_allowed : (births : List Birth) (entries : List Entry) (entry : Entry) (w : World) → IsRun (run_of births entries w) w →
    Allowed None births (told (run_of births entries w)) entry → Allowed None births w entry
told_allowed births entries entry w run allowed = subst (λ (v : World). Allowed None births v entry) (sym run.shows) allowed

pub run_takes : (births : List Birth) (entries all : List Entry) (entry : Entry) (w later : World) →
    IsRun (run_of births entries w) w → Allowed None births w entry → all ≡ entries ++ entry ∷ [] →
    later ≡ next births w entry → IsRun (run_of births all later) later
run_takes births entries all entry w later run allowed is goes =
    takes_at births entries all entry w later run (allowed_told births entries entry w run allowed) is goes

pub is_taken : (births : List Birth) (entries all : List Entry) (entry : Entry) (w later : World) →
    IsRun (run_of births entries w) w → Allowed None births w entry → all ≡ entries ++ entry ∷ [] →
    later ≡ next births w entry → IsTaken (run_of births entries w) (run_of births all later) entry
is_taken births entries all entry w later run allowed is goes = record {
  allowed = allowed_told births entries entry w run allowed;
  entries = is;
  births = refl;
  ends = ap (λ (v : World). empty_ends v.exits) (run_takes births entries all entry w later run allowed is goes).shows;
}

-- the empty memories are of those that ended, in order
pub in_order : (exits : List Exit) → map (λ memory. memory.pid) (empty_ends exits) ≡ map (λ (exit : Exit). exit.pid) exits
in_order [] = refl
in_order (exit ∷ exits) = ap (λ pids. exit.pid ∷ pids) (in_order exits)

pub run_reportable : (births : List Birth) (entries : List Entry) (w : World) → IsRun (run_of births entries w) w →
    IsReportable (run_of births entries w)
run_reportable births entries w run = record {
  told = run.legal;
  ends = in_order w.exits ∙ ap (λ (v : World). map (λ (exit : Exit). exit.pid) v.exits) run.shows;
}
