use Rattle.std.proofs.Common.{◌≡◌, ℕ, List, [], ◌∷◌, Option, None, Bool, true, false, cond, nat_eq, refl, sym, ap, subst}
use Rattle.world_rules.specs.declared.entry.Entry.{Entry}
use Rattle.world_rules.specs.declared.halt.End.{End}
use Rattle.world_rules.specs.declared.life.Birth.{Birth}
use Rattle.world_rules.specs.Book.{Book}
use Rattle.world_rules.specs.World.{World, Process, Stage, Unborn, Ready, Out, Waiting, Doomed, Ended, first_world, first_start, fresh_process, no_start, is_live, is_home}
use Rattle.world_rules.specs.Rules.{next}
use Rattle.world_rules.specs.Births.{Terms}
use Rattle.world_rules.specs.Allowed.{Allowed}
use Rattle.world_rules.specs.Told.{told, all_after, AllAllowed, EntriesAllowed, IsTold}
use Rattle.world_rules.specs.Sound.{IsSound}
use Rattle.world_rules.specs.Touches.{Touched, Change, Takes, Arrives, Turns, Returns, Answers, Pends, Waits, Posts, Picks, Settles, Minds, Dooms, Finishes, Begins, MayCome, AllMayCome, changed, all_changed}
use Rattle.node_laws.proofs.ReadyList.{true_is_not_false}
use Rattle.node_laws.proofs.Programs.{KeepsSound}

-- A process that is doomed while a worker has it has lost its mailbox, and nothing is put into it any more.

abbrev is_doomed : Stage → Bool
is_doomed Unborn = false
is_doomed Ready = false
is_doomed (Out worker) = false
is_doomed (Waiting request) = false
is_doomed (Doomed worker end) = true
is_doomed (Ended end) = false

abbrev IsEmptied : Process → Type 0
IsEmptied p = is_doomed p.stage ≡ true → p.mail ≡ []

live_undoomed : {X : Type 0} (stage : Stage) → is_live stage ≡ true → is_doomed stage ≡ true → X
live_undoomed Unborn live doomed = true_is_not_false (sym live)
live_undoomed Ready live doomed = true_is_not_false (sym doomed)
live_undoomed (Out worker) live doomed = true_is_not_false (sym doomed)
live_undoomed (Waiting request) live doomed = true_is_not_false (sym doomed)
live_undoomed (Doomed worker end) live doomed = true_is_not_false (sym live)
live_undoomed (Ended end) live doomed = true_is_not_false (sym live)

home_undoomed : {X : Type 0} (stage : Stage) → is_home stage ≡ true → is_doomed stage ≡ true → X
home_undoomed Unborn home doomed = true_is_not_false (sym home)
home_undoomed Ready home doomed = true_is_not_false (sym doomed)
home_undoomed (Out worker) home doomed = true_is_not_false (sym home)
home_undoomed (Waiting request) home doomed = true_is_not_false (sym doomed)
home_undoomed (Doomed worker end) home doomed = true_is_not_false (sym home)
home_undoomed (Ended end) home doomed = true_is_not_false (sym home)

-- each change keeps it so
change_keeps : (pid : ℕ) (change : Change) (p : Process) → MayCome pid change p → IsEmptied p → IsEmptied (changed change p)
change_keeps pid (Takes worker) p may empty = λ d. true_is_not_false (sym d)
change_keeps pid (Arrives what) p may empty = empty
change_keeps pid (Turns give) p may empty = empty
change_keeps pid Returns p may empty = λ d. true_is_not_false (sym d)
change_keeps pid (Answers request reply) p may empty = λ d. true_is_not_false (sym d)
change_keeps pid (Pends request) p may empty = λ d. true_is_not_false (sym d)
change_keeps pid (Waits request deadline) p may empty = λ d. true_is_not_false (sym d)
change_keeps pid (Posts item) p may empty = λ d. live_undoomed p.stage may.live d
change_keeps pid (Picks tags) p may empty = λ d. home_undoomed p.stage may d
change_keeps pid (Settles outcome) p may empty = empty
change_keeps pid (Minds dies) p may empty = empty
change_keeps pid (Dooms worker end) p may empty = λ d. refl
change_keeps pid (Finishes end) p may empty = λ d. true_is_not_false (sym d)
change_keeps pid (Begins start) p may empty = λ d. true_is_not_false (sym d)

changes_keep : (pid : ℕ) (changes : List Change) (p : Process) → AllMayCome pid changes p → IsEmptied p → IsEmptied (all_changed changes p)
changes_keep pid [] p may empty = empty
changes_keep pid (change ∷ changes) p may empty = changes_keep pid changes (changed change p) may.1 (change_keeps pid change p may.0 empty)

-- an entry makes some changes of each process
abbrev pub Touching : Type 0
Touching = (terms : Option Terms) (births : List Birth) (w : World) (entry : Entry) (pid : ℕ) → IsSound w → Allowed terms births w entry
    → Touched pid (w.process pid) ((next births w entry).process pid)

emptied_all : KeepsSound → Touching → (births : List Birth) (w : World) (entries : List Entry) (pid : ℕ) → IsSound w → AllAllowed None births w entries → IsEmptied (w.process pid)
    → IsEmptied ((all_after births w entries).process pid)
emptied_all k touching births w [] pid sound allowed empty = empty
emptied_all k touching births w (entry ∷ entries) pid sound allowed empty =
    let t = touching None births w entry pid sound allowed.0 in
    emptied_all k touching births (next births w entry) entries pid (k.kept None births w entry sound allowed.0) allowed.1
    (subst IsEmptied (sym t.all) (changes_keep pid t.changes (w.process pid) t.may_come empty))

emptied_first : (births : List Birth) (pid : ℕ) → IsEmptied ((first_world births).process pid)
emptied_first births pid =
    one (nat_eq pid 1)
  where
    one : (b : Bool) → IsEmptied (cond b (fresh_process (first_start births) Ready) (fresh_process no_start Unborn))
    one true = λ d. true_is_not_false (sym d)
    one false = λ d. true_is_not_false (sym d)

emptied_told : KeepsSound → Touching → (book : Book) → IsTold book → (pid : ℕ) → IsEmptied ((told book).process pid)
unfolding told EntriesAllowed
emptied_told k touching book is pid = emptied_all k touching book.births (first_world book.births) book.entries pid (k.first book.births is.start) is.entries (emptied_first book.births pid)

-- the mailbox of a doomed process is empty
pub doomed-emptied : KeepsSound → Touching → (book : Book) → IsTold book → (pid worker : ℕ) (end : End) → ((told book).process pid).stage ≡ Doomed worker end → ((told book).process pid).mail ≡ []
doomed-emptied k touching book is pid worker end doomed = emptied_told k touching book is pid (ap is_doomed doomed)
