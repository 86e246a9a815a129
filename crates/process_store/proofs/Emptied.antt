use Rattle.std.proofs.Common.{◌≡◌, ℕ, List, [], ◌∷◌, None, Bool, true, false, cond, nat_eq, refl, sym, ◌∙◌, ap, subst}
use Rattle.world_rules.specs.declared.entry.Entry.{Entry}
use Rattle.world_rules.specs.declared.life.Birth.{Birth}
use Rattle.world_rules.specs.Book.{Book}
use Rattle.world_rules.specs.World.{World, Process, Stage, Unborn, Ready, Out, Waiting, Doomed, Ended, first_world, first_start, fresh_process, no_start, is_live, is_home}
use Rattle.world_rules.specs.Rules.{next}
use Rattle.world_rules.specs.Told.{told, all_after, AllAllowed, EntriesAllowed, IsTold}
use Rattle.world_rules.specs.Sound.{IsSound, is_drawn, is_born}
use Rattle.world_rules.specs.Touches.{Change, Takes, Arrives, Turns, Returns, Answers, Pends, Waits, Posts, Picks, Settles, Minds, Dooms, Finishes, Begins, MayCome, AllMayCome, changed, all_changed}
use Rattle.node_laws.proofs.ReadyList.{true_is_not_false}
use Rattle.node_laws.proofs.Programs.{KeepsSound}
use Rattle.node_laws.proofs.Dooms.{Touching}

-- A process that is doomed, or has ended, has lost its mailbox, and nothing is put into it any more.

abbrev is_past : Stage → Bool
is_past Unborn = false
is_past Ready = false
is_past (Out worker) = false
is_past (Waiting request) = false
is_past (Doomed worker end) = true
is_past (Ended end) = true

abbrev IsEmptied : Process → Type 0
IsEmptied p = is_past p.stage ≡ true → p.mail ≡ []

live_goes : {X : Type 0} (stage : Stage) → is_live stage ≡ true → is_past stage ≡ true → X
live_goes Unborn live past = true_is_not_false (sym live)
live_goes Ready live past = true_is_not_false (sym past)
live_goes (Out worker) live past = true_is_not_false (sym past)
live_goes (Waiting request) live past = true_is_not_false (sym past)
live_goes (Doomed worker end) live past = true_is_not_false (sym live)
live_goes (Ended end) live past = true_is_not_false (sym live)

home_goes : {X : Type 0} (stage : Stage) → is_home stage ≡ true → is_past stage ≡ true → X
home_goes Unborn home past = true_is_not_false (sym home)
home_goes Ready home past = true_is_not_false (sym past)
home_goes (Out worker) home past = true_is_not_false (sym home)
home_goes (Waiting request) home past = true_is_not_false (sym past)
home_goes (Doomed worker end) home past = true_is_not_false (sym home)
home_goes (Ended end) home past = true_is_not_false (sym home)

-- each change keeps it so
change_keeps : (pid : ℕ) (change : Change) (p : Process) → MayCome pid change p → IsEmptied p → IsEmptied (changed change p)
change_keeps pid (Takes worker) p may empty = λ d. true_is_not_false (sym d)
change_keeps pid (Arrives what) p may empty = empty
change_keeps pid (Turns give) p may empty = empty
change_keeps pid Returns p may empty = λ d. true_is_not_false (sym d)
change_keeps pid (Answers request reply) p may empty = λ d. true_is_not_false (sym d)
change_keeps pid (Pends request) p may empty = λ d. true_is_not_false (sym d)
change_keeps pid (Waits request deadline) p may empty = λ d. true_is_not_false (sym d)
change_keeps pid (Posts item) p may empty = λ d. live_goes p.stage may.live d
change_keeps pid (Picks tags) p may empty = λ d. home_goes p.stage may d
change_keeps pid (Settles outcome) p may empty = empty
change_keeps pid (Minds dies) p may empty = empty
change_keeps pid (Dooms worker end) p may empty = λ d. refl
change_keeps pid (Finishes end) p may empty = λ d. refl
change_keeps pid (Begins start) p may empty = λ d. true_is_not_false (sym d)

changes_keep : (pid : ℕ) (changes : List Change) (p : Process) → AllMayCome pid changes p → IsEmptied p → IsEmptied (all_changed changes p)
changes_keep pid [] p may empty = empty
changes_keep pid (change ∷ changes) p may empty = changes_keep pid changes (changed change p) may.1 (change_keeps pid change p may.0 empty)

emptied_all : KeepsSound → Touching → (births : List Birth) (w : World) (entries : List Entry) (pid : ℕ) → IsSound w → AllAllowed None births w entries → IsEmptied (w.process pid)
    → IsEmptied ((all_after births w entries).process pid)
emptied_all k touching births w [] pid sound allowed empty = empty
emptied_all k touching births w (entry ∷ entries) pid sound allowed empty =
    let t = touching None births w entry pid sound allowed.0 in
    emptied_all k touching births (next births w entry) entries pid (k.kept None births w entry sound allowed.0) allowed.1
    (subst IsEmptied (sym t.all) (changes_keep pid t.changes (w.process pid) t.may_come empty))

emptied_first : (births : List Birth) (pid : ℕ) → IsEmptied ((first_world births).process pid)
emptied_first births pid =
    one (nat_eq pid 1)
  where
    one : (b : Bool) → IsEmptied (cond b (fresh_process (first_start births) Ready) (fresh_process no_start Unborn))
    one true = λ d. true_is_not_false (sym d)
    one false = λ d. true_is_not_false (sym d)

emptied_told : KeepsSound → Touching → (book : Book) → IsTold book → (pid : ℕ) → IsEmptied ((told book).process pid)
unfolding told EntriesAllowed
emptied_told k touching book is pid = emptied_all k touching book.births (first_world book.births) book.entries pid (k.first book.births is.start) is.entries (emptied_first book.births pid)

-- a process that was never born has no mail
unborn_none : (w : World) (pid : ℕ) (drawn : Bool) → IsSound w → is_drawn w pid ≡ drawn → (w.process pid).stage ≡ Unborn → (w.process pid).mail ≡ []
unborn_none w pid true sound is unborn = true_is_not_false (sym (sound.processes.drawn pid is) ∙ ap is_born unborn)
unborn_none w pid false sound is unborn = ap (λ (p : Process). p.mail) (sound.processes.undrawn pid is)

by_stage : {X : Type 0} (stage : Stage) → is_live stage ≡ false → (stage ≡ Unborn → X) → (is_past stage ≡ true → X) → X
by_stage Unborn dead unborn past = unborn refl
by_stage Ready dead unborn past = true_is_not_false dead
by_stage (Out worker) dead unborn past = true_is_not_false dead
by_stage (Waiting request) dead unborn past = true_is_not_false dead
by_stage (Doomed worker end) dead unborn past = past refl
by_stage (Ended end) dead unborn past = past refl

-- the mailbox of a process that is not live is empty
pub dead_emptied : KeepsSound → Touching → (book : Book) → IsTold book → IsSound (told book) → (pid : ℕ) → is_live ((told book).process pid).stage ≡ false → ((told book).process pid).mail ≡ []
dead_emptied k touching book is sound pid dead =
    let w : World = told book in
    by_stage (w.process pid).stage dead (unborn_none w pid (is_drawn w pid) sound refl) (emptied_told k touching book is pid)
