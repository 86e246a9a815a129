-- Where the stream handles of a run stand at its end.
use Rattle.std.proofs.Common.{◌≡◌, ℕ, zero, suc, List, [], ◌∷◌, ◌++◌, take, flat_map, All, cond, nat_eq, Option, None, Bool, true, false, refl, sym, ◌∙◌, ap, subst}
use Rattle.host_port.specs.declared.start.Start.{Start}
use Rattle.resource_table.specs.Handles.{Handle, numbers_of}
use Rattle.resource_table.specs.Steps.{Told}
use Rattle.world_rules.specs.declared.entry.Entry.{Entry}
use Rattle.world_rules.specs.declared.halt.End.{End}
use Rattle.world_rules.specs.declared.life.Birth.{Birth}
use Rattle.world_rules.specs.Book.{Book}
use Rattle.world_rules.specs.Births.{Terms}
use Rattle.world_rules.specs.Allowed.{Allowed}
use Rattle.world_rules.specs.Ends.{held_handles}
use Rattle.world_rules.specs.Lives.{Setting, IsRun, terms_of}
use Rattle.world_rules.specs.Placed.{IsPlaced, all_streams}
use Rattle.world_rules.specs.Rules.{next}
use Rattle.world_rules.specs.Sound.{times, IsSound, is_drawn, is_born}
use Rattle.world_rules.specs.Told.{told, all_after, AllAllowed, EntriesAllowed, IsTold, TellsStart}
use Rattle.world_rules.specs.Touches.{Change, Takes, Arrives, Turns, Returns, Answers, Pends, Waits, Posts, Picks, Settles, Minds, Dooms, Finishes, Begins}
use Rattle.world_rules.specs.Touches.{changed, all_changed, MayCome, AllMayCome, Touched, is_there}
use Rattle.world_rules.specs.World.{World, Process, Stage, Unborn, Ready, Out, Waiting, Doomed, Ended, first_world, first_start, fresh_process, no_start, is_live, is_away, is_home, up_to}
use Rattle.world_rules.specs.laws.LifeLaws.{legal_tells}
use Rattle.node_state.specs.Streaming.{IsClosed}
use Rattle.node_laws.proofs.ReadyList.{true_is_not_false}
use Rattle.lunatic_cli.specs.Handles.{world_at, StandInOnePlace}

-- WHO HAS ENDED HOLDS NOTHING

abbrev LeavesNothing : Process → Type 0
LeavesNothing p = (end : End) → p.stage ≡ Ended end → held_handles p ≡ []

not-ended : {X : Type 0} (test : Stage → Bool) (stage : Stage) (end : End) → ((e : End) → test (Ended e) ≡ false) → test stage ≡ true → stage ≡ Ended end → X
not-ended test stage end none holds is = true_is_not_false (sym holds ∙ ap test is ∙ none end)

-- a change leaves nothing to a process that it ends
changed-left : (pid : ℕ) (change : Change) (p : Process) → MayCome pid change p → LeavesNothing (changed change p)
changed-left pid (Takes worker) p may end is = absurd (let x : Out worker ≡ Ended end = is in cc)
changed-left pid (Arrives what) p may end is = not-ended is_there p.stage end (λ _. refl) may is
changed-left pid (Turns give) p may end is = not-ended is_away p.stage end (λ _. refl) may.away is
changed-left pid Returns p may end is = absurd (let x : Ready ≡ Ended end = is in cc)
changed-left pid (Answers request reply) p may end is = absurd (let x : Ready ≡ Ended end = is in cc)
changed-left pid (Pends request) p may end is = absurd (let x : Ready ≡ Ended end = is in cc)
changed-left pid (Waits request deadline) p may end is = absurd (let x : Waiting request ≡ Ended end = is in cc)
changed-left pid (Posts item) p may end is = not-ended is_live p.stage end (λ _. refl) may.live is
changed-left pid (Picks tags) p may end is = not-ended is_home p.stage end (λ _. refl) may is
changed-left pid (Settles outcome) p may end is = not-ended is_home p.stage end (λ _. refl) may is
changed-left pid (Minds dies) p may end is = absurd (let x : Ready ≡ Ended end = sym may ∙ is in cc)
changed-left pid (Dooms worker doom) p may end is = absurd (let x : Doomed worker doom ≡ Ended end = is in cc)
changed-left pid (Finishes finish) p may end is = refl
changed-left pid (Begins start) p may end is = absurd (let x : Ready ≡ Ended end = is in cc)

all-left : (pid : ℕ) (changes : List Change) (p : Process) → AllMayCome pid changes p → LeavesNothing p → LeavesNothing (all_changed changes p)
all-left pid [] p may left = left
all-left pid (change ∷ changes) p may left = all-left pid changes (changed change p) may.1 (changed-left pid change p may.0)

touched-left : (pid : ℕ) (old new : Process) → Touched pid old new → LeavesNothing old → LeavesNothing new
touched-left pid old new touched left = subst LeavesNothing (sym touched.all) (all-left pid touched.changes old touched.may_come left)

-- the laws of the world: what each entry does to a process; each world that a journal tells is sound, and has its streams in
-- one place
module _ (entry_touches : (terms : Option Terms) (births : List Birth) (w : World) (entry : Entry) (pid : ℕ) → IsSound w → Allowed terms births w entry
    → Touched pid (w.process pid) ((next births w entry).process pid))
    (entry_sound : (terms : Option Terms) (births : List Birth) (w : World) (entry : Entry) → IsSound w → Allowed terms births w entry → IsSound (next births w entry))
    (first_sound : (births : List Birth) → TellsStart births → IsSound (first_world births)) (told_sound : (book : Book) → IsTold book → IsSound (told book))
    (told_placed : (book : Book) → IsTold book → IsPlaced (told book)) where
  after-left : (births : List Birth) (w : World) (entries : List Entry) → IsSound w → AllAllowed None births w entries → ((pid : ℕ) → LeavesNothing (w.process pid)) → (pid : ℕ)
      → LeavesNothing ((all_after births w entries).process pid)
  after-left births w [] sound allowed left pid = left pid
  after-left births w (entry ∷ entries) sound allowed left pid =
      after-left births (next births w entry) entries (entry_sound None births w entry sound allowed.0) allowed.1
      (λ q. touched-left q (w.process q) ((next births w entry).process q) (entry_touches None births w entry q sound allowed.0) (left q)) pid

  fresh-left : (b : Bool) (start : Start) → LeavesNothing (cond b (fresh_process start Ready) (fresh_process no_start Unborn))
  fresh-left true start end is = refl
  fresh-left false start end is = refl

  told-left : (book : Book) → IsTold book → (pid : ℕ) → LeavesNothing ((told book).process pid)
  unfolding told EntriesAllowed
  told-left book tells pid =
      after-left book.births (first_world book.births) book.entries (first_sound book.births tells.start) tells.entries (λ q. fresh-left (nat_eq q 1) (first_start book.births)) pid

  -- where the run is over and no worker has a process, nobody holds anything

  nothing-held : (book : Book) → IsTold book → (told book).over ≡ true → ((pid : ℕ) → is_away ((told book).process pid).stage ≡ false) → (pid : ℕ) → held_handles ((told book).process pid) ≡ []
  nothing-held book tells over home pid = by ((told book).process pid).stage refl
    where
      sound : IsSound (told book)
      sound = told_sound book tells

      dead : is_live ((told book).process pid).stage ≡ false
      dead = sound.processes.over over pid

      unborn : (b : Bool) → is_drawn (told book) pid ≡ b → ((told book).process pid).stage ≡ Unborn → held_handles ((told book).process pid) ≡ []
      unborn true drawn is = true_is_not_false (sym (sound.processes.drawn pid drawn) ∙ ap is_born is)
      unborn false drawn is = ap held_handles (sound.processes.undrawn pid drawn)

      by : (stage : Stage) → ((told book).process pid).stage ≡ stage → held_handles ((told book).process pid) ≡ []
      by Unborn is = unborn (is_drawn (told book) pid) refl is
      by Ready is = true_is_not_false (sym (ap is_live is) ∙ dead)
      by (Out worker) is = true_is_not_false (sym (ap is_live is) ∙ dead)
      by (Waiting request) is = true_is_not_false (sym (ap is_live is) ∙ dead)
      by (Doomed worker end) is = true_is_not_false (sym (ap is_away is) ∙ home pid)
      by (Ended end) is = told-left book tells pid end is

  flat-none : (f : ℕ → List ℕ) (xs : List ℕ) → ((x : ℕ) → f x ≡ []) → flat_map f xs ≡ []
  flat-none f [] none = refl
  flat-none f (x ∷ xs) none = ap (λ (ys : List ℕ). ys ++ flat_map f xs) (none x) ∙ flat-none f xs none

  only-closed : (w : World) → ((pid : ℕ) → held_handles (w.process pid) ≡ []) → all_streams w ≡ w.closed
  only-closed w none = ap (λ (ys : List ℕ). ys ++ w.closed) (flat-none (λ pid. held_handles (w.process pid)) (up_to w.numbers_drawn) none)

  -- FRONTS

  abbrev front : Book → ℕ → Book
  front book n = record book { entries = take n book.entries }

  take-allowed : (n : ℕ) (births : List Birth) (w : World) (es : List Entry) → AllAllowed None births w es → AllAllowed None births w (take n es)
  take-allowed zero births w es allowed = tt
  take-allowed (suc n) births w [] allowed = tt
  take-allowed (suc n) births w (e ∷ es) allowed = (allowed.0, take-allowed n births (next births w e) es allowed.1)

  front-told : (book : Book) (n : ℕ) → IsTold book → IsTold (front book n)
  unfolding EntriesAllowed
  front-told book n tells = record {
    start = tells.start;
    entries = take-allowed n book.births (first_world book.births) book.entries tells.entries;
  }

  placed-at : (book : Book) (n : ℕ) → IsTold book → IsPlaced (world_at book n)
  unfolding told
  placed-at book n tells = told_placed (front book n) (front-told book n tells)

  -- THE END

  -- what closes are the streams of the run, each in its one place
  pub stands-in-one : {P S : Type 0} (tells : Told S) (setting : Setting P) (book : Book) (kept : List (Handle S)) → IsRun setting book → (told book).over ≡ true →
      ((pid : ℕ) → is_away ((told book).process pid).stage ≡ false) → numbers_of kept ≡ (told book).closed → All (IsClosed tells (told book).streamed) kept → StandInOnePlace tells book kept
  stands-in-one tells setting book kept run over home order shut =
      let is_told : IsTold book = legal_tells (terms_of setting) book run.begins.numbered run.legal in
      let placed : IsPlaced (told book) = told_placed book is_told in
      let same : all_streams (told book) ≡ numbers_of kept = only-closed (told book) (nothing-held book is_told over home) ∙ sym order in
      record {
        placed = λ n. placed-at book n is_told;
        order = order ∙ sym placed.closed;
        once = λ handle. ap (λ (xs : List ℕ). times handle xs) (sym same) ∙ placed.once handle;
        shut = shut;
      }
