use Rattle.std.proofs.Common.{◌≡◌, ℕ, ◌+◌, ◌<◌, List, [], ◌∷◌, false, true, length, refl, sym, ◌∙◌, ap, subst, arith}
use Rattle.std.proofs.Math.Nat.{le_trans}
use Rattle.world_rules.specs.declared.entry.Entry.{Entry}
use Rattle.world_rules.specs.declared.life.Ended.{Ended as EndMemory}
use Rattle.world_rules.specs.Book.{Book, KeepsAll}
use Rattle.world_rules.specs.World.{World, Process, Stage, Unborn, Ready, Out, Waiting, Doomed, Ended, Exit, is_ended, is_away, is_live}
use Rattle.world_rules.specs.Allowed.{IsWith}
use Rattle.world_rules.specs.Told.{told}
use Rattle.world_rules.specs.Lives.{Setting, terms_of, EndsAreMemories}
use Rattle.node_state.specs.Seats.{Meaning}
use Rattle.node_state.specs.Held.{Held, StandsFor}
use Rattle.node_laws.proofs.ReadyList.{true_is_not_false}
use Rattle.node_laws.proofs.Folds.{told-same, Legal-same, Lives-same}
use Rattle.node_laws.proofs.Goes.{first-is}
use Rattle.node_laws.proofs.Gives.{with-away, away_unended}

-- The room of a journal.

-- more room changes nothing
pub keeps-room : {E P : Type 0} {engines : Meaning E P} {setting : Setting P} (old new : Book) (held : Held E) → StandsFor engines setting old (told old) held → KeepsAll old new
    → StandsFor engines setting new (told new) held
keeps-room {setting = setting} old new held keeps all =
    let same : told new ≡ told old = told-same old new all.births all.entries in
    let ends : EndsAreMemories setting (told new).process (told new).exits new.ends = rw (same, all.ends) keeps.run.ends in
    rw same (record {
      run = record {
        begins = keeps.run.begins;
        legal = Legal-same (terms_of setting) old new all.births all.entries keeps.run.legal;
        lives = Lives-same setting old new all.births all.entries keeps.run.lives;
        ends = ends;
      };
      mirrors = keeps.mirrors;
      quiet = keeps.quiet;
      room = le_trans keeps.room all.entry_room;
      row_bound = rw (ap (λ (es : List Entry). length es) all.entries) keeps.row_bound;
      ended = keeps.ended;
      first = keeps.first;
    })

no_ends : {P : Type 0} (setting : Setting P) (ps : ℕ → Process) (memories : List EndMemory) → EndsAreMemories setting ps [] memories → length memories ≡ 0
no_ends setting ps [] h = refl
no_ends setting ps (memory ∷ memories) h = absurd h

room_for_one : (n m k : ℕ) → n ≡ 0 → m ≡ k + 1 → n < m
room_for_one n m k none some = omega (arith, none, some)

-- while process 1 hasn't ended there is room for its end
pub ends-room : {E P : Type 0} {engines : Meaning E P} {setting : Setting P} (book : Book) (held : Held E) → StandsFor engines setting book (told book) held
    → is_ended ((told book).process 1).stage ≡ false → length book.ends < length book.births
ends-room {setting = setting} book held keeps unended =
    let w : World = told book in
    let none : EndsAreMemories setting w.process [] book.ends = subst (λ (exits : List Exit). EndsAreMemories setting w.process exits book.ends) (keeps.first.ends unended) keeps.run.ends in
    room_for_one (length book.ends) (length book.births) w.spawns (no_ends setting w.process book.ends none) keeps.run.legal.births

live_unended : (stage : Stage) → is_live stage ≡ true → is_ended stage ≡ false
live_unended Unborn h = refl
live_unended Ready h = refl
live_unended (Out worker) h = refl
live_unended (Waiting request) h = refl
live_unended (Doomed worker end) h = refl
live_unended (Ended end) h = true_is_not_false (sym h)

-- so it is while the run goes on
pub ends-room-going : {E P : Type 0} {engines : Meaning E P} {setting : Setting P} (book : Book) (held : Held E) → StandsFor engines setting book (told book) held → held.over ≡ false
    → length book.ends < length book.births
ends-room-going book held keeps going = ends-room book held keeps (live_unended ((told book).process 1).stage (keeps.first.going (keeps.mirrors.over ∙ going)))

-- and while a worker has it
pub ends-room-with : {E P : Type 0} {engines : Meaning E P} {setting : Setting P} (book : Book) (held : Held E) (pid worker : ℕ) → StandsFor engines setting book (told book) held
    → IsWith ((told book).process pid).stage worker → length book.ends < length book.births
ends-room-with book held pid worker keeps is_with =
    let w : World = told book in
    let away = with-away (w.process pid).stage worker is_with in
    let one : pid ≡ 1 = first-is w pid is_away keeps.first refl away in
    ends-room book held keeps (subst (λ (k : ℕ). is_ended (w.process k).stage ≡ false) one (away_unended (w.process pid).stage away))
