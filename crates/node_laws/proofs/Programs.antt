use Rattle.std.proofs.Common.{◌≡◌, ℕ, ◌≤◌, ◌&&◌, List, [], ◌∷◌, slice_get, Option, Some, None, Bool, true, false, nat_lt, nat_le, refl, sym, ◌∙◌, ap, arith}
use Rattle.std.proofs.lemmas.Bool.Decides.{nat_tests}
use Rattle.std.proofs.Math.Nat.{le_trans}
use Rattle.std.specs.Option.{option_map_or, is_none}
use Rattle.host_port.specs.declared.start.Start.{Start}
use Rattle.host_port.specs.Memory.{pages_of, mark_of}
use Rattle.host_port.specs.Standing.{Standing, memory_of}
use Rattle.world_rules.specs.declared.entry.Entry.{Entry}
use Rattle.world_rules.specs.declared.life.Birth.{Birth}
use Rattle.world_rules.specs.declared.life.Birth.TheVariants.{Born}
use Rattle.world_rules.specs.declared.life.Ended.{Ended as EndMemory}
use Rattle.world_rules.specs.Book.{Book}
use Rattle.world_rules.specs.World.{World, Process, Stage, Unborn, Ready, Out, Waiting, Doomed, Ended, first_world, first_start}
use Rattle.world_rules.specs.Rules.{next}
use Rattle.world_rules.specs.Births.{Terms}
use Rattle.world_rules.specs.Allowed.{Allowed}
use Rattle.world_rules.specs.Told.{told, all_after, AllAllowed, EntriesAllowed, TellsStart, IsTold}
use Rattle.world_rules.specs.Sound.{IsSound, is_born}
use Rattle.world_rules.specs.Touches.{Stays, GoOn, counts_of, is_there}
use Rattle.world_rules.specs.Lives.{Setting, IsRun, IsMemoryOf, terms_of}
use Rattle.world_rules.specs.laws.LifeLaws.{legal_tells}
use Rattle.node_state.specs.Seats.{Meaning, StandsAt}
use Rattle.node_state.specs.Fits.{ShowMemory, IsLastOf}
use Rattle.node_laws.proofs.ReadyList.{true_is_not_false}

-- Process 1 keeps its start, and so has its program; and what is kept of a memory at an end.

-- what each allowed entry keeps of a sound world
pub record KeepsSound : Type 0 where
  pub first : (births : List Birth) → TellsStart births → IsSound (first_world births)
  pub kept : (terms : Option Terms) (births : List Birth) (w : World) (entry : Entry) → IsSound w → Allowed terms births w entry → IsSound (next births w entry)
  pub stays : (terms : Option Terms) (births : List Birth) (w : World) (entry : Entry) (pid : ℕ) → IsSound w → Allowed terms births w entry → Stays (w.process pid) ((next births w entry).process pid)
  pub counts : (terms : Option Terms) (births : List Birth) (w : World) (entry : Entry) → IsSound w → Allowed terms births w entry → GoOn (counts_of w) (counts_of (next births w entry))

pub keeps-sound : ((births : List Birth) → TellsStart births → IsSound (first_world births))
    → ((terms : Option Terms) (births : List Birth) (w : World) (entry : Entry) → IsSound w → Allowed terms births w entry → IsSound (next births w entry))
    → ((terms : Option Terms) (births : List Birth) (w : World) (entry : Entry) (pid : ℕ) → IsSound w → Allowed terms births w entry → Stays (w.process pid) ((next births w entry).process pid))
    → ((terms : Option Terms) (births : List Birth) (w : World) (entry : Entry) → IsSound w → Allowed terms births w entry → GoOn (counts_of w) (counts_of (next births w entry)))
    → KeepsSound
keeps-sound first kept stays counts = record { first = first; kept = kept; stays = stays; counts = counts }

drawn_one : (n : ℕ) → 1 ≤ n → (nat_lt 0 1 && nat_le 1 n) ≡ true
drawn_one n h = grind (arith, nat_tests, h)

-- who was born keeps its start
start_kept : (old new : Process) (stage : Stage) → old.stage ≡ stage → is_born stage ≡ true → Stays old new → new.start ≡ old.start
start_kept old new Unborn is born stays = true_is_not_false (sym born)
start_kept old new Ready is born stays = stays.start (ap is_there is)
start_kept old new (Out worker) is born stays = stays.start (ap is_there is)
start_kept old new (Waiting request) is born stays = stays.start (ap is_there is)
start_kept old new (Doomed worker end) is born stays = stays.start (ap is_there is)
start_kept old new (Ended end) is born stays = ap (λ (p : Process). p.start) (stays.ended end is)

-- process 1 keeps its start through all entries
start_all : KeepsSound → (terms : Option Terms) (births : List Birth) (w : World) (entries : List Entry) → IsSound w → 1 ≤ w.numbers_drawn → AllAllowed terms births w entries
    → ((all_after births w entries).process 1).start ≡ (w.process 1).start
start_all k terms births w [] sound drawn allowed = refl
start_all k terms births w (entry ∷ entries) sound drawn allowed =
    let v : World = next births w entry in
    let born : is_born (w.process 1).stage ≡ true = sound.processes.drawn 1 (drawn_one w.numbers_drawn drawn) in
    start_all k terms births v entries (k.kept terms births w entry sound allowed.0) (le_trans drawn (k.counts terms births w entry sound allowed.0).numbers) allowed.1
    ∙ start_kept (w.process 1) (v.process 1) (w.process 1).stage refl born (k.stays terms births w entry 1 sound allowed.0)

-- in the world that a journal tells process 1 has the start of the first birth
told_start : KeepsSound → (book : Book) → IsTold book → ((told book).process 1).start ≡ first_start book.births
unfolding told EntriesAllowed
told_start k book is = start_all k None book.births (first_world book.births) book.entries (k.first book.births is.start) (omega arith) is.entries

-- the world that the journal of a run tells is sound
pub run-told : {P : Type 0} (setting : Setting P) (book : Book) → IsRun setting book → IsTold book
run-told setting book run = legal_tells (terms_of setting) book run.begins.numbered run.legal

some_is : {X : Type 0} (x y : X) → Some x ≡ Some y → x ≡ y
some_is x y e = cc

first_birth : (births : List Birth) (start : Start) → slice_get births 0 ≡ Some (Born start) → first_start births ≡ start
first_birth [] start found = let h : ⊥ = cc in absurd h
first_birth (birth ∷ births) start found = ap (λ (b : Birth). first_start (b ∷ births)) (some_is birth (Born start) found)

there : {P : Type 0} (found : Option P) (test : P → Bool) → option_map_or test found false ≡ true → (program : P) × (found ≡ Some program)
there None test h = true_is_not_false (sym h)
there (Some program) test h = (program, refl)

-- the program that the start of process 1 names is there
pub first-program : {P : Type 0} → KeepsSound → (setting : Setting P) (book : Book) → IsRun setting book
    → (program : P) × (slice_get setting.programs ((told book).process 1).start.«module» ≡ Some program)
first-program {P = P} k setting book run =
    let is : ((told book).process 1).start ≡ setting.first = told_start k book (run-told setting book run) ∙ first_birth book.births setting.first run.legal.first in
    let has = there (slice_get setting.programs setting.first.«module») (λ (program : P). is_none (setting.begin program setting.first)) run.begins.begun in
    (has.0, ap (λ (s : Start). slice_get setting.programs s.«module») is ∙ has.1)

-- the memory at the end of a process is its engine's
pub memory-shown : {E P : Type 0} (engines : Meaning E P) (setting : Setting P) (p : Process) (pid : ℕ) (engine : E) (memory : EndMemory) (program : P)
    → slice_get setting.programs p.start.«module» ≡ Some program → ShowMemory engines setting → StandsAt engines setting.programs p engine p.calls p.fuel → IsLastOf engines pid engine memory
    → IsMemoryOf setting p memory
memory-shown {P = P} engines setting p pid engine memory program found show stands last = record {
  program = program;
  found = found;
  pages = last.pages ∙ ap (λ (s : Option Standing). pages_of (memory_of s)) (sym (show engine program p.start p.calls p.fuel (stands program found)).1);
  mark = last.mark ∙ ap (λ (s : Option Standing). mark_of (memory_of s)) (sym (show engine program p.start p.calls p.fuel (stands program found)).1);
}
